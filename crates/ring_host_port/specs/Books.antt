-- Definitions of a book's lines, re-exported for readers of a host's book.
pub use Rattle.ring_host.specs.Books.{IsRun, LineView, events_of, history_of}
