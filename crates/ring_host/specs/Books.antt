-- Definitions of a book's lines, re-exported for readers of a host's book.
pub use Rattle.ring_book.specs.Lines.{IsRun, LineView, events_of, history_of}
