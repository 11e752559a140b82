-- The items of an inbox.
-- Rules: The book and the threads 21 and 23
use Rattle.std.specs.Prelude.{ℕ, ◌≡◌, Some, slice_get}
use Rattle.crossbeam_queue.specs.Passes.{queue_capacity}
use Rattle.ring_seat.specs.OutboxFrames.{FrameCopy}
use Rattle.ring_seat.specs.Outboxes.{frames_in}
use Rattle.ring_seat.specs.declared.outbox.Outbox.{Outbox}
use Rattle.ring_host.specs.declared.inbox.Inbox.{Inbox}
use Rattle.ring_host.specs.declared.inbox_frame_and_task.InboxFrame.{InboxFrame}

-- The inbox has room for this number of items.
abbrev pub HasRoomFor : {A : Type 0} → ℕ → Inbox A → Type 0
HasRoomFor size inbox = queue_capacity inbox.items ≡ size

-- The item is a copy of the outbox's frame at this index: its bytes, and its place in the book.
pub record IsCopyOfFrame {A : Type 0} (outbox : Outbox A) (index : ℕ) (item : InboxFrame A) : Type 0 where
  pub copy : FrameCopy
  pub found : slice_get (frames_in outbox) index ≡ Some copy
  pub at : item.book_place ≡ record { line = outbox.line; place = copy.place }
  pub bytes : item.bytes.items ≡ copy.bytes
