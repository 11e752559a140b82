-- The processors that a frame names. A frame that names a processor above N is ignored.
-- Rules: Processors and sets 5
use Rattle.std.specs.Prelude.{ℕ, Bool, true, ◌&&◌, nat_le, Option, Some, None}
use Rattle.std.specs.List.{list_all}
use Rattle.ring_base.specs.Processors.{within, everybody}
use Rattle.ring_base.specs.declared.ring_id.RingId.{RingId}
use Rattle.ring_token.specs.Payloads.{WrappedPayload, Payload}
use Rattle.ring_token.specs.ContentVariants.{Call as CallContent, Head as HeadContent, Part as PartContent, Pack as PackContent, Snap as SnapContent}
use Rattle.ring_token.specs.PayloadVariants.{Call, Wrapped, End, Head, Part, Pack, Snap}
use Rattle.ring_token.specs.Frames.{CommitEntry, Frame}
use Rattle.ring_token.specs.FrameVariants.{Message, Token, Join, Commit}

-- The representative of a last primary, if there is one, is at most n.
abbrev pub last_named : ℕ → Option RingId → Bool
last_named n None = true
last_named n (Some ring) = nat_le ring.rep n

-- The processor that holds a token's `aru` back, if any, is at most n.
abbrev pub holder_named : ℕ → Option ℕ → Bool
holder_named n None = true
holder_named n (Some i) = nat_le i n

-- Every processor that the content of a Wrapped names is at most n: only a Head names one, the representative of its
-- last primary.
abbrev pub content_named : {A : Type 0} → ℕ → WrappedPayload A → Bool
content_named n (CallContent call) = true
content_named n (HeadContent head) = last_named n head.last
content_named n (PartContent part) = true
content_named n (PackContent pack) = true
content_named n (SnapContent snap) = true

-- Every processor that a payload names is at most n. A Head names the representative of its last primary; a Wrapped
-- names its old ring's representative, its old sender, and the processors of its content.
abbrev pub payload_named : {A : Type 0} → ℕ → Payload A → Bool
payload_named n (Call call) = true
payload_named n (Wrapped w) = nat_le w.ring.rep n && nat_le w.sender n && content_named n w.payload
payload_named n End = true
payload_named n (Head head) = last_named n head.last
payload_named n (Part part) = true
payload_named n (Pack pack) = true
payload_named n (Snap snap) = true

-- The frame names only processors 1 to n.
abbrev pub is_named : {A : Type 0} → ℕ → Frame A → Bool
is_named n (Message x) = nat_le x.ring.rep n && nat_le x.sender n && payload_named n x.payload
is_named n (Token t) = nat_le t.ring.rep n && holder_named n t.aru_id
is_named n (Join j) = nat_le j.sender n && within j.proc_set (everybody n) && within j.fail_set (everybody n)
is_named n (Commit k) = nat_le k.ring.rep n && within k.members (everybody n) && list_all (λ (e : CommitEntry). nat_le e.old.rep n) k.entries
