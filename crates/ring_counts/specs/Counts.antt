-- What is counted of a node's steps.
-- Formats: Records
use Rattle.std.specs.Prelude.{ℕ, ◌+◌, ◌-◌, ◌^◌, min, Bool, true, false, List, [], ◌∷◌, fold}
use Rattle.ring_core_spec.specs.State.{OutgoingFrame}
use Rattle.ring_clock.specs.StepOutcomes.{has_sent_frame}
use Rattle.ring_counts.specs.Counted.{counted_frame, is_again}
use Rattle.ring_counts.specs.declared.counted.CountedFrame.{CountedFrame}
use Rattle.ring_counts.specs.declared.counted.CountedFrame.TheVariants as counted
use Rattle.ring_counts.specs.declared.counted.CountedInput.{CountedInput}
use Rattle.ring_counts.specs.declared.counted.CountedInput.TheVariants as comes
use Rattle.ring_counts.specs.declared.frame_counts.FrameCounts.{FrameCounts}
use Rattle.ring_counts.specs.declared.node_counts.NodeCounts.{NodeCounts}
use Rattle.ring_counts.specs.declared.node_counts.NodeGauges.{NodeGauges}

-- A count that grew, at most to the greatest u64.
abbrev pub grown : ℕ → ℕ → ℕ
grown count by = min (count + by) (2 ^ 64 - 1)

-- No frame was counted.
abbrev pub no_frames : FrameCounts
no_frames = record { messages = 0; tokens = 0; joins = 0; commits = 0 }

-- One frame more.
abbrev pub with_frame : CountedFrame → FrameCounts → FrameCounts
with_frame (counted.Message number) n = record n { messages = grown n.messages 1 }
with_frame (counted.Token seq) n = record n { tokens = grown n.tokens 1 }
with_frame counted.Join n = record n { joins = grown n.joins 1 }
with_frame counted.Commit n = record n { commits = grown n.commits 1 }

-- No step was counted.
abbrev pub no_counts : NodeCounts
no_counts =
    record {
      received = no_frames;
      noise = 0;
      sent = no_frames;
      tokens_taken = 0;
      tokens_ignored = 0;
      messages_again = 0;
      tokens_again = 0;
      rings = 0;
      refusals = 0;
      submitted = 0;
      answered = 0;
    }

-- One input more.
abbrev pub with_input : CountedInput → NodeCounts → NodeCounts
with_input (comes.Frame f) n = record n { received = with_frame f n.received }
with_input comes.Noise n = record n { noise = grown n.noise 1 }
with_input (comes.Timeout kind) n = n
with_input comes.Stop n = n

-- A frame more that was sent again.
abbrev pub with_again : CountedFrame → NodeCounts → NodeCounts
with_again (counted.Message number) n = record n { messages_again = grown n.messages_again 1 }
with_again (counted.Token seq) n = record n { tokens_again = grown n.tokens_again 1 }
with_again counted.Join n = n
with_again counted.Commit n = record n { tokens_again = grown n.tokens_again 1 }

-- The same if the frame was sent again.
abbrev pub with_again_if : Bool → CountedFrame → NodeCounts → NodeCounts
with_again_if false f n = n
with_again_if true f n = with_again f n

-- One frame more that a step on this input sent.
abbrev pub with_sent_frame : CountedInput → CountedFrame → NodeCounts → NodeCounts
with_sent_frame i f n = with_again_if (is_again i f) f (record n { sent = with_frame f n.sent })

-- The same of a frame with its receivers.
abbrev pub with_send : {A : Type 0} → CountedInput → NodeCounts → OutgoingFrame A → NodeCounts
with_send i n s = with_sent_frame i (counted_frame s.frame) n

-- One token or commit token more, which was taken or ignored.
abbrev pub with_token : Bool → NodeCounts → NodeCounts
with_token true n = record n { tokens_taken = grown n.tokens_taken 1 }
with_token false n = record n { tokens_ignored = grown n.tokens_ignored 1 }

-- The same if the frame is one.
abbrev pub with_token_frame : CountedFrame → Bool → NodeCounts → NodeCounts
with_token_frame (counted.Message number) taken n = n
with_token_frame (counted.Token seq) taken n = with_token taken n
with_token_frame counted.Join taken n = n
with_token_frame counted.Commit taken n = with_token taken n

-- The same if the input is one.
abbrev pub with_token_seen : CountedInput → Bool → NodeCounts → NodeCounts
with_token_seen (comes.Frame f) taken n = with_token_frame f taken n
with_token_seen comes.Noise taken n = n
with_token_seen (comes.Timeout kind) taken n = n
with_token_seen comes.Stop taken n = n

-- These answers more.
abbrev pub with_answers : ℕ → NodeCounts → NodeCounts
with_answers answers n = record n { answered = grown n.answered answers }

-- One ring more, if it was installed.
abbrev pub with_ring : Bool → NodeCounts → NodeCounts
with_ring true n = record n { rings = grown n.rings 1 }
with_ring false n = n

-- The counts after the outcome of a step on this input: whether it sent anything, the number of its answers, whether it
-- installed a ring.
abbrev pub counts_after_outcome : CountedInput → Bool → ℕ → Bool → NodeCounts → NodeCounts
counts_after_outcome i sent answers installed n = with_ring installed (with_answers answers (with_token_seen i sent n))

-- The counts after a step on this input that sent these frames.
abbrev pub counts_after_step : {A : Type 0} → CountedInput → List (OutgoingFrame A) → ℕ → Bool → NodeCounts → NodeCounts
counts_after_step i sends answers installed n =
    counts_after_outcome i (has_sent_frame sends) answers installed (fold (with_send i) (with_input i n) sends)

-- The counts after a refused input or call.
abbrev pub counts_after_refusal : NodeCounts → NodeCounts
counts_after_refusal n = record n { refusals = grown n.refusals 1 }

-- The counts after a call that got a ticket.
abbrev pub counts_after_submit : NodeCounts → NodeCounts
counts_after_submit n = record n { submitted = grown n.submitted 1 }

-- All numbers, in the order of the record of counts.
abbrev pub count_numbers : NodeCounts → NodeGauges → List ℕ
count_numbers n g =
    n.received.messages ∷ n.received.tokens ∷ n.received.joins ∷ n.received.commits ∷ n.noise
    ∷ n.sent.messages ∷ n.sent.tokens ∷ n.sent.joins ∷ n.sent.commits
    ∷ n.tokens_taken ∷ n.tokens_ignored ∷ n.messages_again ∷ n.tokens_again
    ∷ n.rings ∷ n.refusals ∷ n.submitted ∷ n.answered
    ∷ g.waiting ∷ g.committed ∷ g.dropped ∷ []
