-- Worked examples of single steps: a token at a processor that lacks messages and at one that holds them, and
-- examples of limits and rare cases.
-- Formats: two tokens; repeated token
use Rattle.std.specs.Prelude.{ℕ, ◌-◌, List, [], ◌∷◌, map, Some, None}
use Rattle.std.specs.declared.alloc.Global.{Global}
use Rattle.ring_base.specs.Numbers.{max_number, numbers_from}
use Rattle.ring_wire.specs.declared.commit.CommitToken.{CommitToken}
use Rattle.ring_wire.specs.declared.entries.CommitEntry.{CommitEntry}
use Rattle.ring_wire.specs.declared.frame.Frame.{Frame}
use Rattle.ring_wire.specs.declared.frame.Frame.TheVariants.{Message as MessageFrame}
use Rattle.ring_wire.specs.declared.token.Token.{Token}
use Rattle.ring_core_spec.specs.Joins.{Gathering, gathering_opening}
use Rattle.ring_core_spec.specs.declared.input.Input.TheVariants.{Frame as FrameInput}
use Rattle.ring_core_spec.specs.declared.out.Out.{Out}
use Rattle.ring_core_spec.specs.declared.out.Out.TheVariants.{Send as SendOut}
use Rattle.ring_base.specs.declared.state.State.{State}
use Rattle.ring_base.specs.declared.state.State.TheVariants.{Gather, Commit}
use Rattle.ring_core_spec.specs.State.{Core, StepResult, opening, formed}
use Rattle.ring_core_spec.specs.Stepping.{ring_step}
use Rattle.ring_core_proof.specs.Samples.{first_ring, second_ring, commit_of, commit_frame, report_of, empty_report, ring_of}
use Rattle.ring_core_proof.specs.Samples.{empty_head, call_at, token_of, token_frame, join_frame, holding}

-- A frame arrives at a core.
abbrev pub step_with_frame : Core Global → Frame Global → StepResult Global
step_with_frame c frame = ring_step c (FrameInput frame)

-- The token at two of three processors: processor 2 holds 1 to 8, processor 3 holds 1 to 10

-- Processor 2.
abbrev pub lacking : Core Global
lacking = holding 3 2 (numbers_from 1 8)

-- Processor 3.
abbrev pub having : Core Global
having = holding 3 3 (numbers_from 1 10)

-- A token with `seq` 10 and `aru` 10.
abbrev pub token_of_ten : Frame Global
token_of_ten = token_frame 5 10 10 None []

-- The same token as processor 2 forwards it: it requests 9 and 10, and its `aru` is 8.
abbrev pub asking_token : Frame Global
asking_token = token_frame 6 10 8 (Some 2) (9 ∷ 10 ∷ [])

-- The outputs of processor 2: that token, to processor 3.
abbrev pub asks : List (Out Global)
asks = SendOut 4 asking_token ∷ []

-- The outputs of processor 3 then: messages 9 and 10 again, to the two others, and the token, to processor 1.
abbrev pub sends_again : List (Out Global)
sends_again = SendOut 3 (MessageFrame (call_at 1 9)) ∷ SendOut 3 (MessageFrame (call_at 1 10)) ∷ SendOut 1 (token_frame 7 10 8 (Some 2) []) ∷ []

-- A window with holes: a processor alone in a ring that holds these numbers, and the same with a safe mark

-- A processor alone in a ring that holds these numbers.
abbrev pub holed : List ℕ → Core Global
holed numbers = holding 1 1 numbers

-- A core with this safe mark in the first ring.
abbrev pub marked : ℕ → Core Global → Core Global
marked mark c = record c { raises = record { ring = first_ring; mark = mark } ∷ [] }

-- Limits

-- Processor 1 of two that holds 1 to `count`, with ten Heads queued, which go out one by one.
abbrev pub sending : ℕ → Core Global
sending count = record (holding 2 1 (numbers_from 1 count)) { queue = map (λ n. empty_head) (numbers_from 1 10) }

-- The same with a safe mark near the greatest number.
abbrev pub near_greatest : Core Global
near_greatest = marked (max_number - 100) (sending 0)

-- A processor alone in Gather with this floor.
abbrev pub floored : ℕ → Core Global
floored number = record (opening 1 1) { running = record { ring = ring_of number 1; members = 1 } }

-- A join of a processor that doesn't exist.
abbrev pub stranger : Frame Global
stranger = join_frame 4 0 15 0

-- Processor 1 of two that holds 1 to 10, with safe mark 5.
abbrev pub marked_at_five : Core Global
marked_at_five = marked 5 (sending 10)

-- A token that requests 3 and 7.
abbrev pub asks_three_and_seven : Token
asks_three_and_seven = token_of 5 10 10 None (3 ∷ 7 ∷ [])

-- Rare cases in each state

-- Processor 1 of three in Gather: it left the first ring, and then took part in a ring of this number.
abbrev pub gathering_from : ℕ → Core Global
gathering_from number = record (formed 3 1) { state = Gather; running = record { ring = ring_of number 1; members = 7 } }

-- Processor 1 of three in the first ring.
abbrev pub formed_three : Core Global
formed_three = formed 3 1

-- Processor 1 of three at the opening.
abbrev pub opened_three : Core Global
opened_three = opening 3 1

-- Processor 1 of three in a ring of 1 and 2.
abbrev pub in_ring_of_two : State → Core Global
in_ring_of_two state =
    record (formed 3 1) {
      state = state;
      running = record { ring = first_ring; members = 3 };
      installed = record { ring = first_ring; members = 3 };
    }

-- Its output at a join timeout in Operational: a join with the ring's members, to processor 3.
abbrev pub invitation : List (Out Global)
invitation = SendOut 4 (join_frame 1 1 3 0) ∷ []

-- Joins

-- The sets with only processor 1.
abbrev pub gathering_alone : Gathering
gathering_alone = gathering_opening 1

-- Processor 1 of three, which has given up processor 2.
abbrev pub gave_up_two : Core Global
gave_up_two = record (opening 3 1) { gathering = record { proc_set = 7; fail_set = 2; counted_joins = [] } }

-- The outputs of processor 1 of two as it gives up the other: its join, with the floor from before, and then its
-- proposal.
abbrev pub gives_up_and_proposes : List (Out Global)
gives_up_and_proposes = SendOut 2 (join_frame 1 0 3 2) ∷ SendOut 1 (commit_frame first_ring 1 1 (empty_report 1 ∷ [])) ∷ []

-- Commit tokens

-- A commit token of three processors that gather.
abbrev pub hop_at_three : ℕ → List CommitEntry → Frame Global
hop_at_three hop entries = commit_frame first_ring 7 hop entries

-- Processor 1 of two from the first ring, of which it holds 1 and 2, in Commit.
abbrev pub committing : Core Global
committing = record (holding 2 1 (1 ∷ 2 ∷ [])) { state = Commit; running = record { ring = second_ring; members = 3 } }

-- The commit token with the reports of both, in which the other reports this safe mark.
abbrev pub returned : ℕ → CommitToken
returned mark = commit_of second_ring 3 2 (report_of first_ring 2 0 0 ∷ report_of first_ring 3 mark 0 ∷ [])
