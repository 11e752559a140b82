-- Worked examples of recovery from the first ring into the second: what each processor wraps, what is delivered, and
-- what lies past a gap.
-- Formats: wrapped plan; past the gap
use Rattle.std.specs.Prelude.{ℕ, List, [], ◌∷◌, ◌++◌, map}
use Rattle.std.specs.declared.alloc.Global.{Global}
use Rattle.ring_payload.specs.declared.content.Payload.TheVariants.{End}
use Rattle.ring_wire.specs.declared.entries.CommitEntry.{CommitEntry}
use Rattle.ring_wire.specs.declared.message.Message.{Message}
use Rattle.ring_base.specs.declared.state.State.TheVariants.{Recovery}
use Rattle.ring_core_spec.specs.State.{Core, formed}
use Rattle.ring_core_proof.specs.Samples.{first_ring, second_ring, call_at, message_of, report_of, empty_report, commit_of}

-- One of n processors in Recovery, with these reports; there is one report for each member.
abbrev pub recovering : ℕ → ℕ → ℕ → List (Message Global) → List CommitEntry → Core Global
recovering n me members held reports =
    record (formed n me) {
      state = Recovery;
      running = record { ring = second_ring; members = members };
      held = held;
      plans = commit_of second_ring members 4 reports ∷ [];
    }

-- Two processors from one ring: processor 1 holds 1, 2, 4 and processor 2 holds 1, 2, 3

-- The reports of both.
abbrev pub two_reports : List CommitEntry
two_reports = report_of first_ring 2 0 2 ∷ report_of first_ring 3 0 0 ∷ []

-- Processor 1.
abbrev pub with_four : Core Global
with_four = recovering 2 1 3 (map (call_at 1) (1 ∷ 2 ∷ 4 ∷ [])) two_reports

-- Processor 2.
abbrev pub with_three : Core Global
with_three = recovering 2 2 3 (map (call_at 1) (1 ∷ 2 ∷ 3 ∷ [])) two_reports

-- Either of them, once it holds all four.
abbrev pub with_all : ℕ → Core Global
with_all me = recovering 2 me 3 (map (call_at 1) (1 ∷ 2 ∷ 3 ∷ 4 ∷ [])) two_reports

-- Both Ends are held on the second ring, and its safe mark covers them.
abbrev pub with_ends : Core Global → Core Global
with_ends c =
    record c {
      held = message_of second_ring 1 1 End ∷ message_of second_ring 2 2 End ∷ c.held;
      raises = record { ring = second_ring; mark = 2 } ∷ c.raises;
    }

-- A gap: processor 1 holds 1, 2, 4 of its own and 5 of processor 3, which isn't a member; processor 2 holds 1, 2

-- The reports of both.
abbrev pub gap_reports : List CommitEntry
gap_reports = report_of first_ring 2 0 6 ∷ report_of first_ring 2 0 0 ∷ []

-- Processor 1.
abbrev pub past_gap : Core Global
past_gap = recovering 3 1 3 (map (call_at 1) (1 ∷ 2 ∷ 4 ∷ []) ++ call_at 3 5 ∷ []) gap_reports

-- Three processors, of which the third comes from another ring, with safe marks 1 and 2

-- Processor 1 of the three, in Recovery.
abbrev pub mixed : Core Global
mixed =
    recovering 3 1 7 (map (call_at 1) (1 ∷ 2 ∷ 4 ∷ []))
    (report_of first_ring 2 1 2 ∷ report_of first_ring 3 2 0 ∷ empty_report 3 ∷ [])
