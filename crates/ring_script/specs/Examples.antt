-- Worked examples: the faulty lines of bad texts, the schedules of good ones, and the encodings of operations.
-- Formats: Scripts
use Rattle.std.specs.Prelude.{◌≡◌, ℕ, List, [], ◌∷◌, ◌++◌, map, codes, Some, None, Ok, Err}
use Rattle.std.specs.List.{join_with_byte}
use Rattle.ring_base.specs.declared.timeout_kind.Kind.TheVariants.{Loss}
use Rattle.ring_script.specs.Lines.{Call, Deliver, Timeout, Noise, Stop, Cut, Heal, Pump, Show}
use Rattle.ring_script.specs.Operations.{operation_at}
use Rattle.ring_script.specs.Scripts.{Schedule, script_of}
use Rattle.ring_script.specs.ShelfVocabulary.{shelf_operation_forms}
use Rattle.ring_script.specs.Votes.{nodes_with_one_vote}
use Rattle.ring_script.specs.Words.{words_of}

-- The lines, joined by line feeds.
abbrev pub text : List (List ℕ) → List ℕ
text lines = join_with_byte 10 lines

-- The number of the faulty line, and the lines of the text.
abbrev pub faulty : List (ℕ × List (List ℕ))
faulty =
    (1, []) ∷
    (2, [] ∷ [] ∷ []) ∷
    (2, codes "# only a comment" ∷ []) ∷
    (3, codes "# one" ∷ [] ∷ [] ∷ []) ∷
    (1, codes "show" ∷ codes "nodes 3" ∷ [] ∷ []) ∷
    (2, codes "nodes 3" ∷ codes "nodes 3" ∷ [] ∷ []) ∷
    (1, codes "nodes 0" ∷ []) ∷
    (1, codes "nodes 17" ∷ []) ∷
    (1, codes "nodes 03" ∷ []) ∷
    (1, codes "nodes +3" ∷ []) ∷
    (1, codes "nodes" ∷ []) ∷
    (1, codes "nodes 3 3" ∷ []) ∷
    (1, codes " nodes 3" ∷ []) ∷
    (1, codes "nodes 3 " ∷ []) ∷
    (1, codes "nodes  3" ∷ []) ∷
    (1, (codes "nodes 3" ++ 13 ∷ []) ∷ [] ∷ []) ∷
    (2, codes "nodes 3" ∷ codes " " ∷ codes "show" ∷ [] ∷ []) ∷
    (2, codes "nodes 3" ∷ (codes "# " ++ 195 ∷ []) ∷ []) ∷
    (2, codes "nodes 2" ∷ codes "timeout 3 join" ∷ []) ∷
    (2, codes "nodes 2" ∷ codes "timeout 1 Join" ∷ []) ∷
    (2, codes "nodes 2" ∷ codes "call 1 4294967296 1 pop" ∷ []) ∷
    (2, codes "nodes 2" ∷ codes "call 1 7 0 pop" ∷ []) ∷
    (2, codes "nodes 2" ∷ codes "call 1 7 1 add 256 1" ∷ []) ∷
    (2, codes "nodes 2" ∷ codes "call 1 7 1 add 0 18446744073709551616" ∷ []) ∷
    (2, codes "nodes 2" ∷ codes "call 1 7 1 raw" ∷ []) ∷
    (2, codes "nodes 2" ∷ codes "call 1 7 1 raw 010" ∷ []) ∷
    (2, codes "nodes 2" ∷ codes "call 1 7 1 raw 0A" ∷ []) ∷
    (2, codes "nodes 2" ∷ codes "deliver 1 0" ∷ []) ∷
    (2, codes "nodes 2" ∷ codes "noise 1" ∷ []) ∷
    (2, codes "nodes 2" ∷ codes "noise 1 545" ∷ []) ∷
    (2, codes "nodes 2" ∷ codes "noise 1 5A" ∷ []) ∷
    (2, codes "nodes 1" ∷ codes "cut 1" ∷ []) ∷
    (2, codes "nodes 3" ∷ codes "cut 1,2,3" ∷ []) ∷
    (2, codes "nodes 3" ∷ codes "cut 1 2" ∷ []) ∷
    (2, codes "nodes 3" ∷ codes "cut 1,1 2,3" ∷ []) ∷
    (2, codes "nodes 3" ∷ codes "cut 1,2 2,3" ∷ []) ∷
    (2, codes "nodes 3" ∷ codes "cut 1, 2,3" ∷ []) ∷
    (2, codes "nodes 2" ∷ codes "pump 0" ∷ []) ∷
    (2, codes "nodes 2" ∷ codes "pump 100001" ∷ []) ∷
    (2, codes "nodes 2" ∷ codes "votes 1" ∷ []) ∷
    (2, codes "nodes 2" ∷ codes "votes 1 1 1" ∷ []) ∷
    (2, codes "nodes 2" ∷ codes "votes" ∷ []) ∷
    (2, codes "nodes 2" ∷ codes "votes 0 1" ∷ []) ∷
    (2, codes "nodes 2" ∷ codes "votes 1 0" ∷ []) ∷
    (2, codes "nodes 2" ∷ codes "votes 1 256" ∷ []) ∷
    (2, codes "nodes 2" ∷ codes "votes 1 01" ∷ []) ∷
    (2, codes "nodes 2" ∷ codes "votes 01 1" ∷ []) ∷
    (2, codes "nodes 2" ∷ codes "votes 1 1 " ∷ []) ∷
    (1, codes "votes 1 1" ∷ codes "nodes 2" ∷ []) ∷
    (3, codes "nodes 2" ∷ codes "votes 1 1" ∷ codes "votes 1 1" ∷ []) ∷
    (3, codes "nodes 2" ∷ codes "show" ∷ codes "votes 1 1" ∷ []) ∷
    (2, codes "nodes 2" ∷ (codes "#" ++ 195 ∷ []) ∷ codes "votes 1 1" ∷ []) ∷
    (2, codes "nodes 2" ∷ codes "pump 0" ∷ codes "nodes 99" ∷ [] ∷ []) ∷
    []

-- Each of these texts has its first fault in the line given with it.
abbrev pub AreFaultExamples : Type 0
AreFaultExamples = map (λ row. script_of (text row.1)) faulty ≡ map (λ row. Err row.0) faulty

-- The lines of a text, and its schedule.
abbrev pub good : List (List (List ℕ) × Schedule)
good = (
  codes "nodes 3" ∷ codes "cut 3,1 2" ∷ [],
  record {
    nodes = nodes_with_one_vote 3;
    asked = (
      2,
      Cut (5 ∷ 2 ∷ 5 ∷ 0 ∷ 0 ∷ 0 ∷ 0 ∷ 0 ∷ 0 ∷ 0 ∷ 0 ∷ 0 ∷ 0 ∷ 0 ∷ 0 ∷ 0 ∷ []),
    ) ∷ [];
  },
) ∷
    (codes "nodes 2" ∷ codes "deliver 1 99999999999999999999999" ∷ [], record { nodes = nodes_with_one_vote 2; asked = (2, Deliver 1 None) ∷ [] }) ∷ (
      codes "# one" ∷ [] ∷ codes "nodes 16" ∷ codes "timeout 16 loss" ∷ codes "noise 2 5452" ∷ codes "stop 3"
          ∷ codes "heal" ∷ codes "pump 100000" ∷ codes "show" ∷ [] ∷ [],
      record {
        nodes = nodes_with_one_vote 16;
        asked = (4, Timeout 16 Loss) ∷ (5, Noise 2 (84 ∷ 82 ∷ [])) ∷ (6, Stop 3)
            ∷ (7, Heal) ∷ (8, Pump 100000) ∷ (9, Show) ∷ [];
      },
    ) ∷ (
      codes "nodes 4" ∷ codes "votes 3 1 1 255" ∷ codes "show" ∷ [],
      record { nodes = record { count = 4; votes = 3 ∷ 1 ∷ 1 ∷ 255 ∷ [] }; asked = (3, Show) ∷ [] },
    ) ∷ (
      codes "nodes 2" ∷ [] ∷ codes "# two and one" ∷ codes "votes 2 1" ∷ [],
      record { nodes = record { count = 2; votes = 2 ∷ 1 ∷ [] }; asked = [] },
    ) ∷ (
      codes "nodes 2" ∷ codes "# votes 9 9" ∷ [] ∷ codes "votes 2 7" ∷ codes "heal" ∷ [],
      record { nodes = record { count = 2; votes = 2 ∷ 7 ∷ [] }; asked = (5, Heal) ∷ [] },
    ) ∷ (
      codes "nodes 1" ∷ codes "deliver 1 18446744073709551615" ∷ codes "call 1 7 1 add 0 5" ∷ [],
      record {
        nodes = nodes_with_one_vote 1;
        asked = (2, Deliver 1 (Some 18446744073709551615))
            ∷ (3, Call 1 7 1 (1 ∷ 1 ∷ 0 ∷ 0 ∷ 0 ∷ 0 ∷ 0 ∷ 0 ∷ 0 ∷ 0 ∷ 5 ∷ [])) ∷ [];
      },
    ) ∷
    []

-- Each of these texts denotes the schedule given with it.
abbrev pub AreScheduleExamples : Type 0
AreScheduleExamples = map (λ row. script_of (text row.0)) good ≡ map (λ row. Ok row.1) good

-- The words of an operation, and its bytes.
abbrev pub operations : List (List ℕ × List ℕ)
operations =
    (codes "get 255", 0 ∷ 1 ∷ 255 ∷ []) ∷
    (codes "put 1 2", 0 ∷ 2 ∷ 1 ∷ 0 ∷ 0 ∷ 0 ∷ 0 ∷ 0 ∷ 0 ∷ 0 ∷ 2 ∷ []) ∷
    (codes "cas 0 1 258", 0 ∷ 3 ∷ 0 ∷ 0 ∷ 0 ∷ 0 ∷ 0 ∷ 0 ∷ 0 ∷ 0 ∷ 1 ∷ 0 ∷ 0 ∷ 0 ∷ 0 ∷ 0 ∷ 0 ∷ 1 ∷ 2 ∷ []) ∷
    (codes "add 0 5", 1 ∷ 1 ∷ 0 ∷ 0 ∷ 0 ∷ 0 ∷ 0 ∷ 0 ∷ 0 ∷ 0 ∷ 5 ∷ []) ∷
    (codes "read 9", 1 ∷ 2 ∷ 9 ∷ []) ∷
    (codes "push 18446744073709551615", 2 ∷ 1 ∷ 255 ∷ 255 ∷ 255 ∷ 255 ∷ 255 ∷ 255 ∷ 255 ∷ 255 ∷ []) ∷
    (codes "pop", 2 ∷ 2 ∷ []) ∷
    (codes "length", 2 ∷ 3 ∷ []) ∷
    (codes "insert a~", 3 ∷ 1 ∷ 97 ∷ 126 ∷ []) ∷
    (codes "remove !", 3 ∷ 2 ∷ 33 ∷ []) ∷
    (codes "has b", 3 ∷ 3 ∷ 98 ∷ []) ∷
    (codes "raw 00ff7a", 0 ∷ 255 ∷ 122 ∷ []) ∷
    []

-- The words of each operation denote the bytes given with them, and no word is left.
abbrev pub AreOperationExamples : Type 0
AreOperationExamples = map (λ row. operation_at shelf_operation_forms (words_of row.0)) operations ≡ map (λ row. Some (row.1, [])) operations
