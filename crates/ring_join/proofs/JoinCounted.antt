-- One more counted join.
use Rattle.std.proofs.Common.{◌≡◌, ℕ, ◌≤◌, max, true, List, [], ◌∷◌, eqb-true, ap, arith}
use Rattle.std.specs.List.{AllByRecursion}
use Rattle.std.proofs.lemmas.Bool.{and_parts}
use Rattle.ring_wire.specs.Base.{only, union}
use Rattle.ring_wire.specs.declared.join.Join.{Join}
use Rattle.ring_join.specs.Gathering.{Gathering, has_same_sets, with_agreement, HasOwnSets}
use Rattle.ring_join.specs.Gatherers.{HasJoinCounts}

-- The joins still have the node's sets after one more is counted.
still_same : (g : Gathering) (j : Join) (js : List Join) → AllByRecursion (HasOwnSets g) js → AllByRecursion (HasOwnSets (with_agreement g j)) js
still_same g j [] all = tt
still_same g j (x ∷ js) all = (record { proc_set = all.0.proc_set; fail_set = all.0.fail_set }, still_same g j js all.1)

says_same : (g : Gathering) (j : Join) → has_same_sets g j ≡ true → HasOwnSets (with_agreement g j) j
says_same g j same =
    let both = and_parts _ _ same in
    record { proc_set = eqb-true _ _ both.0; fail_set = eqb-true _ _ both.1 }

pub counted_more : (g : Gathering) (j : Join) (join_senders greatest_counted : ℕ) → 1 ≤ j.sender → has_same_sets g j ≡ true
    → HasJoinCounts g join_senders greatest_counted → HasJoinCounts (with_agreement g j) (union (only j.sender) join_senders) (max greatest_counted j.number)
counted_more g j join_senders greatest_counted low same c =
    record {
      senders_are = ap (union (only j.sender)) c.senders_are;
      greatest_is = omega (arith, c.greatest_is);
      say_same = (says_same g j same, still_same g j g.counted_joins c.say_same);
      are_procs = (low, c.are_procs);
    }
