-- A join that counts as agreement has exactly the core's sets, and so have all counted joins.
use Rattle.std.proofs.Common.{◌≡◌, ℕ, true, eqb, List, [], ◌∷◌, refl, ◌∙◌}
use Rattle.std.specs.List.{AllByRecursion}
use Rattle.std.proofs.lemmas.Bool.{cond_both, and_parts, eqb-true}
use Rattle.ring_wire.specs.declared.join.Join.{Join}
use Rattle.ring_core_spec.specs.Joins.{Gathering, HasOwnSets, AllHaveOwnSets, has_same_sets, join_effect, with_agreement, sets_merged, join_merged, Agrees}
use Rattle.ring_core_spec.proofs.Joins.{agrees_same}

says_same : (g : Gathering) (j : Join) → has_same_sets g j ≡ true → HasOwnSets g j
says_same g j h =
    let p = and_parts (eqb j.proc_set g.proc_set) (eqb j.fail_set g.fail_set) h in
    record { proc_set = eqb-true _ _ p.0; fail_set = eqb-true _ _ p.1 }

pub agreed_same : (me : ℕ) (g : Gathering) (j : Join) → join_effect me g j ≡ Agrees → AllHaveOwnSets g → AllHaveOwnSets (with_agreement g j)
agreed_same me g j h a = (
  record {
    proc_set = (says_same g j (agrees_same me g j h)).proc_set;
    fail_set = (says_same g j (agrees_same me g j h)).fail_set;
  },
  same_of g j a,
)
  where
    each : (g h : Gathering) → g.proc_set ≡ h.proc_set → g.fail_set ≡ h.fail_set → (js : List Join)
        → AllByRecursion (HasOwnSets g) js → AllByRecursion (HasOwnSets h) js
    each g h p f [] a = tt
    each g h p f (x ∷ js) a = (record { proc_set = (a.0).proc_set ∙ p; fail_set = (a.0).fail_set ∙ f }, each g h p f js a.1)

    same_of : (g : Gathering) (j : Join) → AllHaveOwnSets g → AllByRecursion (HasOwnSets (with_agreement g j)) g.counted_joins
    same_of g j a = each g (with_agreement g j) refl refl g.counted_joins a

pub widened_same : (me : ℕ) (g : Gathering) (j : Join) → AllHaveOwnSets (join_merged me g j)
widened_same me g j =
    cond_both (has_same_sets (sets_merged me g j) j) (with_agreement (sets_merged me g j) j) (sets_merged me g j) (λ (h : Gathering). AllHaveOwnSets h)
    (λ e. (record { proc_set = (says_same (sets_merged me g j) j e).proc_set; fail_set = (says_same (sets_merged me g j) j e).fail_set }, tt)) (λ e. tt)
