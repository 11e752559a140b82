-- Only the events that act change the world; and the outputs of a whole run of them.
use Rattle.std.proofs.Common.{◌≡◌, ℕ, ◌+◌, ◌≤◌, Bool, true, false, take, filter, append_assoc, List, [], ◌∷◌, ◌++◌, length, Some, slice_get}
use Rattle.std.proofs.Common.{Option, if◌then◌else◌, refl, ap, ◌∙◌, sym, subst}
use Rattle.std.proofs.lemmas.List.{append-nil, take_all}
use Rattle.std.proofs.lemmas.List.Elements.{filter-append}
use Rattle.ring_base.proofs.Rows.{take-more}
use Rattle.ring_core_proof.specs.declared.event.RingEvent.{RingEvent}
use Rattle.ring_core_proof.specs.Worlds.{run, unformed, run_formed}
use Rattle.ring_core_world.specs.Running.{WorldRun, IsUnrun, empty_run, empty_formed_run, run_extended, more, world_of, acts}

pub ran_none : {A : Type 0} (r : WorldRun A) → r ≡ run_extended r []
ran_none {A} r =
    let with_events : List (RingEvent A) → WorldRun A = λ es. record r { events = es } in
    ap with_events (sym (append-nil r.events))

pub acted_more : {A : Type 0} (formed : Bool) (r s t : WorldRun A) (es : List (RingEvent A)) (i : ℕ) (e : RingEvent A) →
    s ≡ run_extended r (filter (acts formed) (take i es)) →
    slice_get es i ≡ Some e → t ≡ run_extended s (filter (acts formed) (e ∷ [])) → t ≡ run_extended r (filter (acts formed) (take (i + 1) es))
acted_more {A} formed r s t es i e a h b =
    let with_events : List (RingEvent A) → WorldRun A = λ xs. record r { events = xs } in
    let acting : List (RingEvent A) → List (RingEvent A) = filter (acts formed) in
    b ∙ ap (λ q. run_extended q (acting (e ∷ []))) a
    ∙ ap with_events (append_assoc r.events (acting (take i es)) (acting (e ∷ []))
    ∙ ap (λ xs. r.events ++ xs) (sym (filter-append (acts formed) (take i es) (e ∷ [])) ∙ ap acting (sym (take-more es i e h))))

pub acted_whole : {A : Type 0} (formed : Bool) (r s : WorldRun A) (es : List (RingEvent A)) (i : ℕ) → s ≡ run_extended r (filter (acts formed) (take i es)) →
    length es ≤ i →
    s ≡ run_extended r (filter (acts formed) es)
acted_whole formed r s es i a l = a ∙ ap (λ xs. run_extended r (filter (acts formed) xs)) (take_all i es l)

-- one that acts, and one that does not

pub acts_one : {A : Type 0} (formed : Bool) (r : WorldRun A) (e : RingEvent A) → acts formed e ≡ true → more r e ≡ run_extended r (filter (acts formed) (e ∷ []))
acts_one {A} formed r e h = ap (λ b. run_extended r (if b then e ∷ [] else [])) (sym h)

pub acts_none : {A : Type 0} (formed : Bool) (r : WorldRun A) (e : RingEvent A) → acts formed e ≡ false → r ≡ run_extended r (filter (acts formed) (e ∷ []))
acts_none {A} formed r e h = ran_none r ∙ ap (λ b. run_extended r (if b then e ∷ [] else [])) (sym h)

-- All act from Gather

all_act : {A : Type 0} (es : List (RingEvent A)) → filter (acts false) es ≡ es
all_act [] = refl
all_act (e ∷ es) = ap (λ xs. e ∷ xs) (all_act es)

-- The prepared world is run from its opening

pub runs_ring : {A : Type 0} (n : ℕ) (r : WorldRun A) (cores : Option (WorldRun A)) (es : List (RingEvent A)) → IsUnrun (empty_formed_run n) cores → cores ≡ Some r →
    world_of (run_extended r (filter (acts true) es)) ≡ run_formed n es
runs_ring n r cores es h e = ap (λ q. world_of (run_extended q (filter (acts true) es))) (subst (IsUnrun (empty_formed_run n)) e h)

pub runs_gather : {A : Type 0} (n : ℕ) (r : WorldRun A) (cores : Option (WorldRun A)) (es : List (RingEvent A)) → IsUnrun (empty_run n) cores → cores ≡ Some r →
    world_of (run_extended r (filter (acts false) es)) ≡ run (unformed n) es
runs_gather n r cores es h e =
    ap (λ q. world_of (run_extended q (filter (acts false) es))) (subst (IsUnrun (empty_run n)) e h) ∙ ap (run (unformed n)) (all_act es)
