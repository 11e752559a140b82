-- The safe lemma: every front reaches an `aru` that a visit forwarded and a whole round did not lower.
-- Rules: Token and window 13

-- After a visit that forwarded an `aru` of at least s there are two cases. Either all fronts of later visits reach s, and
-- so does the `aru`. Or the `aru` is below s, and a member that visited since holds it back. In the second case no other
-- member may raise it, so after a whole round it is still below s. If it isn't below s then, all fronts reach s.
use Rattle.std.proofs.Common.{◌≡◌, ℕ, suc, ◌+◌, ◌-◌, ◌<◌, ◌≤◌, min, ◌==◌, ◌⊎◌, inl, inr, Option, Some, List, [], ◌∷◌}
use Rattle.std.proofs.Common.{◌++◌, length, length-append, refl, sym, ap, subst, arith, ◌∙◌, eqb-true}
use Rattle.std.specs.List.{AllByRecursion}
use Rattle.std.proofs.lemmas.Bool.{cases_Bool, cases_lt, cond-true, cond-false, cond_both, eqb-false}
use Rattle.ring_base.specs.Processors.{IsProc, IsMember, size}
use Rattle.ring_base.specs.declared.ring_id.RingId.{RingId}
use Rattle.ring_wire.specs.declared.token.Token.{Token}
use Rattle.ring_token.specs.TokenVisits.{mark_from_arus, mark_from_later_arus}
use Rattle.ring_token.specs.Visits.{aru_after, aru_id_after}
use Rattle.ring_token.specs.Rounds.{VisitBy, token_arrived, IsNextVisit, AreVisits, forwarded_by, FrontsHaveGrown, MarksAreSafe, PairsAreSafe}
use Rattle.ring_base.proofs.TurnsRound.{member_of, turns_differ, turns_differ_at, turns_return, turns_reach}
use Rattle.ring_token.proofs.Arus.{Sets, Stays, aru_step}

-- None of these members lacked a number up to s.
record Covered {A : Type 0} (s aru : ℕ) (ws : List (VisitBy A)) : Type 0 where
  pub aru_covers : s ≤ aru
  pub fronts : AllByRecursion (λ (v : VisitBy A). s ≤ v.turn.front) ws

-- The other case: the `aru` is below s, and set by the member of one of the n turns from a on.
record Lacks (members a n s aru : ℕ) (id : Option ℕ) : Type 0 where
  pub aru_below : aru < s
  pub turn : ℕ
  pub turn_in : turn < n
  pub id_is : id ≡ Some (member_of members (a + turn))

-- One more visit.
covered_step : {A : Type 0} → (members a s : ℕ) (v : VisitBy A) (ws : List (VisitBy A)) (t o : Token)
    → 0 < size members → length ws < size members → v.who ≡ member_of members (a + length ws) → s ≤ o.seq →
    Sets v.who v.turn.front o.seq t o.aru o.aru_id ⊎ Stays v.who v.turn.front t o.aru o.aru_id →
    Covered s t.aru ws ⊎ Lacks members a (length ws) s t.aru t.aru_id →
    Covered s o.aru (v ∷ ws) ⊎ Lacks members a (suc (length ws)) s o.aru o.aru_id
covered_step members a s v ws t o some short who large (inl sets) (inl c) =
    elim (cases_lt v.turn.front s) [
      | inl l ↦ inr (record { aru_below = rw sets.aru_is l; turn = length ws; turn_in = omega arith; id_is = sets.id_is (omega arith) ∙ ap Some who })
      | inr l ↦ inl (record { aru_covers = rw sets.aru_is l; fronts = (l, c.fronts) })
    ]
covered_step members a s v ws t o some short who large (inl sets) (inr c) =
    elim (cases_lt v.turn.front s) [
      | inl l ↦ inr (record { aru_below = rw sets.aru_is l; turn = length ws; turn_in = omega arith; id_is = sets.id_is (omega arith) ∙ ap Some who })
      | inr l ↦ (let other : member_of members (a + c.turn) ≡ v.who → ⊥ = λ e. turns_differ_at members a
          (length ws) c.turn some c.turn_in short (sym (e ∙ who)) in
          let k : v.turn.front < t.aru = sets.may _ c.id_is other in let b : t.aru < s = c.aru_below in absurd (omega arith))
    ]
covered_step members a s v ws t o some short who large (inr remaining_requests) (inl c) =
    inl (record {
      aru_covers = rw remaining_requests.aru_is c.aru_covers;
      fronts = (
        (let b : t.aru ≤ v.turn.front = remaining_requests.below in let q : s ≤ t.aru = c.aru_covers in omega arith),
        c.fronts,
      );
    })
covered_step members a s v ws t o some short who large (inr remaining_requests) (inr c) =
    inr (record { aru_below = rw remaining_requests.aru_is c.aru_below; turn = c.turn; turn_in = omega arith; id_is = remaining_requests.id_is ∙ c.id_is })

-- The effect of a visit on the token.

seq_is : {A : Type 0} → (members : ℕ) (ring : RingId) (v : VisitBy A) (vs : List (VisitBy A))
    → IsNextVisit members ring v vs → v.turn.forwarded.seq ≡ v.turn.received.seq + length v.turn.fresh
seq_is members ring v vs h = ap (λ (t : Token). t.seq) h.goes

step_at : {A : Type 0} → (members : ℕ) (ring : RingId) (v : VisitBy A) (vs : List (VisitBy A)) → IsNextVisit members ring v vs →
    Sets v.who v.turn.front v.turn.forwarded.seq v.turn.received v.turn.forwarded.aru v.turn.forwarded.aru_id
    ⊎ Stays v.who v.turn.front v.turn.received v.turn.forwarded.aru v.turn.forwarded.aru_id
step_at members ring v vs h =
    let aru : v.turn.forwarded.aru ≡ aru_after v.who v.turn.front v.turn.received = ap (λ (t : Token). t.aru) h.goes in
    let seq : v.turn.forwarded.seq ≡ v.turn.received.seq + length v.turn.fresh = seq_is members ring v vs h in
    let id : v.turn.forwarded.aru_id ≡ aru_id_after v.who v.turn.front (v.turn.received.seq + length v.turn.fresh) v.turn.received = ap (λ (t : Token). t.aru_id) h.goes in
    let id_by_seq : v.turn.forwarded.aru_id ≡ aru_id_after v.who v.turn.front v.turn.forwarded.seq v.turn.received = id
    ∙ ap (λ n. aru_id_after v.who v.turn.front n v.turn.received) (sym seq) in
    elim (aru_step v.who v.turn.front v.turn.forwarded.seq v.turn.received) [
      | inl s ↦ inl (record { aru_is = aru ∙ s.aru_is; id_is = λ l. id_by_seq ∙ s.id_is l; may = s.may })
      | inr s ↦ inr (record { aru_is = aru ∙ s.aru_is; id_is = id_by_seq ∙ s.id_is; below = s.below; other = s.other })
    ]

aru_within : {A : Type 0} → (members : ℕ) (ring : RingId) (vs : List (VisitBy A)) → AreVisits members ring vs → (token_arrived ring vs).aru ≤ (token_arrived ring vs).seq
aru_within members ring [] h = omega arith
aru_within members ring (v ∷ vs) h =
    let f : v.turn.front ≤ v.turn.forwarded.seq = h.0.within in
    let t : v.turn.received.aru ≤ v.turn.received.seq = rw h.0.comes (aru_within members ring vs h.1) in
    let q : v.turn.forwarded.seq ≡ v.turn.received.seq + length v.turn.fresh = seq_is members ring v vs h.0 in
    elim (step_at members ring v vs h.0) [
      | inl s ↦ (let e : v.turn.forwarded.aru ≡ v.turn.front = s.aru_is in omega arith)
      | inr s ↦ (let e : v.turn.forwarded.aru ≡ v.turn.received.aru = s.aru_is in omega arith)
    ]

-- The visits after one that forwarded an `aru` of s or more.
round : {A : Type 0} → (members : ℕ) (ring : RingId) (s : ℕ) (w : VisitBy A) (zs ws : List (VisitBy A))
    → 0 < size members → AreVisits members ring (ws ++ w ∷ zs) → s ≤ w.turn.forwarded.aru → length ws ≤ size members →
    (s ≤ (token_arrived ring (ws ++ w ∷ zs)).seq) × (Covered s (token_arrived ring (ws ++ w ∷ zs)).aru ws
    ⊎ Lacks members (suc (length zs)) (length ws) s (token_arrived ring (ws ++ w ∷ zs)).aru
    (token_arrived ring (ws ++ w ∷ zs)).aru_id)
round members ring s w zs [] some h large short = (
  let q : w.turn.forwarded.aru ≤ w.turn.forwarded.seq = aru_within members ring
      (w ∷ zs) h in omega arith,
  inl (record { aru_covers = large; fronts = tt }),
)
round members ring s w zs (v ∷ ws) some h large short =
    let before = round members ring s w zs ws some h.1 large (omega arith) in
    let seq : s ≤ v.turn.received.seq = rw h.0.comes before.0 in
    let q : v.turn.forwarded.seq ≡ v.turn.received.seq + length v.turn.fresh = seq_is members ring v (ws ++ w ∷ zs) h.0 in
    let who : v.who ≡ member_of members (suc (length zs) + length ws) = h.0.turn ∙ ap (member_of members) (length-append ws (w ∷ zs) ∙ omega arith) in (
      omega arith,
      covered_step members (suc (length zs)) s v ws v.turn.received v.turn.forwarded some (omega arith) who
          (omega arith) (step_at members ring v (ws ++ w ∷ zs) h.0) (rw h.0.comes before.1),
    )

-- The visit j turns after the rest is by that member.
reached : {A : Type 0} → (members : ℕ) (ring : RingId) (s : ℕ) (front : ℕ → ℕ) (rest ws : List (VisitBy A))
    → AreVisits members ring (ws ++ rest) → FrontsHaveGrown front (ws ++ rest)
    → AllByRecursion (λ (v : VisitBy A). s ≤ v.turn.front) ws → (j : ℕ) → j < length ws
    → s ≤ front (member_of members (length rest + j))
reached members ring s front rest [] h k f j l = absurd (omega arith)
reached members ring s front rest (v ∷ ws) h k f j l =
    elim (cases_lt j (length ws)) [
      | inl p ↦ reached members ring s front rest ws h.1 k.1 f.1 j p
      | inr p ↦ (let who : v.who ≡ member_of members (length rest + j) = h.0.turn ∙ ap (member_of members) (length-append ws rest ∙ omega arith) in
          let g : v.turn.front ≤ front v.who = k.0 in
          let q : s ≤ v.turn.front = f.0 in
          let r : s ≤ front v.who = omega arith in
          subst (λ n. s ≤ front n) who r)
    ]

none_at : {A : Type 0} → (members : ℕ) (ring : RingId) (i : ℕ) (rest ys : List (VisitBy A)) → AreVisits members ring
    (ys ++ rest) → AllByRecursion (λ (y : VisitBy A). y.who ≡ i → ⊥) ys → (j : ℕ) → j < length ys → member_of members
    (length rest + j) ≡ i → ⊥
none_at members ring i rest [] h f j l e = absurd (omega arith)
none_at members ring i rest (v ∷ ys) h f j l e =
    elim (cases_lt j (length ys)) [
      | inl p ↦ none_at members ring i rest ys h.1 f.1 j p e
      | inr p ↦ f.0 (h.0.turn ∙ ap (member_of members) (length-append ys rest ∙ omega arith) ∙ e)
    ]

-- If two visits of a member, one round apart, both forwarded s or more, each member reaches s.
pair_safe : {A : Type 0} → (members : ℕ) (ring : RingId) (s : ℕ) (front : ℕ → ℕ) (v w : VisitBy A)
    (ys zs : List (VisitBy A)) → 0 < size members → AreVisits members ring (v ∷ ys ++ w ∷ zs)
    → FrontsHaveGrown front (v ∷ ys ++ w ∷ zs) → suc (length ys) ≡ size members → s ≤ w.turn.forwarded.aru → s ≤ v.turn.forwarded.aru
    → (p : ℕ) → IsProc p → IsMember members p → s ≤ front p
pair_safe members ring s front v w ys zs some h k whole old new p proc m =
    let r = turns_reach members (suc (length zs)) p proc m in
    elim (round members ring s w zs (v ∷ ys) some h old (omega arith)).1 [
      | inl c ↦ subst (λ n. s ≤ front n) r.2 (reached members ring s front (w ∷ zs) (v ∷ ys) h k c.fronts r.0 (let q : r.0 < size members = r.1 in omega arith))
      | inr c ↦ (let q : v.turn.forwarded.aru < s = c.aru_below in absurd (omega arith))
    ]

-- The previous visit of a processor.
record Before {A : Type 0} (i b : ℕ) (vs : List (VisitBy A)) : Type 0 where
  pub newer : List (VisitBy A)
  pub visit : VisitBy A
  pub older : List (VisitBy A)
  pub parts : vs ≡ newer ++ visit ∷ older
  pub who : visit.who ≡ i
  pub aru : visit.turn.forwarded.aru ≡ b
  pub others : AllByRecursion (λ (y : VisitBy A). y.who ≡ i → ⊥) newer

found : {A : Type 0} → (i b : ℕ) (rest : List ℕ) (vs : List (VisitBy A)) → forwarded_by i vs ≡ b ∷ rest → Before i b vs
found i b rest [] e = absurd (let q : ⊥ = cc in q)
found i b rest (v ∷ vs) e =
    elim (cases_Bool (v.who == i)) [
      | inl t ↦ (let q : v.turn.forwarded.aru ∷ forwarded_by i vs ≡ b ∷ rest = sym (cond-true _ _ _ t) ∙ e in
          record { newer = []; visit = v; older = vs; parts = refl; who = eqb-true _ _ t; aru = cc; others = tt })
      | inr t ↦ (let q : forwarded_by i vs ≡ b ∷ rest = sym (cond-false _ _ _ t) ∙ e in
          let r = found i b rest vs q in
          record {
            newer = v ∷ r.newer;
            visit = r.visit;
            older = r.older;
            parts = ap (λ l. v ∷ l) r.parts;
            who = r.who;
            aru = r.aru;
            others = (eqb-false _ _ t, r.others);
          })
    ]

older_turn : {A : Type 0} → (members : ℕ) (ring : RingId) (w : VisitBy A) (ys zs : List (VisitBy A))
    → AreVisits members ring (ys ++ w ∷ zs) → w.who ≡ member_of members (length zs)
older_turn members ring w [] zs h = h.0.turn
older_turn members ring w (y ∷ ys) zs h = older_turn members ring w ys zs h.1

-- It is one round before.
round_between : {A : Type 0} → (members : ℕ) (ring : RingId) (i : ℕ) (v w : VisitBy A) (ys zs : List (VisitBy A))
    → 0 < size members → AreVisits members ring (v ∷ ys ++ w ∷ zs) → v.who ≡ i → w.who ≡ i
    → AllByRecursion (λ (y : VisitBy A). y.who ≡ i → ⊥) ys → suc (length ys) ≡ size members
round_between members ring i v w ys zs some h mine its others =
    let at_v : member_of members (length zs + suc (length ys)) ≡ i = ap (member_of members)
    (omega arith ∙ sym (length-append ys (w ∷ zs))) ∙ sym h.0.turn ∙ mine in
    let at_w : member_of members (length zs) ≡ i = sym (older_turn members ring w ys zs h.1) ∙ its in
    elim (cases_lt (suc (length ys)) (size members)) [
      | inl l ↦ absurd (turns_differ members (length zs) (suc (length ys)) some (omega arith) l (at_v ∙ sym at_w))
      | inr l ↦ elim (cases_lt (size members) (suc (length ys))) [
        | inl k ↦ absurd (none_at members ring i (w ∷ zs) ys h.1 others (size members - 1) (omega arith)
            (ap (member_of members) (omega arith) ∙ turns_return members (length zs) ∙ at_w))
        | inr k ↦ omega arith
      ]
    ]

safe_from : {A : Type 0} → (members : ℕ) (ring : RingId) (front : ℕ → ℕ) (i p : ℕ) (v : VisitBy A)
    (vs : List (VisitBy A)) → 0 < size members → IsProc p → IsMember members p → AreVisits members ring (v ∷ vs)
    → FrontsHaveGrown front (v ∷ vs) → v.who ≡ i → (fs : List ℕ) → forwarded_by i vs ≡ fs → mark_from_arus fs ≤ front p
    → mark_from_later_arus v.turn.forwarded.aru fs ≤ front p
safe_from members ring front i p v vs some proc m h k who [] e ih = omega arith
safe_from {A} members ring front i p v vs some proc m h k who (b ∷ rest) e ih =
    let w = found i b rest vs e in
    let h' : AreVisits members ring (v ∷ w.newer ++ w.visit ∷ w.older) = subst (λ (us : List (VisitBy A)). AreVisits members ring (v ∷ us)) w.parts h in
    let k' : FrontsHaveGrown front (v ∷ w.newer ++ w.visit ∷ w.older) = subst (λ (us : List (VisitBy A)). FrontsHaveGrown front (v ∷ us)) w.parts k in
    let whole = round_between members ring i v w.visit w.newer w.older some h' who w.who w.others in
    let a : w.visit.turn.forwarded.aru ≡ b = w.aru in
    let q : min v.turn.forwarded.aru b ≤ front p = pair_safe members ring (min v.turn.forwarded.aru b)
    front v w.visit w.newer w.older some h' k' whole (omega arith) (omega arith) p proc m in
    omega arith

-- Every member reaches each number up to a processor's safe mark.
pub marks_safe : {A : Type 0} → MarksAreSafe A
marks_safe members ring [] front some h k i p proc m = omega arith
marks_safe members ring (v ∷ vs) front some h k i p proc m =
    let ih = marks_safe members ring vs front some h.1 k.1 i p proc m in
    cond_both (v.who == i) _ _ (λ fs. mark_from_arus fs ≤ front p)
    (λ e. safe_from members ring front i p v vs some proc m h k (eqb-true _ _ e) (forwarded_by i vs) refl ih)
    (λ e. ih)

-- The lesser of two neighbours of a list is at most its mark.
pair_marked : (newer older : List ℕ) (later earlier : ℕ) → min later earlier ≤ mark_from_arus (newer ++ later ∷ earlier ∷ older)
pair_marked [] older later earlier = omega arith
pair_marked (a ∷ []) older later earlier = omega arith
pair_marked (a ∷ b ∷ newer) older later earlier =
    (let q : min later earlier ≤ mark_from_arus (b ∷ newer ++ later ∷ earlier ∷ older) = pair_marked
    (b ∷ newer) older later earlier in omega arith)

pub pairs_safe : {A : Type 0} → PairsAreSafe A
pairs_safe members ring visits front some h k i s later earlier newer older e l m p proc member =
    let marked : mark_from_arus (forwarded_by i visits) ≤ front p = marks_safe members ring visits front some h k i p proc member in
    let pair : min later earlier ≤ mark_from_arus (newer ++ later ∷ earlier ∷ older) = pair_marked newer older later earlier in
    let same : mark_from_arus (forwarded_by i visits) ≡ mark_from_arus (newer ++ later ∷ earlier ∷ older) = ap mark_from_arus e in
    omega arith
