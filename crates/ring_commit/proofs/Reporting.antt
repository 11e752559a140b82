-- The reports of one old ring, one entry after another.
use Rattle.std.proofs.Common.{◌≡◌, ℕ, max, true, List, ◌∷◌, zero, suc, ◌≤◌, [], Some, slice_get, sym, subst, Option, None, refl}
use Rattle.std.specs.Prelude.{nat_le, if◌then◌else◌}
use Rattle.std.proofs.lemmas.Bool.{cond-true, cond_both, and_parts, leb-true}
use Rattle.ring_wire.specs.Base.{same_ring, RingId}
use Rattle.ring_wire.specs.declared.entries.CommitEntry.{CommitEntry}
use Rattle.ring_commit.specs.Reports.{reports_of, safe_of, none_behind, same_entry}
use Rattle.ring_commit.specs.Rounds.{is_own}

-- The part read so far, and the part still to be read.
abbrev pub safe_from : ℕ → RingId → List CommitEntry → ℕ
safe_from safe old entries = max safe (safe_of (reports_of old entries))

-- Among reports of one ring, those after the first are not behind either.
rest_ahead : (old : RingId) (safe : ℕ) (x : CommitEntry) (ys : List CommitEntry) → none_behind safe (if same_ring x.old old then x ∷ ys else ys) ≡ true
    → none_behind safe ys ≡ true
rest_ahead old safe x ys h =
    cond_both (same_ring x.old old) (x ∷ ys) ys (λ (zs : List CommitEntry). none_behind safe zs ≡ true → none_behind safe ys ≡ true)
    (λ e k. (and_parts (nat_le safe x.front) (none_behind safe ys) k).1) (λ e k. k) h

-- The greatest reported mark is at most the front of each member from the old ring.
pub none_behind-at : (old : RingId) (safe : ℕ) (entries : List CommitEntry) (i : ℕ) (e : CommitEntry) → none_behind safe (reports_of old entries) ≡ true
    → slice_get entries i ≡ Some e → same_ring e.old old ≡ true → safe ≤ e.front
none_behind-at old safe [] i e h g s = absurd (let q : ⊥ = cc in q)
none_behind-at old safe (x ∷ entries) zero e h g s =
    let q : x ≡ e = cc in
    let same : same_ring x.old old ≡ true = subst (λ (y : CommitEntry). same_ring y.old old ≡ true) (sym q) s in
    let first : none_behind safe (x ∷ reports_of old entries) ≡ true = subst (λ (zs : List CommitEntry). none_behind safe zs ≡ true)
    (cond-true (same_ring x.old old) (x ∷ reports_of old entries) (reports_of old entries) same) h in
    subst (λ (y : CommitEntry). safe ≤ y.front) q (leb-true safe x.front (and_parts (nat_le safe x.front) (none_behind safe (reports_of old entries)) first).0)
none_behind-at old safe (x ∷ entries) (suc i) e h g s = none_behind-at old safe entries i e (rest_ahead old safe x (reports_of old entries) h) g s

-- The own report is in the token.
pub own_stands : (own : CommitEntry) (o : Option CommitEntry) → is_own own o ≡ true → (e : CommitEntry) × (o ≡ Some e) × (same_entry e own ≡ true)
own_stands own None h = absurd (let q : ⊥ = cc in q)
own_stands own (Some e) h = (e, refl, h)
