-- Reports are exact, and the known numbers reach no further than the reports of the transitional members.

-- A core's own report has what it holds of its last installed ring, and nothing past the window.
use Rattle.std.proofs.Common.{◌≡◌, ℕ, ◌+◌, ◌-◌, ◌<◌, ◌≤◌, inl, inr, true, ◌&&◌, ◌==◌, List, [], ◌∷◌, map, Option}
use Rattle.std.proofs.Common.{Some, None, refl, ap, sym, ◌∙◌, subst, arith}
use Rattle.std.specs.Prelude.{filter, nat_lt, nat_le, nat_eq, max}
use Rattle.std.specs.Cmp.Lexicographic.{pointwise, bytes_decides}
use Rattle.std.proofs.lemmas.Bool.{cond_both, cond-true, cases_lt, and_parts, or_cases, or_right, false≢true, eqb-true, leb-true, le-leb, lt-ltb, ltb-true}
use Rattle.ring_base.specs.Numbers.{window_size, greatest}
use Rattle.ring_base.specs.Rings.{same_ring}
use Rattle.ring_base.specs.declared.ring_id.RingId.{RingId}
use Rattle.ring_wire.specs.Entries.{bit_of}
use Rattle.ring_wire.specs.declared.entries.CommitEntry.{CommitEntry}
use Rattle.ring_core_spec.specs.Windows.{holds, front_of, held_bits}
use Rattle.ring_core_spec.proofs.Windows.{held_bit, front_is}
use Rattle.ring_base.proofs.SameRing.{ring_same, same-self}
use Rattle.ring_core_spec.specs.Tokens.{TokenVisit, MarkRaise, raised_to, safe_mark, mark_from_arus, forwarded_in}
use Rattle.ring_core_spec.specs.Commits.{same_entry, reports_of, safe_of, is_own}
use Rattle.ring_core_spec.specs.Recoveries.{Plan, safe, is_reported, is_known}
use Rattle.ring_core_spec.specs.State.{Core}
use Rattle.ring_core_spec.specs.Views.{front, mark, own_entry}
use Rattle.ring_core_proof.specs.FactWords.{IsIn}
use Rattle.ring_core_proof.proofs.WithinWindow.{IsCoreInWindow, mark_below, held_below}
use Rattle.ring_core_proof.proofs.InLists.{any-in, any-some}

-- The own report

-- equal entries are one
entry_is : (e own : CommitEntry) → same_entry e own ≡ true → e ≡ own
entry_is e own h =
    let a = and_parts ((same_ring e.old own.old && (e.front == own.front)) && (e.mark == own.mark)) (pointwise nat_eq e.held own.held) h in
    let b = and_parts (same_ring e.old own.old && (e.front == own.front)) (e.mark == own.mark) a.0 in
    let c = and_parts (same_ring e.old own.old) (e.front == own.front) b.0 in
    let p = ring_same e.old own.old c.0 in
    let q = eqb-true e.front own.front c.1 in
    let r = eqb-true e.mark own.mark b.1 in
    let s = (bytes_decides e.held own.held).0 a.1 in
    λ i. record { old = p i; front = q i; mark = r i; held = s i }

pub own_is : (own : CommitEntry) (o : Option CommitEntry) → is_own own o ≡ true → o ≡ Some own
own_is own None h = absurd (false≢true h)
own_is own (Some e) h = ap Some (entry_is e own h)

-- no number past the window after the mark is reported
abbrev pub IsReach : CommitEntry → Type 0
IsReach e = (n : ℕ) → is_reported n e ≡ true → n ≤ e.mark + window_size

module _ {A : Type 0} (c : Core A) (fit : IsCoreInWindow c) where
  abbrev ring : RingId
  ring = c.installed.ring

  bit_is : (n : ℕ) → front c ring < n → n ≤ front c ring + window_size → bit_of (held_bits c.held ring) (n - front c ring - 1) ≡ holds c.held ring n
  bit_is n above within =
      let j : n - front c ring - 1 < 256 = omega (arith, above, within) in
      let at : front_of c.held ring + 1 + (n - front c ring - 1) ≡ n = omega (arith, above) in
      held_bit c.held ring (n - front c ring - 1) j ∙ ap (holds c.held ring) at

  pub held_reported : (n : ℕ) → 1 ≤ n → holds c.held ring n ≡ true → is_reported n (own_entry c) ≡ true
  held_reported n low h =
      let reach : n ≤ mark c ring + window_size = held_below c ring n fit h in
      let below : mark c ring ≤ front c ring = mark_below c ring fit in
      elim (cases_lt (front c ring) n) [
        | inl above ↦ (let within : n ≤ front c ring + window_size = omega (arith, reach, below) in
            or_right (nat_lt 0 n && nat_le n (front c ring))
            ((nat_lt (front c ring) n && nat_le n (front c ring + window_size)) && bit_of (held_bits c.held ring)
            (n - front c ring - 1))
            (rw (lt-ltb (front c ring) n above, le-leb n (front c ring + window_size) within, bit_is n above within, h) refl))
        | inr inside ↦ rw (lt-ltb 0 n low, le-leb n (front c ring) inside) refl
      ]

  pub own_reach : IsReach (own_entry c)
  own_reach n h =
      elim (or_cases (nat_lt 0 n && nat_le n (front c ring))
      ((nat_lt (front c ring) n && nat_le n (front c ring + window_size)) && bit_of (held_bits c.held ring)
      (n - front c ring - 1)) h) [
        | inl a ↦ (let p = and_parts (nat_lt 0 n) (nat_le n (front c ring)) a in
            held_below c ring n fit ((front_is c.held ring).below n (ltb-true 0 n p.0) (leb-true n (front c ring) p.1)))
        | inr b ↦ (let p = and_parts (nat_lt (front c ring) n && nat_le n (front c ring + window_size))
            (bit_of (held_bits c.held ring) (n - front c ring - 1)) b in
            let q = and_parts (nat_lt (front c ring) n) (nat_le n (front c ring + window_size)) p.0 in
            held_below c ring n fit (sym (bit_is n (ltb-true (front c ring) n q.0) (leb-true n (front c ring + window_size) q.1)) ∙ p.1))
      ]

-- All reports together

pub safe_most : (e : CommitEntry) (reports : List CommitEntry) → IsIn e reports → e.mark ≤ safe_of reports
safe_most e [] h = absurd h
safe_most e (x ∷ xs) (inl s) = (let m : e.mark ≡ x.mark = ap (λ (z : CommitEntry). z.mark) s in omega (arith, m))
safe_most e (x ∷ xs) (inr h) = (let m : e.mark ≤ safe_of xs = safe_most e xs h in omega (arith, m))

pub in_reports : (old : RingId) (e : CommitEntry) (entries : List CommitEntry) → IsIn e entries → same_ring e.old old ≡ true → IsIn e (reports_of old entries)
in_reports old e [] h t = absurd h
in_reports old e (x ∷ xs) (inl s) t =
    (let y : same_ring x.old old ≡ true = subst (λ (z : CommitEntry). same_ring z.old old ≡ true) s t in
    subst (λ es. IsIn e es) (sym (cond-true (same_ring x.old old) (x ∷ reports_of old xs) (reports_of old xs) y)) (inl s))
in_reports old e (x ∷ xs) (inr h) t =
    cond_both (same_ring x.old old) (x ∷ reports_of old xs) (reports_of old xs) (λ es. IsIn e es)
    (λ y. inr (in_reports old e xs h t)) (λ y. in_reports old e xs h t)

pub reports_in : (old : RingId) (e : CommitEntry) (entries : List CommitEntry) → IsIn e (reports_of old entries) → IsIn e entries
reports_in old e [] h = absurd h
reports_in old e (x ∷ xs) h =
    cond_both (same_ring x.old old) (x ∷ reports_of old xs) (reports_of old xs) (λ es. IsIn e es → IsIn e (x ∷ xs))
    (λ y k. elim k [ inl s ↦ inl s | inr t ↦ inr (reports_in old e xs t) ]) (λ y k. inr (reports_in old e xs k)) h

pub known_by : (p : Plan) (n : ℕ) (e : CommitEntry) → IsIn e p.reports → is_reported n e ≡ true → is_known p n ≡ true
known_by p n e h t = any-in (is_reported n) e p.reports h t

pub known_reach : (p : Plan) → ((e : CommitEntry) → IsIn e p.reports → IsReach e) → (n : ℕ) → is_known p n ≡ true → n ≤ safe p + window_size
known_reach p reach n h =
    let s = any-some (is_reported n) p.reports h in
    let a : n ≤ (s.0).mark + window_size = reach s.0 s.1 n s.2 in
    let b : (s.0).mark ≤ safe p = safe_most s.0 p.reports s.1 in
    omega (arith, a, b)

-- a raise is the mark where no mark is above it
pub raised_is : {A : Type 0} → (x : MarkRaise) (turns : List (TokenVisit A)) (raises : List MarkRaise)
    → safe_mark turns raises x.ring ≤ x.mark → safe_mark turns (x ∷ raises) x.ring ≡ x.mark
raised_is {A} x turns raises l =
    let rest = filter (λ (y : MarkRaise). same_ring y.ring x.ring) raises in
    let same : same_ring x.ring x.ring ≡ true = same-self x.ring in
    let e : raised_to x.ring (x ∷ raises) ≡ max x.mark (raised_to x.ring raises) =
    ap (λ (rs : List MarkRaise). greatest (map (λ (y : MarkRaise). y.mark) rs)) (cond-true (same_ring x.ring x.ring) (x ∷ rest) rest same) in
    let m = mark_from_arus (forwarded_in x.ring turns) in
    let r = raised_to x.ring raises in
    ap (λ n. max m n) e ∙ over m r x.mark l
  where
    over : (m r s : ℕ) → max m r ≤ s → max m (max s r) ≡ s
    over m r s l = omega (arith, l)
