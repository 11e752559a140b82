-- The window and the visits of one ring say the same of it as the core.
use Rattle.std.proofs.Common.{◌≡◌, ℕ, Bool, true, false, List, [], ◌∷◌, refl, ap, ◌∙◌, sym, inl, inr}
use Rattle.std.specs.Prelude.{◌&&◌, nat_lt, nat_le}
use Rattle.std.specs.List.{list_all}
use Rattle.std.proofs.lemmas.Bool.{cases_Bool, cond-true, cond-false, true≢false}
use Rattle.ring_base.specs.Rings.{same_ring}
use Rattle.ring_base.specs.Numbers.{max_number}
use Rattle.ring_base.specs.declared.ring_id.RingId.{RingId}
use Rattle.ring_wire.specs.declared.message.Message.{Message}
use Rattle.ring_wire.specs.declared.token.Token.{Token}
use Rattle.ring_window.specs.Held.{of_ring, highest, front_of, is_new}
use Rattle.ring_window.specs.Bits.{held_bits}
use Rattle.ring_window.specs.Windows.{WindowHistory}
use Rattle.ring_base.proofs.SameRing.{ring_same}
use Rattle.ring_window.proofs.OfRing.{highest_of_ring, front_of_ring, is_new_of_ring, held_bits_of_ring}
use Rattle.ring_token.specs.TokenVisits.{TokenVisit, MarkRaise, visits_in_ring, is_newer, is_accepted}
use Rattle.ring_token.specs.Histories.{TokenHistory}
use Rattle.ring_core_spec.specs.State.{Core}
use Rattle.ring_core_spec.specs.Views.{mark, front, own_entry, takes_number}
use Rattle.ring_core_spec.specs.Visiting.{accepts}
use Rattle.ring_srp_transitions.specs.RunningCores.{IsPart, window_of, raises_of}

pub turns_twice : {A : Type 0} (turns : List (TokenVisit A)) (ring : RingId) → visits_in_ring ring (visits_in_ring ring turns) ≡ visits_in_ring ring turns
turns_twice [] ring = refl
turns_twice (v ∷ turns) ring = elim (cases_Bool (same_ring v.received.ring ring)) [
  | inl e ↦ rw (
    cond-true (same_ring v.received.ring ring) (v ∷ visits_in_ring ring turns) (visits_in_ring ring turns) e,
    cond-true (same_ring v.received.ring ring) (v ∷ visits_in_ring ring (visits_in_ring ring turns))
        (visits_in_ring ring (visits_in_ring ring turns)) e,
  ) (ap (λ ys. v ∷ ys) (turns_twice turns ring))
  | inr e ↦ rw (cond-false (same_ring v.received.ring ring) (v ∷ visits_in_ring ring turns) (visits_in_ring ring turns) e) (turns_twice turns ring)
]

pub raises_twice : (raises : List MarkRaise) (ring : RingId) → raises_of ring (raises_of ring raises) ≡ raises_of ring raises
raises_twice [] ring = refl
raises_twice (x ∷ raises) ring = elim (cases_Bool (same_ring x.ring ring)) [
  | inl e ↦ rw (
    cond-true (same_ring x.ring ring) (x ∷ raises_of ring raises) (raises_of ring raises) e,
    cond-true (same_ring x.ring ring) (x ∷ raises_of ring (raises_of ring raises))
        (raises_of ring (raises_of ring raises)) e,
  ) (ap (λ ys. x ∷ ys) (raises_twice raises ring))
  | inr e ↦ rw (cond-false (same_ring x.ring ring) (x ∷ raises_of ring raises) (raises_of ring raises) e) (raises_twice raises ring)
]

-- where the first test fails, the others don't matter
none_passes : (b x y z p q : Bool) → b ≡ false → (b && x && y && z) ≡ (b && p && y && q)
none_passes false x y z p q e = refl
none_passes true x y z p q e = absurd (true≢false e)

-- Accepting

same_accepted : {A : Type 0} (turns : List (TokenVisit A)) (held : List (Message A)) (ring : RingId) (t : Token) →
    is_accepted ring (visits_in_ring ring turns) (highest (of_ring ring held) ring) t ≡ is_accepted ring turns (highest held t.ring) t
same_accepted {A} turns held ring t = elim (cases_Bool (same_ring t.ring ring)) [
  | inl e ↦
      (let r : t.ring ≡ ring = ring_same t.ring ring e in
      let newer : is_newer (visits_in_ring ring turns) t ≡ is_newer turns t =
      ap (λ (q : RingId). list_all (λ (v : TokenVisit A). nat_lt v.received.number t.number) (visits_in_ring q (visits_in_ring ring turns))) r
      ∙ ap (λ (vs : List (TokenVisit A)). list_all (λ (v : TokenVisit A). nat_lt v.received.number t.number) vs) (turns_twice turns ring)
      ∙ sym (ap (λ (q : RingId). list_all (λ (v : TokenVisit A). nat_lt v.received.number t.number) (visits_in_ring q turns)) r) in
      let high : highest (of_ring ring held) ring ≡ highest held t.ring = highest_of_ring held ring ∙ sym (ap (λ (q : RingId). highest held q) r) in
      ap (λ b. same_ring t.ring ring && b && nat_lt t.number max_number && nat_le (highest (of_ring ring held) ring) t.seq) newer
      ∙ ap (λ h. same_ring t.ring ring && is_newer turns t && nat_lt t.number max_number && nat_le h t.seq) high)
  | inr e ↦ none_passes (same_ring t.ring ring) (is_newer (visits_in_ring ring turns) t) (nat_lt t.number max_number)
      (nat_le (highest (of_ring ring held) ring) t.seq) (is_newer turns t) (nat_le (highest held t.ring) t.seq) e
]

pub accepted_by : {A : Type 0} (c : Core A) (window : WindowHistory A) (visit : TokenHistory A) (t : Token) → IsPart c c.running.ring window visit →
    is_accepted visit.ring visit.turns (highest window.held window.ring) t ≡ accepts c t
accepted_by c window visit t p = rw (p.window_is, p.visit_is) (same_accepted c.turns c.held c.running.ring t)

-- Taking

pub new_by : {A : Type 0} (c : Core A) (ring : RingId) (window : WindowHistory A) (visit : TokenHistory A) (n : ℕ) → IsPart c ring window visit →
    is_new window.held window.mark window.ring n ≡ takes_number c ring n
new_by c ring window visit n p = rw p.window_is (is_new_of_ring c.held (mark c ring) ring n)

-- Reporting

pub entry_by : {A : Type 0} (c : Core A) (window : WindowHistory A) (visit : TokenHistory A) (f m : ℕ) (bits : List ℕ) → IsPart c c.installed.ring window visit →
    f ≡ front_of window.held window.ring → m ≡ window.mark → bits ≡ held_bits window.held window.ring →
    record { old = c.installed.ring; front = f; mark = m; held = bits } ≡ own_entry c
entry_by c window visit f m bits p a b d =
    let w : window ≡ window_of c c.installed.ring = p.window_is in
    let x : f ≡ front c c.installed.ring = a ∙ ap (λ (v : WindowHistory _). front_of v.held v.ring) w ∙ front_of_ring c.held c.installed.ring in
    let y : m ≡ mark c c.installed.ring = b ∙ ap (λ (v : WindowHistory _). v.mark) w in
    let z : bits ≡ held_bits c.held c.installed.ring = d ∙ ap (λ (v : WindowHistory _). held_bits v.held v.ring) w ∙ held_bits_of_ring c.held c.installed.ring in
    λ i. record { old = c.installed.ring; front = x i; mark = y i; held = z i }
