-- The effect of one visit on the token's `aru`.
use Rattle.std.proofs.Common.{◌≡◌, ℕ, ◌<◌, ◌≤◌, true, false, ◌⊎◌, inl, inr, Option, Some, None, ◌∙◌, arith, eqb-true, nat_lt, ltb-false, ltb-true, ne_eqb}
use Rattle.std.proofs.lemmas.Bool.{cases_Bool, or_parts, cond-true, cond-false, true≢false, or_cases, eqb-false as eqb-ne}
use Rattle.ring_wire.specs.declared.token.Token.{Token}
use Rattle.ring_token.specs.Visits.{is_held_back_by_self, may_set_aru, aru_after, aru_id_after}

-- The member set the `aru` to its front.
pub record Sets (me f seq : ℕ) (t : Token) (aru : ℕ) (id : Option ℕ) : Type 0 where
  pub aru_is : aru ≡ f
  pub id_is : f < seq → id ≡ Some me
  pub may : (x : ℕ) → t.aru_id ≡ Some x → (x ≡ me → ⊥) → f < t.aru

-- The `aru` stayed another member's, and the member's front is at least the `aru`.
pub record Stays (me f : ℕ) (t : Token) (aru : ℕ) (id : Option ℕ) : Type 0 where
  pub aru_is : aru ≡ t.aru
  pub id_is : id ≡ t.aru_id
  pub below : t.aru ≤ f
  pub other : t.aru_id ≡ Some me → ⊥

is_mine_me : (me : ℕ) (id : Option ℕ) → is_held_back_by_self me id ≡ false → id ≡ Some me → ⊥
is_mine_me me None h e = true≢false h
is_mine_me me (Some x) h e = eqb-ne x me h (let q : Some x ≡ Some me = e in cc)

pub aru_step : (me f seq : ℕ) (t : Token) → Sets me f seq t (aru_after me f t) (aru_id_after me f seq t)
    ⊎ Stays me f t (aru_after me f t) (aru_id_after me f seq t)
aru_step me f seq t =
    elim (cases_Bool (may_set_aru me f t)) [
      | inl e ↦ inl (record {
        aru_is = cond-true _ _ _ e;
        id_is = λ l. cond-true _ _ _ e ∙ cond-false _ _ _ (ne_eqb f seq (λ q. omega arith));
        may = λ x is other. elim (or_cases _ _ e) [
          | inl q ↦ ltb-true _ _ q
          | inr q ↦ absurd
              (other (eqb-true x me (let h : is_held_back_by_self me (Some x) ≡ true = rw is at q in h)))
        ];
      })
      | inr e ↦ (let p : (nat_lt f t.aru ≡ false) × (is_held_back_by_self me t.aru_id ≡ false) = or_parts _ _ e in inr
          (record {
            aru_is = cond-false _ _ _ e;
            id_is = cond-false _ _ _ e;
            below = ltb-false _ _ p.0;
            other = is_mine_me me t.aru_id p.1;
          }))
    ]
