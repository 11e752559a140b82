-- The payloads of a visit in Recovery, number by number.
use Rattle.std.proofs.Common.{◌≡◌, ℕ, suc, ◌+◌, ◌-◌, ◌<◌, ◌≤◌, Bool, true, false, List, [], ◌∷◌, ◌++◌, filter}
use Rattle.std.proofs.Common.{filter_map, length, take, Option, Some, None, refl, ap, ◌∙◌, sym, arith, append_assoc}
use Rattle.std.proofs.Common.{length-append}
use Rattle.std.specs.Prelude.{not, if◌then◌else◌}
use Rattle.std.specs.List.{cons_option}
use Rattle.std.proofs.lemmas.Bool.{cond-true, cond-false}
use Rattle.std.proofs.lemmas.List.{append-nil, take_all, take_at}
use Rattle.ring_base.specs.Numbers.{numbers_from}
use Rattle.ring_payload.specs.declared.content.Payload.{Payload}
use Rattle.ring_payload.specs.declared.content.Payload.TheVariants.{End}
use Rattle.ring_wire.specs.declared.message.Message.{Message}
use Rattle.ring_window.specs.Held.{found, highest}
use Rattle.ring_recover.specs.Plans.{low}
use Rattle.ring_recover.specs.RecoveryState.{RecoveryState as Seen}
use Rattle.ring_recover.specs.Wrapping.{is_wrapped, wrap, has_own_end}
use Rattle.ring_recover.proofs.HandedNext.{found_number}
use Rattle.ring_srp_state.specs.Wraps.{wrap_unless, wrap_left, left_and_end}

module _ {A : Type 0} (r : Seen A) (held : List (Message A)) where
  one_by : (o : Option (Message A)) (n : ℕ) (b : Bool) (xs : List (Message A)) (ps : List (Payload A)) → found held r.plan.old n ≡ o
      → is_wrapped r.seen r.plan.old n ≡ b
      → filter_map wrap (filter (λ (x : Message A). not (is_wrapped r.seen r.plan.old x.number)) xs) ≡ ps
      → filter_map wrap (filter (λ (x : Message A). not (is_wrapped r.seen r.plan.old x.number)) (cons_option o xs)) ≡ cons_option (wrap_unless b o) ps
  one_by None n true xs ps e w h = h
  one_by None n false xs ps e w h = h
  one_by (Some x) n true xs ps e w h =
      let there = found_number held r.plan.old n x e in
      let rest = filter (λ (y : Message A). not (is_wrapped r.seen r.plan.old y.number)) xs in
      let no : not (is_wrapped r.seen r.plan.old x.number) ≡ false = ap (λ k. not (is_wrapped r.seen r.plan.old k)) there ∙ ap not w in
      ap (filter_map wrap) (cond-false (not (is_wrapped r.seen r.plan.old x.number)) (x ∷ rest) rest no) ∙ h
  one_by (Some x) n false xs ps e w h =
      let there = found_number held r.plan.old n x e in
      let rest = filter (λ (y : Message A). not (is_wrapped r.seen r.plan.old y.number)) xs in
      let yes : not (is_wrapped r.seen r.plan.old x.number) ≡ true = ap (λ k. not (is_wrapped r.seen r.plan.old k)) there ∙ ap not w in
      ap (filter_map wrap) (cond-true (not (is_wrapped r.seen r.plan.old x.number)) (x ∷ rest) rest yes)
      ∙ ap (λ (qs : List (Payload A)). cons_option (wrap x) qs) h

  -- those of consecutive numbers
  by_number : (ns : List ℕ) → filter_map wrap (filter (λ (x : Message A). not (is_wrapped r.seen r.plan.old x.number)) (filter_map (found held r.plan.old) ns))
      ≡ filter_map (wrap_left r held) ns
  by_number [] = refl
  by_number (n ∷ ns) = one_by (found held r.plan.old n) n (is_wrapped r.seen r.plan.old n) (filter_map (found held r.plan.old) ns)
      (filter_map (wrap_left r held) ns) refl refl (by_number ns)

  -- those left from a number on
  abbrev pub left_from : ℕ → List (Payload A)
  left_from before = filter_map (wrap_left r held) (numbers_from (before + 1) (highest held r.plan.old - before))

  abbrev pub end_of : List (Payload A)
  end_of = if has_own_end r.me r.seen then [] else End ∷ []

  pub all_left : left_and_end r held ≡ left_from (low r.plan) ++ end_of
  all_left = ap (λ (ps : List (Payload A)). ps ++ end_of) (by_number (numbers_from (low r.plan + 1) (highest held r.plan.old - low r.plan)))

  -- one number further
  left_on : (before : ℕ) (o : Option (Payload A)) → before < highest held r.plan.old → o ≡ wrap_left r held (before + 1)
      → left_from before ≡ cons_option o (left_from (before + 1))
  left_on before o l e =
      let top = highest held r.plan.old in
      let n : top - before ≡ suc (top - (before + 1)) = omega arith in
      let m : suc (before + 1) ≡ before + 1 + 1 = omega arith in
      ap (λ k. filter_map (wrap_left r held) (numbers_from (before + 1) k)) n
      ∙ ap (λ k. cons_option (wrap_left r held (before + 1)) (filter_map (wrap_left r held) (numbers_from k (top - (before + 1))))) m
      ∙ ap (λ (q : Option (Payload A)). cons_option q (left_from (before + 1))) (sym e)

  left_over : (before : ℕ) → highest held r.plan.old ≤ before → left_from before ≡ []
  left_over before l = (let n : highest held r.plan.old - before ≡ 0 = omega arith in ap (λ k. filter_map (wrap_left r held) (numbers_from (before + 1) k)) n)

-- The payloads made so far and those left from a number on are all; at most `most` were made
pub record IsMade {A : Type 0} (r : Seen A) (held : List (Message A)) (most before : ℕ) (made : List (Payload A)) : Type 0 where
  pub all : left_from r held (low r.plan) ≡ made ++ left_from r held before
  pub few : length made ≤ most
  pub on : low r.plan ≤ before

module _ {A : Type 0} (r : Seen A) (held : List (Message A)) (most : ℕ) where
  few_more : {k j : ℕ} → k ≡ j + 1 → j < most → k ≤ most
  few_more e l = omega (arith, e, l)

  pub made_none : (before : ℕ) → before ≡ low r.plan → IsMade r held most before []
  made_none before e = record { all = ap (left_from r held) (sym e); few = omega arith; on = omega (arith, e) }

  pub made_one : (before : ℕ) (made : List (Payload A)) (p : Payload A) → before < highest held r.plan.old → length made < most
      → Some p ≡ wrap_left r held (before + 1)
      → IsMade r held most before made → IsMade r held most (before + 1) (made ++ p ∷ [])
  made_one before made p l n e m =
      record {
        all = m.all ∙ ap (λ (ps : List (Payload A)). made ++ ps) (left_on r held before (Some p) l e)
            ∙ sym (append_assoc made (p ∷ []) (left_from r held (before + 1)));
        few = few_more (length-append made (p ∷ [])) n;
        on = omega (arith, m.on);
      }

  pub made_next : (before : ℕ) (made : List (Payload A)) → before < highest held r.plan.old → None ≡ wrap_left r held (before + 1)
      → IsMade r held most before made → IsMade r held most (before + 1) made
  made_next before made l e m = record {
    all = m.all ∙ ap (λ (ps : List (Payload A)). made ++ ps) (left_on r held before None l e);
    few = m.few;
    on = omega (arith, m.on);
  }

  -- `most` payloads were made
  pub made_full : (before : ℕ) (made : List (Payload A)) → length made ≡ most → IsMade r held most before made → made ≡ take most (left_and_end r held)
  made_full before made n m =
      let rest = left_from r held before ++ end_of r held in
      sym (take_at made rest most n)
      ∙ ap (take most) (sym (append_assoc made (left_from r held before) (end_of r held)) ∙ ap (λ (ps : List (Payload A)). ps ++ end_of r held) (sym m.all)
      ∙ sym (all_left r held))

  made_whole : (before : ℕ) (made : List (Payload A)) → highest held r.plan.old ≤ before → IsMade r held most before made
      → left_and_end r held ≡ made ++ end_of r held
  made_whole before made l m =
      all_left r held ∙ ap (λ (ps : List (Payload A)). ps ++ end_of r held)
      (m.all ∙ ap (λ (ps : List (Payload A)). made ++ ps) (left_over r held before l) ∙ append-nil made)

  -- and the End after them
  pub made_end : (before : ℕ) (made : List (Payload A)) → highest held r.plan.old ≤ before → length made < most → has_own_end r.me r.seen ≡ false
      → IsMade r held most before made → made ++ End ∷ [] ≡ take most (left_and_end r held)
  made_end before made l n e m =
      let whole : left_and_end r held ≡ made ++ End ∷ [] = made_whole before made l m
      ∙ ap (λ (ps : List (Payload A)). made ++ ps) (cond-false (has_own_end r.me r.seen) [] (End ∷ []) e) in
      sym (ap (take most) whole ∙ take_all most (made ++ End ∷ []) (few_more (length-append made (End ∷ [])) n))

  -- or no End
  pub made_all : (before : ℕ) (made : List (Payload A)) → highest held r.plan.old ≤ before → has_own_end r.me r.seen ≡ true
      → IsMade r held most before made → made ≡ take most (left_and_end r held)
  made_all before made l e m =
      let whole : left_and_end r held ≡ made = made_whole before made l m
      ∙ ap (λ (ps : List (Payload A)). made ++ ps) (cond-true (has_own_end r.me r.seen) [] (End ∷ []) e) ∙ append-nil made in
      sym (ap (take most) whole ∙ take_all most made m.few)
