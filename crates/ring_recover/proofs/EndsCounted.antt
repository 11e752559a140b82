-- One more of a new ring's messages is counted: the members whose Ends are seen, the last End, and whether there is a
-- user message.
use Rattle.std.proofs.Common.{◌≡◌, ℕ, suc, ◌+◌, ◌<◌, ◌≤◌, max, Bool, true, false, List, [], ◌∷◌, ◌++◌, map, refl, ap, ◌∙◌, sym, inl, inr, arith, length-append}
use Rattle.std.specs.Prelude.{◌||◌, ◌&&◌, ◌==◌, nat_le, ◌↔◌, ◌⊎◌, Contains}
use Rattle.std.specs.Cmp.{both_ways}
use Rattle.std.specs.List.{list_any, list_all}
use Rattle.std.proofs.lemmas.Bool.{or_cases, or_left, or_right, eqb-true, eq-eqb, le-leb, lt-leb, cond-true, cond-false}
use Rattle.std.proofs.lemmas.List.{map-append, append-nil}
use Rattle.std.proofs.lemmas.List.Elements.{filter-append}
use Rattle.std.proofs.lemmas.List.Folds.{list_any-append}
use Rattle.ring_base.specs.Numbers.{greatest}
use Rattle.ring_base.specs.Processors.{IsProc, IsMember, has, elements}
use Rattle.ring_base.specs.Members.{has_member, member_had}
use Rattle.ring_base.specs.Elements.{elements_members}
use Rattle.ring_base.proofs.Cases.{or-false}
use Rattle.ring_window.specs.Payloads.{is_user, is_end, Payload}
use Rattle.ring_window.specs.PayloadVariants.{Call, Wrapped, End, Head, Part, Pack, Snap}
use Rattle.ring_window.specs.Messages.{Message}
use Rattle.ring_recover.specs.Installing.{ends, has_end_of, has_user, all_ended, is_covered, is_ready_by}
use Rattle.ring_recover.specs.Ending.{HasEndCounts}

greatest-append : (xs ys : List ℕ) → greatest (xs ++ ys) ≡ max (greatest xs) (greatest ys)
greatest-append [] ys = omega arith
greatest-append (x ∷ xs) ys = omega (arith, greatest-append xs ys)

-- a member that is added is in the set from then on
inserted : (old new s i : ℕ) → IsProc i → ((j : ℕ) → IsMember new j ↔ (IsMember old j ⊎ (j ≡ s))) → has new i ≡ (has old i || (s == i))
inserted old new s i p f =
    both_ways (has new i) (has old i || (s == i))
    (λ h. elim ((f i).0 (member_had new i p.0 h)) [
      | inl m ↦ or_left (has old i) (s == i) (has_member old i m)
      | inr e ↦ or_right (has old i) (s == i) (eq-eqb s i (sym e))
    ])
    (λ h. elim (or_cases (has old i) (s == i) h) [
      | inl m ↦ has_member new i ((f i).1 (inl (member_had old i p.0 m)))
      | inr e ↦ has_member new i ((f i).1 (inr (sym (eqb-true s i e))))
    ])

module _ {A : Type 0} (xs : List (Message A)) (x : Message A) where
  ends_this : is_end x.payload ≡ true → ends (xs ++ x ∷ []) ≡ ends xs ++ x ∷ []
  ends_this h = filter-append (λ (y : Message A). is_end y.payload) xs (x ∷ []) ∙ ap (λ ys. ends xs ++ ys) (cond-true (is_end x.payload) (x ∷ []) [] h)

  ends_other : is_end x.payload ≡ false → ends (xs ++ x ∷ []) ≡ ends xs
  ends_other h = filter-append (λ (y : Message A). is_end y.payload) xs (x ∷ [])
      ∙ ap (λ ys. ends xs ++ ys) (cond-false (is_end x.payload) (x ∷ []) [] h) ∙ append-nil (ends xs)

  user_more : has_user (xs ++ x ∷ []) ≡ (has_user xs || is_user x.payload)
  user_more = list_any-append (λ (y : Message A). is_user y.payload) xs (x ∷ []) ∙ ap (λ b. has_user xs || b) (or-false (is_user x.payload))

  pub counted_end : (upto ended last : ℕ) (user : Bool) (more : ℕ) → HasEndCounts xs upto ended last user → is_end x.payload ≡ true → is_user x.payload ≡ false
      → ((j : ℕ) → IsMember more j ↔ (IsMember ended j ⊎ (j ≡ x.sender))) → HasEndCounts (xs ++ x ∷ []) (upto + 1) more (max last x.number) user
  counted_end upto ended last user more c h not_user f =
      let e = ends_this h in
      record {
        count = omega (arith, c.count, length-append xs (x ∷ []));
        members = λ i p.
            inserted ended more x.sender i p f ∙ ap (λ b. b || (x.sender == i)) (c.members i p)
            ∙ sym (ap (λ (ys : List (Message A)). list_any (λ (y : Message A). y.sender == i) ys) e
            ∙ list_any-append (λ (y : Message A). y.sender == i) (ends xs) (x ∷ []) ∙ ap (λ b. has_end_of xs i || b) (or-false (x.sender == i)));
        last_is =
            (let g : greatest (map (λ (y : Message A). y.number) (ends (xs ++ x ∷ []))) ≡ max (greatest (map
            (λ (y : Message A). y.number) (ends xs))) (greatest (x.number ∷ [])) =
            ap (λ (ys : List (Message A)). greatest (map (λ (y : Message A). y.number) ys)) e
            ∙ ap greatest (map-append (λ (y : Message A). y.number) (ends xs) (x ∷ []))
            ∙ greatest-append (map (λ (y : Message A). y.number) (ends xs)) (x.number ∷ []) in
            omega (arith, g, c.last_is));
        user_is = c.user_is ∙ sym (user_more ∙ ap (λ b. has_user xs || b) not_user ∙ or-false (has_user xs));
      }

  -- any other message is counted by whether it is a user's
  pub counted_other : (upto ended last : ℕ) (user more : Bool) → HasEndCounts xs upto ended last user → is_end x.payload ≡ false
      → more ≡ (user || is_user x.payload) → HasEndCounts (xs ++ x ∷ []) (upto + 1) ended last more
  counted_other upto ended last user more c h m =
      let e = ends_other h in
      record {
        count = omega (arith, c.count, length-append xs (x ∷ []));
        members = λ i p. c.members i p ∙ sym (ap (λ (ys : List (Message A)). list_any (λ (y : Message A). y.sender == i) ys) e);
        last_is = c.last_is ∙ sym (ap (λ (ys : List (Message A)). greatest (map (λ (y : Message A). y.number) ys)) e);
        user_is = m ∙ ap (λ b. b || is_user x.payload) c.user_is ∙ sym user_more;
      }

-- an End is not a user message
pub end_no_user : {A : Type 0} (p : Payload A) → is_end p ≡ true → is_user p ≡ false
end_no_user (Call call) h = absurd cc
end_no_user (Wrapped old) h = refl
end_no_user End h = refl
end_no_user (Head head) h = absurd cc
end_no_user (Part part) h = absurd cc
end_no_user (Pack pack) h = absurd cc
end_no_user (Snap snap) h = absurd cc

-- the Ends of all members are seen exactly where each member is in the set of those that ended
pub ended_all : {A : Type 0} (xs : List (Message A)) (upto ended last : ℕ) (user : Bool) (members : ℕ) → HasEndCounts xs upto ended last user
    → list_all (has ended) (elements members) ≡ all_ended xs members
ended_all xs upto ended last user members c = same (elements members) (λ i h. c.members i ((elements_members members i).0 h).0)
  where
    same : (is : List ℕ) → ((i : ℕ) → Contains is i → has ended i ≡ has_end_of xs i) → list_all (has ended) is ≡ list_all (has_end_of xs) is
    same [] h = refl
    same (i ∷ is) h = rw (h i (0, omega arith, refl), same is (λ j k. h j (suc k.0, omega (arith, k.1), k.2))) refl

-- so the three counts decide whether the ring may be installed
pub ready_is : {A : Type 0} (xs : List (Message A)) (upto ended last : ℕ) (user : Bool) (members mark : ℕ) (all covered : Bool)
    → HasEndCounts xs upto ended last user
    → list_all (has ended) (elements members) ≡ all → nat_le last mark ≡ covered → is_ready_by xs members mark ≡ (all && (covered || user))
ready_is xs upto ended last user members mark all covered c a b =
    let e = sym (ended_all xs upto ended last user members c) ∙ a in
    let f : is_covered xs mark ≡ covered = sym (ap (λ n. nat_le n mark) c.last_is) ∙ b in
    let u : has_user xs ≡ user = sym c.user_is in
    rw (e, f, u) refl

-- the same for each of the tests
pub ready_then : {A : Type 0} (xs : List (Message A)) (upto ended last : ℕ) (user : Bool) (members mark : ℕ) → HasEndCounts xs upto ended last user
    → list_all (has ended) (elements members) ≡ true → last ≤ mark → true ≡ is_ready_by xs members mark
ready_then xs upto ended last user members mark c a b = sym (ready_is xs upto ended last user members mark true true c a (le-leb last mark b))

pub ready_else : {A : Type 0} (xs : List (Message A)) (upto ended last : ℕ) (user : Bool) (members mark : ℕ) → HasEndCounts xs upto ended last user
    → list_all (has ended) (elements members) ≡ true → mark < last → user ≡ is_ready_by xs members mark
ready_else xs upto ended last user members mark c a b = sym (ready_is xs upto ended last user members mark true false c a (lt-leb last mark b))

pub ready_not : {A : Type 0} (xs : List (Message A)) (upto ended last : ℕ) (user : Bool) (members mark : ℕ) → HasEndCounts xs upto ended last user
    → list_all (has ended) (elements members) ≡ false → false ≡ is_ready_by xs members mark
ready_not xs upto ended last user members mark c a = sym (ready_is xs upto ended last user members mark false (nat_le last mark) c a refl)
