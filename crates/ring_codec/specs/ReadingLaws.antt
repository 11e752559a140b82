-- Laws of exact readings: combinations of exact readings are exact.
use Rattle.std.proofs.Common.{◌≡◌, ℕ, zero, suc, ◌^◌, ◌<◌, ◌≤◌, Bool, true, false, cond, ltb, eqb, List, [], ◌∷◌, ◌++◌}
use Rattle.std.proofs.Common.{length, take, drop, Option, Some, None, refl, sym, ap, subst, ◌∙◌, append_assoc, arith}
use Rattle.std.proofs.Common.{inl, inr}
use Rattle.std.proofs.lemmas.Bool.{ltb-false, le-ltb, eqb-true, eqb-false, cases_Bool}
use Rattle.std.proofs.lemmas.List.{append-nil, take_at, drop_at, take-append-drop, length-append, length-take, nil_from_length}
use Rattle.std.proofs.lemmas.List.Concat.{flat_map-cons}
use Rattle.std.specs.List.{flat_map, AllByRecursion}
use Rattle.byteorder.specs.Endian.{big_bytes}
use Rattle.ring_codec.specs.Reading.{◌>>=◌, IsBytes, IsSplitAfter, IsFormat, IsWord, number_at, raw_bytes_at, repeated_at, failing_at}
use Rattle.ring_codec.specs.Reading.{sequence_at, tested_at, mapped_at, tagged_at, sized_at, sized_with, empty_at}
use Rattle.ring_codec.specs.NumberFormats.{IsBytes-drop, IsBytes-take, guard_some, number_format4}

-- if two steps gave a value, the first gave one, and the second made the value from that
pub bind_some : {A B : Type 0} (r : Option A) (f : A → Option B) (y : B) → (r >>= f) ≡ Some y → (x : A) × (r ≡ Some x) × (f x ≡ Some y)
bind_some (Some x) f y e = (x, refl, e)
bind_some None f y e = absurd cc

abbrev some : {A : Type 0} → A → Option A
some x = Some x

-- options that are equal and have values have equal values
pub some_injective : {A : Type 0} (x y : A) → some x ≡ some y → x ≡ y
some_injective x y e = cc

-- if a test let a value through, it is true
pub passed_some : {A : Type 0} (b : Bool) (x y : A) → cond b (Some x) None ≡ Some y → (b ≡ true) × (x ≡ y)
passed_some true x y e = (refl, cc)
passed_some false x y e = absurd cc

-- two splits in sequence are a split after both texts
pub IsSplitAfter-then : (a x b y c : List ℕ) → IsSplitAfter a x b → IsSplitAfter b y c → IsSplitAfter a (x ++ y) c
IsSplitAfter-then a x b y c p q = record { parts = p.parts ∙ ap (λ (t : List ℕ). x ++ t) q.parts ∙ sym (append_assoc x y c); rest_fits = q.rest_fits }

-- reading n bytes unchanged is exact
pub text_format : (n : ℕ) → IsFormat (λ t. t) (λ t. length t ≡ n) (raw_bytes_at n)
text_format n = record {
  takes = λ bytes x fits e.
      let g = guard_some (ltb (length bytes) n) (take n bytes, drop n bytes) x e in
      let long : n ≤ length bytes = ltb-false _ _ g.0 in
      let P : List ℕ × List ℕ → Type 0 = λ y. IsSplitAfter bytes y.0 y.1 × (length y.0 ≡ n) in
      subst P g.1 (record { parts = sym (take-append-drop n bytes); rest_fits = IsBytes-drop n bytes fits }, omega (arith, length-take n bytes));
  again = λ v rest len.
      let long : ltb (length (v ++ rest)) n ≡ false = le-ltb _ _ (omega (arith, length-append v rest)) in
      rw (long, take_at v rest n len, drop_at v rest n len) refl;
}

text_bytes : (n : ℕ) (bytes : List ℕ) (x : List ℕ × List ℕ) → IsBytes bytes → raw_bytes_at n bytes ≡ Some x → IsBytes x.0
text_bytes n bytes x fits e =
    let g = guard_some (ltb (length bytes) n) (take n bytes, drop n bytes) x e in
    let P : List ℕ × List ℕ → Type 0 = λ y. IsBytes y.0 in
    subst P g.1 (IsBytes-take n bytes fits)

-- if no value fits, reading nothing is exact
pub nothing_format : {A : Type 0} (s : A → List ℕ) (F : A → Type 0) → ((a : A) → F a → ⊥) → IsFormat s F failing_at
nothing_format s F none = record {
  takes = λ bytes x fits e. absurd cc;
  again = λ v rest f. absurd (none v f);
}

-- reading one value, then another that may depend on it, is exact
pub then_format : {A B : Type 0} (sa : A → List ℕ) (FA : A → Type 0) (ra : List ℕ → Option (A × List ℕ))
    (sb : A → B → List ℕ) (FB : A → B → Type 0) (rb : A → List ℕ → Option (B × List ℕ))
    → IsFormat sa FA ra → ((a : A) → FA a → IsFormat (sb a) (FB a) (rb a)) → IsFormat (λ p. sa p.0 ++ sb p.0 p.1) (λ p. FA p.0 × FB p.0 p.1) (sequence_at ra rb)
then_format {A} {B} sa FA ra sb FB rb p q = record {
  takes = λ bytes x fits e.
      let a = bind_some (ra bytes) (λ u. rb u.0 u.1 >>= λ v. Some ((u.0, v.0), v.1)) x e in
      let b = bind_some (rb a.0.0 a.0.1) (λ v. Some ((a.0.0, v.0), v.1)) x a.2 in
      let ta = p.takes bytes a.0 fits a.1 in
      let tb = (q a.0.0 ta.1).takes a.0.1 b.0 ta.0.rest_fits b.1 in
      let made : (A × B) × List ℕ = ((a.0.0, b.0.0), b.0.1) in
      let P : (A × B) × List ℕ → Type 0 = λ y. IsSplitAfter bytes (sa y.0.0 ++ sb y.0.0 y.0.1) y.1 × (FA y.0.0 × FB y.0.0 y.0.1) in
      subst P (some_injective made x b.2) (IsSplitAfter-then bytes (sa a.0.0) a.0.1 (sb a.0.0 b.0.0) b.0.1 ta.0 tb.0, (ta.1, tb.1));
  again = λ v rest f.
      let e = append_assoc (sa v.0) (sb v.0 v.1) rest in
      rw (e, p.again v.0 (sb v.0 v.1 ++ rest) f.0, (q v.0 f.0).again v.1 rest f.1) refl;
}

-- reading a value that passes a test is exact, if exactly the values that pass fit
pub such_format : {A : Type 0} (s : A → List ℕ) (F G : A → Type 0) (at : List ℕ → Option (A × List ℕ)) (test : A → Bool)
    → ((a : A) → F a → test a ≡ true → G a) → ((a : A) → G a → F a × (test a ≡ true)) → IsFormat s F at → IsFormat s G (tested_at test at)
such_format {A} s F G at test to from p = record {
  takes = λ bytes x fits e.
      let a = bind_some (at bytes) (λ u. cond (test u.0) (Some u) None) x e in
      let g = passed_some (test a.0.0) a.0 x a.2 in
      let t = p.takes bytes a.0 fits a.1 in
      let P : A × List ℕ → Type 0 = λ y. IsSplitAfter bytes (s y.0) y.1 × G y.0 in
      subst P g.1 (t.0, to a.0.0 t.1 g.0);
  again = λ v rest g.
      let f = from v g in
      rw (p.again v rest f.0, f.1) refl;
}

-- reading a value made of another is exact, if it is encoded like the other and all values that fit are made so
pub made_format : {A B : Type 0} (sa : A → List ℕ) (FA : A → Type 0) (at : List ℕ → Option (A × List ℕ)) (sb : B → List ℕ) (FB : B → Type 0) (make : A → B)
    → ((a : A) → FA a → (sb (make a) ≡ sa a) × FB (make a)) → ((b : B) → FB b → (a : A) × FA a × (make a ≡ b))
    → IsFormat sa FA at → IsFormat sb FB (mapped_at make at)
made_format {A} {B} sa FA at sb FB make to from p = record {
  takes = λ bytes x fits e.
      let a = bind_some (at bytes) (λ u. Some (make u.0, u.1)) x e in
      let t = p.takes bytes a.0 fits a.1 in
      let k = to a.0.0 t.1 in
      let made : B × List ℕ = (make a.0.0, a.0.1) in
      let P : B × List ℕ → Type 0 = λ y. IsSplitAfter bytes (sb y.0) y.1 × FB y.0 in
      let there : IsSplitAfter bytes (sb (make a.0.0)) a.0.1 = rw k.0 t.0 in
      subst P (some_injective made x a.2) (there, k.1);
  again = λ b rest f.
      let a = from b f in
      let k = to a.0 a.1 in
      let text : sb b ≡ sa a.0 = ap sb (sym a.2) ∙ k.0 in
      rw (text, p.again a.0 rest a.1, a.2) refl;
}

take_tagged : {A : Type 0} (tag : A → ℕ) (s : A → List ℕ) (F : A → Type 0) (at : ℕ → List ℕ → Option (A × List ℕ))
    → ((b : ℕ) → IsFormat s (λ a. F a × (tag a ≡ b)) (at b)) → (bytes : List ℕ) (x : A × List ℕ) → IsBytes bytes
    → tagged_at at bytes ≡ Some x → IsSplitAfter bytes (tag x.0 ∷ s x.0) x.1 × F x.0
take_tagged tag s F at p [] x fits e = absurd cc
take_tagged tag s F at p (b ∷ bytes) x fits e =
    let t = (p b).takes bytes x (λ i. fits (suc i)) e in
    (record { parts = rw t.1.1 (ap (λ (w : List ℕ). b ∷ w) t.0.parts); rest_fits = t.0.rest_fits }, t.1.0)

-- reading a tag and the body after it is exact, if the body is read exactly for each tag
pub tagged_format : {A : Type 0} (tag : A → ℕ) (s : A → List ℕ) (F : A → Type 0) (at : ℕ → List ℕ → Option (A × List ℕ))
    → ((b : ℕ) → IsFormat s (λ a. F a × (tag a ≡ b)) (at b)) → IsFormat (λ a. tag a ∷ s a) F (tagged_at at)
tagged_format {A} tag s F at p = record { takes = take_tagged tag s F at p; again = λ v rest f. (p (tag v)).again v rest (f, refl) }

-- reading n values takes their encodings, one after the other
take_times : {A : Type 0} (s : A → List ℕ) (F : A → Type 0) (at : List ℕ → Option (A × List ℕ)) → IsFormat s F at
    → (n : ℕ) (bytes : List ℕ) (x : List A × List ℕ) → IsBytes bytes → repeated_at n at bytes ≡ Some x
    → IsSplitAfter bytes (flat_map s x.0) x.1 × ((length x.0 ≡ n) × AllByRecursion F x.0)
unfolding repeated_at
take_times {A} s F at p zero bytes x fits e =
    let P : List A × List ℕ → Type 0 = λ y. IsSplitAfter bytes (flat_map s y.0) y.1 × ((length y.0 ≡ 0) × AllByRecursion F y.0) in
    subst P (some_injective ([], bytes) x e) (record { parts = refl; rest_fits = fits }, (refl, tt))
take_times {A} s F at p (suc n) bytes x fits e =
    let a = bind_some (at bytes) (λ first. repeated_at n at first.1 >>= λ others. Some (first.0 ∷ others.0, others.1)) x e in
    let b = bind_some (repeated_at n at a.0.1) (λ others. Some (a.0.0 ∷ others.0, others.1)) x a.2 in
    let first = p.takes bytes a.0 fits a.1 in
    let second = take_times s F at p n a.0.1 b.0 first.0.rest_fits b.1 in
    let both = IsSplitAfter-then bytes (s a.0.0) a.0.1 (flat_map s b.0.0) b.0.1 first.0 second.0 in
    let made : List A × List ℕ = (a.0.0 ∷ b.0.0, b.0.1) in
    let P : List A × List ℕ → Type 0 = λ y. IsSplitAfter bytes (flat_map s y.0) y.1 × ((length y.0 ≡ suc n) × AllByRecursion F y.0) in
    subst P (some_injective made x b.2) (rw flat_map-cons both, (ap suc second.1.0, (first.1, second.1.1)))

again_times : {A : Type 0} (s : A → List ℕ) (F : A → Type 0) (at : List ℕ → Option (A × List ℕ)) → IsFormat s F at
    → (xs : List A) (rest : List ℕ) → AllByRecursion F xs → repeated_at (length xs) at (flat_map s xs ++ rest) ≡ Some (xs, rest)
unfolding repeated_at
again_times s F at p [] rest fits = refl
again_times s F at p (x ∷ xs) rest fits =
    let regrouped : flat_map s (x ∷ xs) ++ rest ≡ s x ++ (flat_map s xs ++ rest) = ap (λ (w : List ℕ). w ++ rest)
    (flat_map-cons s x xs) ∙ append_assoc (s x) (flat_map s xs) rest in
    ap (repeated_at (suc (length xs)) at) regrouped ∙ rw (p.again x (flat_map s xs ++ rest) fits.0, again_times s F at p xs rest fits.1) refl

-- reading n values in sequence is exact
pub times_format : {A : Type 0} (s : A → List ℕ) (F : A → Type 0) (at : List ℕ → Option (A × List ℕ)) → IsFormat s F at
    → (n : ℕ) → IsFormat (flat_map s) (λ xs. (length xs ≡ n) × AllByRecursion F xs) (repeated_at n at)
times_format {A} s F at p n = record {
  takes = take_times s F at p n;
  again = λ v rest f. subst (λ (k : ℕ). repeated_at k at (flat_map s v ++ rest) ≡ Some (v, rest)) f.0 (again_times s F at p v rest f.1);
}

-- reading a length, then a value of that length, is exact
sized_by : {A : Type 0} (sn : ℕ → List ℕ) (FN : ℕ → Type 0) (rn : List ℕ → Option (ℕ × List ℕ)) (s : A → List ℕ)
    (F : A → Type 0) (at : List ℕ → Option (A × List ℕ)) → IsFormat sn FN rn → ((a : A) → F a → FN (length (s a)))
    → IsFormat s F at
    → IsFormat (λ a. sn (length (s a)) ++ s a) F (sized_with rn at)
sized_by {A} sn FN rn s F at q short p = record {
  takes = λ bytes x fits e.
      let n = bind_some (rn bytes) (λ n. raw_bytes_at n.0 n.1 >>= λ text. at text.0 >>= λ y. cond (eqb (length y.1) 0) (Some (y.0, text.1)) None) x e in
      let t = bind_some (raw_bytes_at n.0.0 n.0.1) (λ text. at text.0 >>= λ y. cond (eqb (length y.1) 0) (Some (y.0, text.1)) None) x n.2 in
      let a = bind_some (at t.0.0) (λ y. cond (eqb (length y.1) 0) (Some (y.0, t.0.1)) None) x t.2 in
      let g = passed_some (eqb (length a.0.1) 0) (a.0.0, t.0.1) x a.2 in
      let tn = q.takes bytes n.0 fits n.1 in
      let tt' = (text_format n.0.0).takes n.0.1 t.0 tn.0.rest_fits t.1 in
      let ta = p.takes t.0.0 a.0 (text_bytes n.0.0 n.0.1 t.0 tn.0.rest_fits t.1) a.1 in
      let nil : a.0.1 ≡ [] = nil_from_length a.0.1 (eqb-true _ _ g.0) in
      let text : t.0.0 ≡ s a.0.0 = ta.0.parts ∙ ap (λ (w : List ℕ). s a.0.0 ++ w) nil ∙ append-nil (s a.0.0) in
      let len : n.0.0 ≡ length (s a.0.0) = sym tt'.1 ∙ ap length text in
      let both = IsSplitAfter-then bytes (sn n.0.0) n.0.1 t.0.0 t.0.1 tn.0 tt'.0 in
      let P : A × List ℕ → Type 0 = λ y. IsSplitAfter bytes (sn (length (s y.0)) ++ s y.0) y.1 × F y.0 in
      subst P g.1 (rw (← len, ← text) both, ta.1);
  again = λ v rest f.
      let e = append_assoc (sn (length (s v))) (s v) rest in
      let whole : at (s v) ≡ Some (v, []) = ap at (sym (append-nil (s v))) ∙ p.again v [] f in
      rw (e, q.again (length (s v)) (s v ++ rest) (short v f), (text_format (length (s v))).again (s v) rest refl, whole) refl;
}

-- reading a value prefixed by its length in 4 bytes is exact, if all values that fit are short enough
pub sized_format : {A : Type 0} (s : A → List ℕ) (F : A → Type 0) (at : List ℕ → Option (A × List ℕ))
    → ((a : A) → F a → length (s a) < 256 ^ 4) → IsFormat s F at
    → IsFormat (λ a. big_bytes 4 (length (s a)) ++ s a) F (sized_at at)
sized_format s F at short p = sized_by (λ v. big_bytes 4 v) (IsWord 4) (number_at 4) s F at number_format4 short p

-- reading the value of no bytes is exact
pub empty_format : IsFormat (λ (u : Unit {0}). []) (λ u. Unit {0}) (empty_at tt)
empty_format = record {
  takes = λ bytes x fits e. (
    record {
      parts = ap (λ (o : Unit {0} × List ℕ). o.1) (some_injective (tt, bytes) x e);
      rest_fits = subst (λ (o : Unit {0} × List ℕ). IsBytes o.1) (some_injective (tt, bytes) x e) fits;
    },
    tt,
  );
  again = λ v rest f. refl;
}
