-- The list of all nodes but one.
use Rattle.std.proofs.Common.{◌≡◌, ℕ, suc, ◌+◌, Bool, if◌then◌else◌, List, [], ◌∷◌, ◌++◌, Option, sym, ap, refl, subst, ◌∙◌, arith, append-nil, append_assoc}
use Rattle.std.specs.Prelude.{codes, flat_map}
use Rattle.std.specs.Fmt.{decimal}
use Rattle.std.specs.Io.KnownBytes.{Appends}
use Rattle.std.specs.List.{join_by}
use Rattle.std.proofs.KnownBytes.{Appends-nil, Appends-trans}
use Rattle.std.proofs.lemmas.Bool.{ne_eqb, eq-eqb}
use Rattle.std.proofs.lemmas.Grind.{flat_map-append}
use Rattle.ring_sweep.specs.VariantTexts.{other_nodes}

-- What parts a further number from those before it.
abbrev pub parting_after : List ℕ → List ℕ
parting_after [] = []
parting_after (n ∷ ns) = codes ","

-- Numbers separated by commas.
abbrev pub joined : List ℕ → List ℕ
joined ns = join_by decimal (codes ",") ns

joined_more : (ns : List ℕ) (n : ℕ) → joined (ns ++ n ∷ []) ≡ joined ns ++ (parting_after ns ++ decimal n)
joined_more [] n = append-nil (decimal n)
joined_more (x ∷ ns) n =
    let each : ℕ → List ℕ = λ m. codes "," ++ decimal m in
    ap (λ (text : List ℕ). decimal x ++ text) (flat_map-append each ns (n ∷ []) ∙ ap (λ (text : List ℕ). flat_map each ns ++ text) (append-nil (each n)))
    ∙ sym (append_assoc (decimal x) (flat_map each ns) (each n))

parting_more : (ns : List ℕ) (n : ℕ) → codes "," ≡ parting_after (ns ++ n ∷ [])
parting_more [] n = refl
parting_more (x ∷ ns) n = refl

none_yet : (node : ℕ) → other_nodes node 0 ≡ []
unfolding other_nodes
none_yet node = refl

one_more : (node n : ℕ) → (node ≡ suc n → ⊥) → other_nodes node (suc n) ≡ other_nodes node n ++ suc n ∷ []
unfolding other_nodes
one_more node n other = ap (λ (same : Bool). other_nodes node n ++ (if same then [] else (suc n ∷ []))) (ne_eqb node (suc n) other)

itself : (node n : ℕ) → node ≡ suc n → other_nodes node (suc n) ≡ other_nodes node n
unfolding other_nodes
itself node n same =
    ap (λ (is : Bool). other_nodes node n ++ (if is then [] else (suc n ∷ []))) (eq-eqb node (suc n) same) ∙ append-nil (other_nodes node n)

-- The first nodes but this one were printed; a further number is parted from them so.
pub record AreListed (old new : Option (List ℕ)) (parting : List ℕ) (node n : ℕ) : Type 0 where
  pub printed : Appends old new (joined (other_nodes node n))
  pub parted : parting ≡ parting_after (other_nodes node n)

module _ (old new : Option (List ℕ)) (parting : List ℕ) (node : ℕ) where
  as_listed : (n : ℕ) (ns : List ℕ) → other_nodes node n ≡ ns → Appends old new (joined ns) → parting ≡ parting_after ns
      → AreListed old new parting node n
  as_listed n ns are printed parted = record {
    printed = subst (λ (ms : List ℕ). Appends old new (joined ms)) (sym are) printed;
    parted = parted ∙ ap parting_after (sym are);
  }

  -- The node itself is left out.
  pub itself_left : (n : ℕ) → node ≡ n + 1 → AreListed old new parting node n → AreListed old new parting node (n + 1)
  itself_left n same listed =
      let next : suc n ≡ n + 1 = omega arith in
      subst (λ (m : ℕ). AreListed old new parting node m) next
      (as_listed (suc n) (other_nodes node n) (itself node n (same ∙ sym next)) listed.printed listed.parted)

pub none_listed : (old : Option (List ℕ)) (node : ℕ) → AreListed old old [] node 0
none_listed old node = as_listed old old [] node 0 [] (none_yet node) (Appends-nil old) refl

-- One node more is listed.
pub one_listed : (old mid parted new : Option (List ℕ)) (parting : List ℕ) (node n : ℕ) → (node ≡ n + 1 → ⊥) → AreListed old mid parting node n
    → Appends mid parted parting → Appends parted new (decimal (n + 1)) → AreListed old new (codes ",") node (n + 1)
one_listed old mid parted new parting node n other listed part number =
    let next : suc n ≡ n + 1 = omega arith in
    let ns = other_nodes node n in
    let text : Appends old new (joined ns ++ (parting_after ns ++ decimal (suc n))) =
    Appends-trans old mid new (joined ns) (parting_after ns ++ decimal (suc n)) listed.printed
    (Appends-trans mid parted new (parting_after ns) (decimal (suc n))
    (subst (λ (xs : List ℕ). Appends mid parted xs) listed.parted part)
    (subst (λ (m : ℕ). Appends parted new (decimal m)) (sym next) number)) in
    subst (λ (m : ℕ). AreListed old new (codes ",") node m) next
    (as_listed old new (codes ",") node (suc n) (ns ++ suc n ∷ []) (one_more node n (λ same. other (same ∙ next)))
    (subst (λ (xs : List ℕ). Appends old new xs) (sym (joined_more ns (suc n))) text) (parting_more ns (suc n)))
