-- Tagged values as a list of cases: each case has a tag, the format of the body after it, and the value made from that
-- body.
-- Formats: Numbers and parts
use Rattle.std.proofs.Common.{◌≡◌, ℕ, Bool, true, false, eqb, cond, List, [], ◌∷◌, Option, None, sym, subst, ◌∙◌, inl, inr}
use Rattle.std.specs.Prelude.{◌==◌, if◌then◌else◌}
use Rattle.std.proofs.lemmas.Bool.{eqb-true, cases_Bool}
use Rattle.ring_codec.specs.Reading.{IsFormat, mapped_at, tagged_at}
use Rattle.ring_codec.specs.ReadingLaws.{made_format, nothing_format, tagged_format}
use Rattle.ring_codec.specs.Formats.{Format}

-- a case: a tag, the format of the body after it, and the value made from a body
pub record Case (A : Type 0) : Type 1 where
  pub tag : ℕ
  pub Body : Type 0
  pub body : Format Body
  pub make : Body → A

-- the case with this tag, this format of the body, and this function that makes the value
abbrev pub tagged_case : {A B : Type 0} → ℕ → Format B → (B → A) → Case A
tagged_case {A} {B} tag body make = record { tag = tag; Body = B; body = body; make = make }

-- reads the body after tag b
abbrev pub cases_at : {A : Type 0} → List (Case A) → ℕ → List ℕ → Option (A × List ℕ)
cases_at [] b bytes = None
cases_at (c ∷ cs) b bytes = if b == c.tag then mapped_at c.make c.body.at bytes else cases_at cs b bytes

-- reads a tag from the front, then the body after it
abbrev pub tagged_cases_at : {A : Type 0} → List (Case A) → List ℕ → Option (A × List ℕ)
tagged_cases_at cases bytes = tagged_at (cases_at cases) bytes

-- the value is made by the case of tag b, from a body that fits
abbrev pub IsMade : {A : Type 0} → List (Case A) → ℕ → A → Type 0
IsMade [] b a = ⊥
IsMade (c ∷ cs) b a = cond (b == c.tag) ((x : c.Body) × c.body.Fits x × (c.make x ≡ a)) (IsMade cs b a)

-- each value that the case makes has its tag, is encoded as its body, and fits
abbrev pub IsCase : {A : Type 0} → (A → ℕ) → (A → List ℕ) → (A → Type 0) → Case A → Type 0
IsCase tag body Fits c = (x : c.Body) → c.body.Fits x → (tag (c.make x) ≡ c.tag) × ((body (c.make x) ≡ c.body.encoding x) × Fits (c.make x))

-- each of the cases is such a case
abbrev pub AreCases : {A : Type 0} → (A → ℕ) → (A → List ℕ) → (A → Type 0) → List (Case A) → Type 0
AreCases tag body Fits [] = Unit {0}
AreCases tag body Fits (c ∷ cs) = IsCase tag body Fits c × AreCases tag body Fits cs

case_format : {A : Type 0} (tag : A → ℕ) (body : A → List ℕ) (Fits : A → Type 0) (cases : List (Case A)) (b : ℕ) → AreCases tag body Fits cases
    → ((a : A) → Fits a → tag a ≡ b → IsMade cases b a) → IsFormat body (λ a. Fits a × (tag a ≡ b)) (cases_at cases b)
case_format tag body Fits [] b are made = nothing_format body (λ a. Fits a × (tag a ≡ b)) (λ a f. made a f.0 f.1)
case_format {A} tag body Fits (c ∷ cs) b are made =
    let Of : A → Type 0 = λ a. Fits a × (tag a ≡ b) in
    let P : Bool → Type 0 = λ t. IsFormat body Of (λ bytes. cond t (mapped_at c.make c.body.at bytes) (cases_at cs b bytes)) in
    let Q : A → Bool → Type 0 = λ a t. cond t ((x : c.Body) × c.body.Fits x × (c.make x ≡ a)) (IsMade cs b a) in
    elim (cases_Bool (eqb b c.tag)) [
      | inl e ↦ subst P (sym e) (made_format c.body.encoding c.body.Fits c.body.at body Of c.make
          (λ x f. let t = are.0 x f in (t.1.0, (t.1.1, t.0 ∙ sym (eqb-true b c.tag e))))
          (λ a f. subst (Q a) e (made a f.0 f.1))
          c.body.exact)
      | inr e ↦ subst P (sym e) (case_format tag body Fits cs b are.1 (λ a f t. subst (Q a) e (made a f t)))
    ]

-- the cases make values that fit, and each value that fits is made by the case of its tag
pub record HasTaggedCases {A : Type 0} (cases : List (Case A)) (tag : A → ℕ) (body : A → List ℕ) (Fits : A → Type 0) : Type 0 where
  pub each : AreCases tag body Fits cases
  pub made : (a : A) → Fits a → IsMade cases (tag a) a

-- tagged values are read exactly, as a tag and the body after it
pub cases_format : {A : Type 0} (cases : List (Case A)) (tag : A → ℕ) (body : A → List ℕ) (Fits : A → Type 0) → HasTaggedCases cases tag body Fits
    → IsFormat (λ a. tag a ∷ body a) Fits (tagged_cases_at cases)
cases_format {A} cases tag body Fits told =
    tagged_format tag body Fits (cases_at cases)
    (λ b. case_format tag body Fits cases b told.each (λ a f e. subst (λ (k : ℕ). IsMade cases k a) e (told.made a f)))
