-- The variants are run one after another, in ranges one after the other.
use Rattle.std.proofs.Common.{◌≡◌, ℕ, zero, suc, ◌+◌, ◌-◌, ◌<◌, ◌≤◌, ◌⊎◌, inl, inr, ◌↔◌, IsTrue, Bool, true, false, List, Option, Some, None, Result, Ok, Err, IfOk, IfErr}
use Rattle.std.proofs.Common.{refl, sym, ap, subst, ◌∙◌, arith, ◌*◌, ◌/◌, le-div_iff_mul-le}
use Rattle.std.proofs.lemmas.Bool.{cases_lt}
use Rattle.std.specs.Io.KnownBytes.{Appends}
use Rattle.std.specs.Option.{option_or}
use Rattle.ring_base.specs.Group.{Group}
use Rattle.ring_object.specs.Operations.{Sequential}
use Rattle.ring_script.specs.declared.scripts.NumberedLine.{NumberedLine}
use Rattle.ring_console.specs.Worlds.{WorldView}
use Rattle.ring_console.specs.Running.{RunView, run_opening, HasPrinted}
use Rattle.ring_sweep.specs.declared.injection.Injection.{Injection}
use Rattle.ring_sweep.specs.Legal.{IsLegal}
use Rattle.ring_sweep.specs.declared.sweeping.SweepResult.{SweepResult}
use Rattle.ring_base.specs.declared.fault.Fault.TheVariants.{Memory}
use Rattle.ring_failure.specs.declared.failure.Failure.{Failure}
use Rattle.ring_failure.specs.declared.failure.Failure.TheVariants.{Output, Refused}
use Rattle.ring_sweep.specs.SweepResult.{are_legal, sweep_text, AllLegal, IsSweepResult, IsSweepText}
use Rattle.ring_sweep.specs.Variants.{steps_of, injection_at, first_illegal, AreStepsDone, HasEvents, IsVariant, IsTried, AreTried, AreTriedFrom, AreTriedIn, IsFirstIllegal}
use Rattle.ring_failure.specs.Shares.{share_begin}
use Rattle.ring_failure.proofs.Sharing.{shares_end}

module _ {O A : Type 0} (object : Sequential O) (group : Group) (lines : List (NumberedLine A)) where
  -- The script's own run.
  pub has_events : (ls : List (NumberedLine A)) (run t : RunView A) (done ended events : ℕ) → ls ≡ lines → run ≡ run_opening group → done ≡ 0
      → AreStepsDone object (steps_of ls) done ended run t → events ≡ ended → HasEvents object group lines events
  has_events ls run t done ended events same_lines same_run same_done h same = (
    t,
    subst (λ (n : ℕ). AreStepsDone object (steps_of lines) 0 n (run_opening group) t) (sym same)
        (subst (λ (r : RunView A). AreStepsDone object (steps_of lines) 0 ended r t) same_run
        (subst (λ (n : ℕ). AreStepsDone object (steps_of lines) n ended run t) same_done
        (subst (λ (xs : List (NumberedLine A)). AreStepsDone object (steps_of xs) done ended run t) same_lines h))),
  )

  -- A variant's run, and whether it is legal.
  pub is_tried : {E : Type 0} (r : Result Bool E) (u : Injection) (run : RunView A) (p : WorldView A)
      → IsVariant object (steps_of lines) u 0 (run_opening group) run → p ≡ run.world_view
      → IfOk r (λ is_legal. IsTrue is_legal ↔ IsLegal object p) → IfOk r (IsTried object group lines u)
  is_tried (Ok is_legal) u run p variant same legal =
      (run, (variant, subst (λ (q : WorldView A). IsTrue is_legal ↔ IsLegal object q) same legal))
  is_tried (Err x) u run p variant same legal = tt

  -- ---- ranges.

  -- The next variant's event is the same, or a later one.
  pub before_next : (place most each : ℕ) → 0 < each → most ≤ place / each → most ≤ (place + 1) / each
  before_next place most each some le =
      let whole : most * each ≤ place = (le-div_iff_mul-le {k = each} {x = most} {y = place} some).0 le in
      (le-div_iff_mul-le {k = each} {x = most} {y = place + 1} some).1 (omega (arith, whole))

  -- Of none of the variants.
  pub tried_none : (a : ℕ) → AreTriedIn object group lines a a None
  tried_none a = (0, omega arith, refl)

  -- One more variant.
  pub tried_more : (a p : ℕ) (others : Option Injection) (last : Bool) (illegal : Option Injection) → AreTriedIn object group lines a p others
      → IsTried object group lines (injection_at group.count p) last → illegal ≡ first_illegal others last (injection_at group.count p)
      → AreTriedIn object group lines a (p + 1) illegal
  tried_more a p others last illegal h one is =
      let next : p + 1 ≡ a + suc h.0 = let at = h.1 in omega (arith, at) in (
        suc h.0,
        next,
        (
          others,
          last,
          (
            h.2,
            subst (λ (k : ℕ). IsTried object group lines (injection_at group.count k) last) h.1 one,
            subst (λ (k : ℕ). illegal ≡ first_illegal others last (injection_at group.count k)) h.1 is,
          ),
        ),
      )

  first_none : (f : Option Injection) → option_or f None ≡ f
  first_none None = refl
  first_none (Some u) = refl

  first_more : (f g : Option Injection) (last : Bool) (u : Injection) → option_or f (first_illegal g last u) ≡ first_illegal (option_or f g) last u
  first_more None g last u = refl
  first_more (Some v) g last u = refl

  append_from : (a n m : ℕ) (f g : Option Injection) → AreTriedFrom object group lines a n f → AreTriedFrom object group lines (a + n) m g
      → AreTriedFrom object group lines a (n + m) (option_or f g)
  append_from a n zero f g h k =
      let same : f ≡ option_or f g = sym (ap (option_or f) k ∙ first_none f) in
      let many : n ≡ n + 0 = omega arith in
      subst (λ (i : ℕ). AreTriedFrom object group lines a i (option_or f g)) many (subst (λ (o : Option Injection). AreTriedFrom object group lines a n o) same h)
  append_from a n (suc m) f g h k =
      let place : a + n + m ≡ a + (n + m) = omega arith in
      let many : suc (n + m) ≡ n + suc m = omega arith in
      let first : option_or f g ≡ first_illegal (option_or f k.0) k.1 (injection_at group.count (a + n + m)) =
      ap (option_or f) k.2.2 ∙ first_more f k.0 k.1 (injection_at group.count (a + n + m)) in
      let whole : AreTriedFrom object group lines a (suc (n + m)) (option_or f g) = (
        option_or f k.0,
        k.1,
        (
          append_from a n m f k.0 h k.2.0,
          subst (λ (i : ℕ). IsTried object group lines (injection_at group.count i) k.1) place k.2.1,
          subst (λ (i : ℕ). option_or f g ≡ first_illegal (option_or f k.0) k.1 (injection_at group.count i)) place first,
        ),
      ) in
      subst (λ (i : ℕ). AreTriedFrom object group lines a i (option_or f g)) many whole

  -- The variants of one range, and those of the next.
  pub tried_append : (a b c : ℕ) (f g : Option Injection) → AreTriedIn object group lines a b f → AreTriedIn object group lines b c g
      → AreTriedIn object group lines a c (option_or f g)
  tried_append a b c f g h k =
      let ends : c ≡ a + (h.0 + k.0) = let at = h.1 in let upto = k.1 in omega (arith, at, upto) in
      (h.0 + k.0, ends, append_from a h.0 k.0 f g h.2 (subst (λ (i : ℕ). AreTriedFrom object group lines i k.0 g) h.1 k.2))

  -- None of them is left.
  pub tried_end : (a b : ℕ) → a ≤ b → b ≤ a → AreTriedIn object group lines a b None
  tried_end a b le ge = (0, omega (arith, le, ge), refl)

  -- The variants of one range and those of the next, with the first of them that is not legal.
  pub tried_rest : (a b c : ℕ) (f g all : Option Injection) → AreTriedIn object group lines a b f → AreTriedIn object group lines b c g
      → all ≡ option_or f g → AreTriedIn object group lines a c all
  tried_rest a b c f g all h k is = subst (λ (o : Option Injection). AreTriedIn object group lines a c o) (sym is) (tried_append a b c f g h k)

  from_first : (n : ℕ) (f : Option Injection) → AreTriedFrom object group lines 0 n f → AreTried object group lines n f
  from_first zero f h = h
  from_first (suc n) f h =
      let same : 0 + n ≡ n = omega arith in (
        h.0,
        h.1,
        (
          from_first n h.0 h.2.0,
          subst (λ (i : ℕ). IsTried object group lines (injection_at group.count i) h.1) same h.2.1,
          subst (λ (i : ℕ). f ≡ first_illegal h.0 h.1 (injection_at group.count i)) same h.2.2,
        ),
      )

  -- All of them.
  pub tried_all : (n : ℕ) (f : Option Injection) → AreTriedIn object group lines 0 n f → AreTried object group lines n f
  tried_all n f h =
      let same : h.0 ≡ n = let at = h.1 in omega (arith, at) in
      subst (λ (i : ℕ). AreTried object group lines i f) same (from_first h.0 f h.2)

  -- If all of them are one range.
  pub tried_whole : {E : Type 0} (n : ℕ) (r : Result (Option Injection) E) → IfOk r (λ (f : Option Injection). 0 ≤ n → AreTriedIn object group lines 0 n f)
      → IfOk r (AreTried object group lines n)
  tried_whole n (Ok f) h = tried_all n f (h (omega arith))
  tried_whole n (Err e) h = tt

  -- All of them in one share.
  pub tried_alone : (n : ℕ) (f : Option Injection)
      → AreTriedIn object group lines (0 + share_begin (n - 0) 1 0) (0 + share_begin (n - 0) 1 (0 + 1)) f → AreTried object group lines n f
  tried_alone n f h =
      let begin : 0 + share_begin (n - 0) 1 0 ≡ 0 = grind arith in
      let end : 0 + share_begin (n - 0) 1 (0 + 1) ≡ n = let all = shares_end (n - 0) 1 1 (omega arith) in omega (arith, all) in
      tried_all n f (subst (λ (i : ℕ). AreTriedIn object group lines 0 i f) end
      (subst (λ (i : ℕ). AreTriedIn object group lines i (0 + share_begin (n - 0) 1 (0 + 1)) f) begin h))

  -- One more share.
  pub tried_share : (from many shares k : ℕ) (f g : Option Injection) → AreTriedIn object group lines from (from + share_begin many shares k) f
      → AreTriedIn object group lines (from + share_begin many shares k) (from + share_begin many shares (k + 1)) g
      → AreTriedIn object group lines from (from + share_begin many shares (k + 1)) (option_or f g)
  tried_share from many shares k f g h more =
      tried_append from (from + share_begin many shares k) (from + share_begin many shares (k + 1)) f g h more

  -- The printed text if all variants are legal.
  pub all_legal : (r : Result SweepResult Failure) (old new : Option (List ℕ)) → AllLegal r → IfOk r (IsSweepResult object group lines)
      → IfOk r (λ s. Appends old new (sweep_text s)) → HasPrinted old new (IsSweepText object group lines true)
  all_legal (Ok s) old new none is prints = record {
    text = sweep_text s;
    appended = prints;
    holds = record { swept = s; is_swept = is; legal = ap are_legal none; whole = refl };
  }
  all_legal (Err x) old new none is prints = absurd none

  -- The printed text if a variant is not legal.
  printed_illegal : (o : Option Injection) (s : SweepResult) (old new : Option (List ℕ)) → s.illegal ≡ o → (s.illegal ≡ None → ⊥)
      → IsSweepResult object group lines s → Appends old new (sweep_text s) → HasPrinted old new (IsSweepText object group lines false)
  printed_illegal None s old new illegal some is prints = absurd (some illegal)
  printed_illegal (Some u) s old new illegal some is prints = record {
    text = sweep_text s;
    appended = prints;
    holds = record { swept = s; is_swept = is; legal = ap are_legal illegal; whole = refl };
  }

  -- At status 1 nothing is reported, or nothing is printed, or a variant is not legal.
  pub not_all_legal : {status : ℕ} {Quiet Same : Type 0} (r : Result SweepResult Failure) (old new : Option (List ℕ)) → (r ≡ Err Output → Quiet)
      → IfErr r (λ (failure : Failure). (failure ≡ Output) ⊎ ((failure ≡ Refused Memory) × Same)) → (status ≡ 0 ↔ AllLegal r)
      → IfOk r (IsSweepResult object group lines) → IfOk r (λ s. Appends old new (sweep_text s)) → status ≡ 1
      → Quiet ⊎ (Same ⊎ HasPrinted old new (IsSweepText object group lines false))
  not_all_legal (Err failure) old new quiet why status is prints one_is =
      elim why [
        | inl output ↦ inl (quiet (ap (λ (f : Failure). Err f) output))
        | inr refused ↦ inr (inl refused.1)
      ]
  not_all_legal (Ok s) old new quiet why status is prints one_is =
      inr (inr (printed_illegal s.illegal s old new refl (λ none. let zero_is = status.1 none in absurd (omega (arith, zero_is, one_is))) is prints))

  -- All of the first `n` variants are legal.
  abbrev All : ℕ → Type 0
  All n = (k : ℕ) → k < n → IsTried object group lines (injection_at group.count k) true

  -- The meaning of the first variant, of `n`, that is not legal.
  abbrev pub Says : ℕ → Option Injection → Type 0
  Says n None = All n
  Says n (Some u) = IsFirstIllegal object group lines n u

  at_last : (n k : ℕ) → All n → IsTried object group lines (injection_at group.count n) true → k < suc n → (k < n) ⊎ (n ≤ k)
      → IsTried object group lines (injection_at group.count k) true
  at_last n k all one lt (inl below) = all k below
  at_last n k all one lt (inr above) =
      let same : n ≡ k = omega (arith, lt, above) in subst (λ (j : ℕ). IsTried object group lines (injection_at group.count j) true) same one

  says_more : (n : ℕ) (others : Option Injection) (last : Bool) → Says n others → IsTried object group lines (injection_at group.count n) last
      → Says (suc n) (first_illegal others last (injection_at group.count n))
  says_more n (Some u) last h one = record {
    place = h.place;
    within = let lt = h.within in omega (arith, lt);
    is = h.is;
    illegal = h.illegal;
    before = h.before;
  }
  says_more n None true h one = λ k lt. at_last n k h one lt (cases_lt k n)
  says_more n None false h one = record { place = n; within = omega arith; is = refl; illegal = one; before = h }

  pub says : (n : ℕ) (illegal : Option Injection) → AreTried object group lines n illegal → Says n illegal
  says zero illegal h = subst (Says zero) (sym h) (λ k lt. absurd (omega (arith, lt)))
  says (suc n) illegal h = subst (Says (suc n)) (sym h.2.2) (says_more n h.0 h.1 (says n h.0 h.2.0) h.2.1)
