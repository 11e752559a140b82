-- A time that is brought: timeouts that are due come one after another, until none is.
use Rattle.std.proofs.Common.{◌≡◌, ◌∙◌, false, ℕ, ◌<◌, List, [], ◌∷◌, ◌++◌, Option, Some, None, Result, Ok, Err, refl, sym, ap, subst}
use Rattle.std.specs.Prelude.{IsOk, OnOk}
use Rattle.std.specs.Io.KnownBytes.{Appends}
use Rattle.std.proofs.KnownBytes.{Appends-nil, Appends-trans}
use Rattle.ring_base.proofs.Results.{ok_always}
use Rattle.ring_base.specs.declared.fault.Fault.{Fault}
use Rattle.ring_base.specs.declared.timeout_kind.Kind.{Kind}
use Rattle.ring_object.specs.Operations.{Sequential}
use Rattle.ring_node_spec.specs.Stepping.{node_step}
use Rattle.ring_node_spec.specs.declared.input.Input.TheVariants as input
use Rattle.ring_records.specs.declared.token_outcome.TokenOutcome.TheVariants.{NoToken}
use Rattle.ring_clock.specs.Clocks.{ClockView, first_due_at, clock_after_timeout}
use Rattle.ring_clock.specs.StepOutcomes.{outcome_of}
use Rattle.ring_clock.proofs.Fewer.{due_count, fewer_due, fewer_taken}
use Rattle.ring_record_node.specs.NodeOutputs.{RecordNodeView, end_text}
use Rattle.ring_record_node.specs.RecordNodes.{IsStepNoted, TimesOut, HaveTimedOut, IsTimeBrought, HasWrittenUnlessFailed}
use Rattle.ring_record_node.proofs.Writing.{tells}

module _ {O A : Type 0} (object : Sequential O) (now : ℕ) (old : RecordNodeView A) where
  -- timeouts that were due came one after another
  pub record TimesOutSoFar (new : RecordNodeView A) (text : List ℕ) : Type 0 where
    pub kinds : List Kind
    pub due : HaveTimedOut object now old kinds new text

  -- fewer timeouts are due after it
  fewer_by : (at new : RecordNodeView A) (kind : Kind) (refused : Option Fault) → first_due_at at.clock now ≡ Some kind
      → IsStepNoted object (record at { clock = clock_after_timeout at.clock now (Some kind) }) (input.Timeout kind) refused new
      → due_count new.clock now < due_count at.clock now
  fewer_by at new kind None due acts =
      subst (λ (n : RecordNodeView A). due_count n.clock now < due_count at.clock now) (sym acts.1)
      (fewer_due at.clock now kind (outcome_of (input.Timeout kind) (node_step object at.node (input.Timeout kind)).sends) due)
  fewer_by at new kind (Some fault) due acts =
      subst (λ (n : RecordNodeView A). due_count n.clock now < due_count at.clock now) (sym acts.1) (fewer_taken at.clock now kind due)

  pub fewer_after : (at new : RecordNodeView A) (kind : Kind) (text : List ℕ) (due : Option Kind) (clock : ClockView) → due ≡ Some kind
      → due ≡ first_due_at at.clock now → clock ≡ clock_after_timeout at.clock now due → TimesOut object kind (record at { clock = clock }) new text
      → due_count new.clock now < due_count at.clock now
  fewer_after at new kind text due clock is first after timed =
      let clock_is : clock ≡ clock_after_timeout at.clock now (Some kind) = after ∙ ap (λ (f : Option Kind). clock_after_timeout at.clock now f) is in
      let taken = subst (λ (k : ClockView). TimesOut object kind (record at { clock = k }) new text) clock_is timed in
      fewer_by at new kind taken.0 (sym first ∙ is) taken.1

module _ {O A T E : Type 0} (object : Sequential O) (now : ℕ) (old : RecordNodeView A) where
  -- what came of them is written, unless the output failed
  abbrev pub IsBroughtSoFar : Result T E → Option (List ℕ) → Option (List ℕ) → RecordNodeView A → Type 0
  IsBroughtSoFar r out out' new = HasWrittenUnlessFailed r out out' (λ text. TimesOutSoFar object now old new text)

  pub none_brought : (r : Result T E) (out : Option (List ℕ)) → IsBroughtSoFar r out out old
  none_brought r out = tells r out out [] (λ text. TimesOutSoFar object now old old text) (ok_always r (Appends-nil out)) (record { kinds = []; due = (refl, refl) })

  writes_both : (r r' : Result T E) (out mid out' : Option (List ℕ)) (text more : List ℕ) → OnOk r' (IsOk r) → OnOk r (Appends out mid text)
      → OnOk r' (Appends mid out' more) → OnOk r' (Appends out out' (text ++ more))
  writes_both (Ok x) (Ok y) out mid out' text more before first then = Appends-trans out mid out' text more first then
  writes_both (Err e) (Ok y) out mid out' text more before first then = absurd (cc before)
  writes_both r (Err e) out mid out' text more before first then = tt

  -- one timeout more
  pub one_more_brought : (r r' : Result T E) (out mid out' : Option (List ℕ)) (at new : RecordNodeView A) (kind : Kind) (due : Option Kind) (clock : ClockView)
      → IsBroughtSoFar r out mid at → due ≡ Some kind → due ≡ first_due_at at.clock now → clock ≡ clock_after_timeout at.clock now due → OnOk r' (IsOk r)
      → HasWrittenUnlessFailed r' mid out' (λ text. TimesOut object kind (record at { clock = clock }) new text) → IsBroughtSoFar r' out out' new
  one_more_brought r r' out mid out' at new kind due clock w is first after before next =
      let clock_is : clock ≡ clock_after_timeout at.clock now (Some kind) = after ∙ ap (λ (f : Option Kind). clock_after_timeout at.clock now f) is in
      let timed = subst (λ (k : ClockView). TimesOut object kind (record at { clock = k }) new next.text) clock_is next.holds in
      record {
        text = w.text ++ next.text;
        told = writes_both r r' out mid out' w.text next.text before w.told next.told;
        holds = record { kinds = kind ∷ w.holds.kinds; due = (at, w.text, next.text, w.holds.due, (sym first ∙ is, timed), refl) };
      }

  -- none is due any more, and the end is written
  pub all_brought : (r r' : Result T E) (out mid out' : Option (List ℕ)) (last : RecordNodeView A) (due : Option Kind) (clock : ClockView)
      → IsBroughtSoFar r out mid last → due ≡ None → due ≡ first_due_at last.clock now → clock ≡ clock_after_timeout last.clock now due
      → OnOk r' (IsOk r) → OnOk r' (Appends mid out' (end_text (record last { clock = clock }) NoToken false))
      → HasWrittenUnlessFailed r' out out' (λ text. IsTimeBrought object now old (record last { clock = clock }) text)
  all_brought r r' out mid out' last due clock w is first after before ended =
      let new = record last { clock = clock } in
      let clock_is : clock ≡ clock_after_timeout last.clock now None = after ∙ ap (λ (f : Option Kind). clock_after_timeout last.clock now f) is in
      record {
        text = w.text ++ end_text new NoToken false;
        told = writes_both r r' out mid out' w.text (end_text new NoToken false) before w.told ended;
        holds = record {
          kinds = w.holds.kinds;
          last = last;
          told = w.text;
          due = w.holds.due;
          none = sym first ∙ is;
          after = ap (λ (k : ClockView). record last { clock = k }) clock_is;
          all = refl;
        };
      }
