-- A node that has dropped nothing sends no snapshot, so its due payloads don't depend on the bytes that it stores.
use Rattle.std.proofs.Common.{◌≡◌, ℕ, zero, suc, ◌<◌, ◌==◌, ◌&&◌, Bool, true, false, List, [], ◌∷◌, ◌++◌, length, Option, Some, None, refl, ap, sym}
use Rattle.std.proofs.Common.{◌∙◌, arith, if◌then◌else◌}
use Rattle.std.specs.Prelude.{nat_le, nat_lt, not}
use Rattle.std.proofs.lemmas.Bool.{cond-false, ltb-true, lt-ltb, ne_eqb}
use Rattle.ring_base.specs.Group.{is_primary}
use Rattle.ring_base.specs.Processors.{nobody}
use Rattle.ring_payload.specs.Limits.{max_snapshot}
use Rattle.ring_payload.specs.declared.head.Head.{Head as OneHead}
use Rattle.ring_core_spec.specs.Frames.{Message}
use Rattle.ring_core_spec.specs.declared.out.Out.{Out}
use Rattle.ring_core_spec.specs.declared.out.Out.TheVariants.{Send, Agreed, Safe, Trans, Rest, Regular}
use Rattle.ring_log.specs.declared.received_head.ReceivedHead.{ReceivedHead}
use Rattle.ring_log.specs.declared.wanted.Wanted.{Wanted}
use Rattle.ring_log.specs.Exchanges.{Exchange, exchange_opening, wanted_from_owner, wanted_from_heads, wanted}
use Rattle.ring_log.specs.Heads.{chosen_head, least_committed}
use Rattle.ring_log.specs.Logs.{Log}
use Rattle.ring_log.specs.Epochs.{Epoch, epochs_with_message}
use Rattle.ring_log.specs.EpochHistories.{exchange_after_messages}
use Rattle.ring_log.specs.KnownLog.{KnownLog, known_log_of, retained_log}
use Rattle.ring_replication.specs.NodeSpec.{has_all_heads, parts_due, snaps_due, is_snapshot_kept, places_due, owner_due, due_when_heads_complete, due_when_complete, owner_due_on_heads, epochs_after_event}
use Rattle.ring_replication.specs.Replications.{StepContext, bytes_at, is_running, due_context, due_sends_on_message, due_sends_at, due_sends_by}

-- a wanted snapshot stands for at least one place
some-places : (owner : ℕ) (head : OneHead) (least at : ℕ) → (wanted_from_owner owner head least).snapshot ≡ Some at → 0 < at
some-places owner head least at e = by (nat_lt least head.trimmed) refl e
  where
    with_it : Wanted
    with_it = record { owner = owner; snapshot = Some head.trimmed; from = head.trimmed; to = head.length }

    without : Wanted
    without = record { owner = owner; snapshot = None; from = least; to = head.length }

    by : (b : Bool) → nat_lt least head.trimmed ≡ b → (if b then with_it else without).snapshot ≡ Some at → 0 < at
    by true t e = (let l = ltb-true least head.trimmed t in let same : head.trimmed ≡ at = cc e in omega (arith, l, same))
    by false f e = absurd (cc e)

-- it isn't the stored one
never-sent : {A : Type 0} (bytes : List ℕ) (log : Log A) (w : Wanted) (at : ℕ) → log.trimmed ≡ 0 → 0 < at → places_due bytes log w (Some at) ≡ []
never-sent bytes log w at none some =
    cond-false (is_snapshot_kept bytes log at) (snaps_due at bytes ++ parts_due log w) []
    (ap (λ b. b && nat_le (length bytes) max_snapshot) (ne_eqb log.trimmed at (λ e. omega (arith, none, some, e))))

places-same : {A : Type 0} (bytes bytes' : List ℕ) (log : Log A) (w : Wanted) (o : Option ℕ) → log.trimmed ≡ 0 → ((at : ℕ) → o ≡ Some at → 0 < at)
    → places_due bytes log w o ≡ places_due bytes' log w o
places-same bytes bytes' log w None none some = refl
places-same bytes bytes' log w (Some at) none some = never-sent bytes log w at none (some at refl) ∙ sym (never-sent bytes' log w at none (some at refl))

owner-same : {A : Type 0} (me : ℕ) (bytes bytes' : List ℕ) (log : Log A) (e : Exchange A) → log.trimmed ≡ 0
    → owner_due me bytes log (wanted e) ≡ owner_due me bytes' log (wanted e)
owner-same me bytes bytes' log e none = by (e.missing_heads == nobody) e.heads
  where
    by : (b : Bool) (heads : List ReceivedHead)
        → owner_due me bytes log (if b then wanted_from_heads heads else None) ≡ owner_due me bytes' log (if b then wanted_from_heads heads else None)
    by false heads = refl
    by true [] = refl
    by true (s ∷ rest) =
        let head = (chosen_head s rest).head in
        let least = least_committed s.head.committed rest in
        let w = wanted_from_owner (chosen_head s rest).sender head least in
        ap (λ l. if w.owner == me then l else [])
        (places-same bytes bytes' log w w.snapshot none (some-places (chosen_head s rest).sender head least))

received_head-same : {A : Type 0} (me : ℕ) (bytes bytes' : List ℕ) (log : Log A) (old new : Exchange A) → log.trimmed ≡ 0
    → due_when_heads_complete me bytes log old new ≡ due_when_heads_complete me bytes' log old new
received_head-same me bytes bytes' log old new none =
    ap (λ l. if has_all_heads new && not (has_all_heads old) then l else []) (owner-same me bytes bytes' log new none)

module _ {A : Type 0} (m : StepContext A) (bytes : List ℕ) (none : m.trimmed ≡ 0) where
  abbrev other : StepContext A
  other = record m { snapshot = bytes }

  owner-due_sends : (k : KnownLog A) (old new : Exchange A) → owner_due_on_heads (due_context other) k old new ≡ owner_due_on_heads (due_context m) k old new
  owner-due_sends k old new = by k.trimmed refl
    where
      by : (n : ℕ) → k.trimmed ≡ n → owner_due_on_heads (due_context other) k old new ≡ owner_due_on_heads (due_context m) k old new
      by zero e = received_head-same m.me (bytes_at other k) (bytes_at m k) (retained_log k) old new e
      by (suc n) e =
          let some : nat_lt m.trimmed k.trimmed ≡ true = lt-ltb m.trimmed k.trimmed (omega (arith, none, e)) in
          ap (λ b. due_when_heads_complete m.me (if b then k.snapshot else bytes) (retained_log k) old new) some
          ∙ sym (ap (λ b. due_when_heads_complete m.me (if b then k.snapshot else m.snapshot) (retained_log k) old new) some)

  heard-first : (runs : Bool) (epochs : List (Epoch A)) (x : Message A) (after : List (Epoch A))
      → due_sends_on_message other runs epochs x after ≡ due_sends_on_message m runs epochs x after
  heard-first runs [] x after = refl
  heard-first runs (s ∷ older) x after =
      let old : Exchange A = exchange_after_messages (exchange_opening s.members) s.heard in
      let new : Exchange A = exchange_after_messages (exchange_opening s.members) (s.heard ++ x ∷ []) in
      ap (λ l. if runs then (if is_primary m.group s.members then l ++ due_when_complete (due_context m) after old new else []) else [])
      (owner-due_sends (known_log_of m.group (s ∷ older)) old new)

  at-first : (epochs : List (Epoch A)) (o : Out A) → due_sends_at other epochs o ≡ due_sends_at m epochs o
  at-first epochs (Agreed ring k x) = heard-first (is_running m.running ring) epochs x (epochs_with_message x epochs)
  at-first epochs (Safe ring upto) = refl
  at-first epochs (Regular ring set) = refl
  at-first epochs (Send to frame) = refl
  at-first epochs (Trans old new set) = refl
  at-first epochs (Rest ring k x) = refl

  pub due_sends-first : (epochs : List (Epoch A)) (outs : List (Out A)) → due_sends_by other epochs outs ≡ due_sends_by m epochs outs
  due_sends-first epochs [] = refl
  due_sends-first epochs (o ∷ outs) =
      ap (λ l. l ++ due_sends_by other (epochs_after_event epochs o) outs) (at-first epochs o) ∙ ap (λ l. due_sends_at m epochs o ++ l) (due_sends-first (epochs_after_event epochs o) outs)
