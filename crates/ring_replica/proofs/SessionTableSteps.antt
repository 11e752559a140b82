-- In a step the sessions, the calls done and the number of calls that took effect continue from before, or from a restored
-- snapshot.
-- This is stated by the known logs before and after the step.
use Rattle.std.proofs.Common.{◌≡◌, ℕ, ◌+◌, ◌-◌, ◌^◌, ◌≤◌, ◌==◌, ◌||◌, max, min, true, false, List, [], ◌∷◌, ◌++◌, take, drop, inl, inr, Option}
use Rattle.std.proofs.Common.{Some, None, refl, ap, sym, ◌∙◌, arith, if◌then◌else◌}
use Rattle.std.specs.Prelude.{fold, nat_lt, is_some, is_none}
use Rattle.std.proofs.lemmas.Bool.{cond-true, cond-false, lt-ltb, ne_eqb}
use Rattle.std.proofs.lemmas.List.{take-append-drop, take-take, drop-take}
use Rattle.std.proofs.lemmas.List.Sums.{fold-append}
use Rattle.ring_base.proofs.ListFronts.{drop-more}
use Rattle.ring_base.specs.declared.fault.Fault.TheVariants.{BadSnapshot}
use Rattle.ring_object.specs.Operations.{Sequential}
use Rattle.ring_object.specs.Snapshots.{IsSnapshotRefusal}
use Rattle.ring_payload.specs.declared.call.Call.{Call as OneCall}
use Rattle.ring_log.specs.KnownLog.{KnownLog, IsKnownLog, retained_log}
use Rattle.ring_log.specs.Logs.{Log}
use Rattle.ring_session.specs.Snapshots.{restored_table}
use Rattle.ring_session.specs.SessionAnswer.{is_done}
use Rattle.ring_session.specs.Table.{Table, opening as table_opening, table_answer, table_next}
use Rattle.ring_session.specs.TicketEffects.{done_after, table_effects}
use Rattle.ring_replication.specs.NodeSpec.{restored_table_or, table_before, table_after_places, effects_at, is_restored, table_since}
use Rattle.ring_replication.specs.Replications.{HeldLog, IsKnownLogExtended, RestoresMore, MayRestore}
use Rattle.ring_replica.specs.Replicas.{newly_committed_calls, is_table_held, table_held}
use Rattle.ring_replica.proofs.SessionsUnchanged.{before-on, table-on}
use Rattle.ring_replication.proofs.Messages.{never-less}

done-append : {O A : Type 0} (object : Sequential O) (t : Table O) (xs ys : List (OneCall A))
    → done_after object t (xs ++ ys) ≡ done_after object t xs + done_after object (fold (table_next object) t xs) ys
done-append object t [] ys = omega arith
done-append object t (x ∷ xs) ys =
    let more = done-append object (table_next object t x) xs ys in
    let one : ℕ = if is_done (table_answer object t x) then 1 else 0 in
    omega (arith, more)

-- the calls after those that were committed, of a log that drops no more
behind-known : {A : Type 0} (k now : KnownLog A) → IsKnownLogExtended k now → IsKnownLog k
    → newly_committed_calls k.committed (retained_log now) ≡ drop (k.committed - now.from) (take (now.committed - now.from) now.calls)
behind-known k now on is =
    let f = now.from in
    let t = now.trimmed in
    let c = now.committed in
    let first : max k.committed t - t ≡ k.committed - t = (let h = is.high in let e = on.trimmed in omega (arith, h, e)) in
    let low : f ≤ t = (let l = is.low in let a = on.from in let b = on.trimmed in omega (arith, l, a, b)) in
    let high : t ≤ k.committed = (let h = is.high in let e = on.trimmed in omega (arith, h, e)) in
    let more : (t - f) + (c - t) ≡ c - f = (let g = on.committed in omega (arith, low, high, g)) in
    let sum : (t - f) + (k.committed - t) ≡ k.committed - f = omega (arith, low, high) in
    ap (λ n. drop n (take (c - t) (drop (t - f) now.calls))) first
    ∙ ap (drop (k.committed - t)) (sym (drop-take (t - f) (c - t) now.calls) ∙ ap (λ n. drop (t - f) (take n now.calls)) more)
    ∙ drop-more (t - f) (k.committed - t) (take (c - f) now.calls) ∙ ap (λ n. drop n (take (c - f) now.calls)) sum

-- all calls of a log that begins after a snapshot, which stands for more than was committed
behind-restored : {A : Type 0} (h : HeldLog A) (k now : KnownLog A) → RestoresMore h k now
    → newly_committed_calls k.committed (retained_log now) ≡ take (now.committed - now.from) now.calls
behind-restored h k now r =
    let f = now.from in
    let c = now.committed in
    let none : max k.committed now.trimmed - now.trimmed ≡ 0 = (let p = r.past in let e = r.from in omega (arith, p, e)) in
    let zero_is : now.trimmed - f ≡ 0 = (let e = r.from in omega (arith, e)) in
    ap (λ n. drop n (take (c - now.trimmed) (drop (now.trimmed - f) now.calls))) none
    ∙ ap (λ n. take (c - now.trimmed) (drop n now.calls)) zero_is ∙ ap (λ n. take (c - n) now.calls) r.from

module _ {O A : Type 0} (object : Sequential O) (old h : HeldLog A) (k now : KnownLog A) (is : IsKnownLog k) (none : old.before ≡ None) where
  not-first : RestoresMore h k now → (now.from == 0) ≡ false
  not-first r = ne_eqb now.from 0 (λ e. (let p = r.past in omega (arith, p, e)))

  -- the sessions to which the step's calls are applied
  pub held-since : (table : Table O) → table ≡ table_after_places object k k.committed → MayRestore old h k now → table_held object h table ≡ table_since object k now
  held-since table was (inl g) =
      ap (λ b. if is_some b then restored_table_or object (restored_table object.restored h.snapshot) else table) (g.before ∙ none) ∙ was
      ∙ sym (ap (λ n. if nat_lt k.trimmed n then table_before object now else table_after_places object k k.committed) g.known.trimmed
      ∙ cond-false (nat_lt k.trimmed k.trimmed) (table_before object now) (table_after_places object k k.committed) (never-less k.trimmed))
  held-since table was (inr r) =
      ap (λ b. if b then restored_table_or object (restored_table object.restored h.snapshot) else table) r.before
      ∙ ap (λ bs. restored_table_or object (restored_table object.restored bs)) r.snapshot
      ∙ sym (cond-true (nat_lt k.trimmed now.trimmed) (table_before object now) (table_after_places object k k.committed)
      (lt-ltb k.trimmed now.trimmed (let l = r.trimmed in omega (arith, l)))
      ∙ cond-false (now.from == 0) (table_opening object.initial) (restored_table_or object (restored_table object.restored now.snapshot)) (not-first r))

  -- the restored bytes are a snapshot
  pub held-restored : is_restored object k ≡ true → MayRestore old h k now → is_table_held object h ≡ is_restored object now
  held-restored was (inl g) =
      ap (λ b. is_none b || is_some (restored_table object.restored h.snapshot)) (g.before ∙ none)
      ∙ sym (ap (λ n. (n == 0) || is_some (restored_table object.restored now.snapshot)) g.known.from
      ∙ ap (λ bs. (k.from == 0) || is_some (restored_table object.restored bs)) g.known.bytes ∙ was)
  held-restored was (inr r) =
      some-before h.before r.before
      ∙ ap (λ bs. is_some (restored_table object.restored bs)) r.snapshot
      ∙ sym (ap (λ b. b || is_some (restored_table object.restored now.snapshot)) (not-first r))
    where
      some-before : (o : Option (Log A)) → is_some o ≡ true
          → (is_none o || is_some (restored_table object.restored h.snapshot)) ≡ is_some (restored_table object.restored h.snapshot)
      some-before None e = absurd (cc e)
      some-before (Some x) e = refl

  -- then all committed places are applied
  pub table-done : MayRestore old h k now
      → fold (table_next object) (table_since object k now) (newly_committed_calls k.committed (retained_log now)) ≡ table_after_places object now now.committed
  table-done (inl g) =
      let f = now.from in
      let all = take (now.committed - f) now.calls in
      let few : k.committed - f ≤ now.committed - f = (let c = g.known.committed in omega (arith, c)) in
      let since : table_since object k now ≡ fold (table_next object) (table_before object now) (take (k.committed - f) all) =
      ap (λ n. if nat_lt k.trimmed n then table_before object now else table_after_places object k k.committed) g.known.trimmed
      ∙ cond-false (nat_lt k.trimmed k.trimmed) (table_before object now) (table_after_places object k k.committed) (never-less k.trimmed)
      ∙ sym (table-on object k now g.known is k.committed (omega arith))
      ∙ ap (fold (table_next object) (table_before object now)) (sym (take-take (k.committed - f) (now.committed - f) now.calls few)) in
      ap (λ t. fold (table_next object) t (newly_committed_calls k.committed (retained_log now))) since
      ∙ ap (fold (table_next object) (fold (table_next object) (table_before object now) (take (k.committed - f) all))) (behind-known k now g.known is)
      ∙ sym (fold-append (table_next object) (table_before object now) (take (k.committed - f) all) (drop (k.committed - f) all))
      ∙ ap (fold (table_next object) (table_before object now)) (take-append-drop (k.committed - f) all)
  table-done (inr r) =
      ap (λ t. fold (table_next object) t (newly_committed_calls k.committed (retained_log now)))
      (cond-true (nat_lt k.trimmed now.trimmed) (table_before object now) (table_after_places object k k.committed)
      (lt-ltb k.trimmed now.trimmed (let l = r.trimmed in omega (arith, l))))
      ∙ ap (fold (table_next object) (table_before object now)) (behind-restored h k now r)

  -- the number of calls that took effect
  pub effects-done : (effects : ℕ) → effects ≡ effects_at object k k.committed → MayRestore old h k now
      → min (2 ^ 64 - 1) ((if is_some h.before then table_effects (table_since object k now) else effects)
      + done_after object (table_since object k now) (newly_committed_calls k.committed (retained_log now))) ≡ effects_at object now now.committed
  effects-done effects was (inl g) =
      let f = now.from in
      let all = take (now.committed - f) now.calls in
      let few : k.committed - f ≤ now.committed - f = (let c = g.known.committed in omega (arith, c)) in
      let before = table_before object now in
      let mid = fold (table_next object) before (take (k.committed - f) all) in
      let since : table_since object k now ≡ mid =
      ap (λ n. if nat_lt k.trimmed n then before else table_after_places object k k.committed) g.known.trimmed
      ∙ cond-false (nat_lt k.trimmed k.trimmed) before (table_after_places object k k.committed) (never-less k.trimmed)
      ∙ sym (table-on object k now g.known is k.committed (omega arith))
      ∙ ap (fold (table_next object) before) (sym (take-take (k.committed - f) (now.committed - f) now.calls few)) in
      let own : take (k.committed - k.from) k.calls ≡ take (k.committed - f) all =
      sym g.known.places ∙ ap (λ n. take (k.committed - n) now.calls) (sym g.known.from)
      ∙ sym (take-take (k.committed - f) (now.committed - f) now.calls few) in
      let told : effects_at object k k.committed ≡ min (2 ^ 64 - 1) (table_effects before + done_after object before (take (k.committed - f) all)) =
      ap (λ (t : Table O). min (2 ^ 64 - 1) (table_effects t + done_after object t (take (k.committed - k.from) k.calls)))
      (sym (before-on object k now g.known is))
      ∙ ap (λ l. min (2 ^ 64 - 1) (table_effects before + done_after object before l)) own in
      let more : done_after object (table_since object k now) (newly_committed_calls k.committed (retained_log now)) ≡ done_after object mid (drop (k.committed - f) all) =
      ap (λ (t : Table O). done_after object t (newly_committed_calls k.committed (retained_log now))) since ∙ ap (done_after object mid) (behind-known k now g.known is) in
      let sum : done_after object before all ≡ done_after object before (take (k.committed - f) all) + done_after object mid (drop (k.committed - f) all) =
      ap (done_after object before) (sym (take-append-drop (k.committed - f) all))
      ∙ done-append object before (take (k.committed - f) all) (drop (k.committed - f) all) in
      ap (λ b. min (2 ^ 64 - 1) ((if is_some b then table_effects (table_since object k now) else effects)
      + done_after object (table_since object k now) (newly_committed_calls k.committed (retained_log now)))) (g.before ∙ none)
      ∙ few-min effects (done_after object (table_since object k now) (newly_committed_calls k.committed (retained_log now))) (table_effects before)
      (done_after object before (take (k.committed - f) all)) (done_after object mid (drop (k.committed - f) all)) (done_after object before all) (was ∙ told)
      more sum
    where
      few-min : (e m a b c all : ℕ) → e ≡ min (2 ^ 64 - 1) (a + b) → m ≡ c → all ≡ b + c → min (2 ^ 64 - 1) (e + m) ≡ min (2 ^ 64 - 1) (a + all)
      few-min e m a b c all x y z = limit (2 ^ 64 - 1) e m a b c all x y z
        where
          limit : (most e m a b c all : ℕ) → e ≡ min most (a + b) → m ≡ c → all ≡ b + c → min most (e + m) ≡ min most (a + all)
          limit most e m a b c all x y z = omega (arith, x, y, z)
  effects-done effects was (inr r) =
      ap (λ b. min (2 ^ 64 - 1) ((if b then table_effects (table_since object k now) else effects)
      + done_after object (table_since object k now) (newly_committed_calls k.committed (retained_log now)))) r.before
      ∙ ap (λ (t : Table O). min (2 ^ 64 - 1) (table_effects t + done_after object t (newly_committed_calls k.committed (retained_log now))))
      (cond-true (nat_lt k.trimmed now.trimmed) (table_before object now) (table_after_places object k k.committed)
      (lt-ltb k.trimmed now.trimmed (let l = r.trimmed in omega (arith, l))))
      ∙ ap (λ l. min (2 ^ 64 - 1) (table_effects (table_before object now) + done_after object (table_before object now) l)) (behind-restored h k now r)

-- ---- the restored sessions, by whether there is a snapshot to restore and whether its bytes are one

module _ {O A : Type 0} (object : Sequential O) (h : HeldLog A) where
  none-by : (o : Option (Log A)) → is_some o ≡ false → is_none o ≡ true
  none-by None e = refl
  none-by (Some x) e = absurd (cc e)

  some-by : (o : Option (Log A)) → is_some o ≡ true → is_none o ≡ false
  some-by None e = absurd (cc e)
  some-by (Some x) e = refl

  pub kept-fits : is_some h.before ≡ false → is_table_held object h ≡ true
  kept-fits none = ap (λ b. b || is_some (restored_table object.restored h.snapshot)) (none-by h.before none)

  pub kept-table : (table : Table O) → is_some h.before ≡ false → table_held object h table ≡ table
  kept-table table none = cond-false (is_some h.before) (restored_table_or object (restored_table object.restored h.snapshot)) table none

  fits-by : is_some h.before ≡ true → is_table_held object h ≡ is_some (restored_table object.restored h.snapshot)
  fits-by some = ap (λ b. b || is_some (restored_table object.restored h.snapshot)) (some-by h.before some)

  pub restored-fits : (bytes : List ℕ) (table : Table O) → bytes ≡ h.snapshot → is_some h.before ≡ true → restored_table object.restored bytes ≡ Some table
      → is_table_held object h ≡ true
  restored-fits bytes table same some e =
      fits-by some ∙ ap (λ bs. is_some (restored_table object.restored bs)) (sym same) ∙ ap is_some e

  pub restored-table : (old : Table O) (bytes : List ℕ) (table : Table O) → bytes ≡ h.snapshot → is_some h.before ≡ true
      → restored_table object.restored bytes ≡ Some table → table_held object h old ≡ table
  restored-table old bytes table same some e =
      cond-true (is_some h.before) (restored_table_or object (restored_table object.restored h.snapshot)) old some
      ∙ ap (λ bs. restored_table_or object (restored_table object.restored bs)) (sym same) ∙ ap (restored_table_or object) e

  pub lost-fits : (bytes : List ℕ) → bytes ≡ h.snapshot → is_some h.before ≡ true → IsSnapshotRefusal (restored_table object.restored bytes) BadSnapshot
      → is_table_held object h ≡ false
  lost-fits bytes same some refused =
      fits-by some ∙ ap (λ bs. is_some (restored_table object.restored bs)) (sym same) ∙ lost (restored_table object.restored bytes) refused
    where
      lost : (o : Option (Table O)) → IsSnapshotRefusal o BadSnapshot → is_some o ≡ false
      lost None e = refl
      lost (Some t) e = absurd (cc e)
