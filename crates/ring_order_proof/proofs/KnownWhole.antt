-- The tables and the snapshot of the known log are those of the whole log's first places. The committed places that it keeps are
-- the rest.
use Rattle.std.proofs.Common.{◌≡◌, ℕ, ◌+◌, ◌-◌, ◌≤◌, ◌<◌, max, true, List, ◌++◌, length, take, drop, ap, sym, ◌∙◌, arith}
use Rattle.std.specs.Prelude.{nat_lt}
use Rattle.std.proofs.lemmas.Bool.{cond_both, ltb-true, ltb-false}
use Rattle.std.proofs.lemmas.List.{take-append-drop, drop-take}
use Rattle.ring_base.specs.Prefixes.{IsListPrefix}
use Rattle.ring_base.proofs.ListFronts.{take-front, take-whole, drop-more}
use Rattle.ring_object.specs.Operations.{Sequential}
use Rattle.ring_payload.specs.declared.call.Call.{Call as OneCall}
use Rattle.ring_log.specs.KnownLog.{KnownLog, retained_log}
use Rattle.ring_log.specs.Logs.{committed_calls}
use Rattle.ring_session.specs.Snapshots.{table_snapshot}
use Rattle.ring_session.specs.Table.{table_after}
use Rattle.ring_node_spec.specs.Nodes.{table_before, table_after_places, snapshot_kept, is_restored}
use Rattle.ring_node_spec.specs.Stepping.{newly_committed, table_since}
use Rattle.ring_order_proof.proofs.RestoredTables.{Told, before-told, is-restored, at-told, snapshot-told}

-- the known log is the rest of this log, with these committed places
pub record HasPlaces {A : Type 0} (k : KnownLog A) (log whole : List (OneCall A)) : Type 0 where
  pub calls : k.calls ≡ drop k.from log
  pub low : k.from ≤ k.trimmed
  pub high : k.trimmed ≤ k.committed
  pub committed : k.committed ≡ length whole
  pub within : IsListPrefix whole log

-- the committed places that are kept
pub committed-places : {A : Type 0} (k : KnownLog A) (log whole : List (OneCall A)) → HasPlaces k log whole → committed_calls (retained_log k) ≡ drop k.trimmed whole
committed-places k log whole has =
    let f = k.from in
    let t = k.trimmed in
    let c = k.committed in
    let more : f + (t - f) ≡ t = (let l = has.low in omega (arith, l)) in
    let sum : t + (c - t) ≡ c = (let h = has.high in omega (arith, h)) in
    ap (λ l. take (c - t) (drop (t - f) l)) has.calls
    ∙ ap (take (c - t)) (drop-more f (t - f) log ∙ ap (λ n. drop n log) more)
    ∙ sym (drop-take t (c - t) log)
    ∙ ap (λ n. drop t (take n log)) (sum ∙ has.committed) ∙ ap (drop t) (take-whole whole log has.within)

-- what is newly committed comes after what was committed, or after what is restored
pub newly_committed-places : {A : Type 0} (old k : KnownLog A) (log whole : List (OneCall A)) → HasPlaces k log whole
    → take (max old.committed k.trimmed) whole ++ newly_committed old k ≡ whole
newly_committed-places old k log whole has =
    let before = max old.committed k.trimmed in
    let sum : k.trimmed + (before - k.trimmed) ≡ before = omega arith in
    ap (λ l. take before whole ++ drop (before - k.trimmed) l) (committed-places k log whole has)
    ∙ ap (λ l. take before whole ++ l) (drop-more k.trimmed (before - k.trimmed) whole ∙ ap (λ n. drop n whole) sum)
    ∙ take-append-drop before whole

-- if it was restored, that is the snapshot of the table after its places
pub record Knows {O A : Type 0} (object : Sequential O) (k : KnownLog A) (log whole : List (OneCall A)) : Type 0 where
  pub calls : k.calls ≡ drop k.from log
  pub low : k.from ≤ k.trimmed
  pub high : k.trimmed ≤ k.committed
  pub committed : k.committed ≡ length whole
  pub within : IsListPrefix whole log
  pub told : Told object k.from k.snapshot log

module _ {O A : Type 0} (object : Sequential O) (k : KnownLog A) (log whole : List (OneCall A)) (knows : Knows object k log whole) where
  first-same : (n : ℕ) → n ≤ k.committed → take n log ≡ take n whole
  first-same n le = take-front whole log n knows.within (omega (arith, le, knows.committed))

  -- the table after committed places
  pub table-known : (n : ℕ) → k.from ≤ n → n ≤ k.committed → table_after_places object k n ≡ table_after object (take n whole)
  table-known n low le = at-told object k log knows.told knows.calls n low ∙ ap (table_after object) (first-same n le)

  pub before-known : table_before object k ≡ table_after object (take k.from whole)
  before-known =
      before-told object k log knows.told ∙ ap (table_after object) (first-same k.from (let l = knows.low in let h = knows.high in omega (arith, l, h)))

  -- the snapshot that is kept
  pub snapshot-known : snapshot_kept object k ≡ table_snapshot object.snapshot_of (table_after object (take k.trimmed whole))
  snapshot-known =
      snapshot-told object k log knows.told knows.calls knows.low
      ∙ ap (λ l. table_snapshot object.snapshot_of (table_after object l)) (first-same k.trimmed knows.high)

  pub places-known : HasPlaces k log whole
  places-known = record { calls = knows.calls; low = knows.low; high = knows.high; committed = knows.committed; within = knows.within }

  -- the committed places that are kept
  pub committed-known : committed_calls (retained_log k) ≡ drop k.trimmed whole
  committed-known = committed-places k log whole places-known

-- A step: what is newly committed comes after what was committed, or after what is restored; the table before it is the one after
-- that

-- a step drops places only by restoring more than was committed
pub record Restores {A : Type 0} (old k : KnownLog A) : Type 0 where
  pub from : k.trimmed ≡ k.from
  pub more : old.committed ≤ k.from

module _ {O A : Type 0} (object : Sequential O) (old k : KnownLog A) (log whole log' whole' : List (OneCall A)) (before : Knows object old log whole)
    (after : Knows object k log' whole') (grows : IsListPrefix whole whole') (drops : old.trimmed < k.trimmed → Restores old k) where
  -- the places before the new ones
  abbrev pub done_before : ℕ
  done_before = max old.committed k.trimmed

  pub newly_committed-known : take done_before whole' ++ newly_committed old k ≡ whole'
  newly_committed-known = newly_committed-places old k log' whole' (places-known object k log' whole' after)

  pub since-known : table_since object old k ≡ table_after object (take done_before whole')
  since-known =
      cond_both (nat_lt old.trimmed k.trimmed) (table_before object k) (table_after_places object old old.committed)
      (λ t. t ≡ table_after object (take done_before whole'))
      (λ t.
      let r = drops (ltb-true old.trimmed k.trimmed t) in
      let n : k.from ≡ done_before = (let a = r.from in let b = r.more in omega (arith, a, b)) in
      before-known object k log' whole' after ∙ ap (λ m. table_after object (take m whole')) n)
      (λ f.
      let le = ltb-false old.trimmed k.trimmed f in
      let n : old.committed ≡ done_before = (let h = before.high in omega (arith, le, h)) in
      let low : old.from ≤ old.committed = (let l = before.low in let h = before.high in omega (arith, l, h)) in
      let same : take old.committed whole ≡ take old.committed whole' =
      sym (take-front whole whole' old.committed grows (let c = before.committed in omega (arith, c))) in
      table-known object old log whole before old.committed low (omega arith) ∙ ap (table_after object) (same ∙ ap (λ m. take m whole') n))

-- the bytes are a snapshot
pub restored-known : {O A : Type 0} (object : Sequential O) (k : KnownLog A) (log whole : List (OneCall A)) → Knows object k log whole → is_restored object k ≡ true
restored-known object k log whole knows = is-restored object k log knows.told
