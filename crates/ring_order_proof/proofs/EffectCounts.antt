-- The number of places that a node has committed, and of the calls of these that took effect: the sum of the last numbers in its
-- table.
use Rattle.std.proofs.Common.{◌≡◌, ℕ, ◌+◌, ◌-◌, ◌^◌, ◌≤◌, ◌==◌, min, Bool, true, false, List, [], ◌∷◌, ◌++◌, length, take, drop, if◌then◌else◌}
use Rattle.std.proofs.Common.{Some, None, refl, ap, sym, ◌∙◌, arith, append-nil, append_assoc, length-take, length-drop, cond}
use Rattle.std.specs.BTreeMap.{insert_entry, is_at}
use Rattle.std.specs.Cmp.{nat_cmp_total}
use Rattle.std.specs.List.{AllByRecursion as Each}
use Rattle.std.specs.List.Sorted.{IsStrictlySortedBy}
use Rattle.std.specs.Map.{lookup, keys_of}
use Rattle.std.specs.Ordering.{nat_cmp, is_eq, match_ordering}
use Rattle.std.specs.declared.cmp.Ordering.{Ordering}
use Rattle.std.specs.declared.cmp.Ordering.TheVariants.{Less, Equal, Greater}
use Rattle.std.proofs.lemmas.Bool.{eqb-true, and_parts}
use Rattle.std.proofs.lemmas.List.{take-append-drop, drop-take}
use Rattle.std.proofs.lemmas.List.Sums.{fold-append}
use Rattle.std.proofs.lemmas.Map.{lookup-none}
use Rattle.std.proofs.lemmas.Map.Entries.{none_below_head}
use Rattle.std.proofs.lemmas.Map.Keys.{sorted_tail}
use Rattle.ring_base.specs.Prefixes.{prefix_length}
use Rattle.ring_base.specs.Group.{Group}
use Rattle.ring_base.specs.Numbers.{max_number}
use Rattle.ring_base.proofs.ListFronts.{take-whole}
use Rattle.ring_object.specs.Operations.{Sequential}
use Rattle.ring_payload.specs.declared.call.Call.{Call as OneCall}
use Rattle.ring_log.specs.KnownLog.{KnownLog, known_log_of, known_log_length}
use Rattle.ring_log.specs.EpochHistories.{log_of, committed_of}
use Rattle.ring_log_proof.proofs.Moment.{view-at, committed-front}
use Rattle.ring_session.specs.Deduplicated.{deduplicated}
use Rattle.ring_session.specs.SessionAnswer.{is_done}
use Rattle.ring_session.specs.Table.{LastCall, Table, opening, last_number, last_call, session_of, has_room_for_client, takes_effect_in_table}
use Rattle.ring_session.specs.Table.{table_of, table_answer, table_next, table_after}
use Rattle.ring_session.specs.TicketEffects.{done_after, numbers_in, table_effects}
use Rattle.ring_session.proofs.TableLaws.{table_holds, done-taken}
use Rattle.ring_session.proofs.TicketEffects.{length-deduplicated, deduplicated_after-few}
use Rattle.ring_node_spec.specs.Nodes.{Node, node_known_log, effects_at}
use Rattle.ring_node_spec.specs.declared.event.Event.{Event}
use Rattle.ring_node_spec.specs.Worlds.{World, world_opening, run, whole_epochs_in}
use Rattle.ring_order_proof.specs.Counts.{CountsCommittedPlaces}
use Rattle.ring_order_proof.specs.Linear.{IsEventCallWithinLimits}
use Rattle.ring_order_proof.proofs.IssuedInWorlds.{WorldKnows, opening-knows, run-knows}
use Rattle.ring_order_proof.proofs.KnownByNodes.{kept-node_epochs}
use Rattle.ring_order_proof.proofs.KnownWhole.{Knows, before-known}
use Rattle.ring_order_proof.proofs.OrderedRuns.{know}
use Rattle.ring_order_proof.proofs.ConsistentRuns.{orderly}
use Rattle.ring_order_proof.proofs.RestoredTables.{ComesBack}
use Rattle.ring_order_proof.proofs.TrimmedRuns.{all-undropping}

-- The sum of the last numbers, with one client's call added

put-step : (e : ℕ × LastCall) (es : List (ℕ × LastCall)) (k : ℕ) (w : LastCall) (o : Ordering)
    → (o ≡ Less → cond (is_eq o) (Some e.1) (lookup (is_at (nat_cmp k)) es) ≡ None)
    → numbers_in (insert_entry nat_cmp es k w) + last_number (lookup (is_at (nat_cmp k)) es) ≡ numbers_in es + w.number
    → numbers_in (match_ordering o ((k, w) ∷ e ∷ es) ((e.0, w) ∷ es) (e ∷ insert_entry nat_cmp es k w))
    + last_number (cond (is_eq o) (Some e.1) (lookup (is_at (nat_cmp k)) es)) ≡ numbers_in (e ∷ es) + w.number
put-step e es k w Less below rest = (let none = ap last_number (below refl) in omega (arith, none))
put-step e es k w Equal below rest = omega arith
put-step e es k w Greater below rest = omega (arith, rest)

numbers-put : (es : List (ℕ × LastCall)) (k : ℕ) (w : LastCall) → IsStrictlySortedBy nat_cmp (keys_of es)
    → numbers_in (insert_entry nat_cmp es k w) + last_number (lookup (is_at (nat_cmp k)) es) ≡ numbers_in es + w.number
numbers-put [] k w sorted = omega arith
numbers-put (e ∷ es) k w sorted =
    put-step e es k w (nat_cmp k e.0) (λ less. lookup-none (is_at (nat_cmp k)) (e ∷ es) (none_below_head nat_cmp_total k e es sorted less))
    (numbers-put es k w (sorted_tail nat_cmp e.0 (keys_of es) sorted))

least-twice : (most a b c n : ℕ) → a ≡ n → n + b ≡ c → min most (min most a + b) ≡ min most c
least-twice most a b c n is sum = omega (arith, is, sum)

module _ {O A : Type 0} (object : Sequential O) where
  -- a call that takes effect adds one
  numbers-next : (table : Table O) (c : OneCall A) → IsStrictlySortedBy nat_cmp (keys_of table.sessions)
      → numbers_in (table_next object table c).sessions ≡ numbers_in table.sessions + (if is_done (table_answer object table c) then 1 else 0)
  numbers-next table c sorted =
      by (takes_effect_in_table table c) refl ∙ ap (λ b. numbers_in table.sessions + (if b then 1 else 0)) (sym (done-taken object table c))
    where
      w : LastCall
      w = last_call c (object.reply table.content c.op)

      put : Table O
      put = table_of (insert_entry nat_cmp table.sessions c.client w) (object.next table.content c.op)

      by : (b : Bool) → takes_effect_in_table table c ≡ b → numbers_in (if b then put else table).sessions ≡ numbers_in table.sessions + (if b then 1 else 0)
      by false not = omega arith
      by true taken =
          let next = eqb-true c.number (last_number (session_of table c.client) + 1)
          (and_parts (c.number == last_number (session_of table c.client) + 1) (has_room_for_client table c.client) taken).0 in
          let sum = numbers-put table.sessions c.client w sorted in
          omega (arith, next, sum)

  numbers-after : (before more : List (OneCall A)) → numbers_in (table_after object (before ++ more)).sessions
      ≡ numbers_in (table_after object before).sessions + done_after object (table_after object before) more
  numbers-after before [] = omega (arith, ap (λ l. numbers_in (table_after object l).sessions) (append-nil before))
  numbers-after before (c ∷ more) =
      let table : Table O = table_after object before in
      let after : table_next object table c ≡ table_after object (before ++ c ∷ []) =
      sym (fold-append (table_next object) (opening object.initial) before (c ∷ [])) in
      let one = numbers-next table c (table_holds object before).ascending in
      let here = ap (λ (t : Table O). numbers_in t.sessions) after in
      let rest = numbers-after (before ++ c ∷ []) more in
      let same = ap (λ (t : Table O). done_after object t more) after in
      let whole = ap (λ l. numbers_in (table_after object l).sessions) (append_assoc before (c ∷ []) more) in
      omega (arith, one, here, rest, same, whole)

  -- the sum is the number of a list's calls that took effect
  numbers-deduplicated : (calls : List (OneCall A)) → numbers_in (table_after object calls).sessions ≡ length (deduplicated calls)
  numbers-deduplicated calls =
      let sum = numbers-after [] calls in
      let all = length-deduplicated object [] calls in
      omega (arith, sum, all)

  -- by a table after some calls, and those that follow
  effects-after : (first more : List (OneCall A))
      → min (2 ^ 64 - 1) (table_effects (table_after object first) + done_after object (table_after object first) more)
      ≡ min (2 ^ 64 - 1) (length (deduplicated (first ++ more)))
  effects-after first more =
      least-twice (2 ^ 64 - 1) (numbers_in (table_after object first).sessions) (done_after object (table_after object first) more)
      (length (deduplicated (first ++ more))) (length (deduplicated first)) (numbers-deduplicated first) (length-deduplicated object first more)

  -- of the known log
  effects-known : (k : KnownLog A) (log whole : List (OneCall A)) → Knows object k log whole
      → effects_at object k k.committed ≡ min (2 ^ 64 - 1) (length (deduplicated whole))
  effects-known k log whole knows =
      let f = k.from in
      let c = k.committed in
      let before : Table O = table_after object (take f whole) in
      let sum : f + (c - f) ≡ c = (let l = knows.low in let h = knows.high in omega (arith, l, h)) in
      let calls : take (c - f) k.calls ≡ drop f whole = ap (take (c - f)) knows.calls ∙ sym (drop-take f (c - f) log)
      ∙ ap (λ n. drop f (take n log)) (sum ∙ knows.committed) ∙ ap (drop f) (take-whole whole log knows.within) in
      ap (λ (t : Table O). min (2 ^ 64 - 1) (table_effects t + done_after object t (take (c - f) k.calls))) (before-known object k log whole knows)
      ∙ ap (λ l. min (2 ^ 64 - 1) (table_effects before + done_after object before l)) calls
      ∙ effects-after (take f whole) (drop f whole)
      ∙ ap (λ l. min (2 ^ 64 - 1) (length (deduplicated l))) (take-append-drop f whole)

-- In every run

module _ {O A : Type 0} (object : Sequential O) (group : Group) (few : group.count ≤ 16) where
  abbrev at : List (Event A) → World A
  at events = run object (world_opening group) events

  -- the dropped and the kept places are all that a node has committed
  pub places : (events : List (Event A)) (node : ℕ) → 1 ≤ node → node ≤ group.count → CountsCommittedPlaces ((at events).nodes node)
  places events node low high =
      let w = at events in
      let o = orderly object group few events in
      let know : WorldKnows group w = run-knows object group (world_opening group) events (opening-knows group) in
      let view = view-at group (whole_epochs_in w) o.members o.text o.facts o.discipline node in
      let within = prefix_length (committed_of group (whole_epochs_in w node)) (log_of group (whole_epochs_in w node))
      (committed-front group (whole_epochs_in w) o.members o.text o.facts o.discipline node) in
      let own : known_log_of group (whole_epochs_in w node) ≡ node_known_log (w.nodes node) = kept-node_epochs group w know.here node low high (know.groups node) in
      by (w.nodes node) (known_log_of group (whole_epochs_in w node)) (log_of group (whole_epochs_in w node)) (committed_of group (whole_epochs_in w node)) own view.calls view.committed
      view.low view.high within (all-undropping object group events node).short
    where
      by : (n : Node A) (k : KnownLog A) (log whole : List (OneCall A)) → k ≡ node_known_log n → k.calls ≡ drop k.from log → k.committed ≡ length whole
          → k.from ≤ k.trimmed → k.trimmed ≤ k.committed → length whole ≤ length log → known_log_length (node_known_log n) ≤ max_number → CountsCommittedPlaces n
      by n k log whole own calls committed low high within short =
          let many : length k.calls ≡ length log - k.from = ap length calls ∙ length-drop k.from log in
          let c = ap (λ (x : KnownLog A). x.committed) own in
          let t = ap (λ (x : KnownLog A). x.trimmed) own in
          let f = ap (λ (x : KnownLog A). x.from) own in
          let l = ap (λ (x : KnownLog A). length x.calls) own in
          let kept = node_known_log n in
          let undropped = length-drop (kept.trimmed - kept.from) kept.calls in
          let taken = length-take (kept.committed - kept.trimmed) (drop (kept.trimmed - kept.from) kept.calls) in
          record {
            sum = omega (arith, many, c, t, f, l, undropped, taken, committed, low, high, within);
            few = omega (arith, many, c, f, l, committed, low, high, within, short);
          }

  -- the number of calls that take effect in it is what its sessions give
  pub effects : ComesBack object A → (events : List (Event A)) (node : ℕ) → Each IsEventCallWithinLimits events → 1 ≤ node → node ≤ group.count
      → effects_at object (node_known_log ((at events).nodes node)) (node_known_log ((at events).nodes node)).committed
      ≡ length (deduplicated (committed_of group (whole_epochs_in (at events) node)))
  effects back events node keeps low high =
      let w = at events in
      let log = log_of group (whole_epochs_in w node) in
      let whole = committed_of group (whole_epochs_in w node) in
      let knows = know object group few back events keeps node low high in
      let most = (places events node low high).few in
      let less = deduplicated_after-few [] whole in
      let long = knows.committed in
      let small : length (deduplicated whole) ≤ 2 ^ 62 = omega (arith, most, less, long) in
      effects-known object (node_known_log (w.nodes node)) log whole knows ∙ least (2 ^ 64 - 1) (length (deduplicated whole)) (omega (arith, small))
    where
      least : (most n : ℕ) → n ≤ most → min most n ≡ n
      least most n le = omega (arith, le)
