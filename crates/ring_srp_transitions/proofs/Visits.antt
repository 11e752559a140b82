-- A visit, piece by piece: requested messages are sent again, new messages are sent and held, and the token is
-- forwarded.
use Rattle.std.proofs.Common.{◌≡◌, ℕ, suc, ◌+◌, ◌<◌, ◌≤◌, max, true, List, [], ◌∷◌, ◌++◌, length, map, reverse, drop}
use Rattle.std.proofs.Common.{get_or, Option, Some, None, refl, sym, ap, subst, ◌∙◌, arith}
use Rattle.std.proofs.Common.{append_assoc, ◌⊎◌, inl, inr}
use Rattle.std.specs.Prelude.{◌&&◌, ◌==◌, not, nat_lt, nat_le, filter_map, if◌then◌else◌}
use Rattle.std.specs.List.{cons_option}
use Rattle.std.specs.List.Sorted.{IsStrictlyIncreasing}
use Rattle.std.proofs.lemmas.Bool.{cases_Bool, cond-true, cond-false, and_parts, ltb-true, leb-true, true≢false}
use Rattle.std.proofs.lemmas.Bool.Decides.{nat_tests}
use Rattle.std.proofs.lemmas.List.{append-nil, map-append, reverse-append, drop_more, at_drop_all}
use Rattle.std.proofs.lemmas.List.Elements.{filter-append}
use Rattle.std.proofs.lemmas.List.Kept.{IsStrictlyIncreasing-filter}
use Rattle.ring_base.specs.Numbers.{max_number, greatest}
use Rattle.ring_base.specs.Processors.{nobody, only, less}
use Rattle.ring_base.specs.Rings.{same_ring}
use Rattle.ring_base.specs.declared.ring_id.RingId.{RingId}
use Rattle.ring_base.specs.declared.state.State.{State}
use Rattle.ring_base.specs.declared.state.State.TheVariants.{Gather, Commit, Recovery, Operational, Stopped}
use Rattle.ring_payload.specs.declared.content.Payload.{Payload}
use Rattle.ring_wire.specs.declared.frame.Frame.TheVariants.{Message as MessageFrame}
use Rattle.ring_wire.specs.declared.message.Message.{Message}
use Rattle.ring_wire.specs.declared.token.Token.{Token}
use Rattle.ring_window.specs.Held.{found, holds, of_ring, highest, is_new}
use Rattle.ring_window.specs.Windows.{WindowHistory, message_above_mark}
use Rattle.ring_window.proofs.HeldFront.{front_short, highest_covers}
use Rattle.ring_window.proofs.OfRing.{found_of_ring, holds_of_ring}
use Rattle.ring_base.proofs.SameRing.{ring_same}
use Rattle.ring_token.specs.Histories.{TokenHistory, mark_of}
use Rattle.ring_token.specs.TokenVisits.{TokenVisit, MarkRaise, visits_in_ring, is_newer, mark_from_arus, raised_to}
use Rattle.ring_token.specs.Visits.{stays_requested, requests_left, above_mark, max_new_messages, numbered}
use Rattle.ring_commit.specs.declared.configuration.Configuration.{Configuration}
use Rattle.ring_join.specs.Gatherers.{Gatherer}
use Rattle.ring_core_spec.specs.Giving.{sends_with_receivers}
use Rattle.ring_core_spec.specs.State.{Core, OutgoingFrame}
use Rattle.ring_core_spec.specs.Views.{front, mark, takes_number}
use Rattle.ring_core_spec.specs.Visiting.{accepts, messages_sent_again, room_at, new_payloads, new_messages, queue_after, to_others, to_next, token_forwarded}
use Rattle.ring_core_spec.specs.Visiting.{token_visited}
use Rattle.ring_srp_state.specs.declared.recovery_state.RecoveryState.{RecoveryState}
use Rattle.ring_core_spec.proofs.States.{offers_few}
use Rattle.ring_srp_transitions.specs.RunningCores.{IsPart, IsRunningCore, IsRecovering, visits_of, raises_of, is_running, ring_in_use}
use Rattle.ring_srp_transitions.specs.Passing.{forwarded, token_passed_on}
use Rattle.ring_srp_transitions.specs.Sending.{messages_of_payloads, holding}
use Rattle.ring_srp_transitions.proofs.OneRingOfCore.{turns_twice, raises_twice}

-- no payloads make no messages
pub no_payloads : {A : Type 0} (payloads : List (Payload A)) → length payloads ≡ 0 → [] ≡ payloads
no_payloads [] e = refl
no_payloads (p ∷ payloads) e = absurd cc

-- Sends

-- the sends of two lists are those of each
pub sends_with_receivers-append : {A : Type 0} (a b : List (OutgoingFrame A)) → sends_with_receivers (a ++ b) ≡ sends_with_receivers a ++ sends_with_receivers b
sends_with_receivers-append {A} a b = filter-append (λ (s : OutgoingFrame A). not (s.to == nobody)) a b

-- one more send
sends_with_receivers-push : {A : Type 0} (sends : List (OutgoingFrame A)) (a b : List (OutgoingFrame A)) → sends ++ sends_with_receivers (a ++ b) ≡ (sends ++ sends_with_receivers a) ++ sends_with_receivers b
sends_with_receivers-push sends a b = ap (λ s. sends ++ s) (sends_with_receivers-append a b) ∙ sym (append_assoc sends (sends_with_receivers a) (sends_with_receivers b))

abbrev pub to_all : {A : Type 0} → Core A → Message A → OutgoingFrame A
to_all c x = record { to = less c.running.members (only c.me); frame = MessageFrame x }

others-append : {A : Type 0} (c : Core A) (xs ys : List (Message A)) → to_others c (xs ++ ys) ≡ to_others c xs ++ to_others c ys
others-append c xs ys = map-append (λ x. to_all c x) xs ys

-- The token

-- facts about an accepted token
pub record Passes {A : Type 0} (c : Core A) (t : Token) : Type 0 where
  pub ring : t.ring ≡ c.running.ring
  pub number : t.number < max_number
  pub high : highest c.held t.ring ≤ t.seq

pub passing : {A : Type 0} (c : Core A) (t : Token) → accepts c t ≡ true → Passes c t
passing c t h =
    let a = and_parts (same_ring t.ring c.running.ring && is_newer c.turns t && nat_lt t.number max_number) (nat_le (highest c.held t.ring) t.seq) h in
    let b = and_parts (same_ring t.ring c.running.ring && is_newer c.turns t) (nat_lt t.number max_number) a.0 in
    let d = and_parts (same_ring t.ring c.running.ring) (is_newer c.turns t) b.0 in
    record {
      ring = ring_same t.ring c.running.ring d.0;
      number = ltb-true t.number max_number b.1;
      high = leb-true (highest c.held t.ring) t.seq a.1;
    }

-- The running ring

-- in the other states none runs
pub none_runs : (s : State) → (s ≡ Gather) ⊎ ((s ≡ Commit) ⊎ (s ≡ Stopped)) → is_running s ≡ true → ⊥
none_runs s (inl e) r = true≢false (sym r ∙ ap is_running e)
none_runs s (inr (inl e)) r = true≢false (sym r ∙ ap is_running e)
none_runs s (inr (inr e)) r = true≢false (sym r ∙ ap is_running e)

-- its messages are taken
in_use : {A : Type 0} (s : State) (c : Core A) → is_running s ≡ true → (s ≡ Operational → c.installed ≡ c.running) → ring_in_use s c ≡ c.running.ring
in_use Recovery c r o = refl
in_use Operational c r o = ap (λ (x : Configuration). x.ring) (o refl)
in_use Gather c r o = absurd (true≢false (sym r))
in_use Commit c r o = absurd (true≢false (sym r))
in_use Stopped c r o = absurd (true≢false (sym r))

-- its safe mark is held
reached_in : {A : Type 0} (s : State) (c : Core A) (recovery : Option (RecoveryState A)) → is_running s ≡ true → (s ≡ Operational → c.installed ≡ c.running) →
    (s ≡ Recovery → IsRecovering c recovery) → mark c c.installed.ring ≤ front c c.installed.ring → mark c c.running.ring ≤ front c c.running.ring
reached_in Recovery c None r o f k = absurd (f refl)
reached_in Recovery c (Some x) r o f k = (f refl).part.reached
reached_in Operational c recovery r o f k = subst (λ (x : Configuration). mark c x.ring ≤ front c x.ring) (o refl) k
reached_in Gather c recovery r o f k = absurd (true≢false (sym r))
reached_in Commit c recovery r o f k = absurd (true≢false (sym r))
reached_in Stopped c recovery r o f k = absurd (true≢false (sym r))

-- an accepted token's `seq` is at least its safe mark
pub machine_behind : {A : Type 0} (c : Core A) (gather : Gatherer) (window : WindowHistory A) (visit : TokenHistory A)
    (recovery : Option (RecoveryState A)) (t : Token) →
    IsRunningCore c gather window visit recovery → is_running c.state ≡ true → accepts c t ≡ true → mark c t.ring ≤ t.seq
machine_behind c gather window visit recovery t m r a =
    let p = passing c t a in
    let reached : mark c c.running.ring ≤ front c c.running.ring = reached_in c.state c recovery r m.same m.recovery_state m.kept.reached in
    let here : mark c t.ring ≤ front c t.ring = subst (λ (q : RingId). mark c q ≤ front c q) (sym p.ring) reached in
    omega (arith, here, front_short c.held t.ring, p.high)

-- the same, from the part of the ring
pub mark_behind : {A : Type 0} (c : Core A) (window : WindowHistory A) (visit : TokenHistory A) (t : Token)
    → IsPart c c.running.ring window visit → accepts c t ≡ true →
    mark c t.ring ≤ t.seq
mark_behind c window visit t p a =
    let q = passing c t a in
    let here : mark c t.ring ≤ front c t.ring = subst (λ (r : RingId). mark c r ≤ front c r) (sym q.ring) p.reached in
    omega (arith, here, front_short c.held t.ring, q.high)

-- the visits of one ring decide its safe mark
mark_of-visits : {A : Type 0} (c : Core A) (ring : RingId) → mark_of (visits_of c ring) ≡ mark c ring
mark_of-visits {A} c ring =
    ap (λ (vs : List (TokenVisit A)). max (mark_from_arus (map (λ (v : TokenVisit A). v.forwarded.aru) vs)) (raised_to ring (raises_of ring c.raises))) (turns_twice c.turns ring)
    ∙ ap (λ (xs : List MarkRaise). max (mark_from_arus (map (λ (v : TokenVisit A). v.forwarded.aru) (visits_in_ring ring c.turns)))
    (greatest (map (λ (x : MarkRaise). x.mark) xs))) (raises_twice c.raises ring)

pub mark_by_visits : {A : Type 0} (c : Core A) (window : WindowHistory A) (visit : TokenHistory A) (t : Token)
    → IsPart c c.running.ring window visit → accepts c t ≡ true →
    mark_of visit ≡ mark c t.ring
mark_by_visits c window visit t p a =
    ap mark_of p.visit_is ∙ mark_of-visits c c.running.ring ∙ ap (λ (r : RingId). mark c r) (sym (passing c t a).ring)

-- Requests that remain

pub holds_by : {A : Type 0} (c : Core A) (window : WindowHistory A) (visit : TokenHistory A) (t : Token) (n : ℕ)
    → IsPart c c.running.ring window visit → accepts c t ≡ true →
    holds window.held window.ring n ≡ holds c.held t.ring n
holds_by c window visit t n p a =
    ap (λ (w : WindowHistory _). holds w.held w.ring n) p.window_is
    ∙ holds_of_ring c.held c.running.ring n
    ∙ ap (λ (r : RingId). holds c.held r n) (sym (passing c t a).ring)

pub stays_ascending : {A : Type 0} (c : Core A) (t : Token) → IsStrictlyIncreasing t.requests → IsStrictlyIncreasing
    (requests_left (mark c t.ring) (holds c.held t.ring) t.requests)
stays_ascending c t h = IsStrictlyIncreasing-filter (stays_requested (mark c t.ring) (holds c.held t.ring)) t.requests h

-- Requested messages that are sent again

-- the messages of these numbers that are sent again
abbrev pub again : {A : Type 0} → Core A → Token → List ℕ → List (OutgoingFrame A)
again c t numbers = sends_with_receivers (to_others c (filter_map (found c.held t.ring) (above_mark (mark c t.ring) numbers)))

-- the messages sent so far, and those of the remaining numbers, are all
abbrev pub AreRepeated : {A : Type 0} → Core A → Token → List (OutgoingFrame A) → List (OutgoingFrame A) → ℕ → Type 0
AreRepeated c t old sends i = sends ++ again c t (drop i t.requests) ≡ old ++ again c t t.requests

-- the window keeps the message of a number, if it is above the mark
kept_by : {A : Type 0} (c : Core A) (window : WindowHistory A) (visit : TokenHistory A) (t : Token) (n : ℕ)
    → IsPart c c.running.ring window visit → accepts c t ≡ true →
    message_above_mark window n ≡ (if nat_lt (mark c t.ring) n then found c.held t.ring n else None)
kept_by c window visit t n p a =
    ap (λ (w : WindowHistory _). message_above_mark w n) p.window_is
    ∙ ap (λ (o : Option (Message _)). if nat_lt (mark c c.running.ring) n then o else None) (found_of_ring c.held c.running.ring n)
    ∙ ap (λ (r : RingId). if nat_lt (mark c r) n then found c.held r n else None) (sym (passing c t a).ring)

-- the message of a number is sent before those of the others
found_first : {A : Type 0} (c : Core A) (t : Token) (n : ℕ) (ns : List ℕ) →
    filter_map (found c.held t.ring) (above_mark (mark c t.ring) (n ∷ ns))
    ≡ cons_option (if nat_lt (mark c t.ring) n then found c.held t.ring n else None) (filter_map (found c.held t.ring) (above_mark (mark c t.ring) ns))
found_first c t n ns = elim (cases_Bool (nat_lt (mark c t.ring) n)) [
  | inl e ↦ rw e refl
  | inr e ↦ rw e refl
]

module _ {A : Type 0} (c : Core A) (window : WindowHistory A) (visit : TokenHistory A) (t : Token) (old sends : List (OutgoingFrame A)) (i : ℕ) where
  pub repeated_begun : AreRepeated c t old old 0
  repeated_begun = refl

  pub repeated_all : length t.requests ≤ i → AreRepeated c t old sends i → sends ≡ old ++ again c t t.requests
  repeated_all l r = sym (append-nil sends) ∙ ap (λ s. sends ++ s) (sym (at_drop_all (again c t) t.requests i l)) ∙ r

  -- no message of this number is sent
  pub repeated_less : (n : ℕ) → IsPart c c.running.ring window visit → accepts c t ≡ true → i < length t.requests
      → n ≡ get_or t.requests i 0 → message_above_mark window n ≡ None →
      AreRepeated c t old sends i → AreRepeated c t old sends (i + 1)
  repeated_less n p a l at k r =
      let d : drop i t.requests ≡ n ∷ drop (i + 1) t.requests = drop_more t.requests i 0 l ∙ ap (λ m. m ∷ drop (i + 1) t.requests) (sym at) in
      let none : (if nat_lt (mark c t.ring) n then found c.held t.ring n else None) ≡ None = sym (kept_by c window visit t n p a) ∙ k in
      let rest = filter_map (found c.held t.ring) (above_mark (mark c t.ring) (drop (i + 1) t.requests)) in
      let e : again c t (drop i t.requests) ≡ again c t (drop (i + 1) t.requests) =
      ap (again c t) d ∙ ap (λ xs. sends_with_receivers (to_others c xs)) (found_first c t n (drop (i + 1) t.requests) ∙ ap (λ o. cons_option o rest) none) in
      ap (λ s. sends ++ s) (sym e) ∙ r

  -- this message is sent
  pub repeated_more : (n : ℕ) (x : Message A) (after : List (OutgoingFrame A)) → IsPart c c.running.ring window visit
      → accepts c t ≡ true → i < length t.requests → n ≡ get_or t.requests i 0 →
      message_above_mark window n ≡ Some x → after ≡ sends ++ sends_with_receivers (to_all c x ∷ []) → AreRepeated c t old sends i → AreRepeated c t old after (i + 1)
  repeated_more n x after p a l at k s r =
      let d : drop i t.requests ≡ n ∷ drop (i + 1) t.requests = drop_more t.requests i 0 l ∙ ap (λ m. m ∷ drop (i + 1) t.requests) (sym at) in
      let some : (if nat_lt (mark c t.ring) n then found c.held t.ring n else None) ≡ Some x = sym (kept_by c window visit t n p a) ∙ k in
      let rest = filter_map (found c.held t.ring) (above_mark (mark c t.ring) (drop (i + 1) t.requests)) in
      let e : again c t (drop i t.requests) ≡ sends_with_receivers (to_all c x ∷ []) ++ again c t (drop (i + 1) t.requests) =
      ap (again c t) d
      ∙ ap (λ xs. sends_with_receivers (to_others c xs)) (found_first c t n (drop (i + 1) t.requests) ∙ ap (λ o. cons_option o rest) some)
      ∙ sends_with_receivers-append (to_all c x ∷ []) (to_others c rest) in
      ap (λ o. o ++ again c t (drop (i + 1) t.requests)) s
      ∙ append_assoc sends (sends_with_receivers (to_all c x ∷ [])) (again c t (drop (i + 1) t.requests))
      ∙ ap (λ s. sends ++ s) (sym e)
      ∙ r

-- New messages

-- one more message takes the next number
numbered-push : {A : Type 0} (ring : RingId) (me seq : ℕ) (ps : List (Payload A)) (p : Payload A) (n : ℕ) → n ≡ suc (seq + length ps) →
    numbered ring me seq (ps ++ p ∷ []) ≡ numbered ring me seq ps ++ record { ring = ring; number = n; sender = me; payload = p } ∷ []
numbered-push ring me seq [] p n e =
    let f : suc seq ≡ n = omega arith in
    ap (λ m. record { ring = ring; number = m; sender = me; payload = p } ∷ []) f
numbered-push ring me seq (q ∷ ps) p n e =
    ap (λ xs. record { ring = ring; number = suc seq; sender = me; payload = q } ∷ xs) (numbered-push ring me (suc seq) ps p n (omega arith))

-- no held number is above the last number
highest-push : {A : Type 0} (x : Message A) (held : List (Message A)) (ring : RingId) (n : ℕ) → x.number ≤ n
    → highest held ring ≤ n → highest (x ∷ held) ring ≤ n
highest-push {A} x held ring n a b = elim (cases_Bool (same_ring x.ring ring)) [
  | inl e ↦ rw (cond-true (same_ring x.ring ring) (x ∷ of_ring ring held) (of_ring ring held) e) (omega (arith, a, b))
  | inr e ↦ rw (cond-false (same_ring x.ring ring) (x ∷ of_ring ring held) (of_ring ring held) e) b
]

highest-numbered : {A : Type 0} (ring : RingId) (me seq : ℕ) (ps : List (Payload A)) (held : List (Message A)) → highest held ring ≤ seq →
    highest (reverse (numbered ring me seq ps) ++ held) ring ≤ seq + length ps
highest-numbered ring me seq [] held h = omega (arith, h)
highest-numbered {A} ring me seq (p ∷ ps) held h =
    let x : Message A = record { ring = ring; number = suc seq; sender = me; payload = p } in
    let xs = numbered ring me (suc seq) ps in
    let e : reverse (x ∷ xs) ++ held ≡ reverse xs ++ x ∷ held = ap (λ ys. ys ++ held) (reverse-append (x ∷ []) xs) ∙ append_assoc (reverse xs) (x ∷ []) held in
    let i : highest (reverse xs ++ x ∷ held) ring ≤ suc seq + length ps = highest-numbered ring me (suc seq) ps
    (x ∷ held) (highest-push x held ring (suc seq) (omega arith) (omega (arith, h))) in
    let l : highest (reverse xs ++ x ∷ held) ring ≤ seq + suc (length ps) = omega (arith, i) in
    subst (λ ys. highest ys ring ≤ seq + suc (length ps)) (sym e) l

-- a number of the window above all held ones is new
above_new : {A : Type 0} (held : List (Message A)) (mark : ℕ) (ring : RingId) (n : ℕ) → highest held ring < n
    → mark < n → n ≤ mark + 256 → is_new held mark ring n ≡ true
above_new held mark ring n h a b =
    let inside : (nat_lt mark n && nat_le n (mark + 256)) ≡ true = grind (arith, nat_tests) in
    elim (cases_Bool (holds held ring n)) [
      | inl e ↦ (let l : n ≤ highest held ring = highest_covers held ring n e in absurd (omega arith))
      | inr e ↦ rw (e, inside) refl
    ]

module _ {A : Type 0} (c : Core A) (t : Token) (ps : List (Payload A)) (p : Payload A) (n count : ℕ) where
  pub number_next : n ≡ t.seq + length ps → length ps < count → count ≤ max_new_messages (mark c t.ring) t.seq → n + 1 ≤ max_number
  number_next e l r = omega arith

  pub next_new : accepts c t ≡ true → mark c t.ring ≤ t.seq → n ≡ t.seq + length ps → length ps < count → count ≤ max_new_messages (mark c t.ring) t.seq →
      takes_number (holding c t ps) t.ring (n + 1) ≡ true
  next_new a m e l r =
      let h : highest (reverse (messages_of_payloads c t ps) ++ c.held) t.ring ≤ t.seq + length ps = highest-numbered t.ring c.me t.seq ps c.held (passing c t a).high in
      above_new (reverse (messages_of_payloads c t ps) ++ c.held) (mark c t.ring) t.ring (n + 1) (omega arith) (omega arith) (omega arith)

  pub news_more : n ≡ t.seq + length ps → messages_of_payloads c t (ps ++ p ∷ []) ≡ messages_of_payloads c t ps ++ record { ring = t.ring; number = n + 1; sender = c.me; payload = p } ∷ []
  news_more e = numbered-push t.ring c.me t.seq ps p (n + 1) (omega arith)

  -- messages of its ring are still taken
  pub used_still : (gather : Gatherer) (window : WindowHistory A) (visit : TokenHistory A)
      (recovery : Option (RecoveryState A)) → IsRunningCore c gather window visit recovery →
      is_running c.state ≡ true → accepts c t ≡ true → t.ring ≡ ring_in_use c.state (holding c t ps)
  used_still gather window visit recovery m r a = (passing c t a).ring ∙ sym (in_use c.state (holding c t ps) r m.same)

  -- one more message is held
  pub holding_more : (x : Message A) (d : Core A) → n ≡ t.seq + length ps
      → x ≡ record { ring = t.ring; number = n + 1; sender = c.me; payload = p } → d ≡ holding c t ps →
      record d { held = x ∷ d.held } ≡ holding c t (ps ++ p ∷ [])
  holding_more x d e same f =
      let turned : reverse (messages_of_payloads c t (ps ++ p ∷ [])) ≡ x ∷ reverse (messages_of_payloads c t ps) =
      ap reverse (news_more e ∙ ap (λ y. messages_of_payloads c t ps ++ y ∷ []) (sym same)) ∙ reverse-append (messages_of_payloads c t ps) (x ∷ []) in
      ap (λ (d : Core A). record d { held = x ∷ d.held }) f ∙ ap (λ xs. record c { held = xs ++ c.held }) (sym turned)

  -- one more message is sent
  pub sends_more : (x : Message A) (old sends after : List (OutgoingFrame A)) → n ≡ t.seq + length ps
      → x ≡ record { ring = t.ring; number = n + 1; sender = c.me; payload = p } →
      sends ≡ old ++ sends_with_receivers (to_others c (messages_of_payloads c t ps)) → after ≡ sends ++ sends_with_receivers (to_all c x ∷ [])
      → after ≡ old ++ sends_with_receivers (to_others c (messages_of_payloads c t (ps ++ p ∷ [])))
  sends_more x old sends after e same f g =
      g ∙ ap (λ o. o ++ sends_with_receivers (to_all c x ∷ [])) f
      ∙ sym (sends_with_receivers-push old (to_others c (messages_of_payloads c t ps)) (to_all c x ∷ []))
      ∙ ap (λ s. old ++ sends_with_receivers s) (sym (ap (to_others c) (news_more e ∙ ap (λ y. messages_of_payloads c t ps ++ y ∷ []) (sym same))
      ∙ others-append c (messages_of_payloads c t ps) (x ∷ [])))

-- The whole visit

pub payloads_few : {A : Type 0} (c : Core A) (t : Token) (payloads : List (Payload A)) → payloads ≡ new_payloads c t
    → length payloads ≤ max_new_messages (mark c t.ring) t.seq
payloads_few c t payloads e = subst (λ ps. length ps ≤ max_new_messages (mark c t.ring) t.seq) (sym e) (offers_few c.state c (room_at c t))

-- the last number is at most the greatest
pub seq_fits : (mark seq count : ℕ) → count ≤ max_new_messages mark seq → seq ≤ max_number → seq + count ≤ max_number
seq_fits mark seq count l s = omega arith

module _ {A : Type 0} (c one two : Core A) (t : Token) (remaining_requests : List ℕ) (payloads : List (Payload A)) where
  -- the queue supplied the new messages, and they are held
  pub visited_held : payloads ≡ new_payloads c t → one ≡ record c { queue = queue_after c.state (room_at c t) c.queue } →
      two ≡ record one { held = reverse (numbered t.ring one.me t.seq payloads) ++ one.held } →
      two ≡ record c { queue = queue_after c.state (room_at c t) c.queue; held = reverse (new_messages c t) ++ c.held }
  visited_held p e g =
      g ∙ ap (λ (d : Core A). record d { held = reverse (numbered t.ring d.me t.seq payloads) ++ d.held }) e
      ∙ ap (λ ps. record c { queue = queue_after c.state (room_at c t) c.queue; held = reverse (numbered t.ring c.me t.seq ps) ++ c.held }) p

  -- then the token was forwarded, and the core is as after the visit
  pub visited_core : (fresh : List (Payload A)) (three : Core A)
      → two ≡ record c {
        queue = queue_after c.state (room_at c t) c.queue;
        held = reverse (new_messages c t)
            ++ c.held;
      } →
      remaining_requests ≡ requests_left (mark c t.ring) (holds c.held t.ring) t.requests → fresh ≡ new_payloads c t
      → three ≡ token_passed_on two t remaining_requests fresh → three ≡ (token_visited c t).core
  visited_core fresh three q s f h = h ∙ (λ i. token_passed_on (q i) t (s i) (f i))

  -- the forwarded token
  pub visited_token : (count : ℕ) → two ≡ record c { queue = queue_after c.state (room_at c t) c.queue; held = reverse (new_messages c t) ++ c.held } →
      remaining_requests ≡ requests_left (mark c t.ring) (holds c.held t.ring) t.requests → count ≡ length (new_payloads c t)
      → to_next two (forwarded two t remaining_requests count) ≡ to_next c (token_forwarded c t)
  visited_token count q s n = λ i. to_next (q i) (forwarded (q i) t (s i) (n i))

  -- and all frames sent
  pub visited_sends : (last : OutgoingFrame A) (old a b after : List (OutgoingFrame A)) → payloads ≡ new_payloads c t
      → one ≡ record c { queue = queue_after c.state (room_at c t) c.queue } →
      a ≡ old ++ again c t t.requests → b ≡ a ++ sends_with_receivers (to_others one (numbered t.ring one.me t.seq payloads))
      → last ≡ to_next c (token_forwarded c t) → after ≡ b ++ sends_with_receivers (last ∷ []) →
      after ≡ old ++ sends_with_receivers (token_visited c t).sends
  visited_sends last old a b after p e f g l h =
      let x = to_others c (messages_sent_again c t) in
      let y = to_others c (new_messages c t) in
      let z = to_next c (token_forwarded c t) ∷ [] in
      let k : b ≡ a ++ sends_with_receivers y = g ∙ ap (λ (d : Core A). a ++ sends_with_receivers (to_others d (numbered t.ring d.me t.seq payloads)))
      e ∙ ap (λ ps. a ++ sends_with_receivers (to_others c (numbered t.ring c.me t.seq ps))) p in
      h ∙ ap (λ s. b ++ sends_with_receivers (s ∷ [])) l
      ∙ ap (λ o. o ++ sends_with_receivers z) (k ∙ ap (λ o. o ++ sends_with_receivers y) f ∙ sym (sends_with_receivers-push old x y))
      ∙ sym (sends_with_receivers-push old (x ++ y) z)
      ∙ ap (λ s. old ++ sends_with_receivers (s ++ z)) (sym (others-append c (messages_sent_again c t) (new_messages c t)))
