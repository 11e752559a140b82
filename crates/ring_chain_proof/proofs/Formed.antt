-- A formed ring runs until a processor stops, and each processor gives the numbers 1, 2, 3 and so on as `Agreed`, up
-- to its front.

-- There are no joins and no commit tokens, and all messages are users'.
use Rattle.std.proofs.Common.{◌≡◌, ℕ, zero, suc, ◌+◌, ◌-◌, ◌<◌, ◌≤◌, ◌⊎◌, inl, inr, Bool, true, false, ◌&&◌, ◌==◌, List}
use Rattle.std.proofs.Common.{[], ◌∷◌, ◌++◌, map, Option, Some, None, refl, ap, sym, ◌∙◌, subst, arith, append-nil}
use Rattle.std.specs.Prelude.{nat_lt, not, filter, filter_map, find, reverse, slice_get}
use Rattle.std.specs.List.{AllByRecursion as Each, cons_option, list_any}
use Rattle.std.proofs.lemmas.Bool.{cond_both, cases_Bool, and_parts, and_right, false≢true, cond-true, cond-false}
use Rattle.std.proofs.lemmas.Bool.{or_cases, eqb-true, eq-eqb, ne_eqb, both_ways}
use Rattle.std.proofs.lemmas.List.Elements.{filter_map-append}
use Rattle.ring_base.specs.Numbers.{numbers_from}
use Rattle.ring_base.specs.Rings.{same_ring}
use Rattle.ring_base.specs.Processors.{nobody, only, less, has}
use Rattle.ring_base.specs.declared.ring_id.RingId.{RingId}
use Rattle.ring_base.specs.declared.state.State.{State}
use Rattle.ring_base.specs.declared.state.State.TheVariants.{Recovery, Operational, Stopped}
use Rattle.ring_base.proofs.Each.{each-weaker, each-append, each-push, each-map, each-get, each-reverse, each-filter}
use Rattle.ring_base.proofs.ListPlaces.{numbers-append}
use Rattle.ring_payload.specs.PayloadKinds.{is_user}
use Rattle.ring_payload.specs.declared.content.Payload.{Payload}
use Rattle.ring_wire.specs.declared.frame.Frame.{Frame}
use Rattle.ring_wire.specs.declared.frame.Frame.TheVariants.{Message as MessageFrame, Token as TokenFrame, Join as JoinFrame}
use Rattle.ring_wire.specs.declared.frame.Frame.TheVariants.{Commit as CommitFrame}
use Rattle.ring_wire.specs.declared.message.Message.{Message}
use Rattle.ring_wire.specs.declared.token.Token.{Token}
use Rattle.ring_core_spec.specs.Windows.{is_numbered, found, front_of}
use Rattle.ring_core_spec.proofs.Windows.{front_is}
use Rattle.ring_core_spec.specs.Tokens.{first_token, numbered}
use Rattle.ring_core_spec.specs.declared.input.Input.{Input}
use Rattle.ring_core_spec.specs.declared.input.Input.TheVariants.{Frame as FrameInput, Timeout as TimeInput, Send as SendInput}
use Rattle.ring_core_spec.specs.declared.out.Out.{Out}
use Rattle.ring_core_spec.specs.declared.out.Out.TheVariants.{Send as SendOut, Agreed, Safe}
use Rattle.ring_core_spec.specs.Commits.{Configuration}
use Rattle.ring_core_spec.specs.State.{Core, OutgoingFrame, TransitionResult, StepResult, formed_ring_of, formed, halted, frame_at}
use Rattle.ring_core_spec.specs.Views.{front, mark}
use Rattle.ring_core_spec.specs.Visiting.{room_at, new_payloads, new_messages, messages_sent_again, to_others, to_next, token_forwarded}
use Rattle.ring_core_spec.specs.Joining.{proposes, proposes_in}
use Rattle.ring_core_spec.specs.Giving.{installs_in, sends_with_receivers, sent, agreed_from, safe_from, agreed_and_safe_of_step, with_installation_if, step_result}
use Rattle.ring_core_spec.specs.Deciding.{Transition, Ignore, Enqueue, Repeat, Announce, Invite, GiveUp, EnterGather, Agree, MergeJoin}
use Rattle.ring_core_spec.specs.Deciding.{EnterGatherAndAgree, EnterGatherAndMergeJoin, Take, Visit, Fill, Learn, decide}
use Rattle.ring_core_spec.specs.Transitions.{old_ring_messages, last_sent_repeated, apply_transition, may_propose_after, with_proposal_if}
use Rattle.ring_core_spec.specs.Stepping.{ring_step}
use Rattle.ring_core_proof.specs.LawConditions.{HasPassed, IsInputOf}
use Rattle.ring_core_proof.specs.FactWords.{IsIn}
use Rattle.ring_core_proof.specs.declared.event.RingEvent.{RingEvent}
use Rattle.ring_core_proof.specs.declared.event.RingEvent.TheVariants.{Send, Deliver, Timeout, Stop}
use Rattle.ring_core_proof.specs.Worlds.{Transmission, World, with_core, transmission_by, transmissions_from, after_step, is_node, stepped_if}
use Rattle.ring_core_proof.specs.Worlds.{stopped_if, handed_if, handed, is_repeat, world_after_event, run, ring_formed}
use Rattle.ring_core_proof.specs.Worlds.{has_effect_on_formed, run_formed}
use Rattle.ring_core_proof.specs.Moves.{AllAreUsers}
use Rattle.ring_core_proof.proofs.Guards.{guarded}
use Rattle.ring_core_proof.proofs.Causes.{caused}
use Rattle.ring_core_proof.proofs.StepsAreMoves.{move_of, acted, IsAsked, asked_by, fresh_users, all_repeats, queue_kept}
use Rattle.ring_core_proof.proofs.InLists.{in-each}
use Rattle.ring_core_proof.proofs.Lifting.{outs_carried, told_from}
use Rattle.ring_payload.proofs.Packing.{packed_none}
use Rattle.ring_chain_proof.specs.ChainFacts.{agreed_of, agreed_number, agreed_numbers}
use Rattle.ring_chain_proof.proofs.FactsGrow.{put-each, moved_grows}

-- Frames sent and received

abbrev IsQuiet : {A : Type 0} → Frame A → Type 0
IsQuiet (MessageFrame x) = is_user x.payload ≡ true
IsQuiet (TokenFrame t) = Unit {0}
IsQuiet (JoinFrame j) = ⊥
IsQuiet (CommitFrame k) = ⊥

abbrev IsAllowed : {A : Type 0} → Input A → Type 0
IsAllowed (FrameInput frame) = IsQuiet frame
IsAllowed (TimeInput kind) = is_repeat kind ≡ true
IsAllowed (SendInput payload) = Unit {0}

abbrev IsUsers : {A : Type 0} → Message A → Type 0
IsUsers x = is_user x.payload ≡ true

abbrev Running : State → Type 0
Running s = (s ≡ Operational) ⊎ (s ≡ Stopped)

pub record IsFormed {A : Type 0} (n : ℕ) (c : Core A) : Type 0 where
  pub installed : c.installed ≡ formed_ring_of n
  pub rings : c.rings ≡ formed_ring_of n ∷ []
  pub installs : c.installs ≡ formed_ring_of n ∷ []
  pub state : Running c.state
  pub users : Each (λ (x : Message A). IsUsers x) c.held
  pub queued : AllAreUsers c.queue
  pub last_sent : (s : OutgoingFrame A) → c.last_sent ≡ Some s → IsQuiet s.frame

record IsActed {A : Type 0} (n : ℕ) (d : TransitionResult A) : Type 0 where
  pub core : IsFormed n d.core
  pub sends : Each (λ (s : OutgoingFrame A). IsQuiet s.frame) d.sends

-- Transitions

again_quiet : {A : Type 0} → (last_sent : Option (OutgoingFrame A)) → ((s : OutgoingFrame A) → last_sent ≡ Some s → IsQuiet s.frame) →
    Each (λ (s : OutgoingFrame A). IsQuiet s.frame) (last_sent_repeated last_sent)
again_quiet None h = tt
again_quiet (Some s) h = (h s refl, tt)

gives_nothing : {A : Type 0} → (s : State) → Running s → (c : Core A) (x : Message A) → old_ring_messages s c x ≡ []
gives_nothing s (inl e) c x = ap (λ s. old_ring_messages s c x) e
gives_nothing s (inr e) c x = ap (λ s. old_ring_messages s c x) e

numbered_users : {A : Type 0} → (ring : RingId) (me seq : ℕ) (ps : List (Payload A)) → AllAreUsers ps →
    Each (λ (x : Message A). IsUsers x) (numbered ring me seq ps)
numbered_users ring me seq [] h = tt
numbered_users ring me seq (p ∷ ps) h = (h.0, numbered_users ring me (suc seq) ps h.1)

operating : {A : Type 0} → (n : ℕ) (c : Core A) → IsFormed n c → (c.state ≡ Recovery) ⊎ (c.state ≡ Operational) → c.state ≡ Operational
operating n c f (inr e) = e
operating n c f (inl e) =
    elim (f.state) [ inl o ↦ o | inr s ↦ absurd (let q : Recovery ≡ Stopped = sym e ∙ s in let x : ⊥ = cc in x) ]

one_token : {A : Type 0} → (u s : OutgoingFrame A) → IsQuiet u.frame → Some u ≡ Some s → IsQuiet s.frame
one_token {A} u s h e = (let same : u ≡ s = cc in subst (λ (s : OutgoingFrame A). IsQuiet s.frame) same h)

visited_formed : {A : Type 0} → (n : ℕ) (c : Core A) (t : Token) → IsFormed n c → c.state ≡ Operational → IsActed n (apply_transition c (Visit t))
visited_formed {A} n c t f o =
    let new : Each (λ (x : Message A). IsUsers x) (new_messages c t) = numbered_users t.ring c.me t.seq (new_payloads c t) (fresh_users c t o f.queued) in
    let old : Each (λ (x : Message A). IsUsers x) (messages_sent_again c t) = each-weaker (λ (x : Message A). IsIn x c.held)
    (λ (x : Message A). IsUsers x) (λ x i. in-each (λ (x : Message A). IsUsers x) x c.held f.users i) (messages_sent_again c t)
    (all_repeats c t) in
    record {
      core = record {
        installed = f.installed;
        rings = f.rings;
        installs = f.installs;
        state = f.state;
        users = each-append (λ (x : Message A). IsUsers x) (reverse (new_messages c t)) c.held
            (each-reverse (λ (x : Message A). IsUsers x) (new_messages c t) new) f.users;
        queued = queue_kept c.state (room_at c t) c.queue f.queued;
        last_sent = λ s e. one_token (to_next c (token_forwarded c t)) s tt e;
      };
      sends = each-append (λ (s : OutgoingFrame A). IsQuiet s.frame) (to_others c (messages_sent_again c t ++ new_messages c t)) (to_next c (token_forwarded c t) ∷ [])
          (each-map (λ (s : OutgoingFrame A). IsQuiet s.frame) (λ x. record {
            to = less c.running.members (only c.me);
            frame = MessageFrame x;
          }) (messages_sent_again c t ++ new_messages c t) (each-append (λ (x : Message A). IsUsers x)
          (messages_sent_again c t) (new_messages c t) old new))
          (tt, tt);
    }

took_formed : {A : Type 0} → (n : ℕ) (c : Core A) (x : Message A) → IsFormed n c → IsUsers x → IsFormed n (apply_transition c (Take x)).core
took_formed {A} n c x f u =
    record {
      installed = f.installed;
      rings = f.rings;
      installs = f.installs;
      state = f.state;
      queued = f.queued;
      last_sent = f.last_sent;
      users = subst (λ xs. Each (λ (x : Message A). IsUsers x) (xs ++ x ∷ c.held)) (sym (gives_nothing c.state f.state c x)) (u, f.users);
    }

acted_formed : {A : Type 0} → (n : ℕ) (c : Core A) (input : Input A) (a : Transition A) → IsFormed n c → IsAllowed input → HasPassed c a → IsInputOf c input a →
    IsAsked a → IsActed n (apply_transition c a)
acted_formed n c input Ignore f w g h u = record { core = f; sends = tt }
acted_formed {A} n c input (Enqueue p) f w g h u =
    record {
      core = record {
        installed = f.installed;
        rings = f.rings;
        installs = f.installs;
        state = f.state;
        users = f.users;
        queued = each-push (λ (p : Payload A). is_user p ≡ true) c.queue p f.queued u;
        last_sent = f.last_sent;
      };
      sends = tt;
    }
acted_formed n c input Repeat f w g h u = record { core = f; sends = again_quiet c.last_sent f.last_sent }
acted_formed {A} n c input (Take x) f w g h u = record { core = took_formed n c x f (subst (λ (i : Input A). IsAllowed i) h w); sends = tt }
acted_formed n c input (Visit t) f w g h u = visited_formed n c t f (operating n c f g.0)
acted_formed {A} n c input Announce f w g h u = absurd (false≢true (subst (λ (i : Input A). IsAllowed i) h w))
acted_formed {A} n c input Invite f w g h u = absurd (false≢true (subst (λ (i : Input A). IsAllowed i) h w))
acted_formed {A} n c input GiveUp f w g h u = absurd (false≢true (subst (λ (i : Input A). IsAllowed i) h w))
acted_formed {A} n c input EnterGather f w g (inl h) u = absurd (false≢true (subst (λ (i : Input A). IsAllowed i) h w))
acted_formed {A} n c input EnterGather f w g (inr l) u = absurd (subst (λ (i : Input A). IsAllowed i) l.received w)
acted_formed {A} n c input (Agree j) f w g h u = absurd (subst (λ (i : Input A). IsAllowed i) h w)
acted_formed {A} n c input (MergeJoin j) f w g h u = absurd (subst (λ (i : Input A). IsAllowed i) h w)
acted_formed {A} n c input (EnterGatherAndAgree j) f w g h u = absurd (subst (λ (i : Input A). IsAllowed i) h w)
acted_formed {A} n c input (EnterGatherAndMergeJoin j) f w g h u = absurd (subst (λ (i : Input A). IsAllowed i) h w)
acted_formed {A} n c input (Fill k) f w g h u = absurd (subst (λ (i : Input A). IsAllowed i) h w)
acted_formed {A} n c input (Learn k) f w g h u = absurd (subst (λ (i : Input A). IsAllowed i) h w)

-- Steps: nothing is proposed, nothing installed

none_proposed : {A : Type 0} → (s : State) → Running s → (c : Core A) → proposes_in s c ≡ false
none_proposed s (inl e) c = ap (λ s. proposes_in s c) e
none_proposed s (inr e) c = ap (λ s. proposes_in s c) e

none_installed : {A : Type 0} → (s : State) → Running s → (c : Core A) → installs_in s c ≡ false
none_installed s (inl e) c = ap (λ s. installs_in s c) e
none_installed s (inr e) c = ap (λ s. installs_in s c) e

abbrev acting : {A : Type 0} → Core A → Input A → TransitionResult A
acting c input = apply_transition c (decide c input)

step_is : {A : Type 0} → (n : ℕ) (c : Core A) (input : Input A) → IsFormed n (acting c input).core →
    ring_step c input ≡ record { core = (acting c input).core; outs = sent (acting c input).sends ++ agreed_and_safe_of_step c (acting c input).core }
unfolding ring_step
step_is n c input f =
    let d = acting c input in
    let a = decide c input in
    let e : (may_propose_after a && proposes d.core) ≡ false = and_right (may_propose_after a) (proposes d.core) (none_proposed d.core.state f.state d.core) in
    ap (λ b. step_result c (with_proposal_if b d)) e ∙ ap (λ b. with_installation_if b d.core (sent d.sends ++ agreed_and_safe_of_step c d.core)) (none_installed d.core.state f.state d.core)

acting_grows : {A : Type 0} → (c : Core A) (input : Input A) (r : RingId) → front c r ≤ front (acting c input).core r
acting_grows {A} c input r = subst (λ (d : TransitionResult A). front c r ≤ front d.core r) (sym (acted c (decide c input)))
    ((moved_grows c (move_of c (decide c input))).fronts r)

-- Agreed outputs

record IsFound {A : Type 0} (held : List (Message A)) (ring : RingId) (n : ℕ) : Type 0 where
  pub message : Message A
  pub is : found held ring n ≡ Some message
  pub number : message.number ≡ n
  pub user : is_user message.payload ≡ true

find_one : {A : Type 0} → (p : Message A → Bool) (xs : List (Message A)) → list_any p xs ≡ true →
    (x : Message A) × (find p xs ≡ Some x) × (p x ≡ true) × IsIn x xs
find_one p [] h = absurd (false≢true h)
find_one {A} p (y ∷ xs) h =
    elim (cases_Bool (p y)) [
      | inl t ↦ (y, cond-true (p y) (Some y) (find p xs) t, t, inl refl)
      | inr f ↦ (let r = find_one p xs (elim (or_cases (p y) (list_any p xs) h) [ inl t ↦ absurd (both_ways (p y) f t) | inr k ↦ k ]) in
          (r.0, cond-false (p y) (Some y) (find p xs) f ∙ r.1, r.2, inr r.3))
    ]

found_in_front : {A : Type 0} → (held : List (Message A)) → Each (λ (x : Message A). IsUsers x) held → (ring : RingId) (n : ℕ) → 1 ≤ n →
    n ≤ front_of held ring → IsFound held ring n
found_in_front {A} held u ring n low high =
    let f = find_one (is_numbered ring n) held ((front_is held ring).below n low high) in
    record {
      message = f.0;
      is = f.1;
      number = eqb-true (f.0).number n
          (and_parts (same_ring (f.0).ring ring) ((f.0).number == n) f.2).1;
      user = in-each (λ (x : Message A). IsUsers x)
          f.0 held u f.3;
    }

all_told : {A : Type 0} → (held : List (Message A)) (ring : RingId) (first count : ℕ) → ((n : ℕ) → first ≤ n → n < first + count → IsFound held ring n) →
    filter_map agreed_of (map (λ x. Agreed ring x.number x) (filter (λ (x : Message A). is_user x.payload)
    (filter_map (found held ring) (numbers_from first count)))) ≡ numbers_from first count
all_told held ring first zero h = refl
all_told {A} held ring first (suc count) h =
    let f = h first (omega arith) (omega arith) in
    let x = f.message in
    let rest = filter_map (found held ring) (numbers_from (suc first) count) in
    let tell : List (Message A) → List ℕ = λ xs. filter_map agreed_of (map (λ x. Agreed ring x.number x) xs) in
    let user : Message A → Bool = λ x. is_user x.payload in
    let a : tell (filter user (cons_option (found held ring first) rest)) ≡ tell (filter user (x ∷ rest)) =
    ap (λ o. tell (filter user (cons_option o rest))) f.is in
    let b : tell (filter user (x ∷ rest)) ≡ x.number ∷ tell (filter user rest) =
    ap tell (cond-true (user x) (x ∷ filter user rest) (filter user rest) f.user) in
    let c : x.number ∷ tell (filter user rest) ≡ first ∷ numbers_from (suc first) count =
    ap (λ n. n ∷ tell (filter user rest)) f.number ∙ ap (λ ns. first ∷ ns)
    (all_told held ring (suc first) count (λ n l k. h n (omega arith) (omega arith))) in
    a ∙ b ∙ c

none_sent : {A : Type 0} → (sends : List (OutgoingFrame A)) → filter_map agreed_of (map (λ (s : OutgoingFrame A). SendOut s.to s.frame) sends) ≡ []
none_sent [] = refl
none_sent (s ∷ sends) = none_sent sends

step_tells : {A : Type 0} → (n : ℕ) (c d : Core A) (sends : List (OutgoingFrame A)) → c.installed ≡ formed_ring_of n → Each (λ (x : Message A). IsUsers x) d.held →
    filter_map agreed_of (sent sends ++ agreed_and_safe_of_step c d) ≡ numbers_from (front c (formed_ring_of n).ring + 1) (front d (formed_ring_of n).ring - front c (formed_ring_of n).ring)
step_tells {A} n c d sends e u =
    let r = c.installed.ring in
    let f = front c r in
    let ring : r ≡ (formed_ring_of n).ring = ap (λ (p : Configuration). p.ring) e in
    let safe : filter_map agreed_of (safe_from d r (mark c r)) ≡ [] = cond_both (nat_lt (mark c r) (mark d r))
    (Safe r (mark d r) ∷ []) [] (λ (outs : List (Out A)). filter_map agreed_of outs ≡ []) (λ t. refl) (λ t. refl) in
    let told : filter_map agreed_of (agreed_from d r f) ≡ numbers_from (f + 1) (front d r - f) = all_told d.held r
    (f + 1) (front d r - f) (λ m l k. found_in_front d.held u r m (omega arith) (omega arith)) in
    let all : filter_map agreed_of (agreed_and_safe_of_step c d) ≡ numbers_from (f + 1) (front d r - f) =
    filter_map-append agreed_of (agreed_from d r f) (safe_from d r (mark c r))
    ∙ ap (λ xs. filter_map agreed_of (agreed_from d r f) ++ xs) safe ∙ append-nil _ ∙ told in
    filter_map-append agreed_of (sent sends) (agreed_and_safe_of_step c d) ∙ ap (λ xs. xs ++ filter_map agreed_of (agreed_and_safe_of_step c d)) (none_sent (sends_with_receivers sends)) ∙ all
    ∙ ap (λ r. numbers_from (front c r + 1) (front d r - front c r)) ring

-- Worlds

pub record IsFormedWorld {A : Type 0} (n : ℕ) (w : World A) : Type 0 where
  pub cores : (q : ℕ) → IsFormed n (w.cores q)
  pub frames : Each (λ (f : Transmission A). IsQuiet f.frame) w.frames
  pub told : (q : ℕ) → agreed_numbers w q ≡ numbers_from 1 (front (w.cores q) (formed_ring_of n).ring)

-- the outputs of a step of one processor, for each processor
told_own : {A : Type 0} → (i q : ℕ) (outs : List (Out A)) → i ≡ q → filter_map (agreed_number q) (map (λ o. (i, o)) outs) ≡ filter_map agreed_of outs
told_own i q [] e = refl
told_own i q (o ∷ outs) e =
    ap (λ x. cons_option x (filter_map (agreed_number q) (map (λ o. (i, o)) outs)))
    (cond-true (i == q) (agreed_of o) None (eq-eqb i q e)) ∙ ap (cons_option (agreed_of o)) (told_own i q outs e)

told_other : {A : Type 0} → (i q : ℕ) (outs : List (Out A)) → (i ≡ q → ⊥) → filter_map (agreed_number q) (map (λ o. (i, o)) outs) ≡ []
told_other i q [] e = refl
told_other i q (o ∷ outs) e =
    ap (λ x. cons_option x (filter_map (agreed_number q) (map (λ o. (i, o)) outs)))
    (cond-false (i == q) (agreed_of o) None (ne_eqb i q e)) ∙ told_other i q outs e

module _ {A : Type 0} (n : ℕ) (w : World A) (f : IsFormedWorld n w) where
  after_formed : (i : ℕ) (input : Input A) → IsAllowed input → IsFormedWorld n (after_step w i (ring_step (w.cores i) input))
  after_formed i input allowed =
      let c = w.cores i in
      let d = acting c input in
      let r = (formed_ring_of n).ring in
      let a = decide c input in
      let done = acted_formed n c input a (f.cores i) allowed (guarded c input) (caused c input) (asked_by c input a refl (caused c input)) in
      let is = step_is n c input done.core in
      let outs = sent d.sends ++ agreed_and_safe_of_step c d.core in
      let v : World A = record w {
        cores = with_core w.cores i d.core;
        frames = w.frames ++ filter_map (transmission_by i) outs;
        outs = w.outs ++ map (λ o. (i, o)) outs;
      } in
      let sends : filter_map (transmission_by i) outs ≡ transmissions_from i d.sends = outs_carried i d.sends (agreed_and_safe_of_step c d.core) (told_from d.core c.installed.ring _ _) in
      let quiet : Each (λ (g : Transmission A). IsQuiet g.frame) (transmissions_from i d.sends) =
      each-map (λ (g : Transmission A). IsQuiet g.frame) (λ s. record { from = i; to = s.to; frame = s.frame })
      (sends_with_receivers d.sends) (each-filter (λ (s : OutgoingFrame A). IsQuiet s.frame) (λ s. not (s.to == nobody))
      d.sends done.sends) in
      let grown : front c r ≤ front d.core r = acting_grows c input r in
      let told : filter_map agreed_of outs ≡ numbers_from (front c r + 1) (front d.core r - front c r) =
      step_tells n c d.core d.sends (f.cores i).installed (done.core).users in
      let whole : IsFormedWorld n v = record {
        cores = put-each (λ q (x : Core A). IsFormed n x) w.cores i d.core (λ q m. f.cores q) done.core;
        frames = each-append (λ (g : Transmission A). IsQuiet g.frame) w.frames (filter_map (transmission_by i) outs) f.frames
            (subst (Each (λ (g : Transmission A). IsQuiet g.frame)) (sym sends) quiet);
        told = put-each (λ q (x : Core A). agreed_numbers v q ≡ numbers_from 1 (front x r)) w.cores i d.core
            (λ q m. filter_map-append (agreed_number q) w.outs (map (λ o. (i, o)) outs)
            ∙ ap (λ xs. agreed_numbers w q ++ xs) (told_other i q outs (λ e. m (sym e)))
            ∙ append-nil (agreed_numbers w q) ∙ f.told q)
            (let one : 1 + front c r ≡ front c r + 1 = omega arith in
            let sum : front c r + (front d.core r - front c r) ≡ front d.core r = omega arith in
            filter_map-append (agreed_number i) w.outs (map (λ o. (i, o)) outs)
            ∙ ap (λ xs. agreed_numbers w i ++ xs) (told_own i i outs refl ∙ told)
            ∙ ap (λ xs. xs ++ numbers_from (front c r + 1) (front d.core r - front c r)) (f.told i)
            ∙ ap (λ k. numbers_from 1 (front c r) ++ numbers_from k (front d.core r - front c r)) (sym one)
            ∙ numbers-append 1 (front c r) (front d.core r - front c r)
            ∙ ap (numbers_from 1) sum);
      } in
      subst (λ (s : StepResult A). IsFormedWorld n (after_step w i s)) (sym is) whole

  stepped_formed : (b : Bool) (i : ℕ) (input : Input A) → IsAllowed input → IsFormedWorld n (stepped_if b w i input)
  stepped_formed false i input h = f
  stepped_formed true i input h = after_formed i input h

  stopped_formed : (b : Bool) (i : ℕ) → IsFormedWorld n (stopped_if b w i)
  stopped_formed false i = f
  stopped_formed true i =
      let c = w.cores i in
      record {
        cores = put-each (λ q (x : Core A). IsFormed n x) w.cores i (halted c) (λ q m. f.cores q)
            (record {
              installed = (f.cores i).installed;
              rings = (f.cores i).rings;
              installs = (f.cores i).installs;
              state = inr refl;
              users = (f.cores i).users;
              queued = (f.cores i).queued;
              last_sent = (f.cores i).last_sent;
            });
        frames = f.frames;
        told = put-each (λ q (x : Core A). agreed_numbers w q ≡ numbers_from 1 (front x (formed_ring_of n).ring)) w.cores i (halted c) (λ q m. f.told q) (f.told i);
      }

  frame_formed : (b : Bool) (i : ℕ) (frame : Frame A) → IsQuiet frame → IsFormedWorld n (handed_if b w i frame)
  frame_formed false i frame h = f
  frame_formed true i frame h = stepped_formed (is_node w i) i (FrameInput frame) h

  quiet_at : (fs : List (Transmission A)) (k : ℕ) (g : Transmission A) → Each (λ (f : Transmission A). IsQuiet f.frame) fs → slice_get fs k ≡ Some g → IsQuiet g.frame
  quiet_at fs k g h e = each-get (λ (f : Transmission A). IsQuiet f.frame) fs k g h e

  handed_formed : (i m : ℕ) (o : Option (Transmission A)) → frame_at w.frames m ≡ o → IsFormedWorld n (handed w i o)
  handed_formed i m None e = f
  handed_formed i zero (Some g) e = absurd (let x : ⊥ = cc in x)
  handed_formed i (suc m) (Some g) e = frame_formed (has g.to i) i g.frame (quiet_at w.frames m g f.frames e)

  pub event_formed : (e : RingEvent A) → has_effect_on_formed e ≡ true → IsFormedWorld n (world_after_event w e)
  event_formed (Send i payload) h = stepped_formed (is_node w i) i (SendInput payload) tt
  event_formed (Deliver i m) h = handed_formed i m (frame_at w.frames m) refl
  event_formed (Timeout i kind) h = stepped_formed (is_node w i) i (TimeInput kind) h
  event_formed (Stop i) h = stopped_formed (is_node w i) i

run_formed_holds : {A : Type 0} → (n : ℕ) (w : World A) (events : List (RingEvent A)) → Each (λ (e : RingEvent A). has_effect_on_formed e ≡ true) events →
    IsFormedWorld n w → IsFormedWorld n (run w events)
run_formed_holds n w [] h f = f
run_formed_holds n w (e ∷ events) h f = run_formed_holds n (world_after_event w e) events h.1 (event_formed n w f e h.0)

pub all_act : {A : Type 0} → (events : List (RingEvent A)) → Each (λ (e : RingEvent A). has_effect_on_formed e ≡ true) (filter has_effect_on_formed events)
all_act [] = tt
all_act {A} (e ∷ events) = cond_both (has_effect_on_formed e) (e ∷ filter has_effect_on_formed events)
    (filter has_effect_on_formed events) (Each (λ (e : RingEvent A). has_effect_on_formed e ≡ true)) (λ t. (t, all_act events))
    (λ t. all_act events)

-- Openings

formed_core : {A : Type 0} → (n q : ℕ) → IsFormed {A = A} n (formed n q)
formed_core n q = record {
  installed = refl;
  rings = refl;
  installs = refl;
  state = inl refl;
  users = tt;
  queued = tt;
  last_sent = λ s e. absurd (let x : ⊥ = cc in x);
}

-- the first visit has no messages to send
pub start_formed : {A : Type 0} → (n : ℕ) → IsFormedWorld {A = A} n (ring_formed n)
start_formed {A} n =
    let c : Core A = formed n 1 in
    let t = first_token (formed_ring_of n).ring in
    let r = (formed_ring_of n).ring in
    let d = apply_transition c (Visit t) in
    let first = visited_formed n c t (formed_core n 1) refl in
    let none : new_payloads c t ≡ [] = packed_none (room_at c t) in
    let held : front d.core r ≡ 0 = ap (λ (ps : List (Payload A)). front_of (reverse (numbered t.ring c.me t.seq ps) ++ c.held) r) none in
    record {
      cores = put-each (λ q (x : Core A). IsFormed n x) (formed n) 1 d.core (λ q m. formed_core n q) first.core;
      frames = each-map (λ (g : Transmission A). IsQuiet g.frame) (λ s. record { from = 1; to = s.to; frame = s.frame })
          (sends_with_receivers d.sends) (each-filter (λ (s : OutgoingFrame A). IsQuiet s.frame) (λ s. not (s.to == nobody))
          d.sends first.sends);
      told = put-each (λ q (x : Core A). [] ≡ numbers_from 1 (front x r)) (formed n) 1 d.core (λ q m. refl) (ap (numbers_from 1) (sym held));
    }

pub formed_worlds : {A : Type 0} → (n : ℕ) (events : List (RingEvent A)) → IsFormedWorld n (run_formed n events)
formed_worlds n events = run_formed_holds n (ring_formed n) (filter has_effect_on_formed events) (all_act events) (start_formed n)

pub agreed_ascend : {A : Type 0} → (n i : ℕ) (events : List (RingEvent A)) →
    agreed_numbers (run_formed n events) i ≡ numbers_from 1 (front ((run_formed n events).cores i) (formed_ring_of n).ring)
agreed_ascend n i events = (formed_worlds n events).told i
