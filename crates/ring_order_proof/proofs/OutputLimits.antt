-- The outputs of a core's step keep the limits, and what is safe in a ring never falls. Each agreed message keeps them, in a ring
-- of number 1 or more, and so does each installed ring.
use Rattle.std.proofs.Common.{◌≡◌, ℕ, ◌+◌, ◌-◌, ◌≤◌, Bool, true, false, List, [], ◌∷◌, ◌++◌, Some, refl, sym, subst, arith}
use Rattle.std.specs.Prelude.{map, filter_map, nat_lt, ◌&&◌}
use Rattle.std.specs.List.{AllByRecursion as Each}
use Rattle.std.proofs.lemmas.Bool.{cond_both, ltb-false}
use Rattle.ring_base.specs.Numbers.{numbers_from}
use Rattle.ring_base.specs.declared.ring_id.RingId.{RingId}
use Rattle.ring_base.proofs.Each.{each-filter, each-filter_map}
use Rattle.ring_wire.specs.Rings.{RingFits}
use Rattle.ring_payload.specs.PayloadKinds.{is_user}
use Rattle.ring_wire.specs.Messages.{MessageFits}
use Rattle.ring_wire.specs.declared.message.Message.{Message}
use Rattle.ring_core_spec.specs.Windows.{found}
use Rattle.ring_core_spec.specs.Recoveries.{rest_messages}
use Rattle.ring_core_spec.proofs.Tokens.{safe_mark-turn, safe_mark-raise}
use Rattle.ring_core_spec.specs.Commits.{Configuration}
use Rattle.ring_core_spec.specs.declared.input.Input.{Input}
use Rattle.ring_core_spec.specs.declared.out.Out.{Out}
use Rattle.ring_core_spec.specs.declared.out.Out.TheVariants.{Send, Agreed, Safe, Trans, Rest, Regular}
use Rattle.ring_core_spec.specs.State.{Core, OutgoingFrame}
use Rattle.ring_core_spec.specs.Joining.{proposes}
use Rattle.ring_core_spec.specs.Views.{front, mark, plan}
use Rattle.ring_core_spec.specs.Deciding.{Transition, Ignore, Enqueue, Repeat, Announce, Invite, GiveUp, EnterGather, Agree, MergeJoin}
use Rattle.ring_core_spec.specs.Deciding.{EnterGatherAndAgree, EnterGatherAndMergeJoin, Take, Visit, Fill, Learn, decide}
use Rattle.ring_core_spec.specs.Transitions.{apply_transition, may_propose_after, transition_and_proposal}
use Rattle.ring_core_spec.specs.Giving.{may_install, sends_with_receivers, sent, user_messages_between, agreed_from, safe_from, delivered_from, agreed_and_safe_of_step, installation_outputs, with_installation_if}
use Rattle.ring_core_spec.specs.Stepping.{ring_step}
use Rattle.ring_core_proof.proofs.InLists.{in-each, each-in}
use Rattle.ring_core_proof.proofs.WrapsAndEnd.{found_in}
use Rattle.ring_core_proof.specs.Limits.{InputFits, CoreFits}
use Rattle.ring_core_proof.proofs.TransitionLimits.{done_fits}
use Rattle.ring_core_spec.proofs.InstalledKept.{done_installed, proposed_marks}
use Rattle.ring_order_proof.specs.NodeFits.{HeardFits}

-- Outputs that begin in a ring of one number with one safe mark, and end in a ring of another number with another mark
abbrev pub Tells : {A : Type 0} → ℕ → ℕ → ℕ → ℕ → List (Out A) → Type 0
Tells n low m high [] = (n ≡ m) × (low ≡ high)
Tells n low m high (Agreed ring k x ∷ outs) = HeardFits n x × Tells n low m high outs
Tells n low m high (Regular ring set ∷ outs) = RingFits ring × Tells ring.seq 0 m high outs
Tells n low m high (Safe ring upto ∷ outs) = (low ≤ upto) × Tells n upto m high outs
Tells n low m high (Send to frame ∷ outs) = Tells n low m high outs
Tells n low m high (Trans old new set ∷ outs) = Tells n low m high outs
Tells n low m high (Rest ring k x ∷ outs) = Tells n low m high outs

tells-append : {A : Type 0} → (n low m mid k high : ℕ) (xs ys : List (Out A)) → Tells n low m mid xs → Tells m mid k high ys → Tells n low k high (xs ++ ys)
tells-append n low m mid k high [] ys h t =
    subst (λ q. Tells q low k high ys) (sym h.0) (subst (λ q. Tells m q k high ys) (sym h.1) t)
tells-append n low m mid k high (Agreed ring q x ∷ xs) ys h t = (h.0, tells-append n low m mid k high xs ys h.1 t)
tells-append n low m mid k high (Regular ring set ∷ xs) ys h t = (h.0, tells-append ring.seq 0 m mid k high xs ys h.1 t)
tells-append n low m mid k high (Safe ring upto ∷ xs) ys h t = (h.0, tells-append n upto m mid k high xs ys h.1 t)
tells-append n low m mid k high (Send to frame ∷ xs) ys h t = tells-append n low m mid k high xs ys h t
tells-append n low m mid k high (Trans old new set ∷ xs) ys h t = tells-append n low m mid k high xs ys h t
tells-append n low m mid k high (Rest ring q x ∷ xs) ys h t = tells-append n low m mid k high xs ys h t

tells_sent : {A : Type 0} → (n low : ℕ) (sends : List (OutgoingFrame A)) → Tells {A = A} n low n low (map (λ (s : OutgoingFrame A). Send s.to s.frame) sends)
tells_sent n low [] = (refl, refl)
tells_sent n low (s ∷ sends) = tells_sent n low sends

tells_agreed : {A : Type 0} → (n low : ℕ) (ring : RingId) (xs : List (Message A)) → Each (HeardFits n) xs →
    Tells n low n low (map (λ (x : Message A). Agreed ring x.number x) xs)
tells_agreed n low ring [] h = (refl, refl)
tells_agreed n low ring (x ∷ xs) h = (h.0, tells_agreed n low ring xs h.1)

tells_rest : {A : Type 0} → (n low : ℕ) (xs : List (Message A)) → Tells n low n low (map (λ (x : Message A). Rest x.ring x.number x) xs)
tells_rest n low [] = (refl, refl)
tells_rest n low (x ∷ xs) = tells_rest n low xs

-- A core's outputs about a ring

module _ {A : Type 0} (c : Core A) (f : CoreFits c) where
  found_fits : (ring : RingId) (n : ℕ) (x : Message A) → found c.held ring n ≡ Some x → HeardFits ring.seq x
  found_fits ring n x e =
      let there = found_in c.held ring n x e in
      let fits : MessageFits x = in-each MessageFits x c.held f.held there.0 in
      record { message = fits; counted = subst (λ (r : RingId). 1 ≤ r.seq) there.1 fits.ring_counted }

  users_fit : (ring : RingId) (below upto : ℕ) → Each (HeardFits ring.seq) (user_messages_between c ring below upto)
  users_fit ring below upto =
      let numbers = numbers_from (below + 1) (upto - below) in
      each-filter (HeardFits ring.seq) (λ (x : Message A). is_user x.payload) (filter_map (found c.held ring) numbers)
      (each-filter_map (λ n. Unit {0}) (HeardFits ring.seq) (found c.held ring) (λ n x u e. found_fits ring n x e) numbers
      (each-in (λ n. Unit {0}) numbers (λ n i. tt)))

  tells_safe : (n : ℕ) (ring : RingId) (m : ℕ) → m ≤ mark c ring → Tells n m n (mark c ring) (safe_from c ring m)
  tells_safe n ring m le =
      cond_both (nat_lt m (mark c ring)) (Safe ring (mark c ring) ∷ []) [] (λ (outs : List (Out A)). Tells n m n (mark c ring) outs)
      (λ t. (le, (refl, refl))) (λ e. (refl, (let l = ltb-false m (mark c ring) e in omega (arith, l, le))))

  tells_from : (ring : RingId) (before m : ℕ) → m ≤ mark c ring → Tells ring.seq m ring.seq (mark c ring) (delivered_from c ring before m)
  tells_from ring before m le =
      tells-append ring.seq m ring.seq m ring.seq (mark c ring) (agreed_from c ring before) (safe_from c ring m)
      (tells_agreed ring.seq m ring (user_messages_between c ring before (front c ring)) (users_fit ring before (front c ring)))
      (tells_safe ring.seq ring m le)

  tells_configured : (n low : ℕ) → Tells n low c.running.ring.seq (mark c c.running.ring) (installation_outputs c)
  tells_configured n low =
      tells-append n low n low c.running.ring.seq (mark c c.running.ring) (map (λ (x : Message A). Rest x.ring x.number x) (rest_messages (plan c) c.held))
      (Regular c.running.ring c.running.members ∷ delivered_from c c.running.ring 0 0)
      (tells_rest n low (rest_messages (plan c) c.held))
      ((f.running).ring, tells_from c.running.ring 0 0 (omega arith))

-- No act lowers a safe mark

act_marks : {A : Type 0} → (c : Core A) (a : Transition A) (ring : RingId) → mark c ring ≤ mark (apply_transition c a).core ring
act_marks c Ignore ring = omega arith
act_marks c (Enqueue payload) ring = omega arith
act_marks c Repeat ring = omega arith
act_marks c Announce ring = omega arith
act_marks c Invite ring = omega arith
act_marks c GiveUp ring = omega arith
act_marks c EnterGather ring = omega arith
act_marks c (Agree j) ring = omega arith
act_marks c (MergeJoin j) ring = omega arith
act_marks c (EnterGatherAndAgree j) ring = omega arith
act_marks c (EnterGatherAndMergeJoin j) ring = omega arith
act_marks c (Take x) ring = omega arith
act_marks c (Visit t) ring = safe_mark-turn _ c.turns c.raises ring
act_marks c (Fill k) ring = omega arith
act_marks c (Learn k) ring = safe_mark-raise _ c.turns c.raises ring

done_marks : {A : Type 0} → (c : Core A) (a : Transition A) (ring : RingId) → mark c ring ≤ mark (transition_and_proposal c a).core ring
done_marks c a ring =
    let same = proposed_marks (may_propose_after a && proposes (apply_transition c a).core) (apply_transition c a) ring in
    let rises = act_marks c a ring in
    omega (arith, same, rises)

-- A step

module _ {A : Type 0} (old c : Core A) (sends : List (OutgoingFrame A)) (f : CoreFits c) where
  told_before : mark old old.installed.ring ≤ mark c old.installed.ring →
      Tells old.installed.ring.seq (mark old old.installed.ring) old.installed.ring.seq (mark c old.installed.ring) (sent sends ++ agreed_and_safe_of_step old c)
  told_before le =
      let n = old.installed.ring.seq in
      let low = mark old old.installed.ring in
      tells-append n low n low n (mark c old.installed.ring) (sent sends) (agreed_and_safe_of_step old c) (tells_sent n low (sends_with_receivers sends))
      (tells_from c f old.installed.ring (front old old.installed.ring) low le)

  tells_settled : (b : Bool) → c.installed ≡ old.installed → mark old old.installed.ring ≤ mark c old.installed.ring →
      let after = with_installation_if b c (sent sends ++ agreed_and_safe_of_step old c) in
      Tells old.installed.ring.seq (mark old old.installed.ring) after.core.installed.ring.seq (mark after.core after.core.installed.ring) after.outs
  tells_settled false e le =
      subst (λ (x : Configuration). Tells old.installed.ring.seq (mark old old.installed.ring) x.ring.seq (mark c x.ring) (sent sends ++ agreed_and_safe_of_step old c))
      (sym e) (told_before le)
  tells_settled true e le =
      let n = old.installed.ring.seq in
      let mid = mark c old.installed.ring in
      tells-append n (mark old old.installed.ring) n mid c.running.ring.seq (mark c c.running.ring) (sent sends ++ agreed_and_safe_of_step old c) (installation_outputs c)
      (told_before le) (tells_configured c f n mid)

pub step_tells : {A : Type 0} → (c : Core A) (input : Input A) → CoreFits c → InputFits input →
    let after = ring_step c input in
    Tells c.installed.ring.seq (mark c c.installed.ring) after.core.installed.ring.seq (mark after.core after.core.installed.ring) after.outs
unfolding ring_step
step_tells c input f w =
    let d = transition_and_proposal c (decide c input) in
    tells_settled c d.core d.sends ((done_fits c input f w).core) (may_install d.core) (done_installed c (decide c input))
    (done_marks c (decide c input) c.installed.ring)
