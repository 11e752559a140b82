-- Every user message that a core sends, and each front that it reports of a ring, comes after every member's End.
use Rattle.std.proofs.Common.{◌≡◌, ℕ, ◌<◌, ◌≤◌, inl, inr, true, List, refl, ap, sym, ◌∙◌, subst, arith}
use Rattle.std.specs.List.{AllByRecursion as Each}
use Rattle.ring_base.specs.declared.ring_id.RingId.{RingId}
use Rattle.ring_base.specs.declared.state.State.TheVariants.{Gather, Commit, Recovery, Operational, Stopped}
use Rattle.ring_base.proofs.Each.{each-weaker}
use Rattle.ring_payload.specs.PayloadKinds.{is_user}
use Rattle.ring_payload.specs.declared.content.Payload.{Payload}
use Rattle.ring_wire.specs.declared.frame.Frame.{Frame}
use Rattle.ring_wire.specs.declared.message.Message.{Message}
use Rattle.ring_wire.specs.declared.token.Token.{Token}
use Rattle.ring_core_spec.specs.Tokens.{TokenVisit, numbered}
use Rattle.ring_core_spec.specs.Commits.{Configuration}
use Rattle.ring_core_spec.specs.State.{Core, floor}
use Rattle.ring_core_spec.specs.Views.{front}
use Rattle.ring_core_proof.specs.FactWords.{IsIn}
use Rattle.ring_core_proof.specs.Moves.{Move, Idles, Enters, Learns, Visits, Takes, Installs, core_after_move, MayMove, MayVisit}
use Rattle.ring_chain_proof.proofs.FactsGrow.{moved_grows}
use Rattle.ring_chain_proof.proofs.OneText.{numbered_in}
use Rattle.ring_core_proof.specs.CoreInvariants.{RingsFit}
use Rattle.ring_core_proof.proofs.OwnRings.{newest_in}
use Rattle.ring_core_proof.proofs.OwnMessages.{held_stays}
use Rattle.ring_synchrony_proof.specs.Recovery.{HoldsEnds}
use Rattle.ring_synchrony_proof.specs.Ends.{sent_in, IsBehindEnds, SendsBehindEnds, ReportsBehindEnds}
use Rattle.ring_synchrony_proof.proofs.SendsAfterEnd.{held_under, no_user}

-- Facts that stay

pub installs_stay : {A : Type 0} → (c : Core A) (m : Move A) (x : Configuration) → IsIn x c.installs → IsIn x (core_after_move c m).installs
installs_stay c (Idles state gathering last_sent queue sends) x i = i
installs_stay c (Enters k) x i = i
installs_stay c (Learns k) x i = i
installs_stay c (Visits t fresh requests again queue) x i = i
installs_stay c (Takes y) x i = i
installs_stay c Installs x i = inr i

behind_stays : {A : Type 0} → (c : Core A) (m : Move A) (ring : RingId) (n : ℕ) → IsBehindEnds c ring n → IsBehindEnds (core_after_move c m) ring n
behind_stays c m ring n b =
    record {
      configuration = b.configuration;
      there = installs_stay c m b.configuration b.there;
      ring_is = b.ring_is;
      ends = λ i j. (let e = b.ends i j in
          record { message = e.message; held = held_stays c m e.message e.held; ring_is = e.ring_is; sender = e.sender; ended = e.ended; within = e.within });
    }

-- a message that was sent stays in its visit
pub sent_back : {A : Type 0} → (c : Core A) (m : Move A) (v : TokenVisit A) (x : Message A) → IsIn x (sent_in (core_after_move c m) v) → IsIn x (sent_in c v)
sent_back {A} c m v x i = subst (λ me. IsIn x (numbered v.received.ring me v.received.seq v.fresh)) (moved_grows c m).me i

-- the last installed ring, up to the front and above
last_ends : {A : Type 0} → (c : Core A) → RingsFit c → HoldsEnds c → 0 < c.installed.ring.seq → (n : ℕ) → front c c.installed.ring ≤ n →
    IsBehindEnds c c.installed.ring n
last_ends {A} c rings ends low n l =
    let there : IsIn c.installed c.installs = newest_in c.installed c.installs rings.last in
    record {
      configuration = c.installed;
      there = there;
      ring_is = refl;
      ends = λ i j. (let e = ends c.installed there low i j in
          let w = e.within in
          record { message = e.message; held = e.held; ring_is = e.ring_is; sender = e.sender; ended = e.ended; within = omega (arith, w, l) });
    }

-- No opening ring runs

pub record IsBegun {A : Type 0} (c : Core A) : Type 0 where
  pub runs : c.state ≡ Operational → 0 < floor c
  pub turns : Each (λ (v : TokenVisit A). 0 < v.received.ring.seq) c.turns

pub moved_begun : {A : Type 0} → (received : Frame A → Type 0) (c : Core A) (m : Move A) → MayMove received c m → RingsFit c → IsBegun c → IsBegun (core_after_move c m)
moved_begun received c (Idles state gathering last_sent queue sends) h rings b =
    record {
      runs = λ s. elim (h.leaves) [
        | inl e ↦ b.runs (sym e ∙ s)
        | inr (inl e) ↦ absurd (let q : Gather ≡ Operational = sym e ∙ s in let n : ⊥ = cc in n)
        | inr (inr e) ↦ absurd (let q : Stopped ≡ Operational = sym e ∙ s in let n : ⊥ = cc in n)
      ];
      turns = b.turns;
    }
moved_begun received c (Enters k) h rings b = record { runs = λ s. absurd (let q : Commit ≡ Operational = s in let n : ⊥ = cc in n); turns = b.turns }
moved_begun received c (Learns k) h rings b = record { runs = λ s. absurd (let q : Recovery ≡ Operational = s in let n : ⊥ = cc in n); turns = b.turns }
moved_begun received c (Visits t fresh requests again queue) h rings b =
    let ring : t.ring.seq ≡ floor c = ap (λ (r : RingId). r.seq) h.ring in
    let low : 0 < floor c = elim (h.state) [ inl r ↦ (let l = rings.changing (inr r) in omega (arith, l)) | inr o ↦ b.runs o ] in
    record { runs = b.runs; turns = (omega (arith, ring, low), b.turns) }
moved_begun received c (Takes x) h rings b = record { runs = b.runs; turns = b.turns }
moved_begun received c Installs h rings b = record { runs = λ s. (let l = rings.changing (inr h.state) in omega (arith, l)); turns = b.turns }

-- User messages

visit_users : {A : Type 0} →
    (received : Frame A → Type 0) (c : Core A) (t : Token) (fresh : List (Payload A)) (again : List (Message A)) (queue : List (Payload A)) →
    MayVisit received c t fresh again queue → RingsFit c → HoldsEnds c → IsBegun c → (x : Message A) → IsIn x (numbered t.ring c.me t.seq fresh) →
    is_user x.payload ≡ true → IsBehindEnds c t.ring x.number
visit_users {A} received c t fresh again queue h rings ends begun x i u =
    elim (h.state) [
      | inl r ↦ absurd (no_user received c t fresh again queue h (h.wraps r) x i u)
      | inr o ↦ (let same : c.running ≡ c.installed = rings.operating o in
          let ring : t.ring ≡ c.installed.ring = h.ring ∙ ap (λ (p : Configuration). p.ring) same in
          let low = begun.runs o in
          let seq : floor c ≡ c.installed.ring.seq = ap (λ (p : Configuration). p.ring.seq) same in
          let above = (numbered_in t.ring c.me t.seq fresh x i).above in
          let there : IsIn c.installed c.installs = newest_in c.installed c.installs rings.last in
          record {
            configuration = c.installed;
            there = there;
            ring_is = sym ring;
            ends = λ j k. (let e = ends c.installed there (omega (arith, low, seq)) j k in
                let under : (e.message).number ≤ t.seq = held_under received c t fresh again queue h e.message e.held (e.ring_is ∙ sym ring) in
                record {
                  message = e.message;
                  held = e.held;
                  ring_is = e.ring_is ∙ sym ring;
                  sender = e.sender;
                  ended = e.ended;
                  within = omega (arith, under, above);
                });
          })
    ]

pub moved_users : {A : Type 0} → (received : Frame A → Type 0) (c : Core A) (m : Move A) → MayMove received c m → RingsFit c → HoldsEnds c → IsBegun c →
    Each (SendsBehindEnds c) c.turns → Each (SendsBehindEnds (core_after_move c m)) (core_after_move c m).turns
moved_users {A} received c m h rings ends begun e =
    go m h
    (each-weaker (SendsBehindEnds c) (SendsBehindEnds (core_after_move c m)) (λ v s x i u. behind_stays c m v.received.ring x.number (s x (sent_back c m v x i) u)) c.turns e)
  where
    go : (m : Move A) → MayMove received c m → Each (SendsBehindEnds (core_after_move c m)) c.turns → Each (SendsBehindEnds (core_after_move c m)) (core_after_move c m).turns
    go (Idles state gathering last_sent queue sends) h k = k
    go (Enters q) h k = k
    go (Learns q) h k = k
    go (Visits t fresh requests again queue) h k =
        (λ x i u. behind_stays c (Visits t fresh requests again queue) t.ring x.number (visit_users received c t fresh again queue h rings ends begun x i u), k)
    go (Takes x) h k = k
    go Installs h k = k

-- Reports

pub moved_reports : {A : Type 0} → (received : Frame A → Type 0) (c : Core A) (m : Move A) → MayMove received c m → RingsFit c → HoldsEnds c →
    Each (ReportsBehindEnds c) c.reports →
    Each (ReportsBehindEnds (core_after_move c m)) (core_after_move c m).reports
moved_reports {A} received c m h rings ends e =
    go m h (each-weaker (ReportsBehindEnds c) (ReportsBehindEnds (core_after_move c m)) (λ x s l. behind_stays c m x.entry.old x.entry.front (s l)) c.reports e)
  where
    go : (m : Move A) → MayMove received c m → Each (ReportsBehindEnds (core_after_move c m)) c.reports → Each (ReportsBehindEnds (core_after_move c m)) (core_after_move c m).reports
    go (Idles state gathering last_sent queue sends) h k = k
    go (Enters q) h k =
        (λ l. behind_stays c (Enters q) c.installed.ring (front c c.installed.ring) (last_ends c rings ends l (front c c.installed.ring) (omega arith)), k)
    go (Learns q) h k = k
    go (Visits t fresh requests again queue) h k = k
    go (Takes x) h k = k
    go Installs h k = k
