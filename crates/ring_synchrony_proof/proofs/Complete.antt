-- Where every member's End of the running ring is in the front, the core holds every number that a transitional
-- member reported.

-- All messages above the least front are users', and each was wrapped before the End of the member that reported it.
use Rattle.std.proofs.Common.{◌≡◌, ℕ, zero, suc, ◌+◌, ◌%◌, ◌<◌, ◌≤◌, inl, inr, true, ◌==◌, List, [], ◌∷◌, length, map}
use Rattle.std.proofs.Common.{Some, refl, ap, sym, ◌∙◌, subst, arith, mod-lt}
use Rattle.std.specs.Prelude.{slice_get, slice_index, nat_le}
use Rattle.std.specs.List.{list_all}
use Rattle.std.proofs.lemmas.Bool.{cases_Bool, cases_lt, and_parts, and_from, false≢true, le-leb, eqb-true}
use Rattle.ring_base.specs.Numbers.{window_size, numbers_from}
use Rattle.ring_base.specs.Processors.{elements, at, size}
use Rattle.ring_base.specs.Rings.{same_ring}
use Rattle.ring_base.specs.declared.ring_id.RingId.{RingId}
use Rattle.ring_base.specs.declared.state.State.TheVariants.{Recovery}
use Rattle.ring_payload.specs.PayloadKinds.{is_user, is_end}
use Rattle.ring_payload.specs.declared.content.Payload.{Payload}
use Rattle.ring_payload.specs.declared.content.Payload.TheVariants.{Call, Wrapped, End, Head, Part, Pack, Snap}
use Rattle.ring_payload.specs.declared.content.Wrapped.{Wrapped as WrappedMessage}
use Rattle.ring_wire.specs.declared.commit.CommitToken.{CommitToken}
use Rattle.ring_wire.specs.declared.entries.CommitEntry.{CommitEntry}
use Rattle.ring_wire.specs.declared.message.Message.{Message}
use Rattle.ring_core_spec.specs.Windows.{holds, front_of}
use Rattle.ring_core_spec.proofs.Windows.{front_is, holds-found}
use Rattle.ring_base.proofs.SameRing.{ring_same, same-self}
use Rattle.ring_core_spec.specs.Tokens.{TokenVisit, VisitBy, AreVisits, numbered}
use Rattle.ring_core_spec.specs.Commits.{reports_of, Configuration}
use Rattle.ring_core_spec.specs.Recoveries.{Plan, plan_of, safe, low, least, is_reported, is_known, known_above_safe, is_complete, is_ready, is_wrap_of}
use Rattle.ring_core_spec.specs.State.{Core, Report}
use Rattle.ring_core_spec.specs.Views.{front, mark, plan}
use Rattle.ring_core_proof.specs.FactWords.{IsIn, SomeIs}
use Rattle.ring_core_proof.specs.Worlds.{Transmission}
use Rattle.ring_core_proof.proofs.WithinWindow.{mark_below}
use Rattle.ring_core_proof.proofs.InLists.{in-each, any-some, in-filtered}
use Rattle.ring_chain_proof.specs.ChainWords.{IsGenuine, IsRingOf}
use Rattle.ring_chain_proof.proofs.Plans.{IsPlan, one_plan}
use Rattle.ring_chain_proof.proofs.Rings.{one_members}
use Rattle.ring_chain_proof.proofs.AllLayers.{Holds}
use Rattle.ring_chain_proof.proofs.OneText.{numbered_in, one_text}
use Rattle.ring_synchrony_proof.proofs.Quantified.{all_decides, numbers_in}
use Rattle.ring_synchrony_proof.specs.Recovery.{HoldsEnd}
use Rattle.ring_synchrony_proof.proofs.UserMessages.{found_as}
use Rattle.ring_synchrony_proof.proofs.WrappedIsHeld.{AllUnwrap}
use Rattle.ring_synchrony_proof.proofs.KnownReports.{in_reports}
use Rattle.ring_synchrony_proof.proofs.TransitionalMembersReported.{got_in}
use Rattle.ring_synchrony_proof.proofs.Recovering.{numbered_by}
use Rattle.ring_synchrony_proof.proofs.Unwrapped.{ready_ends}
use Rattle.ring_synchrony_proof.specs.Ends.{IsSentBy, ReportsBehindEnds, EndsBehindWraps, HasHandedOn, IsHandedBefore}
use Rattle.ring_synchrony_proof.proofs.OwnPlanReport.{HasOwn, plan_is}
use Rattle.ring_synchrony_proof.proofs.Order.{IsOrderly}

-- Lists

at_in : (xs : List ℕ) (k : ℕ) → k < length xs → IsIn (slice_index xs k) xs
at_in [] k l = absurd (omega (arith, l))
at_in (x ∷ xs) zero l = inl refl
at_in (x ∷ xs) (suc k) l = inr (at_in xs k (omega (arith, l)))

-- the member at a position is one of the members
pub member_place : (set k : ℕ) → k < size set → IsIn (at set k) (elements set)
member_place set k l = at_in (elements set) k l

got_low : {X : Type 0} (xs : List X) (k : ℕ) (x : X) → slice_get xs k ≡ Some x → k < length xs
got_low [] k x e = absurd (let n : ⊥ = cc in n)
got_low (y ∷ xs) zero x e = omega arith
got_low (y ∷ xs) (suc k) x e = (let l : k < length xs = got_low xs k x e in omega (arith, l))

in_got : {X : Type 0} (xs : List X) (x : X) → IsIn x xs → (k : ℕ) × (slice_get xs k ≡ Some x)
in_got [] x i = absurd i
in_got (y ∷ xs) x (inl e) = (0, ap Some (sym e))
in_got (y ∷ xs) x (inr i) = (let g = in_got xs x i in (suc g.0, g.1))

abbrev fronts : List CommitEntry → List ℕ
fronts es = map (λ (e : CommitEntry). e.front) es

-- the least front is one of the fronts, and none is below it
least_one : (e : CommitEntry) (es : List CommitEntry) → (z : CommitEntry) × IsIn z (e ∷ es) × (z.front ≡ least (fronts (e ∷ es)))
least_one e [] = (e, inl refl, refl)
least_one e (f ∷ es) =
    let (z, i, q) = least_one f es in
    elim (cases_lt (least (fronts (f ∷ es))) e.front) [
      | inl l ↦ (z, inr i, omega (arith, q, l))
      | inr l ↦ (e, inl refl, omega (arith, l))
    ]

least_some : (e : CommitEntry) (es : List CommitEntry) → IsIn e es → (z : CommitEntry) × IsIn z es × (z.front ≡ least (fronts es))
least_some e [] i = absurd i
least_some e (f ∷ es) i = least_one f es

least_under : (e : CommitEntry) (es : List CommitEntry) → IsIn e es → least (fronts es) ≤ e.front
least_under e [] i = absurd i
least_under e (f ∷ []) (inl q) = (let s : e.front ≡ f.front = ap (λ (z : CommitEntry). z.front) q in omega (arith, s))
least_under e (f ∷ []) (inr i) = absurd i
least_under e (f ∷ g ∷ es) (inl q) = (let s : e.front ≡ f.front = ap (λ (z : CommitEntry). z.front) q in omega (arith, s))
least_under e (f ∷ g ∷ es) (inr i) = (let l : least (fronts (g ∷ es)) ≤ e.front = least_under e (g ∷ es) i in omega (arith, l))

-- the number that a payload wraps
record WrapsNumber {A : Type 0} (old : RingId) (n : ℕ) (p : Payload A) : Type 0 where
  pub wrapped : WrappedMessage A
  pub payload_is : p ≡ Wrapped wrapped
  pub ring_is : wrapped.ring ≡ old
  pub number_is : wrapped.number ≡ n

wraps_number : {A : Type 0} → (old : RingId) (n : ℕ) (p : Payload A) → is_wrap_of old n p ≡ true → WrapsNumber old n p
wraps_number old n (Wrapped w) h =
    (let p = and_parts (same_ring w.ring old) (w.number == n) h in
    record { wrapped = w; payload_is = refl; ring_is = ring_same w.ring old p.0; number_is = eqb-true w.number n p.1 })
wraps_number old n (Call call) h = absurd (false≢true h)
wraps_number old n End h = absurd (false≢true h)
wraps_number old n (Head head) h = absurd (false≢true h)
wraps_number old n (Part part) h = absurd (false≢true h)
wraps_number old n (Pack pack) h = absurd (false≢true h)
wraps_number old n (Snap snap) h = absurd (false≢true h)

-- a processor that numbers a message in a round is one of its members
sender_in : {A : Type 0} → (members : ℕ) (ring : RingId) (vs : List (VisitBy A)) → 0 < size members → AreVisits members ring vs → (x : Message A) →
    SomeIs (λ (v : VisitBy A). IsIn x (numbered ring v.who v.turn.received.seq v.turn.fresh)) vs → IsIn x.sender (elements members)
sender_in members ring [] some h x s = absurd s
sender_in {A} members ring (v ∷ vs) some h x (inl i) =
    let sender : x.sender ≡ v.who = (numbered_in ring v.who v.turn.received.seq v.turn.fresh x i).sender_is in
    let who : v.who ≡ at members (length vs % size members) = h.0.turn in
    subst (λ q. IsIn q (elements members)) (sym (sender ∙ who)) (member_place members (length vs % size members) (mod-lt (length vs) some))
sender_in members ring (v ∷ vs) some h x (inr s) = sender_in members ring vs some h.1 x s

under_then : (a b c : ℕ) → a < b → b ≤ c → a ≤ c
under_then a b c l m = omega (arith, l, m)

some_above : (a b : ℕ) → a + 1 ≤ b → 1 ≤ b
some_above a b l = omega (arith, l)

above_then : (a b c d : ℕ) → a ≤ b → b ≤ c → c < d → a < d
above_then a b c d l m n = omega (arith, l, m, n)

-- All cores

module _ {A : Type 0} (cores : ℕ → Core A) (frames : List (Transmission A)) (a : AllUnwrap cores frames) (orderly : (q : ℕ) → IsOrderly (cores q)) where
  abbrev h : Holds cores frames
  h = ((a.rec).all).all

  genuine : (q : ℕ) (x : Message A) → IsIn x (cores q).held → IsGenuine h.visits x
  genuine q x i = in-each (IsGenuine h.visits) x (cores q).held ((h.texts).held q) i

  -- each message held anywhere was sent by its sender
  pub sent_by : (q : ℕ) (x : Message A) → IsIn x (cores q).held → IsSentBy (cores x.sender) x
  sent_by q x i =
      let b = numbered_by cores frames h x (genuine q x i) in
      record {
        turn = b.turn;
        there = b.there;
        numbered_there = subst (λ me. IsIn x (numbered b.turn.received.ring me b.turn.received.seq b.turn.fresh)) (sym ((h.rings).me x.sender)) b.numbered_there;
      }

  pub one_message : (p q : ℕ) (x y : Message A) → IsIn x (cores p).held → IsIn y (cores q).held → x.ring ≡ y.ring → x.number ≡ y.number → x ≡ y
  one_message p q x y i j r n = one_text h.visits cores h.chains x y (genuine p x i) (genuine q y j) r n

  pub some_ring : (q : ℕ) (x : Message A) → IsIn x (cores q).held → 0 < x.ring.seq
  some_ring q x i =
      let s = sent_by q x i in
      let low : 0 < (s.turn).received.ring.seq =
      in-each (λ (v : TokenVisit A). 0 < v.received.ring.seq) s.turn (cores x.sender).turns ((orderly x.sender).begun).turns s.there in
      let ring = (numbered_in (s.turn).received.ring (cores x.sender).me (s.turn).received.seq (s.turn).fresh x s.numbered_there).ring_is in
      subst (λ (r : RingId). 0 < r.seq) (sym ring) low

  pub sender_member : (q : ℕ) (x : Message A) → IsIn x (cores q).held → (members : ℕ) → IsRingOf cores x.ring members → IsIn x.sender (elements members)
  sender_member q x i members ring =
      elim ((h.chains).rounds x.ring) [
        | inl none ↦ absurd
            (subst (λ (vs : List (VisitBy A)). SomeIs (λ (v : VisitBy A). IsIn x (numbered x.ring v.who v.turn.received.seq v.turn.fresh)) vs) none (genuine q x i))
        | inr round ↦ subst (λ m. IsIn x.sender (elements m)) (one_members cores h.rings x.ring round.members members round.ring_of ring)
            (sender_in round.members x.ring (h.visits x.ring) round.some round.visits_are x (genuine q x i))
      ]

  -- a ring that is installed somewhere has these members
  pub installed_ring : (q : ℕ) (at : Configuration) → IsIn at (cores q).installs → IsRingOf cores at.ring at.members
  installed_ring q at i = (h.rings).shared q at.ring at.members (((a.rec).local q).among at i)

  -- above the least reported front all messages are users'
  pub users_above : (k : CommitToken) → IsPlan cores k → (old : RingId) (e : CommitEntry) → IsIn e (reports_of old k.entries) → (q : ℕ) (x : Message A) →
      IsIn x (cores q).held →
      x.ring ≡ old → low (plan_of old k.members k.entries) < x.number → is_user x.payload ≡ true
  users_above k p old e i q x j ring above =
      let (z, there, least_is) = least_some e (reports_of old k.entries) i in
      let own = in-filtered (λ (e : CommitEntry). same_ring e.old old) z k.entries there in
      let old_is : z.old ≡ old = ring_same z.old old own.1 in
      let g = in_got k.entries z own.0 in
      let m = at k.members g.0 in
      let report : IsIn (record { ring = k.ring; entry = z }) (cores m).reports = p.reports g.0 z g.1 in
      let seq : 0 < z.old.seq = subst (λ (r : RingId). 0 < r.seq) (ring ∙ sym old_is) (some_ring q x j) in
      let behind = in-each (ReportsBehindEnds (cores m)) (record { ring = k.ring; entry = z }) (cores m).reports ((orderly m).order).reports report seq in
      let members = (behind.configuration).members in
      let known : IsRingOf cores x.ring members =
      subst (λ r. IsRingOf cores r members) (behind.ring_is ∙ old_is ∙ sym ring) (installed_ring m behind.configuration behind.there) in
      let end = behind.ends x.sender (sender_member q x j members known) in
      let other : IsSentBy (cores x.sender) end.message = subst (λ s. IsSentBy (cores s) end.message) end.sender (sent_by m end.message end.held) in
      let within = end.within in
      elim (cases_Bool (is_user x.payload)) [
        | inl u ↦ u
        | inr f ↦ absurd
            (let under : x.number ≤ (end.message).number =
            ((orderly x.sender).order).last x end.message (sent_by q x j) other (ring ∙ sym old_is ∙ sym end.ring_is) f end.ended in
            omega (arith, under, within, least_is, above))
      ]

  -- Wrapped messages

  -- a processor that sent an End has wrapped its messages
  sent_handed : (m : ℕ) (x : Message A) → IsSentBy (cores m) x → is_end x.payload ≡ true → HasHandedOn (cores m) x.ring x.number
  sent_handed m x s ended =
      let v = s.turn in
      let ring : x.ring ≡ v.received.ring = (numbered_in v.received.ring (cores m).me v.received.seq v.fresh x s.numbered_there).ring_is in
      let q = in-each (EndsBehindWraps (cores m)) v (cores m).turns ((orderly m).order).ends s.there x s.numbered_there ended in
      subst (λ (r : RingId). HasHandedOn (cores m) r x.number) (sym ring) q

  -- one report for each member
  one_entry : (m : ℕ) (l k : CommitToken) → IsPlan cores l → IsPlan cores k → l.ring ≡ k.ring → (place : ℕ) (own : CommitEntry) →
      slice_get l.entries place ≡ Some own →
      at l.members place ≡ m → (g : ℕ) (e : CommitEntry) → slice_get k.entries g ≡ Some e → at k.members g ≡ m → own ≡ e
  one_entry m l k pl pk name place own here mine g e there its =
      let a : IsIn (record { ring = l.ring; entry = own }) (cores m).reports =
      subst (λ s. IsIn (record { ring = l.ring; entry = own }) (cores s).reports) mine (pl.reports place own here) in
      let b : IsIn (record { ring = k.ring; entry = e }) (cores m).reports =
      subst (λ s. IsIn (record { ring = k.ring; entry = e }) (cores s).reports) its (pk.reports g e there) in
      ap (λ (x : Report). x.entry) ((h.filed m).one_report (record { ring = l.ring; entry = own }) (record { ring = k.ring; entry = e }) a b name)

  low_alike : (l k : CommitToken) → l.members ≡ k.members → l.entries ≡ k.entries → (old own : RingId) → own ≡ old → (u : ℕ) →
      low (plan_of old k.members k.entries) < u →
      low (plan_of own l.members l.entries) < u
  low_alike l k members entries old own same u above =
      subst (λ (r : RingId). low (plan_of r l.members l.entries) < u) (sym same)
      (subst (λ n. low (plan_of old n l.entries) < u) (sym members) (subst (λ es. low (plan_of old k.members es) < u) (sym entries) above))

  -- by another processor's plan, which is the same
  handed_before : (m : ℕ) (k : CommitToken) → IsPlan cores k → (g : ℕ) (e : CommitEntry) → slice_get k.entries g ≡ Some e → at k.members g ≡ m →
      (old : RingId) → e.old ≡ old →
      (n : ℕ) → HasHandedOn (cores m) k.ring n → (u : ℕ) → is_reported u e ≡ true → low (plan_of old k.members k.entries) < u →
      IsHandedBefore (cores m) old k.ring u n
  handed_before m k pk g e there its old e_old n q u r above =
      let l = q.commit in
      let pl : IsPlan cores l = in-each (IsPlan cores) l (cores m).plans (((a.rec).all).plans m) q.there in
      let one = one_plan cores h.rings h.filed l k pl pk q.ring_is in
      let own_is : q.own ≡ e = one_entry m l k pl pk q.ring_is q.place q.own q.here (q.mine ∙ (h.rings).me m) g e there its in
      let q_old : (q.own).old ≡ old = ap (λ (z : CommitEntry). z.old) own_is ∙ e_old in
      let reported : is_reported u q.own ≡ true = subst (λ (z : CommitEntry). is_reported u z ≡ true) (sym own_is) r in
      subst (λ (z : RingId). IsHandedBefore (cores m) z k.ring u n) q_old (q.handed u reported (low_alike l k one.0 one.1 old (q.own).old q_old u above))

  -- a message that another processor holds, of a number within the front, is held
  held_too : (i m : ℕ) (y : Message A) → IsIn y (cores m).held → (ring : RingId) → y.ring ≡ ring → y.number ≤ front (cores i) ring → IsIn y (cores i).held
  held_too i m y j ring e l =
      let low : 1 ≤ y.number = in-each (λ (x : Message A). 1 ≤ x.number) y (cores m).held (((orderly m).local).messages).numbered j in
      let z = holds-found (cores i).held ring y.number ((front_is (cores i).held ring).below y.number low l) in
      let f = found_as (cores i).held ring y.number z.0 z.1 in
      subst (λ (x : Message A). IsIn x (cores i).held) (one_message i m z.0 y f.there j (f.ring_is ∙ sym e) f.number_is) f.there

  -- so in Recovery it is held, once its Wrapped is within the front
  handed_held : (i m : ℕ) → (cores i).state ≡ Recovery → (u n : ℕ) → IsHandedBefore (cores m) (cores i).installed.ring (cores i).running.ring u n →
      n ≤ front (cores i) (cores i).running.ring →
      ((x : Message A) → IsIn x (cores m).held → x.ring ≡ (cores i).installed.ring → x.number ≡ u → is_user x.payload ≡ true) →
      holds (cores i).held (cores i).installed.ring u ≡ true
  handed_held i m s u n w l users =
      let (y, y_held, y_ring, y_under, y_wraps) = w.wrapped (users w.message w.held w.ring_is w.number_is) in
      let inner = wraps_number (cores i).installed.ring u y.payload y_wraps in
      let there = held_too i m y y_held (cores i).running.ring y_ring (under_then y.number n (front (cores i) (cores i).running.ring) y_under l) in
      subst (λ z. holds (cores i).held (cores i).installed.ring z ≡ true) inner.number_is
      (a.unwraps i s y there y_ring inner.wrapped inner.payload_is inner.ring_is)

  -- Recovery

  module _ (i : ℕ) (s : (cores i).state ≡ Recovery) (ready : is_ready (cores i).held (cores i).running.ring
      (cores i).running.members (mark (cores i) (cores i).running.ring) ≡ true) where
    abbrev c : Core A
    c = cores i

    abbrev o : HasOwn c
    o = (orderly i).own s

    abbrev old : RingId
    old = c.installed.ring

    abbrev k : CommitToken
    k = o.commit

    abbrev p : Plan
    p = plan_of old k.members k.entries

    is_plan : IsPlan cores k
    is_plan = in-each (IsPlan cores) k c.plans (((a.rec).all).plans i) o.there

    own_in : IsIn o.own p.reports
    own_in = in_reports old o.own k.entries (got_in k.entries o.place o.own o.here) (subst (λ r. same_ring o.own.old r ≡ true) o.old (same-self o.own.old))

    -- a message that a member reported above the front reached this core wrapped
    handed : (u : ℕ) (e : CommitEntry) → IsIn e p.reports → is_reported u e ≡ true → low p < u → holds c.held old u ≡ true
    handed u e j r above =
        let from = in-filtered (λ (e : CommitEntry). same_ring e.old old) e k.entries j in
        let g = in_got k.entries e from.0 in
        let m = at k.members g.0 in
        let member : IsIn m (elements c.running.members) =
        subst (λ ms. IsIn m (elements ms)) o.members (member_place k.members g.0 (subst (λ n. g.0 < n) is_plan.count (got_low k.entries g.0 e g.1))) in
        by_end u e g.0 g.1 j (ring_same e.old old from.1) r above (ready_ends c ready m member)
      where
        by_end : (u : ℕ) (e : CommitEntry) (g : ℕ) → slice_get k.entries g ≡ Some e → IsIn e p.reports → e.old ≡ old → is_reported u e ≡ true → low p < u →
            HoldsEnd c c.running.ring (at k.members g) → holds c.held old u ≡ true
        by_end u e g there j e_old r above end =
            let m = at k.members g in
            let sent : IsSentBy (cores m) end.message = subst (λ s. IsSentBy (cores s) end.message) end.sender (sent_by i end.message end.held) in
            let q : HasHandedOn (cores m) k.ring (end.message).number =
            subst (λ (r : RingId). HasHandedOn (cores m) r (end.message).number) (end.ring_is ∙ sym o.ring) (sent_handed m end.message sent end.ended) in
            let w : IsHandedBefore (cores m) old k.ring u (end.message).number =
            handed_before m k is_plan g e there refl old e_old (end.message).number q u r above in
            handed_held i m s u (end.message).number (subst (λ (r : RingId). IsHandedBefore (cores m) old r u (end.message).number) o.ring w) end.within
            (λ x i ring number. users_above k is_plan old e j m x i ring (subst (λ n. low p < n) (sym number) above))

    known_held : (u : ℕ) → 1 ≤ u → is_known p u ≡ true → holds c.held old u ≡ true
    known_held u some known =
        let (e, j, r) = any-some (is_reported u) p.reports known in
        let under : low p ≤ o.own.front = least_under o.own p.reports own_in in
        let own_front = o.front_is in
        elim (cases_lt (front c old) u) [
          | inl l ↦ handed u e j r (above_then (low p) o.own.front (front c old) u under own_front l)
          | inr l ↦ (front_is c.held old).below u some l
        ]

    all_known : list_all (holds c.held old) (known_above_safe p) ≡ true
    all_known =
        (all_decides (holds c.held old) (λ u. holds c.held old u ≡ true) (λ u. (λ t. t, λ t. t)) (known_above_safe p)).1
        (λ u j. (let f = in-filtered (is_known p) u (numbers_from (safe p + 1) window_size) j in
        let l = (numbers_in u (safe p + 1) window_size f.0).0 in known_held u (some_above (safe p) u l) f.1))

    pub ready_complete : is_complete (plan c) c.held ≡ true
    ready_complete =
        let marked : mark c old ≡ safe p = ((a.rec).recovers i s).marked ∙ ap safe (plan_is c o) in
        let below : mark c old ≤ front c old = mark_below c old ((orderly i).local).fit in
        subst (λ (z : Plan). is_complete z c.held ≡ true) (sym (plan_is c o))
        (and_from (nat_le (safe p) (front_of c.held old)) (list_all (holds c.held old) (known_above_safe p))
        (le-leb (safe p) (front_of c.held old) (subst (λ n. n ≤ front_of c.held old) marked below)) all_known)
