-- After its own End in a ring a core sends user messages alone: it sends no second End, and nothing was left to wrap.
use Rattle.std.proofs.Common.{◌≡◌, ℕ, suc, ◌+◌, ◌≤◌, ◌⊎◌, inl, inr, true, false, ◌&&◌, ◌==◌, List, [], ◌∷◌, ◌++◌}
use Rattle.std.proofs.Common.{length, Some, refl, ap, sym, ◌∙◌, subst, arith}
use Rattle.std.proofs.lemmas.Bool.{and_from, eq-eqb, false≢true}
use Rattle.ring_base.specs.Rings.{same_ring}
use Rattle.ring_base.specs.declared.ring_id.RingId.{RingId}
use Rattle.ring_base.proofs.SameRing.{same-self}
use Rattle.ring_payload.specs.PayloadKinds.{is_user, is_end}
use Rattle.ring_payload.specs.declared.content.Payload.{Payload}
use Rattle.ring_payload.specs.declared.content.Payload.TheVariants.{Call, Wrapped, End, Head, Part, Pack, Snap}
use Rattle.ring_wire.specs.declared.frame.Frame.{Frame}
use Rattle.ring_wire.specs.declared.message.Message.{Message}
use Rattle.ring_wire.specs.declared.token.Token.{Token}
use Rattle.ring_core_spec.specs.Windows.{found, highest, of_ring, holds}
use Rattle.ring_core_spec.proofs.Windows.{highest_covers}
use Rattle.ring_core_spec.specs.Tokens.{TokenVisit, numbered}
use Rattle.ring_core_spec.specs.Recoveries.{has_ended, inner_message}
use Rattle.ring_core_spec.specs.State.{Core}
use Rattle.ring_core_spec.proofs.Recoveries.{end_no_user}
use Rattle.ring_core_proof.specs.FactWords.{IsIn}
use Rattle.ring_core_proof.specs.LawConditions.{EndsWrapping, HasEnded}
use Rattle.ring_core_proof.specs.Moves.{Move, Idles, Enters, Learns, Visits, Takes, Installs, core_after_move, MayMove, MayVisit}
use Rattle.ring_core_proof.specs.Moves.{MayEnd, AreWraps, AreLast, IsWrapping, AllAreUsers}
use Rattle.ring_core_proof.proofs.InLists.{in-each, in-parts, in-filter, any-in}
use Rattle.ring_chain_proof.proofs.OneText.{numbered_in}
use Rattle.ring_core_proof.proofs.OwnMessages.{AreHeldOf, holds_in}
use Rattle.ring_synchrony_proof.specs.Ends.{IsSentBy, EndsLast}

-- The numbers of a visit, in two parts

pub numbered-parts : {A : Type 0} → (ring : RingId) (me seq : ℕ) (ps qs : List (Payload A)) (x : Message A) → IsIn x (numbered ring me seq (ps ++ qs)) →
    IsIn x (numbered ring me seq ps) ⊎ IsIn x (numbered ring me (seq + length ps) qs)
numbered-parts ring me seq [] qs x i = inr (let e : seq ≡ seq + 0 = omega arith in subst (λ s. IsIn x (numbered ring me s qs)) e i)
numbered-parts ring me seq (p ∷ ps) qs x (inl e) = inl (inl e)
numbered-parts ring me seq (p ∷ ps) qs x (inr i) =
    elim (numbered-parts ring me (suc seq) ps qs x i) [
      | inl a ↦ inl (inr a)
      | inr b ↦ inr (let e : suc seq + length ps ≡ seq + suc (length ps) = omega arith in subst (λ s. IsIn x (numbered ring me s qs)) e b)
    ]

pub numbered-left : {A : Type 0} → (ring : RingId) (me seq : ℕ) (ps qs : List (Payload A)) (x : Message A) → IsIn x (numbered ring me seq ps) →
    IsIn x (numbered ring me seq (ps ++ qs))
numbered-left ring me seq [] qs x i = absurd i
numbered-left ring me seq (p ∷ ps) qs x (inl e) = inl e
numbered-left ring me seq (p ∷ ps) qs x (inr i) = inr (numbered-left ring me (suc seq) ps qs x i)

pub end_is : {A : Type 0} → (p : Payload A) → is_end p ≡ true → p ≡ End
end_is End h = refl
end_is (Call call) h = absurd (false≢true h)
end_is (Wrapped w) h = absurd (false≢true h)
end_is (Head head) h = absurd (false≢true h)
end_is (Part part) h = absurd (false≢true h)
end_is (Pack pack) h = absurd (false≢true h)
end_is (Snap snap) h = absurd (false≢true h)

-- A visit

module _ {A : Type 0} (received : Frame A → Type 0) (c : Core A) (t : Token) (fresh : List (Payload A))
    (again : List (Message A)) (queue : List (Payload A)) (h : MayVisit received c t fresh again queue) where
  abbrev pub news : List (Message A)
  news = numbered t.ring c.me t.seq fresh

  -- the held messages have lower numbers
  pub held_under : (x : Message A) → IsIn x c.held → x.ring ≡ t.ring → x.number ≤ t.seq
  held_under x i e =
      let there : holds c.held t.ring x.number ≡ true = subst (λ (r : RingId). holds c.held r x.number ≡ true) e (holds_in c.held x i) in
      let top : x.number ≤ highest c.held t.ring = highest_covers c.held t.ring x.number there in
      let ahead = h.ahead in
      omega (arith, top, ahead)

  -- an End is the last of a visit's messages, after all Wrapped
  pub end_last : (ws : AreWraps c fresh) (x : Message A) → IsIn x news → is_end x.payload ≡ true →
      MayEnd c ws.wraps ws.ends × (x.number ≡ suc (t.seq + length ws.wraps))
  end_last ws x i e =
      elim (numbered-parts t.ring c.me t.seq ws.wraps ws.ends x (subst (λ ps. IsIn x (numbered t.ring c.me t.seq ps)) ws.parts i)) [
        | inl a ↦ absurd (let k = (numbered_in t.ring c.me t.seq ws.wraps x a).payload_in in
            let (w, f, on) = in-each (IsWrapping c) x.payload ws.wraps ws.handed k in
            false≢true (subst (λ (p : Payload A). is_end p ≡ true) f e))
        | inr b ↦ elim (ws.ended) [
          | inl none ↦ absurd (subst (λ ps. IsIn x (numbered t.ring c.me (t.seq + length ws.wraps) ps)) none b)
          | inr end ↦ elim
              (subst (λ ps. IsIn x (numbered t.ring c.me (t.seq + length ws.wraps) ps)) end.one b) [
                | inl q ↦ (end, ap (λ (z : Message A). z.number) q)
                | inr n ↦ absurd n
              ]
        ]
      ]

  -- in Recovery no user message is sent, in Operational nothing else
  pub no_user : AreWraps c fresh → (x : Message A) → IsIn x news → is_user x.payload ≡ true → ⊥
  no_user ws x i u =
      let k = (numbered_in t.ring c.me t.seq fresh x i).payload_in in
      elim (in-parts x.payload ws.wraps ws.ends (subst (λ ps. IsIn x.payload ps) ws.parts k)) [
        | inl a ↦ (let (w, f, on) = in-each (IsWrapping c) x.payload ws.wraps ws.handed a in false≢true (subst (λ (p : Payload A). is_user p ≡ true) f u))
        | inr b ↦ elim (ws.ended) [
          | inl none ↦ subst (λ ps. IsIn x.payload ps) none b
          | inr end ↦ elim (subst (λ ps. IsIn x.payload ps) end.one b) [ inl q ↦ false≢true (subst (λ (p : Payload A). is_user p ≡ true) q u) | inr n ↦ n ]
        ]
      ]

  pub all_users : AllAreUsers fresh → (x : Message A) → IsIn x news → is_user x.payload ≡ true
  all_users us x i = in-each (λ (p : Payload A). is_user p ≡ true) x.payload fresh us (numbered_in t.ring c.me t.seq fresh x i).payload_in

  module _ (own : AreHeldOf c.me c.held c.turns) (queued : AllAreUsers c.queue) (over : HasEnded c) where
    own_held : (x : Message A) (v : TokenVisit A) → IsIn v c.turns → IsIn x (numbered v.received.ring c.me v.received.seq v.fresh) → IsIn x c.held
    own_held x v j i = in-each (λ (x : Message A). IsIn x c.held) x (numbered v.received.ring c.me v.received.seq v.fresh) (in-each _ v c.turns own j) i

    ended_already : (y : Message A) (v : TokenVisit A) → IsIn v c.turns → IsIn y (numbered v.received.ring c.me v.received.seq v.fresh) → y.ring ≡ c.running.ring →
        is_end y.payload ≡ true →
        has_ended c.me c.running.ring c.held ≡ true
    ended_already y v j i ring ended =
        let me : y.sender ≡ c.me = (numbered_in v.received.ring c.me v.received.seq v.fresh y i).sender_is in
        any-in (λ (x : Message A). is_end x.payload && (x.sender == c.me)) y (of_ring c.running.ring c.held)
        (in-filter (λ (x : Message A). same_ring x.ring c.running.ring) y c.held (own_held y v j i)
        (subst (λ (r : RingId). same_ring y.ring r ≡ true) ring (same-self y.ring)))
        (and_from (is_end y.payload) (y.sender == c.me) ended (eq-eqb y.sender c.me me))

    -- once the core has sent an End, a visit sends nothing for recovery
    after_end : (x y : Message A) (v : TokenVisit A) → IsIn v c.turns → IsIn y (numbered v.received.ring c.me v.received.seq v.fresh) → y.ring ≡ c.running.ring →
        is_end y.payload ≡ true →
        IsIn x news → is_user x.payload ≡ false → ⊥
    after_end x y v j i ring ended k user =
        elim (h.state) [
          | inl r ↦ (let ws = h.wraps r in
              let there = (numbered_in t.ring c.me t.seq fresh x k).payload_in in
              let f = numbered_in v.received.ring c.me v.received.seq v.fresh y i in
              let sent : IsIn End v.fresh = subst (λ (p : Payload A). IsIn p v.fresh) (end_is y.payload ended) f.payload_in in
              let last : AreLast c [] = in-each (EndsWrapping c) v c.turns (over r) j (sym f.ring_is ∙ ring) sent in
              elim (in-parts x.payload ws.wraps ws.ends (subst (λ ps. IsIn x.payload ps) ws.parts there)) [
                | inl a ↦ (let (w, e, on) = in-each (IsWrapping c) x.payload ws.wraps ws.handed a in
                    let seen =
                    last w.number (inner_message w) on.above
                    (subst (λ (r : RingId). found c.held r w.number ≡ Some (inner_message w)) on.ring on.held) on.user in
                    elim seen [ inl s ↦ false≢true (sym on.unseen ∙ s) | inr n ↦ n ])
                | inr b ↦ elim (ws.ended) [
                  | inl none ↦ subst (λ ps. IsIn x.payload ps) none b
                  | inr end ↦ false≢true (sym end.first ∙ ended_already y v j i ring ended)
                ]
              ])
          | inr o ↦ false≢true (sym user ∙ all_users (h.users o queued) x k)
        ]

    -- both in this visit
    both_new : (x y : Message A) → IsIn x news → IsIn y news → is_user x.payload ≡ false → is_end y.payload ≡ true → x.number ≤ y.number
    both_new x y i j user ended =
        elim (h.state) [
          | inl r ↦ (let ws = h.wraps r in
              let e = end_last ws y j ended in
              let last = (e.0).one in
              let n = e.1 in
              let f =
              numbered_in t.ring c.me t.seq (ws.wraps ++ End ∷ []) x
              (subst (λ ps. IsIn x (numbered t.ring c.me t.seq (ws.wraps ++ ps))) last (subst (λ ps. IsIn x (numbered t.ring c.me t.seq ps)) ws.parts i)) in
              let within = f.within in
              let count : length (ws.wraps ++ End ∷ []) ≡ suc (length ws.wraps) = length_more ws.wraps in
              omega (arith, n, within, count))
          | inr o ↦ absurd (false≢true (sym (end_no_user y.payload ended) ∙ all_users (h.users o queued) y j))
        ]
      where
        length_more : (ps : List (Payload A)) → length (ps ++ End ∷ []) ≡ suc (length ps)
        length_more [] = refl
        length_more (p ∷ ps) = ap suc (length_more ps)

    pub visited_last : (requests : List ℕ) → EndsLast c → EndsLast (core_after_move c (Visits t fresh requests again queue))
    visited_last requests l x y a b ring user ended =
        elim (a.there) [
          | inl ea ↦ (let i : IsIn x news = subst (λ (v : TokenVisit A). IsIn x (numbered v.received.ring c.me v.received.seq v.fresh)) ea a.numbered_there in
              elim (b.there) [
                | inl eb ↦ both_new x y i (subst (λ (v : TokenVisit A). IsIn y (numbered v.received.ring c.me v.received.seq v.fresh)) eb b.numbered_there) user ended
                | inr jb ↦ absurd
                    (after_end x y b.turn jb b.numbered_there (sym ring ∙ (numbered_in t.ring c.me t.seq fresh x i).ring_is ∙ h.ring) ended i user)
              ])
          | inr ja ↦ elim (b.there) [
            | inl eb ↦ (let f = numbered_in t.ring c.me t.seq fresh y
                (subst (λ (v : TokenVisit A). IsIn y (numbered v.received.ring c.me v.received.seq v.fresh)) eb b.numbered_there) in
                let under : x.number ≤ t.seq = held_under x (own_held x a.turn ja a.numbered_there) (ring ∙ f.ring_is) in
                let above = f.above in
                omega (arith, under, above))
            | inr jb ↦ l x y (record { turn = a.turn; there = ja; numbered_there = a.numbered_there })
                (record { turn = b.turn; there = jb; numbered_there = b.numbered_there }) ring user ended
          ]
        ]

-- Each move

quiet : {A : Type 0} → (c d : Core A) → d.me ≡ c.me → d.turns ≡ c.turns → EndsLast c → EndsLast d
quiet {A} c d me turns l x y a b ring user ended = l x y (back x a) (back y b) ring user ended
  where
    back : (x : Message A) → IsSentBy d x → IsSentBy c x
    back x s =
        record {
          turn = s.turn;
          there = subst (λ ts. IsIn s.turn ts) turns s.there;
          numbered_there = subst (λ me. IsIn x (numbered s.turn.received.ring me s.turn.received.seq s.turn.fresh)) me s.numbered_there;
        }

pub moved_last : {A : Type 0} → (received : Frame A → Type 0) (c : Core A) (m : Move A) → MayMove received c m → AreHeldOf c.me c.held c.turns →
    AllAreUsers c.queue → HasEnded c →
    EndsLast c → EndsLast (core_after_move c m)
moved_last received c (Visits t fresh requests again queue) h own queued over l = visited_last received c t fresh again queue h own queued over requests l
moved_last received c (Idles state gathering last_sent queue sends) h own queued over l = quiet c (core_after_move c (Idles state gathering last_sent queue sends)) refl refl l
moved_last received c (Enters k) h own queued over l = quiet c (core_after_move c (Enters k)) refl refl l
moved_last received c (Learns k) h own queued over l = quiet c (core_after_move c (Learns k)) refl refl l
moved_last received c (Takes x) h own queued over l = quiet c (core_after_move c (Takes x)) refl refl l
moved_last received c Installs h own queued over l = quiet c (core_after_move c Installs) refl refl l
