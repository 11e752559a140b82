-- The known log is the rest of the whole log after the snapshot that was restored last: one more epoch, and a Head.
use Rattle.std.proofs.Common.{◌≡◌, ℕ, zero, suc, ◌+◌, ◌-◌, ◌≤◌, max, Bool, true, false, ◌&&◌, ◌||◌, List, [], ◌∷◌, ◌++◌, length, take, drop}
use Rattle.std.proofs.Common.{if◌then◌else◌, Option, Some, None, refl, ap, sym, ◌∙◌, subst, arith, length-append}
use Rattle.std.specs.Prelude.{nat_le, nat_lt, is_some}
use Rattle.std.proofs.lemmas.Bool.{cond-true, cond-false, and_parts, and_from, ltb-true, ltb-false, leb-true, le-leb, eqb-true}
use Rattle.std.proofs.lemmas.List.{length-drop, drop-append-le, take-append-drop}
use Rattle.std.proofs.Math.Seq.{drop-append_seam}
use Rattle.ring_base.specs.Prefixes.{IsListPrefix, prefix_length}
use Rattle.ring_base.specs.Group.{Group}
use Rattle.ring_base.proofs.ListFronts.{take-whole, take-front, drop-more}
use Rattle.ring_base.specs.declared.ring_id.RingId.{RingId}
use Rattle.ring_payload.specs.declared.call.Call.{Call as OneCall}
use Rattle.ring_payload.specs.declared.head.Head.{Head as OneHead}
use Rattle.ring_log.specs.Messages.{Message}
use Rattle.ring_log.specs.declared.wanted.Wanted.{Wanted}
use Rattle.ring_log.specs.Exchanges.{wanted, has_all_wanted}
use Rattle.ring_log.specs.Logs.{begins, is_log_length}
use Rattle.ring_log.specs.Epochs.{Epoch}
use Rattle.ring_log.specs.EpochHistories.{CompleteExchange, complete_exchange, own_base, places_below, base_on, log_by, log_of, last_by, last_of, calls_in, messages_upto, longer_list, committed_by}
use Rattle.ring_log.specs.EpochHistories.{front_on, restored_by, committed_of, trimmed_on, trimmed_by, trimmed_of, head_of_epochs, is_known_below, is_known_on}
use Rattle.ring_log.specs.EpochHistories.{keeps_committed}
use Rattle.ring_log.specs.KnownLog.{KnownLog, restores, known_log_restored, first_joined, known_log_joined, adopts_wanted, adopts, known_log_committed_upto, followed_by, known_log_after_exchange, known_log_after_epoch, dropped_by, known_log_of, known_log_length, known_committed}
use Rattle.ring_log.specs.KnownLog.{known_retained, known_log_head, begins_kept, keeps_wanted, keeps_kept}
use Rattle.ring_log.proofs.LongerLists.{length-longer_list}
use Rattle.ring_log_proof.proofs.CompleteExchanges.{grown, complete_exchange-front, complete_exchange-whole, upto-front}
use Rattle.ring_log_proof.specs.Views.{IsLogSuffix, IsView}
use Rattle.ring_log_proof.proofs.CallPrefixes.{front-begins, front_begins}

-- ---- lists and lengths

-- the places after the first ones of a base
drop-based : {X : Type 0} (k from : ℕ) (own calls : List X) → from ≤ length own
    → drop k (take from own ++ calls) ≡ take (from - k) (drop k own) ++ drop (k - from) calls
drop-based zero from own calls le =
    let a : from - 0 ≡ from = omega arith in
    let b : 0 - from ≡ 0 = omega arith in
    rw (a, b) refl
drop-based (suc k) zero own calls le =
    let a : 0 - suc k ≡ 0 = omega arith in
    let b : suc k - 0 ≡ suc k = omega arith in
    rw (a, b) refl
drop-based (suc k) (suc from) [] calls le = absurd (omega (arith, le))
drop-based (suc k) (suc from) (x ∷ own) calls le =
    let a : suc from - suc k ≡ from - k = omega arith in
    let b : suc k - suc from ≡ k - from = omega arith in
    rw (a, b) (drop-based k from own calls (omega (arith, le)))

-- a prefix's rest is a prefix of the rest
front-drop : {X : Type 0} (n : ℕ) (xs ys : List X) → n ≤ length xs → IsListPrefix xs ys → IsListPrefix (drop n xs) (drop n ys)
front-drop n xs ys le f = (f.0, sym (drop-append-le n xs f.0 le) ∙ ap (drop n) f.1)

-- a complete exchange wants something
pub wants : (o : Option Wanted) (received_bytes total places : ℕ) → has_all_wanted o received_bytes total places ≡ true → (w : Wanted) × (o ≡ Some w)
wants None received_bytes total places t = absurd (cc t)
wants (Some w) received_bytes total places t = (w, refl)

-- ---- the known log

pub rests-length : {A : Type 0} (log : List (OneCall A)) (committed trimmed : ℕ) (last : Option RingId) (k : KnownLog A) → IsLogSuffix log committed trimmed last k
    → known_log_length k ≡ length log
rests-length log committed trimmed last k r = omega (arith, r.within, ap length r.calls, length-drop k.from log)

module _ {A : Type 0} (own front done : List (OneCall A)) (gone : ℕ) (last : Option RingId) (ring : RingId) (k : KnownLog A)
    (rests : IsLogSuffix own (length done) gone last k) (within : IsListPrefix done own) (w : CompleteExchange A) (v : Wanted) (wanted_is : wanted w.exchange ≡ Some v) where
  abbrev received_calls : List (OneCall A)
  received_calls = w.exchange.received_calls

  abbrev base : List (OneCall A)
  base = own_base own front w.exchange

  abbrev Joined : KnownLog A
  Joined = known_log_joined k ring v received_calls

  abbrev Restored : KnownLog A
  Restored = known_log_restored ring v w.exchange.bytes received_calls

  done-long : k.from ≤ length done
  done-long = omega (arith, rests.low, rests.high, rests.committed)

  -- the places that it takes of its own are those of the base, which its committed places begin
  joined-base : v.from ≤ length done → base ≡ take v.from own ++ received_calls → IsListPrefix done base
      → base ≡ take (first_joined k v) own ++ drop (first_joined k v - v.from) received_calls
  joined-base le is covers =
      let first = first_joined k v in
      let low : first ≤ length done = omega (arith, le, rests.high, rests.committed) in
      let long = prefix_length done own within in
      let none : v.from - first ≡ 0 = omega arith in
      let rest : drop first base ≡ drop (first - v.from) received_calls =
      ap (drop first) is ∙ drop-based first v.from own received_calls (omega (arith, le, long))
      ∙ ap (λ n. take n (drop first own) ++ drop (first - v.from) received_calls) none in
      sym (take-append-drop first base) ∙ ap (λ l. take first base ++ l) rest
      ∙ ap (λ l. l ++ drop (first - v.from) received_calls) (take-front done base first covers low ∙ sym (take-front done own first within low))

  joined-rests : v.from ≤ length done → base ≡ take v.from own ++ received_calls → IsListPrefix done base → IsLogSuffix base (length done) gone (Some ring) Joined
  joined-rests le is covers =
      let first = first_joined k v in
      let long = prefix_length done own within in
      let received_calls' = drop (first - v.from) received_calls in
      let none : k.from - first ≡ 0 = omega (arith, rests.low) in
      record {
        calls = ap (λ l. take (first - k.from) l ++ received_calls') rests.calls
            ∙ sym (drop-based k.from first own received_calls' (omega (arith, le, long, rests.high, rests.committed))
            ∙ ap (λ n. take (first - k.from) (drop k.from own) ++ drop n received_calls') none)
            ∙ ap (drop k.from) (sym (joined-base le is covers));
        within = let b = prefix_length done base covers in omega (arith, done-long, b);
        committed = rests.committed;
        trimmed = rests.trimmed;
        last = refl;
        low = rests.low;
        high = rests.high;
      }

  restored-rests : length front ≡ v.from → base ≡ front ++ received_calls → IsLogSuffix base v.from v.from (Some ring) Restored
  restored-rests long is =
      let seam : drop v.from base ≡ received_calls =
      ap (drop v.from) is ∙ ap (λ n. drop n (front ++ received_calls)) (sym long) ∙ drop-append_seam front received_calls in
      let size : length base ≡ length front + length received_calls = ap length is ∙ length-append front received_calls in
      record {
        calls = sym seam;
        within = omega (arith, long, size);
        committed = refl;
        trimmed = refl;
        last = refl;
        low = omega arith;
        high = omega arith;
      }

  -- the test of a base reads the known log before it
  undropped : known_retained k ≡ drop k.trimmed done
  undropped =
      let n : k.committed - k.from ≡ length done - k.from = ap (λ m. m - k.from) rests.committed in
      let known : known_committed k ≡ drop k.from done =
      ap (λ m. take m k.calls) n ∙ ap (take (length done - k.from)) rests.calls ∙ behind k.from done own within done-long in
      let more : k.from + (k.trimmed - k.from) ≡ k.trimmed = let l = rests.low in omega (arith, l) in
      ap (drop (k.trimmed - k.from)) known ∙ drop-more k.from (k.trimmed - k.from) done ∙ ap (λ m. drop m done) more
    where
      behind : (n : ℕ) (xs ys : List (OneCall A)) → IsListPrefix xs ys → n ≤ length xs → take (length xs - n) (drop n ys) ≡ drop n xs
      behind n xs ys f le =
          ap (λ l. take (length xs - n) (drop n l)) (sym f.1) ∙ ap (take (length xs - n)) (drop-append-le n xs f.0 le)
          ∙ ap (λ m. take m (drop n xs ++ f.0)) (sym (length-drop n xs)) ∙ take-whole (drop n xs) (drop n xs ++ f.0) (f.0, refl)

  joined-begins : v.from ≤ length done → base ≡ take v.from own ++ received_calls → IsListPrefix done base → begins_kept k Joined ≡ true
  joined-begins le is covers =
      let r = joined-rests le is covers in
      let more : k.from + (k.trimmed - k.from) ≡ k.trimmed = let l = rests.low in omega (arith, l) in
      let there : drop (k.trimmed - k.from) Joined.calls ≡ drop k.trimmed base =
      ap (drop (k.trimmed - k.from)) r.calls ∙ drop-more k.from (k.trimmed - k.from) base ∙ ap (λ m. drop m base) more in
      let high : k.trimmed ≤ length done = omega (arith, rests.high, rests.committed) in
      ap (λ l. begins l (drop (k.trimmed - k.from) Joined.calls)) undropped ∙ ap (begins (drop k.trimmed done)) there
      ∙ front-begins (drop k.trimmed done) (drop k.trimmed base) (front-drop k.trimmed done base high covers)

  -- An exchange's effect on it

  record AdoptedBases (o : Option ℕ) : Type 0 where
    rest : IsLogSuffix base (length (longer_list done (places_below [] front 0 o))) (if is_some o && nat_lt (length done) v.from then v.from else gone) (Some ring)
        (if is_some o && nat_lt k.committed v.from then Restored else Joined)
    keeps : (is_some o && nat_lt k.committed v.from) || (nat_le v.from k.committed && begins_kept k Joined) ≡ true

  joined : v.from ≤ length done → base ≡ take v.from own ++ received_calls → IsListPrefix done base → (b : Bool)
      → (b || (nat_le v.from k.committed && begins_kept k Joined)) ≡ true
  joined le is covers true = refl
  joined le is covers false =
      and_from (nat_le v.from k.committed) (begins_kept k Joined) (le-leb v.from k.committed (omega (arith, le, rests.committed))) (joined-begins le is covers)

  adopted-by : (o : Option ℕ) → v.snapshot ≡ o → is_known_below front done v.from o ≡ true → IsListPrefix done base → AdoptedBases o
  adopted-by None snap known covers =
      let le = leb-true v.from (length done) known in
      let is : base ≡ take v.from own ++ received_calls =
      ap (λ u. base_on own front u received_calls) wanted_is ∙ ap (λ u. places_below own front v.from u ++ received_calls) snap in
      let size = length-longer_list done [] in
      let n : length done ≡ length (longer_list done []) = omega (arith, size) in
      record { rest = subst (λ m. IsLogSuffix base m gone (Some ring) Joined) n (joined-rests le is covers); keeps = joined le is covers false }
  adopted-by (Some at) snap known covers =
      let long = eqb-true (length front) v.from known in
      let is : base ≡ front ++ received_calls =
      ap (λ u. base_on own front u received_calls) wanted_is ∙ ap (λ u. places_below own front v.from u ++ received_calls) snap in
      let size = length-longer_list done front in
      by long is size (nat_lt (length done) v.from) refl
    where
      by : length front ≡ v.from → base ≡ front ++ received_calls → length (longer_list done front) ≡ max (length done) (length front)
          → (b : Bool) → nat_lt (length done) v.from ≡ b → AdoptedBases (Some at)
      by long is size true t =
          let lt = ltb-true (length done) v.from t in
          let own_t : nat_lt k.committed v.from ≡ true = ap (λ n. nat_lt n v.from) rests.committed ∙ t in
          let r = restored-rests long is in
          let n : v.from ≡ length (longer_list done front) = omega (arith, lt, long, size) in
          record {
            rest = subst (λ (x : KnownLog A). IsLogSuffix base (length (longer_list done front)) (if nat_lt (length done) v.from then v.from else gone) (Some ring) x)
                (sym (cond-true (nat_lt k.committed v.from) Restored Joined own_t))
                (subst (λ m. IsLogSuffix base (length (longer_list done front)) m (Some ring) Restored) (sym (cond-true (nat_lt (length done) v.from) v.from gone t))
                (subst (λ m. IsLogSuffix base m v.from (Some ring) Restored) n r));
            keeps = ap (λ b. b || (nat_le v.from k.committed && begins_kept k Joined)) own_t;
          }
      by long is size false f =
          let le = ltb-false (length done) v.from f in
          let own_f : nat_lt k.committed v.from ≡ false = ap (λ n. nat_lt n v.from) rests.committed ∙ f in
          let same : front ≡ take v.from own =
          sym (take-whole front base (received_calls, sym is)) ∙ ap (λ n. take n base) long ∙ take-front done base v.from covers le
          ∙ sym (take-front done own v.from within le) in
          let joined_is : base ≡ take v.from own ++ received_calls = is ∙ ap (λ l. l ++ received_calls) same in
          let r = joined-rests le joined_is covers in
          let n : length done ≡ length (longer_list done front) = omega (arith, le, long, size) in
          record {
            rest = subst (λ (x : KnownLog A). IsLogSuffix base (length (longer_list done front)) (if nat_lt (length done) v.from then v.from else gone) (Some ring) x)
                (sym (cond-false (nat_lt k.committed v.from) Restored Joined own_f))
                (subst (λ m. IsLogSuffix base (length (longer_list done front)) m (Some ring) Joined) (sym (cond-false (nat_lt (length done) v.from) v.from gone f))
                (subst (λ m. IsLogSuffix base m gone (Some ring) Joined) n r));
            keeps = joined le joined_is covers (nat_lt k.committed v.from);
          }

-- ---- one more ring

-- calls are appended to a log, and the committed length rises
followed-rests : {A : Type 0} (log more : List (OneCall A)) (committed trimmed reach : ℕ) (last : Option RingId) (k : KnownLog A)
    → IsLogSuffix log committed trimmed last k → IsLogSuffix (log ++ more) (max committed reach) trimmed last (known_log_committed_upto reach (followed_by k more))
followed-rests log more committed trimmed reach last k r = record {
  calls = ap (λ l. l ++ more) r.calls ∙ sym (drop-append-le k.from log more r.within);
  within = omega (arith, r.within, length-append log more);
  committed = ap (λ n. max n reach) r.committed;
  trimmed = r.trimmed;
  last = r.last;
  low = r.low;
  high = omega (arith, r.high);
}

-- places are dropped
dropped-rests : {A : Type 0} (places : ℕ) (log : List (OneCall A)) (committed trimmed : ℕ) (last : Option RingId) (k : KnownLog A) → places ≤ k.committed
    → IsLogSuffix log committed trimmed last k → IsLogSuffix log committed (max places trimmed) last (dropped_by places k)
dropped-rests places log committed trimmed last k le r = record {
  calls = r.calls;
  within = r.within;
  committed = r.committed;
  trimmed = ap (max places) r.trimmed;
  last = r.last;
  low = omega (arith, r.low);
  high = omega (arith, r.high, le);
}

module _ {A : Type 0} (own front done : List (OneCall A)) (gone : ℕ) (last : Option RingId) (ring : RingId) (k : KnownLog A)
    (rests : IsLogSuffix own (length done) gone last k) (within : IsListPrefix done own) where
  -- a restored snapshot isn't compared
  either : (b x : Bool) (restored joined : KnownLog A) → b || (x && begins_kept k (if b then restored else joined)) ≡ b || (x && begins_kept k joined)
  either true x restored joined = refl
  either false x restored joined = refl

  -- the effect of a complete exchange on the known log; and the node goes on with it
  adopts-rests : (group : Group) (m : ℕ) (heard : List (Message A)) (w : CompleteExchange A) → complete_exchange group m heard ≡ Some w
      → keeps_committed own front done (Some w) ≡ true
      → IsLogSuffix (own_base own front w.exchange) (length (restored_by front done (Some w))) (trimmed_by gone (length done) (Some w)) (Some ring) (adopts k ring w)
      × (keeps_kept k ring (Some w) ≡ true)
  adopts-rests group m heard w e t =
      let x = w.exchange in
      let base = own_base own front x in
      let v = wants (wanted x) x.received_bytes x.total x.places (complete_exchange-whole group m heard w e).whole in
      let parts = and_parts (is_known_on front done (wanted x)) (begins done base) t in
      let known : is_known_below front done v.0.from v.0.snapshot ≡ true = sym (ap (is_known_on front done) v.1) ∙ parts.0 in
      let a = adopted-by own front done gone last ring k rests within w v.0 v.1 v.0.snapshot refl known (front_begins done base parts.1) in (
        subst (λ o. IsLogSuffix base (length (longer_list done (front_on front o))) (trimmed_on gone (length done) o) (Some ring) (adopts_wanted k ring o w)) (sym v.1) a.rest,
        ap (λ o. keeps_wanted k ring o w) v.1
            ∙ ap (λ o. restores k v.0 || (nat_le v.0.from k.committed && begins_kept k (adopts_wanted k ring o w))) v.1
            ∙ either (restores k v.0) (nat_le v.0.from k.committed)
            (Restored own front done gone last ring k rests within w v.0 v.1) (Joined own front done gone last ring k rests within w v.0 v.1)
            ∙ a.keeps,
      )

  keeps-is : (group : Group) (m : ℕ) (heard : List (Message A)) (o : Option (CompleteExchange A)) → complete_exchange group m heard ≡ o
      → keeps_committed own front done o ≡ true → keeps_kept k ring o ≡ true
  keeps-is group m heard None e t = refl
  keeps-is group m heard (Some w) e t = (adopts-rests group m heard w e t).1

  kept-rests : (group : Group) (m : ℕ) (heard : List (Message A)) (mark : ℕ) (o p : Option (CompleteExchange A)) → complete_exchange group m heard ≡ o
      → complete_exchange group m (messages_upto mark heard) ≡ p → keeps_committed own front done o ≡ true
      → IsLogSuffix (log_by own front o) (length (committed_by own front (restored_by front done o) p)) (trimmed_by gone (length done) o) (last_by ring last o)
      (known_log_after_epoch ring k o p)
  kept-rests group m heard mark None None e f t = rests
  kept-rests group m heard mark None (Some v) e f t =
      absurd (let y = sym (complete_exchange-front group m (messages_upto mark heard) heard v f (upto-front mark heard)) ∙ e in cc y)
  kept-rests group m heard mark (Some w) None e f t =
      let a = (adopts-rests group m heard w e t).0 in
      let new = restored_by front done (Some w) in
      let gone_then = trimmed_by gone (length done) (Some w) in
      let base = own_base own front w.exchange in
      let n : max (length new) 0 ≡ length new = omega arith in
      subst (λ c. IsLogSuffix (base ++ calls_in w.rest) c gone_then (Some ring) (known_log_after_exchange (adopts k ring w) w None)) n
      (followed-rests base (calls_in w.rest) (length new) gone_then 0 (Some ring) (adopts k ring w) a)
  kept-rests group m heard mark (Some w) (Some v) e f t =
      let a = (adopts-rests group m heard w e t).0 in
      let new = restored_by front done (Some w) in
      let gone_then = trimmed_by gone (length done) (Some w) in
      let base = own_base own front w.exchange in
      let front_is = upto-front mark heard in
      let grows : Some (grown v front_is.0) ≡ Some w = sym (complete_exchange-front group m (messages_upto mark heard) heard v f front_is) ∙ e in
      let same : grown v front_is.0 ≡ w = cc grows in
      let base_is : own_base own front v.exchange ≡ base = ap (λ (u : CompleteExchange A). own_base own front u.exchange) same in
      let reach = known_log_length (adopts k ring w) + length (calls_in v.rest) in
      let long = length-longer_list new (own_base own front v.exchange ++ calls_in v.rest) in
      let parts = length-append (own_base own front v.exchange) (calls_in v.rest) in
      let size = rests-length base (length new) gone_then (Some ring) (adopts k ring w) a in
      let n : max (length new) reach ≡ length (longer_list new (own_base own front v.exchange ++ calls_in v.rest)) =
      omega (arith, long, parts, ap length base_is, size) in
      subst (λ c. IsLogSuffix (base ++ calls_in w.rest) c gone_then (Some ring) (known_log_after_exchange (adopts k ring w) w (Some v))) n
      (followed-rests base (calls_in w.rest) (length new) gone_then reach (Some ring) (adopts k ring w) a)

-- ---- lives

module _ {A : Type 0} (group : Group) (s : Epoch A) (older : List (Epoch A)) where
  abbrev pub Keeps : Type 0
  Keeps = keeps_committed (log_of group older) s.front (committed_of group older) (complete_exchange group s.members s.heard) ≡ true

  -- if a life's committed places are a prefix of its log
  abbrev IsCommitted : Type 0
  IsCommitted = IsListPrefix (committed_of group older) (log_of group older)

  pub view-more : IsCommitted → IsView group older → Keeps → s.trimmed ≤ (known_log_of group (s ∷ older)).committed → IsView group (s ∷ older)
  view-more within v t le =
      dropped-rests s.trimmed (log_of group (s ∷ older)) (length (committed_of group (s ∷ older)))
      (trimmed_by (trimmed_of group older) (length (committed_of group older)) (complete_exchange group s.members s.heard)) (last_of group (s ∷ older))
      (known_log_after_epoch s.ring (known_log_of group older) (complete_exchange group s.members s.heard) (complete_exchange group s.members (messages_upto s.mark s.heard))) le
      (kept-rests (log_of group older) s.front (committed_of group older) (trimmed_of group older) (last_of group older) s.ring (known_log_of group older) v
      within group s.members s.heard s.mark (complete_exchange group s.members s.heard)
      (complete_exchange group s.members (messages_upto s.mark s.heard)) refl refl t)

  pub keeps-more : IsCommitted → IsView group older → Keeps → keeps_kept (known_log_of group older) s.ring (complete_exchange group s.members s.heard) ≡ true
  keeps-more within v t =
      keeps-is (log_of group older) s.front (committed_of group older) (trimmed_of group older) (last_of group older) s.ring (known_log_of group older) v
      within group s.members s.heard (complete_exchange group s.members s.heard) refl t

  pub length-more : IsView group (s ∷ older) → is_log_length (known_log_length (known_log_of group (s ∷ older))) ≡ is_log_length (length (log_of group (s ∷ older)))
  length-more v =
      ap is_log_length (rests-length (log_of group (s ∷ older)) (length (committed_of group (s ∷ older))) (trimmed_of group (s ∷ older))
      (last_of group (s ∷ older)) (known_log_of group (s ∷ older)) v)

-- the life without a ring
pub view-none : {A : Type 0} (group : Group) → IsView {A = A} group []
view-none group = record { calls = refl; within = omega arith; committed = refl; trimmed = refl; last = refl; low = omega arith; high = omega arith }

-- the Head that a node states by its known log is that of the whole log
pub head-view : {A : Type 0} (group : Group) (epochs : List (Epoch A)) → IsView group epochs → known_log_head (known_log_of group epochs) ≡ head_of_epochs group epochs
head-view group epochs v =
    let k = known_log_of group epochs in
    let of : Option RingId → ℕ → ℕ → ℕ → OneHead = λ l n c t. record { last = l; length = n; committed = c; trimmed = t } in
    ap (λ l. of l (known_log_length k) k.committed k.trimmed) v.last
    ∙ ap (λ n. of (last_of group epochs) n k.committed k.trimmed)
    (rests-length (log_of group epochs) (length (committed_of group epochs)) (trimmed_of group epochs) (last_of group epochs) k v)
    ∙ ap (λ c. of (last_of group epochs) (length (log_of group epochs)) c k.trimmed) v.committed
    ∙ ap (of (last_of group epochs) (length (log_of group epochs)) (length (committed_of group epochs))) v.trimmed
