-- A life that is sound by its known log was sound before its last message, safe mark or installation, and its log isn't too long.
use Rattle.std.proofs.Common.{◌≡◌, ℕ, ◌&&◌, Bool, true, List, [], ◌∷◌, ◌++◌, length, Option, Some, None, refl, ap, sym, ◌∙◌, arith, length-append}
use Rattle.std.proofs.lemmas.Bool.{and_parts, and_from, leb-true, le-leb}
use Rattle.ring_base.specs.Group.{Group}
use Rattle.ring_base.specs.Numbers.{max_number}
use Rattle.ring_wire.specs.declared.message.Message.{Message}
use Rattle.ring_node_spec.specs.Outs.{Out}
use Rattle.ring_node_spec.specs.OutVariants.{Send, Agreed, Safe, Trans, Rest, Regular}
use Rattle.ring_log.specs.Logs.{is_log_length}
use Rattle.ring_log.specs.Epochs.{Epoch, epoch_opening, epochs_with_message, epochs_with_mark}
use Rattle.ring_log.specs.EpochHistories.{CompleteExchange, complete_exchange, calls_in, messages_upto}
use Rattle.ring_log.specs.KnownLog.{KnownLog, known_log_length, adopts, followed_by, known_log_of, keeps_kept, is_known_log_sound}
use Rattle.ring_log_proof.proofs.CompleteExchanges.{grown, complete_exchange-front, calls_in-append}
use Rattle.ring_log_proof.proofs.KnownLogSuffixes.{kept-short}
use Rattle.ring_log_proof.proofs.KnownGrows.{adopts-grown}
use Rattle.ring_node_spec.specs.EpochHistories.{epochs_after_event}
use Rattle.ring_replication.proofs.Replications.{kept_base}
use Rattle.ring_replication.proofs.Messages.{keeps-grown, length-by}

-- the parts of such a life
pub record KeptSoundStay {A : Type 0} (group : Group) (s : Epoch A) (older : List (Epoch A)) : Type 0 where
  pub before : is_known_log_sound group older ≡ true
  pub keeps : keeps_kept (known_log_of group older) s.ring (complete_exchange group s.members s.heard) ≡ true
  pub short : is_log_length (known_log_length (kept_base s.ring (known_log_of group older) (complete_exchange group s.members s.heard))) ≡ true

pub epoch-parts : {A : Type 0} (group : Group) (s : Epoch A) (older : List (Epoch A)) → is_known_log_sound group (s ∷ older) ≡ true → KeptSoundStay group s older
epoch-parts group s older t =
    let k = known_log_of group older in
    let o = complete_exchange group s.members s.heard in
    let outer = and_parts (is_known_log_sound group older && keeps_kept k s.ring o) (is_log_length (known_log_length (known_log_of group (s ∷ older)))) t in
    let inner = and_parts (is_known_log_sound group older) (keeps_kept k s.ring o) outer.0 in
    record {
      before = inner.0;
      keeps = inner.1;
      short = ap is_log_length (sym (length-by s.ring k s.trimmed o (complete_exchange group s.members (messages_upto s.mark s.heard)))) ∙ outer.1;
    }

pub epoch-sound : {A : Type 0} (group : Group) (s : Epoch A) (older : List (Epoch A)) → KeptSoundStay group s older → is_known_log_sound group (s ∷ older) ≡ true
epoch-sound group s older p =
    let k = known_log_of group older in
    let o = complete_exchange group s.members s.heard in
    and_from (is_known_log_sound group older && keeps_kept k s.ring o) (is_log_length (known_log_length (known_log_of group (s ∷ older))))
    (and_from (is_known_log_sound group older) (keeps_kept k s.ring o) p.before p.keeps)
    (ap is_log_length (length-by s.ring k s.trimmed o (complete_exchange group s.members (messages_upto s.mark s.heard))) ∙ p.short)

kept-step : {A : Type 0} (group : Group) (s : Epoch A) (older : List (Epoch A)) (x : Message A) (o p : Option (CompleteExchange A))
    → complete_exchange group s.members s.heard ≡ o → complete_exchange group s.members (s.heard ++ x ∷ []) ≡ p → is_known_log_sound group older ≡ true
    → keeps_kept (known_log_of group older) s.ring p ≡ true → is_log_length (known_log_length (kept_base s.ring (known_log_of group older) p)) ≡ true
    → (keeps_kept (known_log_of group older) s.ring o ≡ true) × (is_log_length (known_log_length (kept_base s.ring (known_log_of group older) o)) ≡ true)
kept-step group s older x None p e f t keeps short = (refl, kept-short group older t)
kept-step group s older x (Some v) None e f t keeps short =
    absurd (let y = sym (complete_exchange-front group s.members s.heard (s.heard ++ x ∷ []) v e (x ∷ [], refl)) ∙ f in cc y)
kept-step {A} group s older x (Some v) (Some w) e f t keeps short =
    let k = known_log_of group older in
    let more = x ∷ [] in
    let grows : Some (grown v more) ≡ Some w = sym (complete_exchange-front group s.members s.heard (s.heard ++ more) v e (more, refl)) ∙ f in
    let same : grown v more ≡ w = cc grows in
    let b = kept_base s.ring k (Some v) in
    let now = kept_base s.ring k (Some w) in
    let grown_is : known_log_length now ≡ known_log_length (followed_by (adopts k s.ring v) (calls_in (v.rest ++ more))) =
    ap (λ (u : CompleteExchange A). known_log_length (kept_base s.ring k (Some u))) (sym same)
    ∙ ap (λ (a : KnownLog A). known_log_length (followed_by a (calls_in (v.rest ++ more)))) (adopts-grown k s.ring v more) in
    let long = length-append (adopts k s.ring v).calls (calls_in (v.rest ++ more)) in
    let was = length-append (adopts k s.ring v).calls (calls_in v.rest) in
    let parts = ap length (calls_in-append v.rest more) ∙ length-append (calls_in v.rest) (calls_in more) in (
      sym (keeps-grown k s.ring v more) ∙ ap (λ (u : CompleteExchange A). keeps_kept k s.ring (Some u)) same ∙ keeps,
      le-leb (known_log_length b) max_number (omega (arith, leb-true (known_log_length now) max_number short, grown_is, long, was, parts)),
    )

before-heard : {A : Type 0} (group : Group) (x : Message A) (epochs : List (Epoch A)) → is_known_log_sound group (epochs_with_message x epochs) ≡ true
    → is_known_log_sound group epochs ≡ true
before-heard group x [] t = t
before-heard {A} group x (s ∷ older) t =
    let s' : Epoch A = record s { heard = s.heard ++ x ∷ [] } in
    let p = epoch-parts group s' older t in
    let both = kept-step group s older x (complete_exchange group s.members s.heard) (complete_exchange group s.members s'.heard) refl refl p.before p.keeps p.short in
    epoch-sound group s older (record { before = p.before; keeps = both.0; short = both.1 })

pub history_with_mark-sound : {A : Type 0} (group : Group) (n : ℕ) (epochs : List (Epoch A)) → is_known_log_sound group (epochs_with_mark n epochs) ≡ is_known_log_sound group epochs
history_with_mark-sound group n [] = refl
history_with_mark-sound {A} group n (s ∷ older) =
    let k = known_log_of group older in
    let o = complete_exchange group s.members s.heard in
    let made : ℕ → Bool = λ m. (is_known_log_sound group older && keeps_kept k s.ring o) && is_log_length m in
    ap made (length-by s.ring k s.trimmed o (complete_exchange group s.members (messages_upto n s.heard)))
    ∙ sym (ap made (length-by s.ring k s.trimmed o (complete_exchange group s.members (messages_upto s.mark s.heard))))

pub sound-epochs_after_event : {A : Type 0} (group : Group) (epochs : List (Epoch A)) (o : Out A) → is_known_log_sound group (epochs_after_event epochs o) ≡ true
    → is_known_log_sound group epochs ≡ true
sound-epochs_after_event group epochs (Agreed ring k x) t = before-heard group x epochs t
sound-epochs_after_event group epochs (Safe ring upto) t = sym (history_with_mark-sound group upto epochs) ∙ t
sound-epochs_after_event group epochs (Regular ring set) t = (epoch-parts group (epoch_opening ring set) epochs t).before
sound-epochs_after_event group epochs (Send to frame) t = t
sound-epochs_after_event group epochs (Trans old new set) t = t
sound-epochs_after_event group epochs (Rest ring k x) t = t
