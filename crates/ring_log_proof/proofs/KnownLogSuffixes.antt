-- The known log is the rest of the whole log after the snapshot that was restored last.
-- This holds if the whole life, with its snapshot places, is sound. The known log is as sound if no base lacks committed places.
use Rattle.std.proofs.Common.{◌≡◌, Bool, true, false, ◌&&◌, List, [], ◌∷◌, length, inl, inr, refl, ap, sym, ◌∙◌, arith}
use Rattle.std.proofs.lemmas.Bool.{and_parts, le-leb}
use Rattle.ring_base.specs.Group.{Group}
use Rattle.ring_base.specs.Numbers.{max_number}
use Rattle.ring_log.specs.Logs.{is_log_length}
use Rattle.ring_log.specs.Epochs.{Epoch}
use Rattle.ring_log.specs.EpochHistories.{complete_exchange, log_of, committed_of, head_of_epochs, keeps_committed, is_sound}
use Rattle.ring_log.specs.KnownLog.{known_log_of, known_log_length, known_log_head, keeps_kept, is_known_log_sound}
use Rattle.ring_log_proof.specs.RingFacts.{HasEpoch}
use Rattle.ring_log_proof.specs.Discipline.{DropsOnlyCommitted}
use Rattle.ring_log_proof.specs.Views.{IsView}
use Rattle.ring_log_proof.proofs.CommittedGrows.{sound_stay, committed_front}
use Rattle.ring_log_proof.proofs.Views.{view-none, view-more, keeps-more, length-more, head-view}

-- the log of such a life isn't too long
pub kept-short : {A : Type 0} (group : Group) (epochs : List (Epoch A)) → is_known_log_sound group epochs ≡ true → is_log_length (known_log_length (known_log_of group epochs)) ≡ true
kept-short group [] t = le-leb 0 max_number (omega arith)
kept-short group (s ∷ older) t =
    (and_parts (is_known_log_sound group older && keeps_kept (known_log_of group older) s.ring (complete_exchange group s.members s.heard))
    (is_log_length (known_log_length (known_log_of group (s ∷ older)))) t).1

-- the two views of a sound life in which only committed places are dropped
pub view : {A : Type 0} (group : Group) (epochs : List (Epoch A)) → is_sound group epochs ≡ true → DropsOnlyCommitted group epochs → IsView group epochs
view group [] t drops = view-none group
view group (s ∷ older) t drops =
    let p = sound_stay group s older t in
    view-more group s older (committed_front group older p.older_sound) (view group older p.older_sound (λ u before i. drops u before (inr i))) p.keeps
    (drops s older (inl (refl, refl)))

-- if no base lacks committed places, both views are equally sound
pub sound-same : {A : Type 0} (group : Group) (epochs : List (Epoch A))
    → ((s : Epoch A) (older : List (Epoch A)) → HasEpoch epochs s older
    → keeps_committed (log_of group older) s.front (committed_of group older) (complete_exchange group s.members s.heard) ≡ true)
    → DropsOnlyCommitted group epochs → is_known_log_sound group epochs ≡ is_sound group epochs
sound-same group [] keeps drops = refl
sound-same {A} group (s ∷ older) keeps drops =
    by (is_sound group older) refl (sound-same group older (λ u before i. keeps u before (inr i)) (λ u before i. drops u before (inr i)))
  where
    own : Bool
    own = keeps_kept (known_log_of group older) s.ring (complete_exchange group s.members s.heard)

    all : Bool
    all = keeps_committed (log_of group older) s.front (committed_of group older) (complete_exchange group s.members s.heard)

    short : Bool
    short = is_log_length (known_log_length (known_log_of group (s ∷ older)))

    long : Bool
    long = is_log_length (length (log_of group (s ∷ older)))

    by : (b : Bool) → is_sound group older ≡ b → is_known_log_sound group older ≡ is_sound group older
        → (is_known_log_sound group older && own) && short ≡ (is_sound group older && all) && long
    by false f same = ap (λ c. (c && own) && short) (same ∙ f) ∙ sym (ap (λ c. (c && all) && long) f)
    by true t same =
        let here : all ≡ true = keeps s older (inl (refl, refl)) in
        let before = view group older t (λ u behind i. drops u behind (inr i)) in
        let within = committed_front group older t in
        let now = view-more group s older within before here (drops s older (inl (refl, refl))) in
        ap (λ c. (c && own) && short) (same ∙ t) ∙ ap (λ c. (true && c) && short) (keeps-more group s older within before here)
        ∙ ap (λ c. (true && true) && c) (length-more group s older now)
        ∙ sym (ap (λ c. (c && all) && long) t ∙ ap (λ c. (true && c) && long) here)

-- the Head that such a node states
pub head-is : {A : Type 0} (group : Group) (epochs : List (Epoch A)) → is_sound group epochs ≡ true → DropsOnlyCommitted group epochs
    → known_log_head (known_log_of group epochs) ≡ head_of_epochs group epochs
head-is group epochs t drops = head-view group epochs (view group epochs t drops)
