-- One more number is deferred.
use Rattle.std.proofs.Common.{◌≡◌, ℕ, ◌+◌, ◌<◌, ◌≤◌, ◌++◌, Option, ap, ◌∙◌, sym, max, arith}
use Rattle.ring_wire.specs.declared.message.Message.{Message}
use Rattle.ring_window.specs.Held.{found, front_of}
use Rattle.ring_window.specs.Windows.{message_above_mark}
use Rattle.ring_recover.proofs.MessagesInFront.{kept_found}
use Rattle.ring_srp_state.specs.declared.ring_part.WindowAndVisits.{WindowAndVisits}
use Rattle.ring_srp_state.specs.declared.recovery_state.RecoveryState.{RecoveryState}
use Rattle.ring_srp_state.specs.Setting.{HasDeferred}
use Rattle.ring_srp_state.specs.Users.{users_in, user_if_there}
use Rattle.ring_srp_state.proofs.UsersOfWindow.{users_more}

pub sets_more : {A : Type 0} (o r r' : RecoveryState A) (k : ℕ) (x : Option (Message A)) → HasDeferred o r → o.part.window.mark ≤ o.most → r.most ≡ k →
    k < front_of o.part.window.held o.part.window.ring → x ≡ message_above_mark r.part.window (k + 1) →
    r'.part ≡ r.part → r'.plan ≡ r.plan → r'.ends ≡ r.ends → r'.most ≡ k + 1 → r'.deferred.items ≡ r.deferred.items ++ user_if_there x → HasDeferred o r'
sets_more {A} o r r' k x s near here inside there part plan ends most deferred =
    let w = r.part.window in
    let mark : w.mark ≡ o.part.window.mark = ap (λ (p : WindowAndVisits A). p.window.mark) s.part in
    let told : x ≡ found w.held w.ring (k + 1) = there ∙ kept_found w (k + 1) (omega (arith, mark, near, here, s.more)) in
    let reach : front_of r'.part.window.held r'.part.window.ring ≡ front_of o.part.window.held o.part.window.ring = ap
    (λ (p : WindowAndVisits A). front_of p.window.held p.window.ring) (part ∙ s.part) in
    record {
      part = part ∙ s.part;
      plan = plan ∙ s.plan;
      ends = ends ∙ s.ends;
      deferred = deferred
          ∙ ap (λ ys. ys ++ user_if_there x) (s.deferred ∙ ap (users_in w 0) here)
          ∙ ap (λ (o : Option (Message A)). users_in w 0 k ++ user_if_there o) told
          ∙ sym (users_more w 0 k (omega arith))
          ∙ sym (ap (λ (p : WindowAndVisits A). users_in p.window 0 (k + 1)) part)
          ∙ sym (ap (users_in r'.part.window 0) most);
      more = omega (arith, s.more, here, most);
      far = farther _ _ _ _ _ most inside reach;
    }
  where
    farther : (now before front k reach : ℕ) → now ≡ k + 1 → k < reach → front ≡ reach → now ≤ max before front
    farther now before front k reach a b d = omega arith
