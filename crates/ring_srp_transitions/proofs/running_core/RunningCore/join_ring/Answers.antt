-- The frame that became the kept token is sent.
use Rattle.std.proofs.Common.{◌≡◌, ℕ, ◌++◌, ◌∷◌, Some, ap, ◌∙◌}
use Rattle.std.proofs.lemmas.Result.{on_ok_weaker}
use Rattle.ring_base.specs.Processors.{only}
use Rattle.ring_base.specs.declared.state.State.TheVariants.{Commit}
use Rattle.ring_wire.specs.declared.commit.CommitToken.{CommitToken}
use Rattle.ring_wire.specs.declared.frame.Frame.TheVariants.{Commit as CommitFrame}
use Rattle.ring_commit.specs.Rounds.{receiver}
use Rattle.ring_core_spec.specs.State.{Core}
use Rattle.ring_core_spec.specs.Transitions.{last_sent_repeated}
use Rattle.ring_core_spec.specs.Giving.{sends_with_receivers}
use Rattle.ring_core_spec.specs.CommitSteps.{ring_joined}
use Rattle.ring_core_spec.specs.Views.{own_entry}
use Rattle.ring_srp_transitions.proofs.running_core.RunningCore.join_ring.Goals as goal

-- a core that takes part in a ring, and keeps a token for some receivers
abbrev joining : {A : Type 0} → Core A → CommitToken → ℕ → CommitToken → Core A
joining c last_sent to k =
    record c {
      state = Commit;
      running = record { ring = k.ring; members = k.members };
      last_sent = Some (record { to = to; frame = CommitFrame last_sent });
      rings = record { ring = k.ring; members = k.members } ∷ c.rings;
      reports = record { ring = k.ring; entry = own_entry c } ∷ c.reports;
    }

joined_by : {A : Type 0} (c now : Core A) (boxed token : CommitToken) (who to : ℕ) → now ≡ joining c boxed to token → token ≡ boxed → who ≡ receiver token
    → to ≡ only who → now ≡ (ring_joined c boxed).core
joined_by c now boxed token who to is same who_is to_is =
    is ∙ ap (joining c boxed to) same ∙ ap (λ n. joining c boxed n boxed) (to_is ∙ ap only (who_is ∙ ap receiver same))

pub returns-clause-core : goal.returns-clause-core
returns-clause-core g c =
    let is = joined_by c.args.self.now c.take_part.new.self c.args.boxed c.token-token.result.now c.receiver.result c.singleton-to.result c.take_part.ensures
    c.token-token.ensures c.receiver.ensures c.singleton-to.ensures.value in
    on_ok_weaker c.send_kept_token.result (λ _. is) c.send_kept_token.ensures.ok

pub returns-clause-sends : goal.returns-clause-sends
returns-clause-sends g c =
    let is = joined_by c.args.self.now c.take_part.new.self c.args.boxed c.token-token.result.now c.receiver.result c.singleton-to.result c.take_part.ensures
    c.token-token.ensures c.receiver.ensures c.singleton-to.ensures.value in
    on_ok_weaker c.send_kept_token.result
    (λ forwarded. forwarded ∙ ap (λ (x : Core g.row.A.Denot). c.args.sends.now.items ++ sends_with_receivers (last_sent_repeated x.last_sent)) is) c.send_kept_token.ensures.ok
