-- Without new messages nothing is sent, and nothing more is held.
use Rattle.std.proofs.Common.{◌≡◌, ◌++◌, [], List, ap, sym, ◌∙◌, arith}
use Rattle.std.proofs.lemmas.Bool.{eqb-true}
use Rattle.std.proofs.lemmas.List.{append-nil}
use Rattle.ring_payload.specs.declared.content.Payload.{Payload}
use Rattle.ring_core_spec.specs.Giving.{sends_with_receivers}
use Rattle.ring_core_spec.specs.Visiting.{to_others}
use Rattle.ring_srp_transitions.specs.Sending.{messages_of_payloads, holding}
use Rattle.ring_srp_transitions.proofs.Visits.{no_payloads}
use Rattle.ring_srp_transitions.proofs.running_core.RunningCore.send_new_messages.Goals as goal

pub returns-then-is_empty : goal.returns-then-is_empty
returns-then-is_empty g c =
    let now = c.args.self.now in
    let empty : [] ≡ c.args.payloads.items = no_payloads c.args.payloads.items
    (omega (arith, eqb-true _ _ (sym c.if-is_empty.ensures), c.args.payloads.ok.0)) in
    record {
      fresh = c.empty_ghost_list.ensures ∙ empty;
      core = ap (λ (ps : List (Payload g.row.A.Denot)). holding now c.args.token.now ps) empty;
      sends = sym (append-nil c.args.sends.now.items)
          ∙ ap (λ (ps : List (Payload g.row.A.Denot)). c.args.sends.now.items ++ sends_with_receivers (to_others now (messages_of_payloads now c.args.token.now ps))) empty;
      refused = tt;
    }
