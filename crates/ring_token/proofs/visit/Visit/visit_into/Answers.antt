-- One more visit, of which the last `aru` and the least next number are kept.
use Rattle.std.proofs.Common.{◌≡◌, ap, sym, ◌∙◌, min, max, length}
use contract.BorrowLft.{⊑_meet, ⊑_static, ⊑_refl}
use Rattle.ring_wire.specs.declared.token.Token.{Token}
use Rattle.ring_token.specs.Visits.{token_after}
use Rattle.ring_token.specs.Histories.{TokenHistory, visit_made}
use Rattle.ring_token.proofs.VisitNumbers.{kept_turn}
use Rattle.ring_token.proofs.visit.Visit.visit_into.Goals as goal

pub invariant_of-self : goal.invariant_of-self
invariant_of-self g c =
    let h = c.self.inside.history.value in
    let forwarded : c.write_forwarded_token.new.forwarded ≡ token_after h.me c.args.front (length g.fresh)
    c.args.forwarded.now.requests c.args.token.now = c.write_forwarded_token.ensures
    ∙ ap (λ n. token_after n c.args.front c.args.sent c.args.forwarded.now.requests c.args.token.now) c.self.invariant.0
    ∙ ap (λ n. token_after h.me c.args.front n c.args.forwarded.now.requests c.args.token.now) (sym c.requires.1.1.1.1) in
    let aru : c.write_forwarded_token.new.forwarded.aru
    ≡ (token_after h.me c.args.front (length g.fresh) c.args.forwarded.now.requests c.args.token.now).aru = ap (λ (t : Token). t.aru)
    forwarded in
    let same : c.args.token.now.ring ≡ h.ring = c.requires.1.0 ∙ sym (ap (λ (x : TokenHistory g.row.A.Denot). x.ring) c.self.view_is) in
    rw c.ghost_of-history.ensures (
      c.self.invariant.0,
      c.self.invariant.1,
      kept_turn h (visit_made h.me c.args.front g.fresh c.args.forwarded.now.requests c.args.token.now)
          c.self.inside.next_token_number c.self.inside.aru c.self.inside.safe _ _ _ c.self.invariant.2 same
          c.max-self-inside.ensures aru (c.max-self-inside-2.ensures ∙ ap (λ n. max c.self.inside.safe n)
          (c.min.ensures ∙ ap (λ n. min c.self.inside.aru n) aru)),
    )

pub ghost_of-history-requires : goal.ghost_of-history-requires
ghost_of-history-requires g c κs within = search (⊑_meet, ⊑_static, ⊑_refl) depth 40
