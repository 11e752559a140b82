-- The visit is the one that the part makes, and its mark is at most the front.
use Rattle.std.proofs.Common.{◌+◌, List, ℕ, ap, ◌∙◌, sym}
use Rattle.ring_window.specs.Held.{front_of, missing}
use Rattle.ring_window.specs.Windows.{window_after_forget}
use Rattle.ring_token.specs.TokenVisits.{TokenVisit}
use Rattle.ring_token.specs.Visits.{requests_after, token_after}
use Rattle.ring_token.specs.Histories.{visit_made, history_with_visit}
use Rattle.ring_srp_state.proofs.OneVisitMore.{mark_within}
use Rattle.ring_srp_state.proofs.ring_part.WindowAndVisits.visit_into_token.Goals as goal

pub forget-requires : goal.forget-requires
forget-requires g c =
    let h = c.args.self.now.visit in
    let w = c.args.self.now.window in
    let v : TokenVisit g.row.A.Denot = visit_made h.me c.front-front.result c.args.fresh.now.value c.fill_requests.new.requests c.args.token.now in
    rw (c.safe.ensures, c.visit_with_payloads.ensures.visit) (mark_within v h.turns h.raises h.ring (front_of w.held w.ring) c.requires.ring
    c.requires.led c.requires.reached)

pub returns-clause-token : goal.returns-clause-token
returns-clause-token g c =
    let h = c.args.self.now.visit in
    let w = c.args.self.now.window in
    let t = c.args.token.now in
    let remaining_requests = c.args.remaining_requests.now in
    let lacks : ℕ → List ℕ = λ n. missing w.held w.ring w.mark (t.seq + n) in
    c.visit_with_payloads.ensures.token
    ∙ ap (λ n. token_after h.me n c.args.count c.fill_requests.new.requests t) c.front-front.ensures
    ∙ ap (λ ns. token_after h.me (front_of w.held w.ring) c.args.count ns t) c.fill_requests.ensures
    ∙ ap (λ n. token_after h.me (front_of w.held w.ring) n (requests_after remaining_requests (lacks n)) t) (sym c.requires.count)

pub returns-clause-visit : goal.returns-clause-visit
returns-clause-visit g c =
    let h = c.args.self.now.visit in
    let w = c.args.self.now.window in
    let t = c.args.token.now in
    let fresh = c.args.fresh.now.value in
    let remaining_requests = c.args.remaining_requests.now in
    let lacks : ℕ → List ℕ = λ n. missing w.held w.ring w.mark (t.seq + n) in
    c.visit_with_payloads.ensures.visit
    ∙ ap (λ n. history_with_visit h (visit_made h.me n fresh c.fill_requests.new.requests t)) c.front-front.ensures
    ∙ ap (λ ns. history_with_visit h (visit_made h.me (front_of w.held w.ring) fresh ns t)) c.fill_requests.ensures
    ∙ ap (λ n. history_with_visit h (visit_made h.me (front_of w.held w.ring) fresh (requests_after remaining_requests (lacks n)) t)) (sym c.requires.count)

pub returns-clause-window : goal.returns-clause-window
returns-clause-window g c = c.forget.ensures ∙ ap (λ n. window_after_forget c.args.self.now.window n) c.safe.ensures
