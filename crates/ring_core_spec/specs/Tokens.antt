-- Definitions of tokens and their visits, re-exported for the crates above the ring core.
pub use Rattle.ring_token.specs.Rounds.{IsSafeIn, VisitBy, token_arrived, AreVisits, IsNextVisit, forwarded_by, FrontsHaveGrown}
pub use Rattle.ring_token.specs.TokenVisits.{TokenVisit, visits_in_ring, MarkRaise, raised_to, safe_mark, mark_from_arus, forwarded_in, first_token, is_newer}
pub use Rattle.ring_token.specs.Visits.{numbered, above_mark, token_after, requests_left, stays_requested, is_held_back_by_self, may_set_aru, requests_after, aru_after}
pub use Rattle.ring_token.specs.Histories.{last_aru}
