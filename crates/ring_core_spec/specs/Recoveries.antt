-- Definitions of recovery, re-exported for the crates above the ring core.
pub use Rattle.ring_recover.specs.Deliveries.{rest_messages, is_complete, transitional_part, past_gap_part, is_from_transitional_member, is_from_transitional_member_if_there, SameText}
pub use Rattle.ring_recover.specs.Deliveries.{delivery, finish}
pub use Rattle.ring_recover.specs.Plans.{plan_of, low, is_reported, safe, is_known, Plan, gap, known_above_safe, least, transitional_members_among}
pub use Rattle.ring_recover.specs.Plans.{least_mark}
pub use Rattle.ring_recover.specs.Wrapping.{is_wrap_of, inner_messages, inner_message, inner_if_new, has_ended, wraps_and_end, is_wrapped, wrap, wrap_content}
pub use Rattle.ring_recover.specs.Wrapping.{above_low, to_wrap}
pub use Rattle.ring_recover.specs.Installing.{is_ready, in_front, ends, has_end_of, all_ended, is_covered, has_user, is_ready_by}
