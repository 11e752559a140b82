-- Definitions of joins, re-exported for the crates above the ring core.
pub use Rattle.ring_join.specs.Gathering.{candidates, gathering_opening, join_merged, silent_given_up, new_number, AllHaveOwnSets, Gathering, with_agreement, has_consensus}
pub use Rattle.ring_join.specs.Gathering.{HasOwnSets, has_same_sets, join_effect, sets_merged, is_own_or_failed, has_smaller_sets, own_join}
pub use Rattle.ring_join.specs.Gathering.{merged_fail_set, senders_of_joins, agreeing}
pub use Rattle.ring_join.specs.declared.join_effect.JoinEffect.{JoinEffect}
pub use Rattle.ring_join.specs.declared.join_effect.JoinEffect.TheVariants.{Ignored, Agrees, Merges}
