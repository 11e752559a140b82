-- A host's gauge in contracts, re-exported for crates that use hosts.
pub use Rattle.atomic_table.specs.Seated.{TableId}
