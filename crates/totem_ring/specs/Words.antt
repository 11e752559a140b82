-- The words of operations, for the definitions of a user's program.
pub use Rattle.ring_script.specs.Operations.{OperationForm}
pub use Rattle.ring_script.specs.declared.vocabulary.Argument.TheVariants.{Key, Value, Name}
