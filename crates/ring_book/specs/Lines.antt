-- Definitions of a book's lines, re-exported for hosts.
pub use Rattle.ring_book_lines.specs.Answers.{answer_of_ticket, first_answer_in, with_answers, answers_after_step, answers_after_steps, answers_of_node}
pub use Rattle.ring_book_lines.specs.Events.{IsRun, events_of, history_of}
pub use Rattle.ring_book_lines.specs.Lines.{steps_of}
pub use Rattle.ring_book_lines.specs.Orders.{calls_of, call_in}
pub use Rattle.ring_book_lines.specs.Steps.{LineView, StepView}
pub use Rattle.ring_book_lines.specs.Machines.{Machine, node_machine}
pub use Rattle.ring_book_lines.specs.declared.input.LineInput.{LineInput}
pub use Rattle.ring_book_lines.specs.declared.input.LineInput.TheVariants.{Submitted, Received}
