-- The step report of a task is the last step of a run, and the clock counts the turn that did it.
use Rattle.std.proofs.Common.{◌≡◌, ℕ, ◌-◌, ◌≤◌, ◌++◌, List, [], ◌∷◌, Option, Some, None, Result, Ok, Err, length, slice_get, IsOk, IsSomeAnd}
use Rattle.std.proofs.Common.{IfSome, IfNone, IfOk, MatchResult, refl, sym, ap, subst, ◌∙◌, inl, inr, arith}
use Rattle.ring_base.proofs.ListPlaces.{get-last, push-length}
use Rattle.ring_base.specs.Group.{Group}
use Rattle.ring_base.specs.declared.fault.Fault.{Fault}
use Rattle.ring_base.specs.declared.timeout_kind.Kind.{Kind}
use Rattle.ring_object.specs.Operations.{Sequential}
use Rattle.ring_wire.specs.declared.frame.Frame.{Frame as OneFrame}
use Rattle.ring_node_spec.specs.Nodes.{Node, node_known_log}
use Rattle.ring_book_lines.specs.Machines.{node_machine}
use Rattle.ring_book.specs.Cells.{HasJournaled}
use Rattle.ring_book.specs.Lines.{IsRun, LineView, StepView, Received, steps_of}
use Rattle.ring_book.specs.BookViews.{CellView}
use Rattle.ring_seat.specs.Clocks.{clock_counted_down, due_timeout, clock_after_item, timeout_restarted}
use Rattle.ring_seat.specs.declared.turn_clock.TurnClock.{TurnClock}
use Rattle.ring_host.proofs.JournaledSteps.{last_same}
use Rattle.ring_host.specs.LockedSteps.{HasSent, IsEndOfRun}
use Rattle.ring_host.specs.Steps.{IsTurnActivity, IsStepReport, node_after_lines, with_step}
use Rattle.ring_host.specs.Tasks.{IsFrame, task_kind_of, timeout_of, input_of, ref_of}
use Rattle.ring_host.specs.Turns.{IsCounted, IsTurned, length_of}
use Rattle.ring_host.specs.declared.inbox_frame_and_task.TaskKind.{TaskKind}
use Rattle.ring_host.specs.declared.inbox_frame_and_task.TaskKind.TheVariants.{Token}
use Rattle.ring_host.specs.declared.inbox_frame_and_task.Task.{Task}
use Rattle.ring_host.specs.declared.inbox_frame_and_task.Task.TheVariants.{Timeout, Received as CameTask}
use Rattle.ring_host.specs.declared.gated_turn.StepReport.{StepReport}

-- The last of lines with one added sent the frames of its step.
frames_of_last : {A : Type 0} (before after : List (LineView A)) (step : StepView A) (sent : ℕ) → after ≡ with_step before step → HasSent after sent
    → sent ≡ length step.frames
frames_of_last {A} before after step sent added has =
    let line : LineView A = record { number = length before; step = step } in
    let last : length (before ++ line ∷ []) - 1 ≡ length before = omega (arith, push-length before line) in
    let at : slice_get (before ++ line ∷ []) (length (before ++ line ∷ []) - 1) ≡ Some line =
    ap (λ (n : ℕ). slice_get (before ++ line ∷ []) n) last ∙ get-last before line in
    subst (λ (o : Option (LineView A)). IsSomeAnd o (λ (l : LineView A). sent ≡ length l.step.frames)) at
    (subst (λ (ls : List (LineView A)). HasSent ls sent) added has)

-- A property of a value holds of a result that is that value.
pub if_value : {T E : Type 0} (r : Result T E) (P : Type 0) (Q : E → Type 0) → IsOk r → MatchResult r (λ (x : T). P) Q → P
if_value (Ok x) P Q is h = h
if_value (Err e) P Q is h = absurd (cc is)

-- A frame is no timeout.
frame_untimed : {A : Type 0} (task : Task A) → IsFrame task → timeout_of task ≡ None
frame_untimed (Timeout kind) frame = absurd frame
frame_untimed (CameTask bytes at) frame = refl

-- A task that was found is the timeout that was due, or a frame where none was.
pub task_due : {A : Type 0} (due : Option Kind) (r : Result (Option (Task A)) Fault) (task : Task A) → r ≡ Ok (Some task)
    → IfSome due (λ (kind : Kind). r ≡ Ok (Some (Timeout kind))) → IfNone due (IfOk r (λ (task_kind : Option (Task A)). IfSome task_kind IsFrame))
    → timeout_of task ≡ due
task_due {A} None r task is some none =
    frame_untimed task (subst (λ (x : Result (Option (Task A)) Fault). IfOk x (λ (task_kind : Option (Task A)). IfSome task_kind IsFrame)) is none)
task_due {A} (Some kind) r task is some none = let same : task ≡ Timeout kind = cc in ap (λ (t : Task A). timeout_of t) same

-- If no task was found, no timeout was due.
pub none_was_due : {A : Type 0} (due : Option Kind) (r : Result (Option (Task A)) Fault) → r ≡ Ok None
    → IfSome due (λ (kind : Kind). r ≡ Ok (Some (Timeout kind))) → due ≡ None
none_was_due None r is some = refl
none_was_due (Some kind) r is some = absurd cc

-- A task of kind token is no timeout.
no_timeout : {A : Type 0} (place : Option (OneFrame A)) (task : Task A) → task_kind_of place task ≡ Token → timeout_of task ≡ None
no_timeout place (Timeout kind) token = absurd cc
no_timeout place (CameTask bytes at) token = refl

module _ {O A : Type 0} (object : Sequential O) (group : Group) where
  -- A step that a cell journaled of a task, and with which a run ends, is the task's step.
  pub done_of_task : (place : Option (OneFrame A)) (task : Task A) (old mid new : CellView (Node A) A) (what : TaskKind) (sent : ℕ) (node : Node A) (done : StepReport)
      → HasJournaled (node_machine object group) old mid (Received (input_of place task) (ref_of task)) → IsEndOfRun object group mid new sent
      → node ≡ new.node → what ≡ task_kind_of place task → done.task_kind ≡ what → done.sent ≡ sent → done.committed_len ≡ (node_known_log node).committed
      → IsTurnActivity node what sent done.activity → IsStepReport object group place task done
  done_of_task place task old mid new what sent node done j e same of_task task_kind many long activity =
      let one : e.entered.step ≡ j.step = last_same (steps_of mid.me e.book.lines) old.journal e.entered.step j.step (sym e.entered.was ∙ j.journal) in
      let lines : e.book'.lines ≡ with_step e.book.lines j.step =
      subst (λ (s : StepView A). e.book'.lines ≡ with_step e.book.lines s) one e.entered.lines in
      let me : new.me ≡ j.step.node = ap (λ (c : CellView (Node A) A). c.me) e.entered.cell_is ∙ (j.me ∙ sym j.step_node) in
      let left : node ≡ node_after_lines object group (with_step e.book.lines j.step) j.step.node =
      same ∙ (e.node ∙ (ap (λ (ls : List (LineView A)). node_after_lines object group ls new.me) lines
      ∙ ap (λ (n : ℕ). node_after_lines object group (with_step e.book.lines j.step) n) me)) in
      record {
        lines = e.book.lines;
        step = j.step;
        is_run = subst (λ (ls : List (LineView A)). IsRun object group ls) lines e.is_run;
        member = subst (λ (n : ℕ). (1 ≤ n) × (n ≤ group.count)) me e.member;
        input = j.step_input;
        task_kind_is = task_kind ∙ of_task;
        frames = many ∙ frames_of_last e.book.lines e.book'.lines j.step sent lines e.frames;
        committed = long ∙ ap (λ (n : Node A). (node_known_log n).committed) left;
        activity =
            subst (λ (n : Node A). IsTurnActivity n done.task_kind done.sent done.activity) left
            (subst (λ (n : ℕ). IsTurnActivity node done.task_kind n done.activity) (sym many) (subst (λ (f : TaskKind). IsTurnActivity node f sent done.activity) (sym task_kind) activity));
      }

  -- The report holds for any number of dropped copies.
  pub dropped_besides : (place : Option (OneFrame A)) (task : Task A) (done : StepReport) (n : ℕ) → IsStepReport object group place task done
      → IsStepReport object group place task (record done { dropped = n })
  dropped_besides place task done n d = record {
    lines = d.lines;
    step = d.step;
    is_run = d.is_run;
    member = d.member;
    input = d.input;
    task_kind_is = d.task_kind_is;
    frames = d.frames;
    committed = d.committed;
    activity = d.activity;
  }

-- The clock of a turn that did the due timeout, a frame or nothing is counted as its length says.
pub is_counted_so : (A : Type 0) {O : Type 0} (object : Sequential O) (group : Group) (done : Option StepReport) (old new : TurnClock)
    → IsTurned A object group done old new → IsCounted (length_of done) old new
is_counted_so A object group None old new t = (t.0, t.1 ∙ ap (λ (due : Option Kind). timeout_restarted due (clock_counted_down old)) t.0)
is_counted_so A object group (Some done) old new t =
    elim t.noted [
      | inl was ↦
          let none : due_timeout (clock_counted_down old) ≡ None = sym t.timeout ∙ no_timeout t.place t.task (sym t.did.task_kind_is ∙ was.0) in
          inr (none, was.2 ∙ ap (λ (due : Option Kind). clock_after_item (timeout_restarted due (clock_counted_down old))) none)
      | inr kept ↦ inl kept.1
    ]
