-- Facts about one core after any inputs, forged frames included: the order of its two rings and of its visits, that
-- marks are at most fronts, and that all that is held lies within the window after its mark.
-- Rules: Rings and states 4; Token and window 3 and 4
use Rattle.std.specs.Prelude.{◌≡◌, ◌+◌, ◌<◌, ◌≤◌, List}
use Rattle.std.specs.List.{AllByRecursion}
use Rattle.ring_base.specs.Numbers.{window_size}
use Rattle.ring_base.specs.declared.state.State.{State}
use Rattle.ring_base.specs.declared.state.State.TheVariants.{Gather, Commit, Recovery, Operational, Stopped}
use Rattle.ring_wire.specs.declared.message.Message.{Message}
use Rattle.ring_core_spec.specs.Windows.{front_of}
use Rattle.ring_core_spec.specs.Tokens.{TokenVisit, MarkRaise, safe_mark}
use Rattle.ring_core_spec.specs.Commits.{Configuration}
use Rattle.ring_core_spec.specs.State.{Core, floor}

-- The installed ring is below the running one, or equals it, as the state says; in Commit no visit is of the running
-- ring yet.
abbrev pub HasRingOrder : {A : Type 0} → State → Configuration → Configuration → List (TokenVisit A) → Type 0
HasRingOrder Gather running installed turns = installed.ring.seq ≤ running.ring.seq
HasRingOrder Commit running installed turns =
    (installed.ring.seq < running.ring.seq) × AllByRecursion (λ (v : TokenVisit _). v.received.ring.seq < running.ring.seq) turns
HasRingOrder Recovery running installed turns = installed.ring.seq < running.ring.seq
HasRingOrder Operational running installed turns = installed ≡ running
HasRingOrder Stopped running installed turns = installed.ring.seq ≤ running.ring.seq

-- The same, and no visit is of a ring above the running one.
pub record HasOrderedRings {A : Type 0} (c : Core A) : Type 0 where
  pub stands : HasRingOrder c.state c.running c.installed c.turns
  pub turns : AllByRecursion (λ (v : TokenVisit A). v.received.ring.seq ≤ floor c) c.turns

-- The message is within the window.
abbrev pub IsInWindow : {A : Type 0} → List (TokenVisit A) → List MarkRaise → Message A → Type 0
IsInWindow turns raises x = x.number ≤ safe_mark turns raises x.ring + window_size

-- Each held message is within the window, and what a mark is computed from is at most the front.
pub record IsHeldInWindow {A : Type 0} (held : List (Message A)) (turns : List (TokenVisit A)) (raises : List MarkRaise) : Type 0 where
  pub window : AllByRecursion (λ (x : Message A). IsInWindow turns raises x) held
  pub visits : AllByRecursion (λ (v : TokenVisit A). v.forwarded.aru ≤ front_of held v.received.ring) turns
  pub raised : AllByRecursion (λ (x : MarkRaise). x.mark ≤ front_of held x.ring) raises

-- No safe mark of the core passes its front, and no held message lies more than 256 past its ring's mark.
abbrev pub IsCoreInWindow : {A : Type 0} → Core A → Type 0
IsCoreInWindow c = IsHeldInWindow c.held c.turns c.raises
