-- After any events, each timeout has counted since the last event at which it began anew, or since the opening.
use Rattle.std.proofs.Common.{◌≡◌, ℕ, Bool, true, false, if◌then◌else◌, List, [], ◌∷◌, ◌⊎◌, inl, inr, refl, ap, ◌∙◌}
use Rattle.std.proofs.lemmas.List.Elements.{All-nil, All-cons}
use Rattle.ring_base.specs.declared.timeout_kind.Kind.{Kind}
use Rattle.ring_base.specs.declared.timeout_kind.Kind.TheVariants.{Join, Retransmit, Consensus, Loss}
use Rattle.ring_timers.specs.declared.periods.Periods.{Periods}
use Rattle.ring_timers.specs.Timers.{TimersView, beginning_of, time_at, timers_opened}
use Rattle.ring_timers.specs.TimerEvents.{TimerEvent, begins_anew, beginning_after, timers_after, timers_after_all, latest_time, NeverBeginsAgain, BeginsLastAt, HasCountedSince}

-- the beginning of each timeout after one event
pub beginning_of-timers_after : (timers : TimersView) (event : TimerEvent) (kind : Kind) → beginning_of (timers_after timers event) kind ≡ beginning_after timers event kind
beginning_of-timers_after timers event Join = refl
beginning_of-timers_after timers event Retransmit = refl
beginning_of-timers_after timers event Consensus = refl
beginning_of-timers_after timers event Loss = refl

-- the beginning of each timeout at the opening
pub beginning_of-timers_opened : (periods : Periods) (opening : ℕ) (kind : Kind) → beginning_of (timers_opened periods opening) kind ≡ opening
beginning_of-timers_opened periods opening Join = refl
beginning_of-timers_opened periods opening Retransmit = refl
beginning_of-timers_opened periods opening Consensus = refl
beginning_of-timers_opened periods opening Loss = refl

-- A timeout begins at none of the later events. So it has counted since the first event, if it began anew there, and since its
-- beginning before otherwise.
at_first_event : (timers : TimersView) (event : TimerEvent) (events : List TimerEvent) (kind : Kind) (begins : Bool) (since : ℕ) → begins_anew event.action kind ≡ begins
    → NeverBeginsAgain events kind → since ≡ (if begins then time_at timers event.time else beginning_of timers kind)
    → BeginsLastAt timers.time (event ∷ events) kind since ⊎ (NeverBeginsAgain (event ∷ events) kind × (since ≡ beginning_of timers kind))
at_first_event timers event events kind true since begins never is = inl (record { before = []; event = event; after = events; parts = refl; begins = begins; last = never; at = is })
at_first_event timers event events kind false since begins never is =
    inr (All-cons (λ (e : TimerEvent). begins_anew e.action kind ≡ false) event events begins never, is)

-- by induction on the events, from any timers on
pub counted_from : (timers : TimersView) (events : List TimerEvent) (kind : Kind)
    → BeginsLastAt timers.time events kind (beginning_of (timers_after_all timers events) kind)
    ⊎ (NeverBeginsAgain events kind × (beginning_of (timers_after_all timers events) kind ≡ beginning_of timers kind))
counted_from timers [] kind = inr (All-nil (λ (e : TimerEvent). begins_anew e.action kind ≡ false), refl)
counted_from timers (event ∷ events) kind = elim (counted_from (timers_after timers event) events kind) [
  | inl w ↦ inl (record { before = event ∷ w.before; event = w.event; after = w.after; parts = ap (λ es. event ∷ es) w.parts; begins = w.begins; last = w.last; at = w.at })
  | inr w ↦ at_first_event timers event events kind (begins_anew event.action kind) (beginning_of (timers_after_all (timers_after timers event) events) kind) refl w.0
      (w.1 ∙ beginning_of-timers_after timers event kind)
]

pub counted : (periods : Periods) (opening : ℕ) (events : List TimerEvent) (kind : Kind)
    → HasCountedSince opening events kind (beginning_of (timers_after_all (timers_opened periods opening) events) kind)
counted periods opening events kind = elim (counted_from (timers_opened periods opening) events kind) [
  | inl w ↦ inl w
  | inr w ↦ inr (w.0, w.1 ∙ beginning_of-timers_opened periods opening kind)
]

-- the time that counts after the events is the latest one brought
pub time-timers_after_all : (timers : TimersView) (events : List TimerEvent) → (timers_after_all timers events).time ≡ latest_time timers.time events
time-timers_after_all timers [] = refl
time-timers_after_all timers (event ∷ events) = time-timers_after_all (timers_after timers event) events

-- the periods stay
pub periods-timers_after_all : (timers : TimersView) (events : List TimerEvent) → (timers_after_all timers events).periods ≡ timers.periods
periods-timers_after_all timers [] = refl
periods-timers_after_all timers (event ∷ events) = periods-timers_after_all (timers_after timers event) events
