-- The invariant of the gauge: the values of its words, and the knowledge of each seat.
-- Rules: The book and the threads 33 and 34
use Rattle.std.specs.Prelude.{ℕ, ◌≡◌, ◌<◌, ◌≤◌, ◌+◌, ◌⊎◌, ◌==◌, ◌++◌, true, false, List, [], ◌∷◌, Option, Some, None, length, slice_index, cond}
use mathlib.Core.Option.{some}
use lib.ListN.{get_elem?}
use Rattle.atomic_table.specs.Table.{State, Step, Me}
use Rattle.ring_base.specs.ListMembership.{IsIn}
use Rattle.ring_base.specs.Numbers.{greatest}
use Rattle.ring_seat.specs.declared.gauge_rule.GaugeView.{GaugeView}

-- the number is 0 or in the list
abbrev pub IsZeroOrIn : ℕ → List ℕ → Type 0
IsZeroOrIn n xs = (n ≡ 0) ⊎ IsIn n xs

-- the value last seen of the word i, 0 before the first look
abbrev pub last_seen : List (ℕ × ℕ) → ℕ → ℕ
last_seen [] i = 0
last_seen (p ∷ ps) i = cond (p.0 == i) p.1 (last_seen ps i)

-- the value that a seat last saw of the word i
abbrev pub last_seen_by : GaugeView → ℕ → ℕ
last_seen_by v i = last_seen v.loaded_words i

-- A seat's view fits the words: it knows all that its own node published, and each value that it saw is 0 or was
-- published, and is at most the word. The maker knows which nodes have no seat yet.
pub record Fits (words : List ℕ) (lists : ℕ → List ℕ) (seat : ℕ → Option ℕ) (maker id : ℕ) (v : GaugeView) : Type 0 where
  pub own : v.is_own_seat ≡ true → (seat v.word ≡ Some id) × (v.published ≡ lists v.word) × (v.word < length words)
  pub seen : (i : ℕ) → IsZeroOrIn (last_seen_by v i) (lists i) × (last_seen_by v i ≤ slice_index words i)
  pub is_maker : v.is_maker ≡ true → (id ≡ maker) × (v.count ≡ length words) × ((i : ℕ) → v.seated_nodes ≤ i → (seat i ≡ None) × (lists i ≡ []))

-- Each word is the greatest length published for its node, or 0, and the views of all seats fit.
pub record IsGaugeRising (words : List ℕ) (views : List GaugeView) : Type 0 where
  pub lists : ℕ → List ℕ
  pub seat : ℕ → Option ℕ
  pub maker : ℕ
  pub word : (i : ℕ) → slice_index words i ≡ greatest (lists i)
  pub each : (id : ℕ) (v : GaugeView) → get_elem? views id ≡ some v → Fits words lists seat maker id v

-- the invariant, of a table's words and views
abbrev pub IsGaugeState : State ℕ GaugeView → Type 0
IsGaugeState s = IsGaugeRising s.words s.views

-- the view of the first seat, the maker of the others, on a gauge of n words of which none has a seat
abbrev pub first_view : ℕ → GaugeView
first_view n = record { is_maker = true; count = n; seated_nodes = 0; is_own_seat = false; word = 0; published = []; loaded_words = [] }

-- the maker's view after it made the seat of the next node
abbrev pub maker_after_seat : GaugeView → GaugeView
maker_after_seat v = record { is_maker = v.is_maker; count = v.count; seated_nodes = v.seated_nodes + 1; is_own_seat = v.is_own_seat; word = v.word; published = v.published; loaded_words = v.loaded_words }

-- the view of that node's new seat
abbrev pub own_seat : GaugeView → GaugeView
own_seat v = record { is_maker = false; count = 0; seated_nodes = 0; is_own_seat = true; word = v.seated_nodes; published = []; loaded_words = [] }

-- the view of a new seat of no node
abbrev pub foreign_seat : GaugeView → GaugeView
foreign_seat v = record { is_maker = false; count = 0; seated_nodes = 0; is_own_seat = false; word = 0; published = []; loaded_words = [] }

-- the view after it published the length k
abbrev pub view_after_publish : GaugeView → ℕ → GaugeView
view_after_publish v k = record { is_maker = v.is_maker; count = v.count; seated_nodes = v.seated_nodes; is_own_seat = v.is_own_seat; word = v.word; published = v.published ++ k ∷ []; loaded_words = v.loaded_words }

-- the view after it saw the value n of the word i
abbrev pub view_after_look : GaugeView → ℕ → ℕ → GaugeView
view_after_look v i n = record { is_maker = v.is_maker; count = v.count; seated_nodes = v.seated_nodes; is_own_seat = v.is_own_seat; word = v.word; published = v.published; loaded_words = (i, n) ∷ v.loaded_words }

-- the step publishes a length: only the view's list of published lengths grows
abbrev pub HasPublished : Step ℕ → Me ℕ GaugeView → ℕ → Me ℕ GaugeView → Type 0
HasPublished s v found w = (w.0 ≡ view_after_publish v.0 s.first) × (w.1 ≡ v.1)

-- the step loads a word: the value is no less than seen before, and on the seat's own word it is the greatest length
-- published
abbrev pub HasLooked : Step ℕ → Me ℕ GaugeView → ℕ → Me ℕ GaugeView → Type 0
HasLooked s v found w = (w.0 ≡ view_after_look v.0 s.word found) × (w.1 ≡ v.1) × (last_seen_by v.0 s.word ≤ found)
    × (v.0.is_own_seat ≡ true → v.0.word ≡ s.word → found ≡ greatest v.0.published)

-- the maker's view after it made the seats of i of n nodes
abbrev pub maker_view : ℕ → ℕ → GaugeView
maker_view n i = record { is_maker = true; count = n; seated_nodes = i; is_own_seat = false; word = 0; published = []; loaded_words = [] }
