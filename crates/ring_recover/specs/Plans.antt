-- The plan that a member makes from a full commit token: the transitional members, and what they hold of their old
-- ring. In the rules T is `transitional_members`, S `safe`, low `low`, U `is_known` and g `gap`.
-- Rules: Recovery 1 and 2
use Rattle.std.specs.Prelude.{ℕ, ◌+◌, ◌-◌, min, Bool, ◌&&◌, ◌||◌, nat_lt, nat_le, if◌then◌else◌, List, [], ◌∷◌, map}
use Rattle.std.specs.Prelude.{filter, Option, Some, None, slice_get, length}
use Rattle.std.specs.List.{list_any, prefix_len}
use Rattle.ring_base.specs.Rings.{same_ring}
use Rattle.ring_base.specs.Numbers.{window_size, numbers_from}
use Rattle.ring_base.specs.Processors.{only, has, elements, size, position_of}
use Rattle.ring_base.specs.declared.ring_id.RingId.{RingId}
use Rattle.ring_commit.specs.Tokens.{bit_of}
use Rattle.ring_commit.specs.Tokens.{CommitToken}
use Rattle.ring_commit.specs.Tokens.{CommitEntry}
use Rattle.ring_commit.specs.Reports.{reports_of, safe_of, is_sound}

-- A plan: the old ring, the transitional members, and their reports.
pub record Plan : Type 0 where
  pub old : RingId
  pub transitional_members : ℕ
  pub reports : List CommitEntry

-- The processors whose entry names the old ring.
abbrev pub transitional_members_among : RingId → List ℕ → List CommitEntry → ℕ
transitional_members_among old [] entries = 0
transitional_members_among old (i ∷ is) [] = 0
transitional_members_among old (i ∷ is) (e ∷ entries) = (if same_ring e.old old then only i else 0) + transitional_members_among old is entries

-- The plan of the members that come from an old ring.
abbrev pub plan_of : RingId → ℕ → List CommitEntry → Plan
plan_of old members entries = record { old = old; transitional_members = transitional_members_among old (elements members) entries; reports = reports_of old entries }

-- The plan of a member with this entry, if no transitional member reports a front below a safe mark that one of them
-- reports.
abbrev pub plan_if_sound : CommitToken → Option CommitEntry → Option Plan
plan_if_sound k None = None
plan_if_sound k (Some own) = if is_sound own.old k.entries then Some (plan_of own.old k.members k.entries) else None

-- The plan of a processor, made from a commit token: none unless it is a member, each member has an entry, and the
-- reports are sound.
abbrev pub plan_from : ℕ → CommitToken → Option Plan
plan_from me k = if has k.members me && nat_le (size k.members) (length k.entries) then plan_if_sound k
    (slice_get k.entries (position_of k.members me)) else None

-- The numbers that the transitional members hold

-- The greatest reported safe mark, up to which each transitional member holds all.
abbrev pub safe : Plan → ℕ
safe p = safe_of p.reports

-- The least number of a list, 0 if it is empty.
abbrev pub least : List ℕ → ℕ
least [] = 0
least (x ∷ []) = x
least (x ∷ y ∷ xs) = min x (least (y ∷ xs))

-- The least reported safe mark.
abbrev pub least_mark : Plan → ℕ
least_mark p = least (map (λ (e : CommitEntry). e.mark) p.reports)

-- The least reported front.
abbrev pub low : Plan → ℕ
low p = least (map (λ (e : CommitEntry). e.front) p.reports)

-- The entry reports that its member holds number n.
abbrev pub is_reported : ℕ → CommitEntry → Bool
is_reported n e = (nat_lt 0 n && nat_le n e.front) || (nat_lt e.front n && nat_le n (e.front + window_size) && bit_of e.held (n - e.front - 1))

-- A transitional member holds number n.
abbrev pub is_known : Plan → ℕ → Bool
is_known p n = list_any (is_reported n) p.reports

-- The gap: the least number that no transitional member holds.
abbrev pub gap : Plan → ℕ
gap p = low p + 1 + prefix_len (is_known p) (numbers_from (low p + 1) window_size)

-- The numbers above the greatest safe mark that a transitional member holds, ascending.
abbrev pub known_above_safe : Plan → List ℕ
known_above_safe p = filter (is_known p) (numbers_from (safe p + 1) window_size)
