-- The reports in a commit token, one from each member, about its last installed ring. Members from the same old ring
-- share its messages.
-- Rules: The commit token 2; Recovery 1
use Rattle.std.specs.Prelude.{ℕ, Bool, ◌&&◌, ◌==◌, nat_eq, nat_le, List, map, filter}
use Rattle.std.specs.List.{list_all}
use Rattle.std.specs.Cmp.Lexicographic.{pointwise}
use Rattle.ring_wire.specs.Base.{same_ring, greatest, RingId}
use Rattle.ring_wire.specs.declared.entries.CommitEntry.{CommitEntry}
pub use Rattle.ring_commit.specs.declared.configuration.Configuration.{Configuration}

-- Whether two reports are equal in every field.
abbrev pub same_entry : CommitEntry → CommitEntry → Bool
same_entry a b = same_ring a.old b.old && (a.front == b.front) && (a.mark == b.mark) && pointwise nat_eq a.held b.held

-- The reports of the members from an old ring.
abbrev pub reports_of : RingId → List CommitEntry → List CommitEntry
reports_of old entries = filter (λ e. same_ring e.old old) entries

-- Recovery 1: the greatest safe mark in these reports, S.
abbrev pub safe_of : List CommitEntry → ℕ
safe_of reports = greatest (map (λ (e : CommitEntry). e.mark) reports)

-- Whether no front in these reports is below `safe`.
abbrev pub none_behind : ℕ → List CommitEntry → Bool
none_behind safe reports = list_all (λ (e : CommitEntry). nat_le safe e.front) reports

-- Whether no member from an old ring reports a front below S.
abbrev pub is_sound : RingId → List CommitEntry → Bool
is_sound old entries = none_behind (safe_of (reports_of old entries)) (reports_of old entries)
