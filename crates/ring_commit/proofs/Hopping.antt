-- The progress of a commit token in each of its rounds.
use Rattle.std.proofs.Common.{◌≡◌, ℕ, ◌+◌, ◌*◌, ◌<◌, ◌≤◌, true, length, arith}
use Rattle.std.proofs.lemmas.Bool.{and_parts, ltb-true}
use Rattle.ring_wire.specs.Base.{size, size_le}
use Rattle.ring_wire.specs.declared.commit.CommitToken.{CommitToken}
use Rattle.ring_wire.specs.declared.entries.CommitEntry.{CommitEntry}
use Rattle.ring_wire.specs.Commits.{entries_at}
use Rattle.ring_commit.specs.Reports.{Configuration}
use Rattle.ring_commit.specs.Rounds.{is_first_round, is_second_round}

-- In the first round there is room for an entry.
pub first_round_room : (floor candidates : ℕ) (k : CommitToken) → is_first_round floor candidates k ≡ true
    → length k.entries ≡ entries_at k.hop (size k.members) → length k.entries < 16
first_round_room floor candidates k h e =
    let below : k.hop < size k.members = ltb-true k.hop (size k.members) (and_parts _ _ (and_parts _ _ h).0).0 in
    let few : size k.members ≤ 16 = size_le k.members in
    omega arith

-- In the second round there is room for a hop.
pub second_round_hop : (running : Configuration) (own : CommitEntry) (k : CommitToken) → is_second_round running own k ≡ true → k.hop + 1 < 256
second_round_hop running own k h =
    let below : k.hop < 2 * size k.members = ltb-true k.hop (2 * size k.members) (and_parts _ _ (and_parts _ _ (and_parts _ _ (and_parts _ _ h).0).0).0).1 in
    let few : size k.members ≤ 16 = size_le k.members in
    omega arith
