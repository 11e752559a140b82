-- The two rounds of a commit token. Among m members, hop h goes to position h mod m: hops 1 to m - 1 collect the
-- reports, hops m to 2m - 1 distribute them to all, hop 2m starts the token.
-- Rules: The commit token 1 and 4 to 7
use Rattle.std.specs.Prelude.{ℕ, suc, ◌*◌, ◌%◌, Bool, false, ◌&&◌, ◌==◌, nat_lt, nat_le, List, [], ◌∷◌, ◌++◌, Option, Some, None, slice_get}
use Rattle.ring_wire.specs.Base.{same_ring, at, size}
use Rattle.ring_wire.specs.declared.commit.CommitToken.{CommitToken}
use Rattle.ring_wire.specs.declared.entries.CommitEntry.{CommitEntry}
use Rattle.ring_commit.specs.Reports.{Configuration, same_entry, is_sound}

-- The position to which a commit token goes.
abbrev pub position_of_hop : CommitToken → ℕ
position_of_hop k = k.hop % size k.members

-- The member at that position, which takes it.
abbrev pub receiver : CommitToken → ℕ
receiver k = at k.members (position_of_hop k)

-- The next hop, with more reports.
abbrev pub hop_with_entries : CommitToken → List CommitEntry → CommitToken
hop_with_entries k more = record k { hop = suc k.hop; entries = k.entries ++ more }

-- The commit token 4: the representative proposes a ring with its own report, hop 1.
abbrev pub proposal : ℕ → ℕ → ℕ → CommitEntry → CommitToken
proposal me number members own = record { ring = record { seq = number; rep = me }; members = members; hop = 1; entries = own ∷ [] }

-- The token has exactly this ring and these members.
abbrev pub is_of : Configuration → CommitToken → Bool
is_of running k = same_ring k.ring running.ring && (k.members == running.members)

-- The commit token 5, the first round: the members are those that the node has not given up, and the ring's number is
-- above its floor.
abbrev pub is_first_round : ℕ → ℕ → CommitToken → Bool
is_first_round floor candidates k = nat_lt k.hop (size k.members) && (k.members == candidates) && nat_lt floor k.ring.seq

-- The node's report in the token is equal to the one it would write now.
abbrev pub is_own : CommitEntry → Option CommitEntry → Bool
is_own own None = false
is_own own (Some e) = same_entry e own

-- The commit token 6, the second round: the ring is the one in which the node takes part, and its own report is
-- unchanged. No member from its old ring reports a front below a safe mark that one of them reports.
abbrev pub is_second_round : Configuration → CommitEntry → CommitToken → Bool
is_second_round running own k =
    nat_le (size k.members) k.hop && nat_lt k.hop (2 * size k.members) && is_of running k && is_own own
    (slice_get k.entries (position_of_hop k)) && is_sound own.old k.entries

-- The commit token 7, the end of the second round: the token has returned to the representative.
abbrev pub is_start : Configuration → CommitToken → Bool
is_start running k = (k.hop == 2 * size k.members) && is_of running k
