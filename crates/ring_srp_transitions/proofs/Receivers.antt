-- A commit token that a core fills in goes to a member, and comes from one.
use Rattle.std.proofs.Common.{◌≡◌, ℕ, suc, ◌+◌, ◌<◌, true, [], ◌∷◌, ◌++◌, ap, sym, ◌∙◌, arith}
use Rattle.std.specs.Prelude.{◌&&◌, ◌==◌, nat_lt}
use Rattle.std.proofs.lemmas.Bool.{and_parts, eqb-true, ltb-true}
use Rattle.std.proofs.lemmas.List.{append-nil}
use Rattle.std.proofs.lemmas.Nat.{mod_below}
use Rattle.ring_base.specs.Processors.{IsMember, size}
use Rattle.ring_base.specs.Elements.{at_member, size_le}
use Rattle.ring_wire.specs.Commits.{CommitFits}
use Rattle.ring_wire.specs.declared.commit.CommitToken.{CommitToken}
use Rattle.ring_wire.specs.declared.entries.CommitEntry.{CommitEntry}
use Rattle.ring_commit.specs.Outcomes.{is_at}
use Rattle.ring_commit.specs.Rounds.{receiver, position_of_hop, hop_with_entries, is_first_round}

-- there is room for a hop
pub hop_room : (k : CommitToken) → CommitFits k → k.hop < 255
hop_room k f = omega (arith, f.last_hop, size_le k.members)

-- the token is sent with one hop more
pub went_on : (k forwarded : CommitToken) → forwarded ≡ record k { hop = k.hop + 1 } → forwarded ≡ hop_with_entries k []
went_on k forwarded h =
    let one : k.hop + 1 ≡ suc k.hop = omega arith in
    h ∙ (λ i. record { ring = k.ring; members = k.members; hop = one i; entries = sym (append-nil k.entries) i })

-- and with one report more
pub filled_on : (k on forwarded : CommitToken) (own told : CommitEntry) → on ≡ record k { hop = k.hop + 1 }
    → forwarded ≡ record on { entries = on.entries ++ told ∷ [] } → told ≡ own → forwarded ≡ hop_with_entries k (own ∷ [])
filled_on k on forwarded own told h e same =
    let one : k.hop + 1 ≡ suc k.hop = omega arith in
    e ∙ ap (λ (t : CommitToken). record t { entries = t.entries ++ told ∷ [] }) h
    ∙ (λ i. record { ring = k.ring; members = k.members; hop = one i; entries = k.entries ++ same i ∷ [] })

-- a core that takes a commit token is one of its members
pub receiver_member : (me : ℕ) (k : CommitToken) → 0 < size k.members → is_at me k ≡ true → IsMember k.members me
receiver_member me k some here =
    let inside : position_of_hop k < size k.members = omega (arith, mod_below k.hop (size k.members) some) in
    let e : receiver k ≡ me = eqb-true (receiver k) me here in
    rw e at (at_member k.members (position_of_hop k) inside).1

-- in the first round there are members
pub first_some : (floor set : ℕ) (k : CommitToken) → is_first_round floor set k ≡ true → 0 < size k.members
first_some floor set k h =
    let l : k.hop < size k.members = ltb-true k.hop (size k.members) (and_parts (nat_lt k.hop (size k.members))
    (k.members == set) (and_parts (nat_lt k.hop (size k.members) && (k.members == set)) (nat_lt floor k.ring.seq)
    h).0).0 in
    omega arith

-- and the ring is newer than the floor
pub first_newer : (floor set : ℕ) (k : CommitToken) → is_first_round floor set k ≡ true → floor < k.ring.seq
first_newer floor set k h =
    ltb-true floor k.ring.seq (and_parts (nat_lt k.hop (size k.members) && (k.members == set)) (nat_lt floor k.ring.seq) h).1
