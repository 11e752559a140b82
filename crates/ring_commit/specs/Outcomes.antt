-- The outcome of a commit token at a node, for each state in which one is taken.
-- Rules: The commit token 4 to 7 and 11
use Rattle.std.specs.Prelude.{ℕ, Bool, ◌&&◌, ◌==◌, nat_le, if◌then◌else◌, [], ◌∷◌}
use Rattle.ring_wire.specs.Base.{max_number}
use Rattle.ring_wire.specs.declared.commit.CommitToken.{CommitToken}
use Rattle.ring_wire.specs.declared.entries.CommitEntry.{CommitEntry}
use Rattle.ring_wire.specs.declared.token.Token.{Token}
use Rattle.ring_commit.specs.declared.outcome.CommitOutcome.{CommitOutcome}
use Rattle.ring_commit.specs.declared.outcome.CommitOutcome.TheVariants.{Pass, Recover, Start, Ignored}
use Rattle.ring_commit.specs.Reports.{Configuration}
use Rattle.ring_commit.specs.Rounds.{receiver, hop_with_entries, proposal, is_first_round, is_second_round, is_start}

-- The commit token is at the member to which its hop goes.
abbrev pub is_at : ℕ → CommitToken → Bool
is_at me k = receiver k == me

-- The commit token 4: the proposal of a ring with this number, if that is at most `MAX`.
abbrev pub after_proposal : ℕ → ℕ → ℕ → CommitEntry → CommitOutcome
after_proposal me number members own = if nat_le number max_number then Pass (proposal me number members own) else Ignored

-- The commit token 5: in Gather, the first round.
abbrev pub fill_outcome : ℕ → ℕ → ℕ → CommitEntry → CommitToken → CommitOutcome
fill_outcome me floor candidates own k = if is_at me k && is_first_round floor candidates k then Pass (hop_with_entries k (own ∷ [])) else Ignored

-- The commit token 6: in Commit, the second round.
abbrev pub learn_outcome : ℕ → Configuration → CommitEntry → CommitToken → CommitOutcome
learn_outcome me running own k = if is_at me k && is_second_round running own k then Recover (hop_with_entries k []) else Ignored

-- The commit token 7: in Recovery, the end of the second round. The token that it starts is visited if it is accepted.
abbrev pub start_outcome : ℕ → Configuration → Token → CommitToken → CommitOutcome
start_outcome me running first k = if is_at me k && is_start running k then Start first else Ignored
