-- How a core takes a commit token and sends its next hop.
-- Rules: The commit token 4 to 7
use Rattle.std.specs.Prelude.{Bool, ◌&&◌, [], ◌∷◌, Some}
use Rattle.ring_base.specs.Processors.{only}
use Rattle.ring_token.specs.Frames.{CommitToken}
use Rattle.ring_token.specs.FrameVariants.{Commit as CommitFrame}
use Rattle.ring_token.specs.TokenVisits.{first_token}
use Rattle.ring_join.specs.Gathering.{candidates, new_number}
use Rattle.ring_recover.specs.Commits.{reports_of, safe_of}
use Rattle.ring_recover.specs.Commits.{receiver, hop_with_entries, proposal, is_first_round, is_second_round, is_start}
use Rattle.ring_base.specs.declared.state.State.TheVariants.{Commit, Recovery}
use Rattle.ring_core_spec.specs.State.{Core, OutgoingFrame, TransitionResult, floor}
use Rattle.ring_core_spec.specs.Views.{own_entry}
use Rattle.ring_core_spec.specs.Visiting.{accepts}

-- A commit token, sent to the member at the position of its hop.
abbrev pub commit_sent_on : {A : Type 0} → CommitToken → OutgoingFrame A
commit_sent_on k = record { to = only (receiver k); frame = CommitFrame k }

-- The core takes part in the commit token's ring: the ring's number becomes the floor, the core records its own report
-- and sends the token.
abbrev pub ring_joined : {A : Type 0} → Core A → CommitToken → TransitionResult A
ring_joined c k =
    record {
      core = record c {
        state = Commit;
        running = record { ring = k.ring; members = k.members };
        last_sent = Some (commit_sent_on k);
        rings = record { ring = k.ring; members = k.members } ∷ c.rings;
        reports = record { ring = k.ring; entry = own_entry c } ∷ c.reports;
      };
      sends = commit_sent_on k ∷ [];
    }

-- A proposal: hop 1 of a new ring.
abbrev pub after_proposal : {A : Type 0} → Core A → TransitionResult A
after_proposal c = ring_joined c (proposal c.me (new_number (floor c) c.gathering) (candidates c.gathering) (own_entry c))

-- The tests of the first round: the hop is below m, the members are the core's candidates, and the ring is above its
-- floor.
abbrev pub takes_first_round : {A : Type 0} → Core A → CommitToken → Bool
takes_first_round c k = is_first_round (floor c) (candidates c.gathering) k

-- The first round: the core takes part in the ring and adds its entry.
abbrev pub commit_filled : {A : Type 0} → Core A → CommitToken → TransitionResult A
commit_filled c k = ring_joined c (hop_with_entries k (own_entry c ∷ []))

-- The tests of the second round: the hop is m to 2m - 1, the ring is the one taken part in, the core's entry is what it
-- would write now, and no transitional member reports a front below a reported safe mark.
abbrev pub takes_second_round : {A : Type 0} → Core A → CommitToken → Bool
takes_second_round c k = is_second_round c.running (own_entry c) k

-- The second round: the core keeps its plan, raises the safe mark of the old ring to the greatest reported, and enters
-- Recovery.
abbrev pub commit_learned : {A : Type 0} → Core A → CommitToken → TransitionResult A
commit_learned c k =
    record {
      core = record c {
        state = Recovery;
        last_sent = Some (commit_sent_on (hop_with_entries k []));
        raises = record { ring = c.installed.ring; mark = safe_of (reports_of c.installed.ring k.entries) } ∷ c.raises;
        plans = k ∷ c.plans;
      };
      sends = commit_sent_on (hop_with_entries k []) ∷ [];
    }

-- The test of the start: the last hop of the running ring, if the token of number 0 is accepted. So it happens only
-- once.
abbrev pub takes_start : {A : Type 0} → Core A → CommitToken → Bool
takes_start c k = is_start c.running k && accepts c (first_token k.ring)
