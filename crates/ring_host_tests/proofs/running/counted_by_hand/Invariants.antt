use Rattle.ring_host_tests.proofs.running.counted_by_hand.Given as goal

-- The opening that was just made.
abbrev pub ghosts-opened_by_hand : goal.ghosts-opened_by_hand
ghosts-opened_by_hand g a = record { name = a.opening }
