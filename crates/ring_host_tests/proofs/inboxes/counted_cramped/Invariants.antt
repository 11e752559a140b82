use Rattle.ring_host_tests.proofs.inboxes.counted_cramped.Given as goal

-- The opening that was just made.
abbrev pub ghosts-opened_cramped : goal.ghosts-opened_cramped
ghosts-opened_cramped g a = record { name = a.opening }
