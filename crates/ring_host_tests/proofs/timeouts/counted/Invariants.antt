use Rattle.ring_host_tests.proofs.timeouts.counted.Given as goal

-- The opening that was just made.
abbrev pub ghosts-opened : goal.ghosts-opened
ghosts-opened g a = record { name = a.opening }
