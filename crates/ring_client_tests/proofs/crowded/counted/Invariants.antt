use Rattle.ring_client_tests.proofs.crowded.counted.Given as goal

-- The opening that was just made.
abbrev pub ghosts-opened : goal.ghosts-opened
ghosts-opened g a = record { name = a.opening }
