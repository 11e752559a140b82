use Rattle.ring_host_tests.proofs.alone.counted_many.Given as goal

-- The opening that was just made.
abbrev pub ghosts-many : goal.ghosts-many
ghosts-many g a = record { name = a.opening }
