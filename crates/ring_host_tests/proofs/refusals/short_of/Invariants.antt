use Rattle.ring_host_tests.proofs.refusals.short_of.Given as goal

-- The opening that was just made.
abbrev pub ghosts-short : goal.ghosts-short
ghosts-short g a = record { name = a.opening }
