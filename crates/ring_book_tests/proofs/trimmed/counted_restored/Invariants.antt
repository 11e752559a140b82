use Rattle.ring_book_tests.proofs.trimmed.counted_restored.Given as goal

-- the opening that was just made
abbrev pub ghosts-restored : goal.ghosts-restored
ghosts-restored g a = record { name = a.opening }
