use Rattle.ring_book_tests.proofs.memory.counted.Given as goal

-- the opening that was just made
abbrev pub ghosts-ran : goal.ghosts-ran
ghosts-ran g a = record { name = a.opening }
