use Rattle.ring_book_tests.proofs.threads.counted_there.Given as goal

-- the opening that was just made
abbrev pub ghosts-stepped_there : goal.ghosts-stepped_there
ghosts-stepped_there g a = record { name = a.opening }
