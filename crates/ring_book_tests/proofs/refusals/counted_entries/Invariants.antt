use Rattle.ring_book_tests.proofs.refusals.counted_entries.Given as goal

-- the opening that was just made
abbrev pub ghosts-refused_entries : goal.ghosts-refused_entries
ghosts-refused_entries g a = record { name = a.opening }
