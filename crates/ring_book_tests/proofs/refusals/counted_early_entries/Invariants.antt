use Rattle.ring_book_tests.proofs.refusals.counted_early_entries.Given as goal

-- the opening that was just made
abbrev pub ghosts-early_entries : goal.ghosts-early_entries
ghosts-early_entries g a = record { name = a.opening }
