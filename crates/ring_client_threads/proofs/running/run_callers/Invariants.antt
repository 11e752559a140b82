use Rattle.ring_client_threads.proofs.running.run_callers.Given as goal

-- The opening that was just made.
abbrev pub ghosts-run_at_opening : goal.ghosts-run_at_opening
ghosts-run_at_opening g a = record { name = a.opening }
