use Rattle.ring_core_tests.proofs.ghost_value.a_past_goes_to_a_thread.Given as goal

abbrev pub ghost-ghost_of : goal.ghost-ghost_of
ghost-ghost_of g a = 7
