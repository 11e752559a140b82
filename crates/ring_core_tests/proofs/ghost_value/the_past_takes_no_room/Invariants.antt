use Rattle.ring_core_tests.proofs.ghost_value.the_past_takes_no_room.Given as goal

abbrev pub ghost-ghost_of : goal.ghost-ghost_of
ghost-ghost_of a = 7
