use Rattle.c_interface.proofs.state.bootswap_state.Given as goal

abbrev pub ghosts-read_on : goal.ghosts-read_on
ghosts-read_on a = record { name = a.blank.name; parts = a.blank.parts }
