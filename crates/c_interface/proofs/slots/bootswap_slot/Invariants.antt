use Rattle.c_interface.proofs.slots.bootswap_slot.Given as goal

abbrev pub ghosts-describe_on : goal.ghosts-describe_on
ghosts-describe_on a = record { name = a.blank.name; parts = a.blank.parts }
