use Rattle.c_interface.proofs.provisioning.bootswap_simulate_provision.Given as goal

abbrev pub ghosts-provision_on : goal.ghosts-provision_on
ghosts-provision_on a = record { name = a.blank.name; parts = a.blank.parts }
