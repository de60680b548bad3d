use Rattle.layer_tests.proofs.medium.memory_flash.is_found_in_memory.Given as goal

abbrev pub ghosts-is_found : goal.ghosts-is_found
ghosts-is_found a = record { name = a.blank.name; parts = a.blank.parts }
