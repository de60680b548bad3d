use Rattle.layer_tests.proofs.medium.lent_flash.second_unit_set.Given as goal

abbrev pub ghosts-set_second_unit : goal.ghosts-set_second_unit
ghosts-set_second_unit a = record { name = a.blank.name; parts = a.blank.parts }
