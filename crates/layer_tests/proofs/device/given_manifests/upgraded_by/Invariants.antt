use Rattle.layer_tests.proofs.device.given_manifests.upgraded_by.Given as goal

abbrev pub ghosts-upgraded : goal.ghosts-upgraded
ghosts-upgraded g a = record { name = a.blank.name; parts = a.blank.parts }
