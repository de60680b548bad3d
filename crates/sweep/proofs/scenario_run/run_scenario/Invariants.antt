use Rattle.sweep.proofs.scenario_run.run_scenario.Given as goal

-- The token of the flash.
abbrev pub ghosts-run_on_flash : goal.ghosts-run_on_flash
ghosts-run_on_flash a = record { name = a.blank.name; parts = a.blank.parts }
