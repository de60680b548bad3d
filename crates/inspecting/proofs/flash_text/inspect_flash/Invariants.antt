use Rattle.inspecting.proofs.flash_text.inspect_flash.Given as goal

-- The token of the flash in memory.
abbrev pub ghosts-found_on : goal.ghosts-found_on
ghosts-found_on g a = record { name = a.blank.name; parts = a.blank.parts }
