use Rattle.layer_tests.proofs.intake.uploads.a_piece_of_an_upload_that_does_not_match_is_refused.Given as goal

abbrev pub ghosts-resumed : goal.ghosts-resumed
ghosts-resumed g a = record { name = a.blank.name; parts = a.blank.parts }
