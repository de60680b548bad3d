use Rattle.flash_model.specs.Memory.{chip_of}
use Rattle.upload.specs.View.{view}
use Rattle.upload.specs.Sessions.{AllOpenAt}
use Rattle.layer_tests.proofs.intake.uploads.play.Given as goal

abbrev pub invariant-loop-step : goal.invariant-loop-step
invariant-loop-step g l = AllOpenAt (view l.map (chip_of l.flash)) l.uploads.sessions
