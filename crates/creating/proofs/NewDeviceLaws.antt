-- The answer of `make-device`, before and after a flush.
use Rattle.std.proofs.Common.{ℕ, List, Option}
use Rattle.std.proofs.KnownBytes.{Appends-kept}
use Rattle.std.specs.Io.KnownBytes.{Keeps}
use Rattle.command_line.specs.declared.orders.NewDevice.{NewDevice}
use Rattle.host.specs.declared.answer.Answer.TheVariants.{Done}
use Rattle.creating.specs.NewDeviceEnd.{AnswersNewDevice}

-- A flush after the answer changes nothing.
pub AnswersNewDevice-kept : (asked : NewDevice) (old mid new : Option (List ℕ))
    → AnswersNewDevice Done asked old mid → Keeps mid new → AnswersNewDevice Done asked old new
AnswersNewDevice-kept asked old mid new answered kept =
    (answered.0, answered.1, answered.2, answered.3, Appends-kept old mid new _ answered.4 kept)
