use Rattle.std.proofs.Common.{map, take}
use Rattle.std.specs.List.{AllZip}
use Rattle.serde_json.specs.View.{view}
use Rattle.device_texts.specs.DeviceFile.{IsNumber}
use Rattle.device_texts.proofs.device.numbers_of.Given as goal

-- The numbers so far are those of the values so far.
abbrev pub invariant-loop-value : goal.invariant-loop-value
invariant-loop-value l = AllZip IsNumber (map view (take l.value-index l.values)) l.numbers.items
