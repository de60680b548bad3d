-- The printed text of the keys of a summary.
use Rattle.std.specs.Prelude.{ℕ, List, codes}
use Rattle.inspecting.specs.Summary.{refuse_key, take_key}
use Rattle.inspecting.specs.declared.fleet.key.Key.{Key}
use Rattle.inspecting.specs.declared.fleet.key.Key.TheVariants as key

-- The text of a key.
abbrev pub key_text : Key → List ℕ
key_text key.Device = codes "device"
key_text key.Bad = codes "bad"
key_text key.NotValid = codes "not-valid"
key_text (key.Take images) = take_key images.now
key_text (key.Refuse image version reason) = refuse_key image version reason.now
