-- Which files a command may replace by an image.
use Rattle.std.specs.Prelude.{◌≡◌, ◌⊎◌, ℕ, Bool, IfSome, List, [], Option, true}
use Rattle.image_reading.specs.Image.{IsIntact}
use Rattle.image_reading.specs.declared.desc.Desc.{Desc}
use Rattle.command_line.specs.declared.orders.NewFile.{NewFile}
use Rattle.host.specs.declared.answer.Answer.{Answer}
use Rattle.host.specs.declared.answer.Answer.TheVariants.{Done}
use Rattle.host.specs.Input.{FileBytes}

-- These bytes are one intact image, and nothing follows it.
pub record IsImage (bytes : List ℕ) : Type 0 where
  pub description : Desc
  pub intact : IsIntact bytes description

-- A file that is known to hold bytes is empty, or one intact image.
abbrev pub HoldsImage : Option (List ℕ) → Type 0
HoldsImage known = IfSome known (λ held. (held ≡ []) ⊎ IsImage held)

-- A file may be replaced: it is one intact image, is empty, or `--force` is given.
abbrev pub MayReplace : Bool → Option (List ℕ) → Type 0
MayReplace forced known = (forced ≡ true) ⊎ HoldsImage known

-- If the command is done, its new file replaced one that may be replaced.
abbrev pub Replaces : Answer → NewFile → FileBytes → Type 0
Replaces Done file files = MayReplace file.is_forced (files file.name.now)
Replaces other file files = Unit {0}
