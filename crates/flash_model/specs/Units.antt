-- Units: eight bytes that are programmed together, after they were erased.
use Rattle.std.specs.Prelude.{ℕ, ◌==◌, Bool, List}
use Rattle.std.specs.List.{list_all}
use Rattle.flash_model.specs.Chip.{Chip, IsErased}

-- Whether each byte is 0xFF.
abbrev pub are_erased : List ℕ → Bool
are_erased bytes = list_all (λ byte. byte == 0xff) bytes

-- The unit at an address isn't all 0xFF, whatever it holds; an interrupted write sets it or not.
pub record IsSet (chip : Chip) (at : ℕ) : Type 0 where
  pub not_erased : IsErased chip at 8 → ⊥
