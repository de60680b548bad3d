-- What an interrupted write leaves, as a script says it and as a flash in memory takes it.
use Rattle.std.specs.Prelude.{◌≡◌, Ok}
use Rattle.flash_model.specs.declared.torn.Torn.{Torn}
use Rattle.flash_model.specs.declared.torn.Torn.TheVariants as torn
use Rattle.hex.specs.Hex.{decode_of}
use Rattle.device_texts.specs.Said.{SaidTorn, Done, Hex, Keep}

-- A flash that is armed with this leaves what the script says: the bytes are those that the digits
-- encode.
abbrev pub Leaves : SaidTorn → Torn → Type 0
Leaves Keep torn.Keep = Unit {0}
Leaves Keep torn.Done = ⊥
Leaves Keep torn.Half = ⊥
Leaves Keep (torn.Bytes pattern) = ⊥
Leaves Done torn.Keep = ⊥
Leaves Done torn.Done = Unit {0}
Leaves Done torn.Half = ⊥
Leaves Done (torn.Bytes pattern) = ⊥
Leaves (Hex digits) torn.Keep = ⊥
Leaves (Hex digits) torn.Done = ⊥
Leaves (Hex digits) torn.Half = ⊥
Leaves (Hex digits) (torn.Bytes pattern) = decode_of digits ≡ Ok pattern.items
