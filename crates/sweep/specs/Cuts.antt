-- What the power cuts of a sweep leave, and the writes that are armed for them.
use Rattle.std.specs.Prelude.{◌≡◌, ℕ, List, [], ◌∷◌}
use Rattle.std.specs.List.{AllZip}
use Rattle.flash_model.specs.declared.torn.Armed.{Armed}
use Rattle.flash_model.specs.declared.torn.Torn.{Torn}
use Rattle.flash_model.specs.declared.torn.Torn.TheVariants as torn
use Rattle.trailer.specs.Fields.{good_magic}
use Rattle.sweep.specs.declared.cuts.TornWrite.{TornWrite}
use Rattle.sweep.specs.declared.cuts.Tear.{Tear}
use Rattle.sweep.specs.declared.cuts.Tear.TheVariants as tear

-- The torn write leaves copies of these bytes.
abbrev pub IsCopies : List ℕ → Torn → Type 0
IsCopies bytes (torn.Bytes pattern) = pattern.items ≡ bytes
IsCopies bytes torn.Keep = ⊥
IsCopies bytes torn.Done = ⊥
IsCopies bytes torn.Half = ⊥

-- What each way to tear a write leaves.
abbrev pub IsTorn : Tear → Torn → Type 0
IsTorn tear.Keep left = left ≡ torn.Keep
IsTorn tear.Done left = left ≡ torn.Done
IsTorn tear.Ones left = IsCopies (0xff ∷ []) left
IsTorn tear.Zeros left = IsCopies (0x00 ∷ []) left
IsTorn tear.Magic left = IsCopies good_magic left
IsTorn tear.Half left = left ≡ torn.Half

-- A write of a flash is armed for this cut.
pub record IsArmedFor (cut : TornWrite) (armed : Armed) : Type 0 where
  pub number : armed.at ≡ cut.write
  pub leaves : IsTorn cut.tear armed.torn

-- Each of these writes is armed for one of the cuts, in order.
abbrev pub AreArmedFor : List TornWrite → List Armed → Type 0
AreArmedFor cuts armed = AllZip IsArmedFor cuts armed
