-- The object of the result of a sweep has no number that isn't whole.
use Rattle.std.proofs.Common.{ℕ, List}
use Rattle.serde_json.specs.Data.{no_members, object}
use Rattle.device_texts.specs.Json.{with_notes}
use Rattle.device_texts.proofs.JsonLaws.{AreWhole, IsWhole, nothing-whole}
use Rattle.device_texts.proofs.JsonWholeLaws.{fault-whole, layer-whole, notes-whole, refused-whole}
use Rattle.sweep.specs.Swept.{members_of}
use Rattle.sweep.specs.declared.swept.Swept.{Swept}
use Rattle.sweep.specs.declared.swept.Swept.TheVariants as swept
use Rattle.sweep.proofs.FoundLaws.{found-whole}

swept-whole : (it : Swept) → AreWhole (members_of it)
swept-whole (swept.Found found) = found-whole found no_members nothing-whole
swept-whole (swept.RefusedMap refused) = refused-whole _ (layer-whole _ _ _ no_members nothing-whole)
swept-whole (swept.RefusedDevice fault) = refused-whole _ (fault-whole fault)
swept-whole swept.Nothing = nothing-whole

pub noted-whole : (notes : List (List ℕ)) (it : Swept) → IsWhole (object (with_notes notes (members_of it)))
noted-whole notes it = (notes-whole notes (members_of it) (swept-whole it)).none
