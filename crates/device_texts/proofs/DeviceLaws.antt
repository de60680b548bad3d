-- Facts about device files: why bytes aren't one, and what each device of a file has.
use Rattle.std.proofs.Common.{◌≡◌, ℕ, List, None, Some, arith, codes, subst}
use Rattle.std.proofs.Math.Logic.{⊎_elim}
use Rattle.serde_json.specs.Data.{Data}
use Rattle.serde_json.specs.Find.{get}
use Rattle.manifest.specs.Json.{IsJson, number_at}
use Rattle.manifest.proofs.Judged.{IsJson-unique}
use Rattle.device_texts.specs.DeviceFile.{IsDeviceFault, IsDeviceFile, IsFewBoots, IsOfFile, IsReadingFault, IsTrialBoots, Spells}
use Rattle.device_texts.specs.declared.device.DeviceFault.{DeviceFault}
use Rattle.device_texts.specs.declared.device.DeviceFault.TheVariants.{Malformed, Map, NoMemory}
use Rattle.device_texts.specs.declared.device.DeviceFields.{DeviceFields}
use Rattle.device_texts.specs.declared.device.DeviceFile.{DeviceFile}

-- Bytes are the text of at most one value. So they spell nothing that this value doesn't.
pub IsDeviceFault-read : (bytes : List ℕ) (value : Data) (fault : DeviceFault) → IsJson bytes value
    → IsReadingFault ((fields : DeviceFields) × Spells value fields) fault
    → IsDeviceFault bytes fault
IsDeviceFault-read bytes value Malformed json none = λ said.
    let text = said.1 in
    let same = IsJson-unique bytes text.value value text.json json in
    none (said.0, subst (λ v. Spells v said.0) same text.spelled)
IsDeviceFault-read bytes value (Map fault) json none = absurd none
IsDeviceFault-read bytes value NoMemory json none = tt

-- A number of boots that a value gives is valid.
few_boots : (value : Data) (boots : ℕ) → IsTrialBoots value boots → IsFewBoots boots
few_boots value boots said = ⊎_elim
    (λ (one : (get (codes "trial-boots") value ≡ None) × (boots ≡ 1)). record { one = omega (arith, one.1); few = omega (arith, one.1) })
    (λ (some : (number_at (codes "trial-boots") value ≡ Some boots) × IsFewBoots boots). some.1)
    said

-- A device of a file has the number of images of its map, and a valid number of boots.
pub IsOfFile-read : (bytes : List ℕ) (device : DeviceFile) → IsDeviceFile bytes device → IsOfFile device
IsOfFile-read bytes device read =
    let few = few_boots read.1.value read.0.trial_boots read.1.spelled.trial_boots in
    record { images = read.2.images; boots = rw read.2.trial_boots few }
