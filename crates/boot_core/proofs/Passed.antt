-- How a call ends that passes on an error of another call, or comes after other calls.
use Rattle.std.proofs.Common.{◌≡◌, Bool, Result, Ok, Err, IfOk, IsErrOf, OnOk, ap, refl}
use Rattle.flash_model.specs.declared.error.FlashError.{FlashError}
use Rattle.flash_model.specs.Chip.{Chip, Ends}
use Rattle.sector_map.specs.Part.{Part}
use Rattle.sector_map.specs.declared.layout.SectorMap.{SectorMap}
use Rattle.boot_core.specs.BootEnds.{KeepsLayout, Passes}
use Rattle.flash_model.proofs.Ending.{ends_after, no_error, uncut_refl}

-- Whatever the value would be.
pub err_as : {T U : Type 0} (error other : FlashError) → IsErrOf {T = T} (Err error) other
    → IsErrOf {T = U} (Err error) other
err_as error other is = let same : error ≡ other = cc in ap (λ e. Err e) same

-- An error is passed on.
pub err_ends : {T U : Type 0} {error : FlashError} {old new : Chip} → Ends {T = T} (Err error) old new
    → Ends {T = U} (Err error) old new
err_ends {T} {U} {error} last = record {
  asleep = last.asleep;
  uncut = tt;
  cut = λ is. last.cut (err_as {T = U} {U = T} error _ is);
  off = λ is. last.off (err_as {T = U} {U = T} error _ is);
}

-- The value is made from that of another call.
pub ok_ends : {T U : Type 0} {value : T} {other : U} {old new : Chip} → Ends (Ok value) old new
    → Ends (Ok other) old new
ok_ends {T} {U} {value} {other} last = record {
  asleep = last.asleep;
  uncut = last.uncut;
  cut = λ is. absurd (no_error other _ is);
  off = λ is. absurd (no_error other _ is);
}

-- No call was made.
pub here_ends : {T : Type 0} {value : T} {chip : Chip} → Ends (Ok value) chip chip
here_ends {T} {value} {chip} = record {
  asleep = λ off. refl;
  uncut = uncut_refl chip;
  cut = λ is. absurd (no_error value _ is);
  off = λ is. absurd (no_error value _ is);
}

-- The same after a call that succeeded.
pub then_ends : {S T : Type 0} {value : S} {result : Result T FlashError} {old mid new : Chip}
    → Ends (Ok value) old mid → Ends result mid new → Ends result old new
then_ends {S} {T} {value} {result} {old} {mid} {new} first last =
    ends_after result old mid new first.uncut first.asleep last

pub then_err : {S T U : Type 0} {value : S} {error : FlashError} {old mid new : Chip} → Ends (Ok value) old mid
    → Ends {T = T} (Err error) mid new → Ends {T = U} (Err error) old new
then_err first last = err_ends (then_ends first last)

pub then_ok : {S T U : Type 0} {value : S} {next : T} {other : U} {old mid new : Chip} → Ends (Ok value) old mid
    → Ends (Ok next) mid new → Ends (Ok other) old new
then_ok first last = ok_ends (then_ends first last)

-- The flash stops a passage.
pub passes_err : {S T : Type 0} {map : SectorMap} {touched : Part → Bool} {old new : Chip} {whatever : Type 0}
    {at_end : T → Type 0} {error : FlashError} → KeepsLayout map touched old new → whatever
    → Ends {T = S} (Err error) old new → Passes map touched old new whatever at_end (Err error)
passes_err layout stands ends = record { layout = layout; stands = stands; done = tt; ends = err_ends ends }

-- What holds of the value if both facts hold of a call that succeeds.
pub ok_both : {T : Type 0} (A B : Type 0) (result : Result T FlashError) → OnOk result A → OnOk result B
    → IfOk result (λ value. A × B)
ok_both A B (Ok value) a b = (a, b)
ok_both A B (Err error) a b = tt

pub on_ok_both : {T : Type 0} (A B C : Type 0) (result : Result T FlashError) → (A → B → C) → OnOk result A
    → OnOk result B → OnOk result C
on_ok_both A B C (Ok value) both a b = both a b
on_ok_both A B C (Err error) both a b = tt
