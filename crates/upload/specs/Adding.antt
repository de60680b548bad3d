-- Contracts of the calls that add bytes to an open upload: one record for each call.
use Rattle.std.specs.Prelude.{◌≡◌, ◌≢◌, ◌⊎◌, ◌↔◌, ◌+◌, ◌-◌, ◌*◌, ◌≤◌, ◌<◌, ◌++◌, ℕ}
use Rattle.std.specs.Prelude.{Bool, true, false, IsTrue, List, length}
use Rattle.std.specs.Prelude.{Option, Some, None, Result, Ok, Err, IfErr, IfOk, IsErrOf, IsOk, OnOk}
use Rattle.flash_model.specs.declared.error.FlashError.{FlashError}
use Rattle.flash_model.specs.declared.error.FlashError.TheVariants.{Off}
use Rattle.flash_model.specs.Chip.{Chip, Ends, IsErased, SameOutside}
use Rattle.sector_map.specs.declared.layout.SectorMap.{SectorMap}
use Rattle.sector_map.specs.declared.layout.Side.TheVariants.{Secondary}
use Rattle.sector_map.specs.Part.{Slot, only}
use Rattle.sector_map.specs.Map.{IsLaidOut, Keeps, start_of}
use Rattle.trailer.specs.Fields.{erased_fields, fields_at}
use Rattle.machine.specs.declared.upload_error.UploadError.{UploadError}
use Rattle.machine.specs.declared.upload_error.UploadError.TheVariants.{Flash, NoSession, TooMuch}
use Rattle.upload.specs.declared.sessions.Upload.{Upload}
use Rattle.upload.specs.View.{view}
use Rattle.machine.specs.Device.{DeviceState, Machine}
use Rattle.upload.specs.Standing.{HasCounts}
use Rattle.upload.specs.Steady.{IsSteadyAt}
use Rattle.upload.specs.Sessions.{AllClosed, AllOpenAt, IsOpenAt, IsUpAt, IsWith, upload_at}
use Rattle.upload.specs.Ending.{EndsUpload}
use Rattle.machine.specs.Intake.{is_flash}
use Rattle.upload.specs.NoSession.{IsReadyFor, LacksSession}
use Rattle.machine.specs.Piece.{Pieces}
use Rattle.upload.specs.Piece.{TakesMore}

-- The counts of an upload fit, it takes `n` bytes more, and the units that they complete are erased
-- in the slot of its image.
pub record IsOpenFor (map : SectorMap) (image : ℕ) (upload : Upload) (n : ℕ) (chip : Chip)
    : Type 0 where
  pub laid_out : IsLaidOut map chip
  pub written : ℕ
  pub counts : HasCounts map image written upload
  pub fits : upload.received + n ≤ upload.size
  pub erased : (k : ℕ) → 8 * k ≤ length upload.held.items + n
      → IsErased chip (start_of map (Slot image Secondary) + written) (8 * k)

-- A call returns whether an upload matches the flash as far as a piece of `n` bytes is checked.
pub record TellsReady (map : SectorMap) (image : ℕ) (upload : Upload) (n : ℕ) (old new : Chip)
    (result : Result Bool FlashError) : Type 0 where
  -- The flash doesn't change.
  pub same : new ≡ old
  -- The result is exact.
  pub ok : IfOk result (λ answer. IsTrue answer ↔ IsReadyFor map image upload n old)
  -- If the counts fit and the flash is off, that is the result.
  pub off : old.is_on ≡ false → (written : ℕ) → HasCounts map image written upload
      → IsErrOf result Off
  pub ends : Ends result old new

-- A call adds bytes to an upload that is open for them.
pub record AddsBytes (map : SectorMap) (image : ℕ) (before after : Upload) (bytes : List ℕ)
    (old new : Chip) {T : Type 0} (result : Result T FlashError) : Type 0 where
  -- Only the image's secondary slot is written.
  pub outside : Keeps map (only (Slot image Secondary)) old new
  -- In the slot, only the place of these bytes and of the held ones is written.
  pub range : SameOutside (start_of map (Slot image Secondary)
      + (before.received - length before.held.items))
      (length before.held.items + length bytes) old new
  -- If the call succeeds, the upload has these bytes.
  pub ok : OnOk result (TakesMore (view map old) (view map new) image before after bytes)
  -- If the call succeeds, no sector is erased.
  pub erases : OnOk result (new.erases ≡ old.erases)
  -- Bytes that complete no unit are held in memory, whether the flash is on or off.
  pub held : length before.held.items + length bytes < 8 → IsOk result × (new ≡ old)
  -- Other bytes are added only if the flash is on.
  pub on : OnOk result (8 ≤ length before.held.items + length bytes → old.is_on ≡ true)
  -- It asks a journal for at most 31 bytes and the number of these bytes.
  pub journal : new.journaled ≤ old.journaled + (31 + length bytes)
  pub ends : Ends result old new

-- A call adds bytes to an upload, or returns false: the upload doesn't match the flash.
pub record AddsIfReady (map : SectorMap) (image : ℕ) (before after : Upload) (bytes : List ℕ)
    (old new : Chip) (result : Result Bool FlashError) : Type 0 where
  -- Only the image's secondary slot is written.
  pub outside : Keeps map (only (Slot image Secondary)) old new
  -- In the slot, only the place of these bytes and of the held ones is written.
  pub range : SameOutside (start_of map (Slot image Secondary)
      + (before.received - length before.held.items))
      (length before.held.items + length bytes) old new
  -- Even if the call fails, nothing is written unless the slot's trailer reads as erased.
  pub front : (new ≡ old)
      ⊎ ((image < map.images) × (fields_at map old image Secondary ≡ erased_fields))
  -- If the result is true, the upload has these bytes.
  pub ok : IfOk result (λ added. IsTrue added
      → TakesMore (view map old) (view map new) image before after bytes)
  -- If the result is false, nothing changes.
  pub refused : IfOk result (λ added. added ≡ false → (after ≡ before) × (new ≡ old))
  -- The result isn't false for an upload that matches the flash.
  pub matched : IfOk result (λ added. IsOpenAt (view map old) image before → IsTrue added)
  -- If the flash is on, other bytes come, and the upload doesn't match as far as a piece is checked,
  -- the result is false.
  pub unready : old.is_on ≡ true → 8 ≤ length before.held.items + length bytes
      → (IsReadyFor map image before (length bytes) old → ⊥) → result ≡ Ok false
  -- The result is false in no other case.
  pub only : IfOk result (λ added. added ≡ false → (8 ≤ length before.held.items + length bytes)
      × (IsReadyFor map image before (length bytes) old → ⊥))
  -- If the call succeeds, no sector is erased.
  pub erases : OnOk result (new.erases ≡ old.erases)
  -- Bytes that complete no unit are held in memory, whether the flash is on or off.
  pub held : length before.held.items + length bytes < 8 → (result ≡ Ok true) × (new ≡ old)
  -- If other bytes come, the counts fit and the flash is off, that is the result.
  pub off : old.is_on ≡ false → (written : ℕ) → HasCounts map image written before
      → 8 ≤ length before.held.items + length bytes → IsErrOf result Off
  -- It asks a journal for at most 31 bytes and the number of these bytes.
  pub journal : new.journaled ≤ old.journaled + (31 + length bytes)
  pub ends : Ends result old new

-- A call of `piece`, with the table of uploads before and after it.
pub record TakesPiece (map : SectorMap) (image : ℕ) (bytes : List ℕ)
    (told tnew : List (Option Upload)) (old new : Chip) (result : Result Unit UploadError)
    : Type 0 where
  -- Only the image's secondary slot is written.
  pub outside : Keeps map (only (Slot image Secondary)) old new
  -- Even if the call fails, only the place of these bytes and of the held ones is written in the
  -- slot.
  pub range : (u : Upload) → upload_at told image ≡ Some u
      → SameOutside (start_of map (Slot image Secondary) + (u.received - length u.held.items))
      (length u.held.items + length bytes) old new
  -- If all uploads of the table matched the flash, they still do.
  pub all_open : AllOpenAt (view map old) told → AllOpenAt (view map new) tnew
  -- On any flash: if the call succeeds, the upload has these bytes.
  pub takes : OnOk result ((u : Upload) → upload_at told image ≡ Some u
      → (after : Upload) × (upload_at tnew image ≡ Some after)
      × TakesMore (view map old) (view map new) image u after bytes)
  -- On any flash, even if the call fails: nothing is written unless the slot's trailer reads as
  -- erased.
  pub front : ((view map old).trailer image Secondary ≡ erased_fields → ⊥) → new ≡ old
  -- On any flash, whatever the uploads: a state at rest without a trial stays, even if the call
  -- fails.
  pub rests : (s : DeviceState) → IsSteadyAt (view map old) s → IsSteadyAt (view map new) s
  -- If no upload of the image is open, nothing changes.
  pub none : upload_at told image ≡ None → (result ≡ Err NoSession) × (new ≡ old)
  -- An upload that matches the flash isn't refused so.
  pub matched : (u : Upload) → upload_at told image ≡ Some u → IsOpenAt (view map old) image u
      → IsErrOf result NoSession → ⊥
  -- On a flash with power, a piece that no upload takes is refused so, and nothing changes.
  pub lacks : old.is_on ≡ true → LacksSession map told image (length bytes) old
      → (result ≡ Err NoSession) × (new ≡ old) × (tnew ≡ told)
  -- No other piece is refused so.
  pub only_lacking : IsErrOf result NoSession → LacksSession map told image (length bytes) old
  -- More bytes than the upload's size allows are refused.
  pub more : (u : Upload) → upload_at told image ≡ Some u
      → u.size < u.received + length bytes → result ≡ Err TooMuch
  -- If a check fails, the flash doesn't change.
  pub nothing : IfErr result (λ error. is_flash {T = Unit} (Err error) ≡ false → new ≡ old)
  -- Bytes that complete no unit are held in memory, whether the flash is on or off.
  pub held : (u : Upload) → upload_at told image ≡ Some u → u.received + length bytes ≤ u.size
      → length u.held.items + length bytes < 8 → (result ≡ Ok tt) × (new ≡ old)
  -- If other bytes and the counts fit and the flash is off, that is the result.
  pub off : old.is_on ≡ false → (u : Upload) (written : ℕ) → upload_at told image ≡ Some u
      → HasCounts map image written u
      → u.received + length bytes ≤ u.size → 8 ≤ length u.held.items + length bytes
      → IsErrOf result (Flash Off)
  -- An upload that received too many bytes is closed, and no other.
  pub too_much : IsErrOf result TooMuch → IsWith image None told tnew
  -- If no upload that matches the flash is open, the table doesn't change.
  pub stays : IsErrOf result NoSession → tnew ≡ told
  -- Unless the call fails at the flash, the uploads of other images don't change.
  pub others : is_flash result ≡ false → (j : ℕ) → j ≢ image → upload_at tnew j ≡ upload_at told j
  -- If the call fails at the flash, all uploads are closed.
  pub closed : is_flash result ≡ true → AllClosed tnew
  -- On a flash that holds a state, the call is the step of a machine that knows complete images.
  pub row : (m : Machine) → IsUpAt (view map old) told m
      → (next : Machine) × Pieces m image bytes result next × IsUpAt (view map new) tnew next
  -- If the call succeeds, no sector is erased.
  pub erases : OnOk result (new.erases ≡ old.erases)
  -- It asks a journal for at most 31 bytes and the number of these bytes.
  pub journal : new.journaled ≤ old.journaled + (31 + length bytes)
  pub ends : EndsUpload result old new

-- A call holds bytes in memory.
pub record HoldsBack (bytes : List ℕ) (before after : Upload) : Type 0 where
  -- Only the number of received bytes and the held bytes change.
  pub rest : after ≡ record before
      { received = before.received + length bytes; held = after.held }
  -- The bytes are appended to the held ones.
  pub held : after.held.items ≡ before.held.items ++ bytes
