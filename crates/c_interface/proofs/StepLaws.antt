-- Laws of a call on a device in bytes, from the old bytes to the new ones.
use Rattle.std.proofs.Common.{◌≡◌, ℕ, ◌*◌, ◌/◌, ◌<◌, ◌≤◌, Bool, true, false, List, [], length, slice_index_or, Option, Some, None, refl, sym, ◌∙◌, ap, subst, arith, ⊎_elim}
use Rattle.std.proofs.Math.Nat.{div-mul-le_self, le-div_iff_mul-le, mod-eq-sub-div-mul, mul-div_cancel}
use Rattle.std.proofs.lemmas.Bool.{cases_Bool, true≢false}
use Rattle.std.proofs.lemmas.Option.{none-some}
use Rattle.std.specs.Borrow.{Bor}
use Rattle.machine.specs.declared.event.Event.TheVariants as event
use Rattle.flash_model.specs.Chip.{Chip, Fixed, size_of}
use Rattle.flash_model.specs.Memory.{new_chip}
use Rattle.sector_map.specs.declared.layout.SectorMap.{SectorMap}
use Rattle.sector_map.specs.Map.{IsLaidOut, IsMap, sectors_of}
use Rattle.sector_map.proofs.Parts.{keeps_refl, laid_out_by}
use Rattle.manifest.specs.declared.identity.Identity.{Identity}
use Rattle.set_log.specs.Log.{state_of}
use Rattle.common.specs.declared.kind.Kind.{Kind}
use Rattle.upload.specs.View.{view}
use Rattle.machine.specs.Device.{DeviceState, Machine}
use Rattle.upload.specs.NoSession.{LacksSession}
use Rattle.upload.specs.Sessions.{AllClosed, AllOpenAt, IsOpenAt, upload_at}
use Rattle.upload.specs.Steady.{IsSteadyAt}
use Rattle.machine.specs.declared.upload_error.UploadError.TheVariants.{NoSession}
use Rattle.upload.specs.declared.sessions.Upload.{Upload}
use Rattle.flash_contents.specs.Holding.{DeviceView, Holds}
use Rattle.machine.specs.Intake as device
use Rattle.flash_contents.specs.Passing.{StepsTo}
use Rattle.machine.specs.Steps.{DeviceEvent}
use Rattle.machine.specs.declared.error.Fault.TheVariants as no
use Rattle.machine.specs.declared.reply.Reply.{Reply}
use Rattle.machine.specs.declared.reply.Reply.TheVariants.{Refused}
use Rattle.boot_core.specs.Answers.{reply_of_boot, reply_of_result}
use Rattle.boot_core.specs.Device.{StaysHeld, made, seen}
use Rattle.boot_core.specs.Ready.{LogsRest}
use Rattle.c_interface.specs.DeviceCall.{DeviceCall, Accept, Piece, Finish, Withdraw, Confirm, Boot}
use Rattle.c_interface.specs.declared.saved_state.SavedState.{SavedState}
use Rattle.c_interface.specs.declared.saved_state.SavedUpload.{SavedUpload}
use Rattle.c_interface.specs.declared.setup.CheckedSetup.{CheckedSetup}
use Rattle.c_interface.specs.Calls.{IsCallOf, IsJournaled, IsStepOf, MakesCall, StepsBetween}
use Rattle.c_interface.specs.Setup.{HasRoom}
use Rattle.c_interface.specs.SavedState.{IsDeviceOf, IsFlashOf, IsMatched, IsSaved, IsSavedFor, IsTakenBy, SavesDevice, SavesUpload, is_piece, no_row, Booted, NotBooted}
use Rattle.c_interface.proofs.Leaving.{leaves_of}
use Rattle.c_interface.proofs.SameBytes.{SameFlash, SameIfOpen, same_holds, upload_moved, upload_same}

zero_one : (n : ℕ) → n ≡ 0 → n ≡ 1 → ⊥
zero_one n zero one = omega (arith, zero, one)

-- ---- what rows save

some_is : (a b : Kind) → Some a ≡ Some b → a ≡ b
some_is a b e = cc

same_row : (row : SavedUpload) (a b : Option Upload) → SavesUpload row a → SavesUpload row b → SameIfOpen a b
same_row row None None first second = tt
same_row row None (Some b) first second = absurd (zero_one row.is_open first second.is_open)
same_row row (Some a) None first second = absurd (zero_one row.is_open second first.is_open)
same_row row (Some a) (Some b) first second = record {
  size = second.size ∙ sym first.size;
  digest = second.digest ∙ sym first.digest;
  kind = some_is b.kind a.kind (sym second.kind ∙ first.kind);
  received = second.received ∙ sym first.received;
  held = second.held ∙ sym first.held;
}

same_refl : (u : Option Upload) → SameIfOpen u u
same_refl None = tt
same_refl (Some u) = upload_same u

-- the same uploads match another flash of the same bytes
matched_as : (map : SectorMap) (old new : Chip) → new.bytes ≡ old.bytes → (sessions others : List (Option Upload))
    → ((i : ℕ) → SameIfOpen (upload_at sessions i) (upload_at others i))
    → AllOpenAt (view map old) sessions → AllOpenAt (view map new) others
matched_as map old new same sessions others alike all i upload is = by (upload_at sessions i) refl
  where
    same_here : upload_at others i ≡ Some upload → SameIfOpen (upload_at sessions i) (Some upload)
    same_here e = subst (λ (o : Option Upload). SameIfOpen (upload_at sessions i) o) e (alike i)

    by : (one : Option Upload) → upload_at sessions i ≡ one → IsOpenAt (view map new) i upload
    by None none = absurd (subst (λ (o : Option Upload). SameIfOpen o (Some upload)) none (same_here is))
    by (Some one) some =
        let stands = all i one some in (
          stands.0,
          upload_moved map old new same i one upload
              (subst (λ (o : Option Upload). SameIfOpen o (Some upload)) some (same_here is)) stands.0 stands.1,
        )

moved : (map : SectorMap) (old new : Chip) → new.bytes ≡ old.bytes → (sessions : List (Option Upload))
    → AllOpenAt (view map old) sessions → AllOpenAt (view map new) sessions
moved map old new same sessions = matched_as map old new same sessions sessions (λ i. same_refl (upload_at sessions i))

-- ---- flashes

-- a flash of these bytes
flash_made : (map : SectorMap) (bytes : List ℕ) (chip : Chip) → IsMap map → HasRoom map bytes
    → chip.sector_size ≡ map.sector_size → chip.sectors ≡ length bytes / map.sector_size → chip.bytes ≡ bytes
    → chip.is_on ≡ true → IsFlashOf map bytes chip
flash_made map bytes chip is_map room size count has on =
    let e = map.sector_size in
    let some : 0 < e = omega (arith, is_map.sector.least) in
    let all : length bytes / e * e ≡ length bytes = omega (arith, room.whole, mod-eq-sub-div-mul (length bytes) e, div-mul-le_self (length bytes) e) in
    let whole : size_of chip ≡ length bytes =
    ap (λ n. n * chip.sector_size) count ∙ ap (λ s. length bytes / e * s) size ∙ all in
    record {
      laid_out = laid_out_by map chip is_map size
          (subst (λ n. sectors_of map ≤ n) (sym count) ((le-div_iff_mul-le {k = e} some).1 room.room))
          (ap (λ (l : List ℕ). length l) has ∙ sym whole) (omega (arith, whole, room.addressed));
      has = has;
      on = on;
    }

one_count : (a b e : ℕ) → 0 < e → a * e ≡ b * e → a ≡ b
one_count a b e some same = sym (mul-div_cancel a some) ∙ ap (λ n. n / e) same ∙ mul-div_cancel b some

-- two flashes of the same bytes
pub laid_same : (map : SectorMap) (a b : Chip) → IsLaidOut map a → IsLaidOut map b → b.bytes ≡ a.bytes → SameFlash a b
laid_same map a b first second same = record {
  sector_size = second.sector_size ∙ sym first.sector_size;
  sectors = one_count b.sectors a.sectors map.sector_size (omega (arith, first.is_map.sector.least)) (
      ap (λ e. b.sectors * e) (sym second.sector_size) ∙ sym second.whole
      ∙ ap (λ (l : List ℕ). length l) same ∙ first.whole
      ∙ ap (λ e. a.sectors * e) first.sector_size);
  bytes = same;
}

flash_same : (map : SectorMap) (bytes : List ℕ) (a b : Chip) → IsFlashOf map bytes a → IsFlashOf map bytes b
    → SameFlash a b
flash_same map bytes a b first second =
    laid_same map a b first.laid_out second.laid_out (second.has ∙ sym first.has)

-- ---- which device the saved state is

booted_same : (map : SectorMap) (bytes : List ℕ) (saved : SavedState) (d e : DeviceView) → IsFlashOf map bytes d.flash
    → IsFlashOf map bytes e.flash → IsSaved map saved d → IsSaved map saved e → e.up ≡ d.up
booted_same map bytes saved d e first second (Booted on_is was) (Booted also is) = also ∙ sym on_is
booted_same map bytes saved d e first second (Booted on_is was) (NotBooted off_is closed never) = absurd (never d.sessions (record {
  rows = was.rows;
  stands = moved map d.flash e.flash (second.has ∙ sym first.has) d.sessions was.stands;
}))
booted_same map bytes saved d e first second (NotBooted off_is closed never) (Booted on_is is) = absurd (never e.sessions (record {
  rows = is.rows;
  stands = moved map e.flash d.flash (first.has ∙ sym second.has) e.sessions is.stands;
}))
booted_same map bytes saved d e first second (NotBooted off_is closed never) (NotBooted also shut nowhere) = also ∙ sym off_is

sessions_same : (map : SectorMap) (saved : SavedState) (d e : DeviceView) → IsSaved map saved d → IsSaved map saved e
    → e.up ≡ d.up → d.up ≡ true → (i : ℕ) → SameIfOpen (upload_at d.sessions i) (upload_at e.sessions i)
sessions_same map saved d e (Booted on_is was) (Booted also is) up on i =
    same_row (slice_index_or saved.uploads i no_row) (upload_at d.sessions i) (upload_at e.sessions i) (was.each i)
    (is.each i)
sessions_same map saved d e (Booted on_is was) (NotBooted off_is closed never) up on i = absurd (true≢false (sym on ∙ sym up ∙ off_is))
sessions_same map saved d e (NotBooted off_is closed never) other up on i = absurd (true≢false (sym on ∙ off_is))

closed_down : (map : SectorMap) (saved : SavedState) (e : DeviceView) → IsSaved map saved e → e.up ≡ false → AllClosed e.sessions
closed_down map saved e (Booted on_is is) off_is = absurd (true≢false (sym on_is ∙ off_is))
closed_down map saved e (NotBooted also closed never) off_is = closed

-- what one device of the bytes holds, any other one holds
saved_holds : (map : SectorMap) (bytes : List ℕ) (saved : SavedState) (d e : DeviceView) → IsDeviceOf map bytes saved d
    → IsDeviceOf map bytes saved e → (m : Machine) → Holds map d m → Holds map e m
saved_holds map bytes saved d e first second =
    let up = booted_same map bytes saved d e first.flash second.flash first.saved second.saved in
    same_holds map d e first.flash.laid_out (flash_same map bytes d.flash e.flash first.flash second.flash) up
    (sessions_same map saved d e first.saved second.saved up)
    (λ off_is. closed_down map saved e second.saved (up ∙ off_is))

-- ---- the saved state after a call

abbrev powered : Chip → Chip
powered chip = record chip { is_on = true }

laid_powered : (map : SectorMap) (chip : Chip) → IsLaidOut map chip → IsLaidOut map (powered chip)
laid_powered map chip laid = record {
  sector_size = laid.sector_size;
  sectors = laid.sectors;
  is_map = laid.is_map;
  whole = laid.whole;
  size = laid.size;
}

flash_powered : (map : SectorMap) (bytes : List ℕ) (chip : Chip) → IsLaidOut map chip → chip.bytes ≡ bytes
    → IsFlashOf map bytes (powered chip)
flash_powered map bytes chip laid is = record { laid_out = laid_powered map chip laid; has = is; on = refl }

same_powered : (chip : Chip) → SameFlash chip (powered chip)
same_powered chip = record { sector_size = refl; sectors = refl; bytes = refl }

-- the device after a call: its flash has power again
abbrev after : Chip → List (Option Upload) → Bool → DeviceView
after chip sessions true = seen (powered chip) sessions true
after chip sessions false = seen (powered chip) [] false

none_open : AllClosed []
none_open j = refl

saved_after : (map : SectorMap) (bytes : List ℕ) (chip : Chip) (sessions : List (Option Upload)) (is_booted : Bool)
    (saved : SavedState) → IsLaidOut map chip → chip.bytes ≡ bytes → AllOpenAt (view map chip) sessions
    → SavesDevice saved sessions is_booted → IsDeviceOf map bytes saved (after chip sessions is_booted)
saved_after map bytes chip sessions true saved laid is opens keeps = record {
  flash = flash_powered map bytes chip laid is;
  saved = Booted refl (record {
    rows = record { booted = ap (λ (k : SavedState). k.is_booted) keeps.exact; each = keeps.each refl };
    stands = moved map chip (powered chip) refl sessions opens;
  });
}
saved_after map bytes chip sessions false saved laid is opens keeps = record {
  flash = flash_powered map bytes chip laid is;
  saved = NotBooted refl none_open (λ others was. zero_one saved.is_booted (ap (λ (k : SavedState). k.is_booted) keeps.exact) was.booted);
}

holds_after : (map : SectorMap) (chip : Chip) (sessions : List (Option Upload)) (is_booted : Bool) → IsLaidOut map chip
    → (m : Machine) → Holds map (seen chip sessions is_booted) m → Holds map (after chip sessions is_booted) m
holds_after map chip sessions true laid =
    same_holds map (seen chip sessions true) (seen (powered chip) sessions true) laid (same_powered chip) refl
    (λ on i. same_refl (upload_at sessions i)) (λ off_is. absurd (true≢false off_is))
holds_after map chip sessions false laid =
    same_holds map (seen chip sessions false) (seen (powered chip) [] false) laid (same_powered chip) refl
    (λ on. absurd (true≢false (sym on))) (λ off_is. none_open)

-- the saved uploads match a flash of the bytes after a call
matched_after : (map : SectorMap) (bytes : List ℕ) (chip : Chip) (sessions : List (Option Upload)) (is_booted : Bool)
    (saved : SavedState) → chip.bytes ≡ bytes → AllOpenAt (view map chip) sessions → SavesDevice saved sessions is_booted
    → IsMatched map bytes saved
matched_after map bytes chip sessions true saved is opens keeps other flash others rows =
    matched_as map chip other (flash.has ∙ sym is) sessions others
    (λ i. same_row (slice_index_or saved.uploads i no_row) (upload_at sessions i) (upload_at others i)
    (keeps.each refl i) (rows.each i)) opens
matched_after map bytes chip sessions false saved is opens keeps other flash others rows =
    absurd (zero_one saved.is_booted (ap (λ (k : SavedState). k.is_booted) keeps.exact) rows.booted)

-- ---- the device of a call

-- The uploads that a call takes match the flash, if those of a piece do.
taken_matches : (call : DeviceCall) (map : SectorMap) (chip : Chip) (saved : SavedState) (sessions : List (Option Upload))
    → (is_piece call ≡ true → AllOpenAt (view map chip) sessions) → IsTakenBy call map chip saved sessions
    → AllOpenAt (view map chip) sessions
taken_matches call map chip saved sessions matches taken = ⊎_elim matches taken.stands (cases_Bool (is_piece call))

-- Then the device of the call is the one that the saved state over the flash is.
saved_for : (call : DeviceCall) (map : SectorMap) (bytes : List ℕ) (saved : SavedState) (d : DeviceView)
    → IsFlashOf map bytes d.flash → (is_piece call ≡ true → IsMatched map bytes saved) → IsSavedFor call map saved d
    → IsSaved map saved d
saved_for call map bytes saved d flash matches (Booted on_is taken) = Booted on_is (record {
  rows = taken.rows;
  stands = taken_matches call map d.flash saved d.sessions (λ piece. matches piece d.flash flash d.sessions taken.rows) taken;
})
saved_for call map bytes saved d flash matches (NotBooted off_is closed never) =
    NotBooted off_is closed (λ sessions was. never sessions (record { rows = was.rows; stands = λ other. was.stands }))

-- the uploads of the device of a call match its flash, except those of a piece
pub saved_opens : (call : DeviceCall) (map : SectorMap) (saved : SavedState) (d : DeviceView) → IsSavedFor call map saved d
    → is_piece call ≡ false → AllOpenAt (view map d.flash) d.sessions
saved_opens call map saved d (Booted on_is taken) other = taken.stands other
saved_opens call map saved d (NotBooted off_is closed never) other =
    λ i upload is. absurd (none-some upload (sym (closed i) ∙ is))

-- the uploads of a saved device match its flash
opens_saved : (map : SectorMap) (saved : SavedState) (d : DeviceView) → IsSaved map saved d
    → AllOpenAt (view map d.flash) d.sessions
opens_saved map saved d (Booted on_is is) = is.stands
opens_saved map saved d (NotBooted off_is closed never) =
    λ i upload is. absurd (none-some upload (sym (closed i) ∙ is))

-- ---- steps

module _ (setup : device.Setup) (d a b e : DeviceView)
    (before : (m : Machine) → Holds setup.map d m → Holds setup.map a m)
    (behind : (m : Machine) → Holds setup.map b m → Holds setup.map e m) where
  steps_moved : (happened : DeviceEvent) (reply : Reply) → StepsTo setup a b happened reply
      → StepsTo setup d e happened reply
  steps_moved happened reply steps m holds =
      let next = steps m (before m holds) in (next.0, next.1, behind next.0 next.2)

  held_moved : StaysHeld setup.map a b → StaysHeld setup.map d e
  held_moved stays m holds = let next = stays m (before m holds) in (next.0, behind next.0 next.1)

  step_moved : (call : DeviceCall) (reply : Reply) → IsStepOf setup call a b reply → IsStepOf setup call d e reply
  step_moved (Accept manifest) reply step =
      (λ text means. steps_moved (event.Accept text) reply (step.0 text means), held_moved step.1)
  step_moved (Piece image more) reply step = steps_moved (event.Piece image more) reply step
  step_moved (Finish image) reply step = steps_moved (event.Finish image) reply step
  step_moved (Withdraw image) reply step = steps_moved (event.Withdraw image) reply step
  step_moved (Confirm image) reply step = steps_moved (event.Confirm image) reply step
  step_moved Boot reply step = steps_moved event.Boot reply step

-- a flash at rest holds the same state after a piece
rests_by : (map : SectorMap) (identity : Identity) (boots : ℕ) (call : DeviceCall) (a b : DeviceView) (reply : Reply)
    → IsCallOf map identity boots call a b reply → is_piece call ≡ true → (state : DeviceState)
    → IsSteadyAt (view map a.flash) state → IsSteadyAt (view map b.flash) state
rests_by map identity boots (Piece image more) a b reply (result, same, is) piece state = is.rests state
rests_by map identity boots (Accept manifest) a b reply is piece state = absurd (true≢false (sym piece))
rests_by map identity boots (Finish image) a b reply is piece state = absurd (true≢false (sym piece))
rests_by map identity boots (Withdraw image) a b reply is piece state = absurd (true≢false (sym piece))
rests_by map identity boots (Confirm image) a b reply is piece state = absurd (true≢false (sym piece))
rests_by map identity boots Boot a b reply is piece state = absurd (true≢false (sym piece))

-- a piece that no upload takes is refused so, and the device stays as it was
lacks_by : (map : SectorMap) (identity : Identity) (boots : ℕ) (call : DeviceCall) (a b : DeviceView) (reply : Reply)
    → IsCallOf map identity boots call a b reply → a.flash.is_on ≡ true → (image : ℕ) (more : Bor (List ℕ))
    → call ≡ Piece image more → a.up ≡ true → LogsRest (state_of map a.flash)
    → LacksSession map a.sessions image (length more.now) a.flash
    → (reply ≡ Refused (no.Upload NoSession)) × (b ≡ a)
lacks_by map identity boots call a b reply all on image more piece up rests lacking =
    let made_one : IsCallOf map identity boots (Piece image more) a b reply =
    subst (λ k. IsCallOf map identity boots k a b reply) piece all in
    let left = made_one.2.lacks on up rests lacking in
    (made_one.1 ∙ ap reply_of_result left.0, left.1)

-- a call on one device in these bytes is a step of each device in them
pub steps_on : (checked : CheckedSetup) (call : DeviceCall) (old new : List ℕ) (was is : SavedState) (before behind : Chip)
    (sessions left : List (Option Upload)) (was_up is_booted : Bool) (reply : Reply)
    → IsFlashOf checked.map old before → IsSavedFor call checked.map was (seen before sessions was_up)
    → MakesCall checked.map checked.identity checked.boots call (seen before sessions was_up) (seen behind left is_booted) reply
    → behind.bytes ≡ new → SavesDevice is left is_booted → StepsBetween checked call old was new is reply before behind
steps_on checked call old new was is before behind sessions left was_up is_booted reply flash saved makes bytes keeps =
    record {
      before = device_before;
      is_first = refl;
      is_before = record { flash = flash; saved = saved };
      left = device_left;
      is_last = refl;
      is_left = record { laid_out = makes.laid; has = bytes; saves = keeps };
      makes = makes;
      leaves = leaves_of checked.map checked.identity checked.boots device_before device_left reply
          call old new flash.on flash.has bytes makes.is;
      each = λ matches device given. (
        after behind left is_booted,
        saved_after checked.map new behind left is_booted is makes.laid bytes (opens_left matches) keeps,
        step_moved (made checked.map checked.identity checked.boots) device device_before device_left
            (after behind left is_booted)
            (saved_holds checked.map old was device device_before given
            (record { flash = flash; saved = strictly matches }))
            (holds_after checked.map behind left is_booted makes.laid) call reply makes.steps,
      );
      matched = λ matches. matched_after checked.map new behind left is_booted is bytes (opens_left matches) keeps;
      rests = rests_by checked.map checked.identity checked.boots call device_before device_left reply makes.is;
      lacks = λ image more piece up at_rest lacking.
          let kept = lacks_by checked.map checked.identity checked.boots call device_before device_left reply makes.is
          flash.on image more piece up at_rest lacking in (
            kept.0,
            sym bytes ∙ ap (λ (d : DeviceView). d.flash.bytes) kept.1 ∙ flash.has,
            kept.1,
          );
    }
  where
    device_before : DeviceView
    device_before = seen before sessions was_up

    device_left : DeviceView
    device_left = seen behind left is_booted

    strictly : (is_piece call ≡ true → IsMatched checked.map old was) → IsSaved checked.map was (seen before sessions was_up)
    strictly matches = saved_for call checked.map old was (seen before sessions was_up) flash matches saved

    opens_left : (is_piece call ≡ true → IsMatched checked.map old was) → AllOpenAt (view checked.map behind) left
    opens_left matches = makes.opens (opens_saved checked.map was (seen before sessions was_up) (strictly matches))

-- ---- a call as the function of `boot_core` for it makes it

module _ (map : SectorMap) (identity : Identity) (boots : ℕ) (old new : DeviceView) (reply : Reply)
    (on : old.flash.is_on ≡ true) where
  made_by : (call : DeviceCall) (answered : Reply) → reply ≡ answered → new.flash.fixed ≡ old.flash.fixed
      → IsLaidOut map new.flash
      → (AllOpenAt (view map old.flash) old.sessions → AllOpenAt (view map new.flash) new.sessions)
      → IsStepOf (made map identity boots) call old new answered → IsJournaled map call old.flash new.flash
      → IsCallOf map identity boots call old new reply
      → MakesCall map identity boots call old new reply
  made_by call answered same fixed laid opens step journal all = record {
    fixed = fixed;
    laid = laid;
    opens = opens;
    steps = subst (λ r. IsStepOf (made map identity boots) call old new r) (sym same) step;
    journal = journal;
    is = all;
  }

  call_made : (call : DeviceCall) → IsCallOf map identity boots call old new reply
      → MakesCall map identity boots call old new reply
  call_made (Accept manifest) (result, same, is) =
      made_by (Accept manifest) (reply_of_result result) same is.outside.fixed is.laid (λ was. is.opens)
      (λ text means. is.steps boots text on means, is.holds on) is.journal (result, same, is)
  call_made (Piece image more) (result, same, is) =
      made_by (Piece image more) (reply_of_result result) same is.outside.fixed is.laid is.opens
      (is.steps identity boots on) is.journal (result, same, is)
  call_made (Finish image) (result, same, is) =
      made_by (Finish image) (reply_of_result result) same is.outside.fixed is.laid is.opens
      (is.steps identity boots on) is.journal (result, same, is)
  call_made (Withdraw image) (result, same, is) =
      made_by (Withdraw image) (reply_of_result result) same is.outside.fixed is.laid is.opens
      (is.steps identity boots on) is.journal (result, same, is)
  call_made (Confirm image) (result, same, is) =
      made_by (Confirm image) (reply_of_result result) same is.outside.fixed is.laid is.opens
      (is.steps identity boots on) is.journal (result, same, is)
  call_made Boot (left, count, result, same, is) =
      made_by Boot (reply_of_boot result) same (is.on_map old.flash (keeps_refl map _ old.flash)).fixed is.laid
      (λ was. is.opens) (subst (λ n. StepsTo (made map identity n) old new event.Boot (reply_of_boot result)) count (is.steps identity on))
      is.journal (left, count, result, same, is)

-- a call by another name of it
pub makes : (map : SectorMap) (identity : Identity) (boots : ℕ) (call given : DeviceCall) (old new : DeviceView)
    (reply : Reply) → call ≡ given → old.flash.is_on ≡ true → IsCallOf map identity boots given old new reply
    → MakesCall map identity boots call old new reply
makes map identity boots call given old new reply is on all =
    subst (λ k. MakesCall map identity boots k old new reply) (sym is)
    (call_made map identity boots old new reply on given all)

-- a flash over borrowed bytes that was just made
pub borrowed_flash : (map : SectorMap) (bytes : List ℕ) (chip : Chip) (fixed : Fixed) → IsMap map → HasRoom map bytes
    → chip ≡ record (new_chip map.sector_size (length bytes / map.sector_size) bytes) { fixed = fixed }
    → IsFlashOf map bytes chip
borrowed_flash map bytes chip fixed is_map room is = flash_made map bytes chip is_map room
    (ap (λ (c : Chip). c.sector_size) is) (ap (λ (c : Chip). c.sectors) is) (ap (λ (c : Chip). c.bytes) is)
    (ap (λ (c : Chip). c.is_on) is)

-- a step by other names of the bytes
pub steps_over : (checked : CheckedSetup) (call : DeviceCall) (a b old new : List ℕ) (was is : SavedState) (reply : Reply)
    (before behind : Chip) → a ≡ old → b ≡ new → StepsBetween checked call a was b is reply before behind
    → StepsBetween checked call old was new is reply before behind
steps_over checked call a b old new was is reply before behind first second steps =
    subst (λ l. StepsBetween checked call old was l is reply before behind) second
    (subst (λ l. StepsBetween checked call l was b is reply before behind) first steps)
