-- Accepting a manifest is a step of the machine, for each result of the call.
use Rattle.std.proofs.Common.{◌≡◌, ℕ, ◌<◌, ◌≤◌, false, List, length, Option, Some, None, Ok, Err, Result, refl, sym, ◌∙◌, ap, subst, arith}
use Rattle.std.specs.Prelude.{All, IfErr, slice_index_or}
use Rattle.sector_map.specs.declared.layout.SectorMap.{SectorMap}
use Rattle.sector_map.specs.declared.layout.Side.TheVariants.{Primary, Secondary}
use Rattle.sector_map.specs.Part.{Slot, Log}
use Rattle.set_log.specs.Log.{state_of}
use Rattle.sector_map.specs.Map.{IsLaidOut, length_of, part_of}
use Rattle.sector_map.proofs.PartBytes.{length_part}
use Rattle.flash_model.specs.Chip.{Chip}
use Rattle.flash_model.specs.declared.error.FlashError.{FlashError}
use Rattle.flash_model.specs.declared.error.FlashError.TheVariants as flash
use Rattle.set_log.specs.declared.state.State.{State}
use Rattle.set_log.specs.declared.state.RecordKind.TheVariants.{Steady}
use Rattle.manifest.specs.declared.manifest.Component.{Component}
use Rattle.upload.specs.View.{View, view}
use Rattle.machine.specs.Device.{DeviceState, Machine, closed}
use Rattle.upload.specs.Steady.{IsFront, IsSteadyAt, logged}
use Rattle.upload.specs.Sessions.{AllOpenAt, IsUpAt}
use Rattle.upload.specs.Ending.{IsClosedAfter}
use Rattle.machine.specs.Intake.{is_flash}
use Rattle.machine.specs.Accepted.{Accepts, AllFit, MayAccept, latest, AllFollow, IsPrecursor, accepted}
use Rattle.upload.specs.Accepted.{AreBlank, AreThere, AllFollowAt, FrontHasDigest}
use Rattle.upload.specs.Taking.{CutsAccept, EndsAccept, IsNewer, IsTaken, IsUnchanged, LeavesAccept, MayTake, Refuses}
use Rattle.upload.specs.declared.sessions.Upload.{Upload}
use Rattle.machine.specs.declared.upload_error.UploadError.{UploadError}
use Rattle.machine.specs.declared.upload_error.UploadError.TheVariants as no
use Rattle.upload.proofs.Frames.{closed_up}
use Rattle.upload.proofs.OpenOnes.{open_none}
use Rattle.upload.proofs.AcceptRow.{same_state}
use Rattle.upload.proofs.Images.{same_front}
use Rattle.upload.proofs.Opened.{named_has}

-- ---- the image that runs

-- If the primary slot begins with the required image, that image is the running one.
precursor_runs : (slot : List ℕ) (digest running : Option (List ℕ)) → IsFront slot running
    → FrontHasDigest slot digest
    → IsPrecursor digest running
precursor_runs slot None running front has = tt
precursor_runs slot (Some digest) None front (bytes, starts, (description, intact, same)) =
    absurd (front.none refl bytes description starts intact)
precursor_runs slot (Some digest) (Some held) front (bytes, starts, (description, intact, same)) =
    let at = front.image held refl in
    subst (λ l. IsPrecursor (Some digest) (Some l))
    (same_front slot bytes held description at.1.0 starts at.0 intact at.1.1) (description, intact, same)

runs_at_front : (slot : List ℕ) (digest running : Option (List ℕ)) → IsFront slot running → IsPrecursor digest running
    → FrontHasDigest slot digest
runs_at_front slot None running front has = tt
runs_at_front slot (Some digest) None front has = absurd has
runs_at_front slot (Some digest) (Some held) front has = (held, (front.image held refl).0, has)

module _ (map : SectorMap) (w : View) (s : DeviceState) (cs : List Component) (was : IsSteadyAt w s)
    (there : All (λ (c : Component). c.image < w.images) cs) where
  runs : (c : Component) → c.image < w.images → IsFront (w.slot c.image Primary) (s.running c.image)
  runs c lt = (was.each c.image (subst (λ n. c.image < n) was.images lt)).running

  all_follow : AllFollowAt w cs → AllFollow s cs
  all_follow each = λ k c lt. let d = slice_index_or cs k c in
      precursor_runs (w.slot d.image Primary) d.precursor (s.running d.image) (runs d (there k c lt)) (each k c lt)

  all_follow_at : AllFollow s cs → AllFollowAt w cs
  all_follow_at each = λ k c lt. let d = slice_index_or cs k c in
      runs_at_front (w.slot d.image Primary) d.precursor (s.running d.image) (runs d (there k c lt)) (each k c lt)

-- The sequence number of the log is the device's.
sequence_is : (w : View) (state : State) (s : DeviceState) → w.log ≡ Some state → IsSteadyAt w s
    → state.sequence ≡ s.sequence
sequence_is w state s read was =
    ap (λ (st : State). st.sequence) (same_state w state (logged Steady 0 false 0 s) read was.log)

not_older : (w : View) (state : State) (s : DeviceState) (q : ℕ) → IsNewer w state q → IsSteadyAt w s → s.sequence ≤ q
not_older w state s q newer was = let same = sequence_is w state s newer.read was in omega (arith, same, newer.newer)

-- ---- the row

module _ (map : SectorMap) (old new : View) (told tmid tnew : List (Option Upload)) (q : ℕ) (cs : List Component)
    (there : All (λ (c : Component). c.image < old.images) cs) where
  -- A manifest that passes the checks of log and slots passes those of the device's state.
  may_accept : (s : DeviceState) (state : State) → IsSteadyAt old s → MayTake map old state q cs → MayAccept map s q cs
  may_accept s state was may = record {
    newer = not_older old state s q may.newer was;
    fit = may.fit;
    follow = all_follow map old s cs was there may.follow;
  }

  same_up : (m : Machine) → IsUnchanged old new told tmid → tnew ≡ tmid → IsUpAt old told m → IsUpAt new tnew m
  same_up m same after up = subst (λ w. IsUpAt w tnew m) (sym same.flash)
      (subst (λ t. IsUpAt old t m) (sym (after ∙ same.table)) up)

  pub accept_row : (result : Result Unit UploadError) → EndsAccept map old new told tmid q cs result
      → IsClosedAfter result tmid tnew → (m : Machine) → IsUpAt old told m
      → (next : Machine) × Accepts map m q cs result next × IsUpAt new tnew next
  accept_row (Ok done) ends after m up =
      let may = ends.0.1 in (
        accepted m q cs,
        (may_accept m.kept ends.0.0 up.rest may, refl),
        subst (λ t. IsUpAt new t (accepted m q cs)) (sym (after.same refl)) (ends.1.steps m up),
      )
  accept_row (Err no.OldSequence) ends after m up =
      let same = sequence_is old ends.0.0 m.kept ends.0.1 up.rest in
      (m, (omega (arith, same, ends.0.2), refl), same_up m ends.1 (after.same refl) up)
  accept_row (Err no.TooBig) ends after m up =
      (m, (not_older old ends.0.0 m.kept q ends.0.1 up.rest, ends.0.2, refl), same_up m ends.1 (after.same refl) up)
  accept_row (Err no.WrongPrecursor) ends after m up = (
    m,
    (
      not_older old ends.0.0 m.kept q ends.0.1 up.rest,
      ends.0.2,
      (λ each. ends.0.3 (all_follow_at map old m.kept cs up.rest there each)),
      refl,
    ),
    same_up m ends.1 (after.same refl) up,
  )
  accept_row (Err (no.Flash flash.Cut)) ends after m up =
      let (next, cut, rest) = ends.2 m.kept up.rest in (
        closed m next,
        (may_accept m.kept ends.0.0 up.rest ends.0.1, cut, refl),
        closed_up new tnew m next up.up rest (after.closed refl),
      )
  accept_row (Err (no.Flash flash.Off)) ends after m up = (
    closed m m.kept,
    refl,
    closed_up new tnew m m.kept up.up (subst (λ w. IsSteadyAt w m.kept) (sym ends) up.rest) (after.closed refl),
  )
  accept_row (Err other) ends after m up = absurd ends

  same_open : IsUnchanged old new told tmid → tnew ≡ tmid → AllOpenAt old told → AllOpenAt new tnew
  same_open same after opens = subst (λ w. AllOpenAt w tnew) (sym same.flash)
      (subst (λ t. AllOpenAt old t) (sym (after ∙ same.table)) opens)

  pub accept_open : (result : Result Unit UploadError) → EndsAccept map old new told tmid q cs result
      → IsClosedAfter result tmid tnew → AllOpenAt old told → AllOpenAt new tnew
  accept_open (Ok done) ends after opens =
      subst (λ t. AllOpenAt new t) (sym (after.same refl)) (ends.1.opens opens)
  accept_open (Err no.OldSequence) ends after opens = same_open ends.1 (after.same refl) opens
  accept_open (Err no.TooBig) ends after opens = same_open ends.1 (after.same refl) opens
  accept_open (Err no.WrongPrecursor) ends after opens = same_open ends.1 (after.same refl) opens
  accept_open (Err (no.Flash error)) ends after opens = open_none new tnew (after.closed refl)
  accept_open (Err other) ends after opens = absurd ends

-- What accepting leaves still holds after a failure at the flash has closed the table.
module _ (map : SectorMap) (old new : View) (told tmid tnew : List (Option Upload)) (q : ℕ) (cs : List Component) where
  same_table : IsUnchanged old new told tmid → tnew ≡ tmid → IsUnchanged old new told tnew
  same_table same after = record { flash = same.flash; table = after ∙ same.table }

  pub accept_ends : (result : Result Unit UploadError) → EndsAccept map old new told tmid q cs result
      → IsClosedAfter result tmid tnew → EndsAccept map old new told tnew q cs result
  accept_ends (Ok done) ends after =
      (ends.0, subst (λ t. IsTaken old new told t q cs) (sym (after.same refl)) ends.1)
  accept_ends (Err no.OldSequence) ends after = (ends.0, same_table ends.1 (after.same refl))
  accept_ends (Err no.TooBig) ends after = (ends.0, same_table ends.1 (after.same refl))
  accept_ends (Err no.WrongPrecursor) ends after = (ends.0, same_table ends.1 (after.same refl))
  accept_ends (Err (no.Flash flash.Cut)) ends after = ends
  accept_ends (Err (no.Flash flash.Off)) ends after = ends
  accept_ends (Err other) ends after = absurd ends

-- An equal sequence number doesn't change the log.
pub equal_log : (map : SectorMap) (old mid new : Chip) (state found : State) (q : ℕ) → mid ≡ old
    → state_of map old ≡ Some state → (view map old).log ≡ Some found → state.sequence ≡ q
    → (found.sequence ≡ q → part_of map new Log ≡ part_of map mid Log) → part_of map new Log ≡ part_of map old Log
equal_log map old mid new state found q same read is equal kept =
    let one = same_state (view map old) state found read is in
    kept (ap (λ (st : State). st.sequence) (sym one) ∙ equal) ∙ ap (λ chip. part_of map chip Log) same

-- An equal sequence number writes nothing if all listed slots and trailers are erased.
pub equal_blank : (map : SectorMap) (old mid new : Chip) (state found : State) (q : ℕ) (named cs : List Component)
    → mid ≡ old → named ≡ cs → state_of map old ≡ Some state → (view map old).log ≡ Some found → state.sequence ≡ q
    → AreBlank map old cs → (found.sequence ≡ q → AreBlank map mid named → new ≡ mid) → new ≡ old
equal_blank map old mid new state found q named cs same are read is equal blank kept =
    let one = same_state (view map old) state found read is in
    kept (ap (λ (st : State). st.sequence) (sym one) ∙ equal)
    (subst (λ chip. AreBlank map chip named) (sym same) (subst (λ xs. AreBlank map old xs) (sym are) blank)) ∙ same

-- A failed check is the same refusal of the machine.
pub refuses : (map : SectorMap) (w : View) (sessions : List (Option Upload)) (q : ℕ) (cs : List Component)
    (e : UploadError) → Refuses map w q cs e → EndsAccept map w w sessions sessions q cs (Err e)
refuses map w sessions q cs no.OldSequence because = (because, record { flash = refl; table = refl })
refuses map w sessions q cs no.TooBig because = (because, record { flash = refl; table = refl })
refuses map w sessions q cs no.WrongPrecursor because = (because, record { flash = refl; table = refl })
refuses map w sessions q cs (no.Flash flash.Cut) because = absurd because
refuses map w sessions q cs (no.Flash flash.Off) because = refl
refuses map w sessions q cs other because = absurd because

-- The call fails at the flash while it applies a manifest.
pub stopped : (map : SectorMap) (old new : View) (told tnew : List (Option Upload)) (q : ℕ) (cs : List Component)
    (error : FlashError) (state : State) → MayTake map old state q cs → LeavesAccept old new q
    → CutsAccept old new q cs → (error ≡ flash.Off → new ≡ old) → EndsAccept map old new told tnew q cs (Err (no.Flash error))
stopped map old new told tnew q cs flash.Cut state may leaves cuts off = ((state, may), leaves, cuts)
stopped map old new told tnew q cs flash.Off state may leaves cuts off = off refl

-- Each listed image exists, and its file fits the slot.
pub named_fit : (map : SectorMap) (chip : Chip) (cs : List Component) → IsLaidOut map chip → AreThere map cs
    → AllFit map cs → (i : ℕ) (c : Component) → latest cs i ≡ Some c
    → (i < map.images) × (c.size ≤ length (part_of map chip (Slot i Secondary)))
named_fit map chip cs laid there fit i c is =
    let at = named_has (λ (c : Component). c.image < map.images) cs i c there is in
    let long = named_has (λ (c : Component). c.size ≤ length_of map (Slot c.image Secondary)) cs i c fit is in (
      subst (λ k. k < map.images) at.1 at.0,
      subst (λ n. c.size ≤ n) (sym (length_part map chip (Slot i Secondary) laid))
          (subst (λ k. c.size ≤ length_of map (Slot k Secondary)) at.1 long.0),
    )

-- The table doesn't change after a refusal that isn't of the flash.
pub table_stays : (result : Result Unit UploadError) (told tmid tnew : List (Option Upload))
    → IfErr result (λ error. is_flash {T = Unit} (Err error) ≡ false → tmid ≡ told)
    → IsClosedAfter result tmid tnew
    → IfErr result (λ error. is_flash {T = Unit} (Err error) ≡ false → tnew ≡ told)
table_stays (Ok done) told tmid tnew stays after = tt
table_stays (Err error) told tmid tnew stays after = λ plain. after.same plain ∙ stays plain
