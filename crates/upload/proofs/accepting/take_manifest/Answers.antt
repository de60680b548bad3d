use Rattle.std.proofs.Common.{◌≡◌, ◌+◌, ◌≤◌, ◌∙◌, ℕ, List, Option, Some, Result, ap, subst, Err, Ok, true≢false}
use Rattle.flash_model.specs.Chip.{Chip}
use Rattle.flash_model.specs.declared.error.FlashError.{FlashError}
use Rattle.flash_model.proofs.Ending.{no_error}
use Rattle.sector_map.specs.declared.layout.SectorMap.{SectorMap}
use Rattle.sector_map.specs.Part.{Log}
use Rattle.sector_map.specs.Map.{Keeps, part_of}
use Rattle.set_log.specs.declared.state.State.{State}
use Rattle.set_log.specs.Log.{state_of}
use Rattle.manifest.specs.declared.manifest.Component.{Component}
use Rattle.upload.specs.Accepted.{AreBlank, accepted_parts}
use Rattle.upload.specs.Accepting.{WritesManifest}
use Rattle.upload.specs.declared.sessions.Upload.{Upload}
use Rattle.upload.specs.Ending.{EndsUpload}
use Rattle.upload.specs.View.{view}
use Rattle.upload.specs.Wear.{journal_of_components}
use Rattle.machine.specs.declared.upload_error.UploadError.TheVariants as no
use Rattle.upload.specs.Taking.{CutsAccept, IsTaken, LeavesAccept}
use Rattle.upload.proofs.Ends.{ends_flash, ends_well, err_passed, same_off}
use Rattle.upload.proofs.TakenRow.{equal_blank, equal_log, stopped}
use Rattle.upload.proofs.Worn.{worn_of_state}
use Rattle.upload.proofs.accepting.take_manifest.Goals as goal

-- What holds of each result of applying a manifest, of the flash before the checks.
record Applied (map : SectorMap) (sequence : ℕ) (cs : List Component) (old new : Chip) : Type 0 where
  equal : (state : State) → state_of map old ≡ Some state → state.sequence ≡ sequence
      → part_of map new Log ≡ part_of map old Log
  idle : (state : State) → state_of map old ≡ Some state → state.sequence ≡ sequence → AreBlank map old cs → new ≡ old

-- The state that the call read is the one that the log has.
applied : (map : SectorMap) (found : State) (sequence : ℕ) (slice cs : List Component)
    (told tnew : List (Option Upload)) (old checked new : Chip) {T : Type 0} (result : Result T FlashError)
    → checked ≡ old → slice ≡ cs → (view map old).log ≡ Some found
    → WritesManifest map found sequence slice told tnew checked new result → Applied map sequence cs old new
applied map found sequence slice cs told tnew old checked new result same are is writes = record {
  equal = λ state read equal. equal_log map old checked new state found sequence same read is equal writes.equal;
  idle = λ state read equal blank.
      equal_blank map old checked new state found sequence slice cs same are read is equal blank writes.idle;
}

-- What was proved of the checked flash and the slice holds of the flash before and of the list.
as_given : (checked old : Chip) (slice cs : List Component) → checked ≡ old → slice ≡ cs
    → (P : Chip → List Component → Type 0) → P checked slice → P old cs
as_given checked old slice cs same are P is =
    subst (λ chip. P chip cs) same (subst (λ xs. P checked xs) are is)

pub returns : goal.returns
returns g c =
    let map = c.args.map.now in
    let old = g.F.Flash.chip c.args.flash.now in
    let after = g.F.Flash.chip c.write_manifest.new.flash in
    let given = as_given _ old _ c.args.manifest.now.components.items c.judge_manifest.ensures.same
    c.as_slice-components.ensures.value in
    let sequence = c.args.manifest.now.sequence in
    let law = applied map _ sequence _ _ _ _ old _ after _ c.judge_manifest.ensures.same
    c.as_slice-components.ensures.value c.in_ok-state.ensures.ok.newer.read c.write_manifest.ensures in
    record {
      outside = given (λ chip xs. Keeps map (accepted_parts xs) chip after) c.write_manifest.ensures.outside;
      accepts = (
        (c.in_ok-state.state, c.in_ok-state.ensures.ok),
        given (λ chip xs. IsTaken (view map chip) (view map after) c.args.uploads.now.sessions
            c.write_manifest.new.uploads.sessions sequence xs) c.in_ok-write_manifest.ensures.ok,
      );
      nothing = tt;
      stays = tt;
      off = λ off. absurd (no_error _ _ (c.in_ok-state.ensures.off off));
      equal = law.equal;
      erases = λ state read.
          worn_of_state map old _ after state c.in_ok-state.state sequence _ _ c.judge_manifest.ensures.same
          c.as_slice-components.ensures.value read c.in_ok-state.ensures.ok.newer.read
          c.in_ok-write_manifest.ensures.erases;
      idle = law.idle;
      journal = given (λ chip xs. after.journaled ≤ chip.journaled + (120 + journal_of_components map xs))
          c.write_manifest.ensures.journal;
      ends = subst (λ chip. EndsUpload (Ok tt) chip after) c.judge_manifest.ensures.same
          (ends_well _ _ _ _ c.in_ok-write_manifest.ensures.ends);
    }

pub returns-in_err-write_manifest : goal.returns-in_err-write_manifest
returns-in_err-write_manifest g c =
    let map = c.args.map.now in
    let old = g.F.Flash.chip c.args.flash.now in
    let after = g.F.Flash.chip c.write_manifest.new.flash in
    let error = c.in_err-write_manifest.field-0.0 in
    let given = as_given _ old _ c.args.manifest.now.components.items c.judge_manifest.ensures.same
    c.as_slice-components.ensures.value in
    let sequence = c.args.manifest.now.sequence in
    let law = applied map _ sequence _ _ _ _ old _ after _ c.judge_manifest.ensures.same
    c.as_slice-components.ensures.value c.in_ok-state.ensures.ok.newer.read c.write_manifest.ensures in
    rw (err_passed _ (no.Flash error) c.from_residual-in_err-write_manifest.ensures.1)
    (record {
      outside = given (λ chip xs. Keeps map (accepted_parts xs) chip after) c.write_manifest.ensures.outside;
      accepts = stopped map (view map old) (view map after) c.args.uploads.now.sessions
          c.write_manifest.new.uploads.sessions sequence c.args.manifest.now.components.items error
          c.in_ok-state.state c.in_ok-state.ensures.ok
          (given (λ chip xs. LeavesAccept (view map chip) (view map after) sequence) c.write_manifest.ensures.leaves)
          (given (λ chip xs. CutsAccept (view map chip) (view map after) sequence xs) c.write_manifest.ensures.cut)
          (λ is. ap (λ chip. view map chip)
          (same_off error _ _ c.in_err-write_manifest.ensures.ends is ∙ c.judge_manifest.ensures.same));
      nothing = λ unstopped. absurd (true≢false unstopped);
      stays = λ unstopped. absurd (true≢false unstopped);
      off = λ off. absurd (no_error _ _ (c.in_ok-state.ensures.off off));
      equal = law.equal;
      erases = tt;
      idle = law.idle;
      journal = given (λ chip xs. after.journaled ≤ chip.journaled + (120 + journal_of_components map xs))
          c.write_manifest.ensures.journal;
      ends = subst (λ chip. EndsUpload {T = Unit} (Err (no.Flash error)) chip after) c.judge_manifest.ensures.same
          (ends_flash error _ _ c.in_err-write_manifest.ensures.ends);
    })
