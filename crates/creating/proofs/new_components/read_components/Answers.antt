use Rattle.std.proofs.Common.{◌<◌, ◌∙◌, arith, length, refl}
use Rattle.host.proofs.InputLaws.{KeepsFiles-itself, KeepsFiles-twice}
use Rattle.std.proofs.lemmas.List.{get_or_default}
use Rattle.creating.proofs.NewManifestLaws.{AreRead-all, AreRead-more, AreRead-none}
use Rattle.creating.proofs.new_components.read_components.Goals as goal

-- No file was read.
pub loop-place-init : goal.loop-place-init
loop-place-init g c = record {
  read = rw c.new-components.ensures (AreRead-none c.args.asked.now c.args.precursors.now _ _);
  files = KeepsFiles-itself (g.H.Host.file c.args.host.now);
  opened = refl;
}

-- One more file was read.
pub loop-place-preserved : goal.loop-place-preserved
loop-place-preserved g c =
    let asked = c.args.asked.now in
    let follow = c.args.precursors.now in
    let place = c.loop-place.place in
    let within = c.loop-place-test.true in
    let inside : place < length follow = omega (arith, within, c.requires.same) in
    let before = c.loop-place.invariant in
    record {
      read = rw c.push.ensures.items (AreRead-more asked follow place _ _ _ _ _ _ c.loop-place.components.items _ _ c.in_ok-component.component
          within inside (get_or_default asked place _ _ within) (get_or_default follow place _ _ inside)
          c.in_ok-component.ensures.read before.read);
      files = KeepsFiles-twice _ _ _ before.files c.in_ok-component.ensures.files;
      opened = c.in_ok-component.ensures.opened ∙ before.opened;
    }

-- All files were read.
pub returns-clause-read : goal.returns-clause-read
returns-clause-read g c = AreRead-all c.args.asked.now c.args.precursors.now c.loop-place.place _ _ _ _ c.loop-place.components.items
    (omega (arith, c.loop-place-test.false)) c.requires.same c.loop-place.invariant.read

-- A file could not be read.
pub returns-in_err-component-clause-files : goal.returns-in_err-component-clause-files
returns-in_err-component-clause-files g c =
    KeepsFiles-twice _ _ _ c.loop-place.invariant.files c.in_err-component.ensures.files

-- There were too many files.
pub returns-then-is_full-clause-files : goal.returns-then-is_full-clause-files
returns-then-is_full-clause-files g c =
    KeepsFiles-twice _ _ _ c.loop-place.invariant.files c.in_ok-component.ensures.files
