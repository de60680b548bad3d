use Rattle.std.proofs.Common.{◌≡◌, ◌≤◌, ℕ, length, slice_index}
use Rattle.machine.specs.Device.{DeviceState}
use Rattle.upload.specs.View.{view}
use Rattle.machine.specs.States.{IsRaised}
use Rattle.flash_contents.specs.Reading.{RunsAt}
use Rattle.boot_core.proofs.trial.raise_running.Given as goal

abbrev pub invariant-loop-image : goal.invariant-loop-image
invariant-loop-image g l = record {
  few : l.map.images ≤ 8;
  size : length l.raised ≡ 8;
  same : g.F.Flash.chip l.flash ≡ g.F.Flash.chip l.initial.flash;
  raises : (s : DeviceState) → RunsAt (view l.map (g.F.Flash.chip l.initial.flash)) s → s.floors ≡ l.floors
      → IsRaised l.image s.running s.floors l.raised;
  rest : (i : ℕ) → l.map.images ≤ i → slice_index l.raised i ≡ slice_index l.floors i;
}
