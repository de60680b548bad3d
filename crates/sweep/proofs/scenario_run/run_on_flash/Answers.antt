use Rattle.std.proofs.Common.{◌∙◌, ap}
use Rattle.flash_model.specs.Chip.{Chip}
use Rattle.device_texts.specs.FlashOf.{armed_in}
use Rattle.device_texts.proofs.ArmedLaws.{armed-chip}
use Rattle.sweep.proofs.scenario_run.run_on_flash.Goals as goal

-- The flash took no write yet.
pub arm_all-requires : goal.arm_all-requires
arm_all-requires g c = ap (λ (chip : Chip). chip.writes) c.flash_of-flash.ensures.chip

-- The device was made over the armed flash, and took all events.
pub returns : goal.returns
returns g c =
    let armed = armed_in c.in_ok-cut_writes.field-0.items in
    let made = c.device_over-device.ensures in
    let over = made.flash ∙ armed-chip _ _ c.args.scenario.now.device.now.map c.args.scenario.now.bytes.now armed
    (rw c.in_ok-bytes.ensures.items at c.flash_of-flash.ensures.chip) c.arm_all.ensures.chip
    c.in_ok-arm_all.ensures.armed in
    let runs = rw made.setup at c.in_ok-notes.ensures.runs in
    record {
      armed = armed;
      old = c.device_over-device.result.here;
      new = c.run_all_events.new.device.here;
      are_armed = c.in_ok-cut_writes.ensures;
      flash = over;
      down = made.down;
      closed = made.closed;
      runs = runs;
      running = rw c.into_flash-flash.ensures.flash at c.running_versions-versions.ensures;
    }
