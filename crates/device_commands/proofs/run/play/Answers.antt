use Rattle.std.proofs.Common.{◌∙◌, ap}
use Rattle.flash_model.specs.Chip.{Chip}
use Rattle.inputs.specs.FileFlash.{OverFile}
use Rattle.device_texts.specs.FlashOf.{armed_in}
use Rattle.device_texts.proofs.ArmedLaws.{armed-chip}
use Rattle.device_commands.proofs.TellingLaws.{PlaysRun-made, TellsFirst-none}
use Rattle.device_commands.proofs.run.play.Goals as goal

-- The flash took no write yet.
pub arm_all-requires : goal.arm_all-requires
arm_all-requires g c = ap (λ (chip : Chip). chip.writes) c.flash_of-memory.ensures.chip

-- There was no memory for the cuts.
pub returns-in_default-clause-plays : goal.returns-in_default-clause-plays
returns-in_default-clause-plays g c = record {
  plays = tt;
  tells = TellsFirst-none c.args.run.options.form c.args.run.device.now c.args.run.bytes.items (armed_in c.args.run.cuts.items)
      c.args.run.text.now c.args.sources.now.buffered.now (g.H.Host.file c.args.sources.now.host.now) _;
}

-- The device was made over a flash of these bytes that is armed with these cuts.
pub returns-clause-plays : goal.returns-clause-plays
returns-clause-plays g c =
    let cuts = armed_in c.args.run.cuts.items in
    let armed = armed-chip _ _ c.args.run.device.now.map c.args.run.bytes.items cuts c.flash_of-memory.ensures.chip
    c.arm_all.ensures.chip c.in-Ok.ensures.armed in
    let made = c.over-flash.ensures.made in
    let device = c.with_trial-device.ensures in
    PlaysRun-made c.args.run.options.form c.args.run.options.is_strict c.args.run.device.now c.args.run.bytes.items cuts c.args.run.text.now
    c.args.sources.now.buffered.now (g.H.Host.file c.args.sources.now.host.now) _ _ _ _
    (record {
      flash = device.flash ∙ ap (λ (over : OverFile). over.chip) made ∙ ap (λ (chip : Chip). record chip { erases = 0 }) armed;
      down = device.down;
      closed = device.closed;
    })
    c.run_events.result (rw device.setup at c.run_events.ensures.all) (rw device.setup at c.run_events.ensures.some)
