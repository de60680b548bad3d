use Rattle.std.proofs.Common.{◌+◌, subst}
use Rattle.machine.specs.declared.event.Event.TheVariants as event
use Rattle.sector_map.specs.Part.{TrailerOf, only}
use Rattle.sector_map.specs.declared.layout.Side.TheVariants.{Primary}
use Rattle.boot_core.specs.Calls.{ConfirmsTried}
use Rattle.boot_core.specs.Device.{Whole, made, seen}
use Rattle.boot_core.proofs.Wholes.{device_steps, whole_of}
use Rattle.boot_core.proofs.device.Device.confirm.Goals as goal

pub returns : goal.returns
returns g c =
    let new = whole_of (made c.self.inside.map c.self.inside.identity (c.self.inside.left + 1))
    (seen (g.F.Flash.chip c.confirm_on.new.flash) c.confirm_on.new.uploads.sessions c.confirm_on.new.is_booted) in
    subst (λ (whole : Whole). ConfirmsTried c.args.image whole new c.confirm_on.result) c.self.view_is (record {
      stepped = device_steps (event.Confirm c.args.image) (only (TrailerOf c.args.image Primary)) _ _ _ _ _
          c.confirm_on.result c.confirm_on.ensures.here;
      refused = c.confirm_on.ensures.refused;
      kept = c.confirm_on.ensures.kept;
      ok = c.confirm_on.ensures.ok;
      interrupted = c.confirm_on.ensures.interrupted;
      untried = c.confirm_on.ensures.untried;
      tried = c.confirm_on.ensures.tried;
    })
