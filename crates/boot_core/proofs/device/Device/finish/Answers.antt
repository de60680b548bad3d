use Rattle.std.proofs.Common.{◌+◌, subst}
use Rattle.machine.specs.declared.event.Event.TheVariants as event
use Rattle.sector_map.specs.Part.{incoming_of}
use Rattle.boot_core.specs.Calls.{FinishesUpload}
use Rattle.boot_core.specs.Device.{Whole, made, seen}
use Rattle.boot_core.proofs.Wholes.{device_call, whole_of}
use Rattle.boot_core.proofs.device.Device.finish.Goals as goal

pub returns : goal.returns
returns g c =
    let new = whole_of (made c.self.inside.map c.self.inside.identity (c.self.inside.left + 1))
    (seen (g.F.Flash.chip c.finish.new.flash) c.finish.new.uploads.sessions c.finish.new.is_booted) in
    subst (λ (whole : Whole). FinishesUpload c.args.image whole new c.finish.result) c.self.view_is (record {
      call = device_call (event.Finish c.args.image) (incoming_of c.args.image) _ _ _ _ _
          c.finish.result c.finish.ensures.call;
      size = c.finish.ensures.size;
      slot = c.finish.ensures.slot;
      unit = c.finish.ensures.unit;
      erases = c.finish.ensures.erases;
    })
