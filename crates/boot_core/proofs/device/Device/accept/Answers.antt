use Rattle.std.proofs.Common.{◌+◌, false, ap, refl, subst}
use Rattle.machine.specs.declared.event.Event.TheVariants as event
use Rattle.sector_map.specs.Part.{any_part}
use Rattle.boot_core.specs.Calls.{Takes}
use Rattle.boot_core.specs.Taking.{TouchesNamed}
use Rattle.boot_core.specs.Device.{Whole, made, seen}
use Rattle.flash_contents.specs.Holding.{DeviceView}
use Rattle.boot_core.proofs.Keeping.{if_err_as, keeps_unstopped}
use Rattle.boot_core.proofs.Wholes.{whole_of}
use Rattle.boot_core.proofs.device.Device.accept.Goals as goal

pub returns-clause-named : goal.returns-clause-named
returns-clause-named g c =
    let boots = c.self.inside.left + 1 in
    let new = whole_of (made c.self.inside.map c.self.inside.identity boots)
    (seen (g.F.Flash.chip c.accept.new.flash) c.accept.new.uploads.sessions c.accept.new.is_booted) in
    subst (λ (whole : Whole). TouchesNamed whole.setup.map whole.setup.identity c.args.text.now whole.here.flash
    new.here.flash) c.self.view_is c.accept.ensures.named

pub returns-clause-taken : goal.returns-clause-taken
returns-clause-taken g c =
    let boots = c.self.inside.left + 1 in
    let new = whole_of (made c.self.inside.map c.self.inside.identity boots)
    (seen (g.F.Flash.chip c.accept.new.flash) c.accept.new.uploads.sessions c.accept.new.is_booted) in
    subst (λ (whole : Whole). Takes (event.Accept c.args.text) any_part whole new c.accept.result) c.self.view_is
    (record {
      call = record {
        stepped = record {
          setup = refl;
          steps = c.accept.ensures.steps boots;
          outside = c.accept.ensures.outside;
          down = c.accept.ensures.down;
          off = c.accept.ensures.off;
          ends = c.accept.ensures.ends;
        };
        unready = c.accept.ensures.unready;
        up = if_err_as c.accept.result (λ fault kept own. ap (λ (d : DeviceView). d.up) (kept own)) c.accept.ensures.kept;
        kept = if_err_as c.accept.result (λ fault kept keeps. kept (keeps_unstopped false fault keeps))
            c.accept.ensures.kept;
      };
      refused = c.accept.ensures.refused;
    })
