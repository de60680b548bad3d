use Rattle.std.proofs.Common.{◌+◌, refl, subst}
use Rattle.boot_core.specs.Calls.{BootsDevice}
use Rattle.boot_core.specs.Device.{Whole, made, seen}
use Rattle.boot_core.specs.Answers.{reply_of_boot}
use Rattle.boot_core.proofs.OnMap.{layout_keeps}
use Rattle.boot_core.proofs.Steps.{boot_sound}
use Rattle.boot_core.proofs.Wholes.{whole_of}
use Rattle.boot_core.proofs.device.Device.boot.Goals as goal

pub returns : goal.returns
returns g c =
    let booted = c.boot_device.ensures in
    let new = whole_of (made c.self.inside.map c.self.inside.identity (c.self.inside.left + 1))
    (seen (g.F.Flash.chip c.boot_device.new.flash) c.boot_device.new.uploads.sessions c.boot_device.new.is_booted) in
    subst (λ (whole : Whole). BootsDevice whole new c.boot_device.result) c.self.view_is (record {
      setup = refl;
      steps = booted.steps c.self.inside.identity;
      ok = booted.ok;
      up = booted.up;
      told = booted.told;
      answers = booted.answers;
      empty = booted.empty;
      refused = booted.refused;
      erases = booted.erases;
      outside = layout_keeps booted.layout;
      journal = booted.journal;
      starts = booted.starts;
      fits = λ on m holds all answers. boot_sound (made c.self.inside.map c.self.inside.identity (c.self.inside.left + 1))
          _ _ (reply_of_boot c.boot_device.result) (booted.steps c.self.inside.identity on) booted.up answers m holds all;
      idle = booted.idle;
      over = booted.over;
      again = booted.again;
      off = booted.off;
      stops = booted.stops;
      closed = booted.closed;
      ends = booted.ends;
    })
