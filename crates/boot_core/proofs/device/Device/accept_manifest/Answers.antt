use Rattle.std.proofs.Common.{◌+◌, refl, subst}
use Rattle.boot_core.specs.Calls.{TakesManifest}
use Rattle.boot_core.specs.Device.{Whole, made, seen}
use Rattle.boot_core.proofs.Wholes.{whole_of}
use Rattle.boot_core.proofs.device.Device.accept_manifest.Goals as goal

pub returns : goal.returns
returns g c =
    let boots = c.self.inside.left + 1 in
    let new = whole_of (made c.self.inside.map c.self.inside.identity boots)
    (seen (g.F.Flash.chip c.accept_manifest.new.flash) c.accept_manifest.new.uploads.sessions
    c.accept_manifest.new.is_booted) in
    subst (λ (whole : Whole). TakesManifest c.args.manifest.now whole new c.accept_manifest.result) c.self.view_is
    (record {
      setup = refl;
      steps = c.accept_manifest.ensures.steps boots;
      holds = c.accept_manifest.ensures.holds;
      outside = c.accept_manifest.ensures.outside;
      down = c.accept_manifest.ensures.down;
      unready = c.accept_manifest.ensures.unready;
      lacks = c.accept_manifest.ensures.lacks;
      repeats = c.accept_manifest.ensures.repeats;
      empty = c.accept_manifest.ensures.empty;
      refused = c.accept_manifest.ensures.refused;
      told = c.accept_manifest.ensures.told;
      kept = c.accept_manifest.ensures.kept;
      off = c.accept_manifest.ensures.off;
      ends = c.accept_manifest.ensures.ends;
    })
