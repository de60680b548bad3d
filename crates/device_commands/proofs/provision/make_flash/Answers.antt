use Rattle.std.proofs.Common.{ℕ, List, length, subst}
use Rattle.flash_model.specs.Memory.{chip_of}
use Rattle.boot_core.specs.Provisioned.{IsProvisioned, RefusesMaking}
use Rattle.host.specs.Input.{IsKnownAs}
use Rattle.device_commands.specs.ProvisionEnd.{MayReplace}
use Rattle.device_commands.proofs.provision.make_flash.Goals as goal

-- The refused flash is the one of the bytes.
pub returns-in-Err-clause-made : goal.returns-in-Err-clause-made
returns-in-Err-clause-made g c =
    let map = c.args.map.now in
    let new = chip_of c.provision.new.flash in
    (new, subst (λ chip. RefusesMaking map chip new c.in-Err.fault) c.flash_of-flash.ensures.chip c.in-Err.ensures.all.refused)

-- The file holds the bytes of the flash that was provisioned.
pub returns-clause-made : goal.returns-clause-made
returns-clause-made g c =
    let map = c.args.map.now in
    let new = chip_of c.provision.new.flash in
    let name = c.args.file.flash.name.now in
    let held = g.H.Host.file c.replace.new.host name in
    let was = g.H.Host.file c.args.host.now name in
    let forced = c.args.file.flash.is_forced in (
      new,
      subst (λ chip. IsProvisioned map chip new) c.flash_of-flash.ensures.chip c.in_default.ensures.all.ok,
      subst (λ (bytes : List ℕ). IsKnownAs held bytes) c.bytes.ensures c.in_ok-replace.ensures.done,
      subst (λ (bytes : List ℕ). MayReplace forced (length bytes) was) c.bytes.ensures c.in_ok-replace.ensures.replaces,
    )
