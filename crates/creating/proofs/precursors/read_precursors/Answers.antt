use Rattle.std.proofs.Common.{subst}
use Rattle.std.proofs.lemmas.Result.{IfOk-weaker}
use Rattle.device_texts.specs.FlashOf.{flash_of}
use Rattle.creating.specs.NewManifestSteps.{FindsNone, FindsPrecursors}
use Rattle.creating.proofs.NewManifestLaws.{flash_read, none_read}
use Rattle.creating.proofs.precursors.read_precursors.Goals as goal

-- No flash is given, and none was read.
pub returns-in_default-clause-read : goal.returns-in_default-clause-read
returns-in_default-clause-read g c = IfOk-weaker c.any_precursors.result _ _
    (λ found none. none_read c.args.map.now c.args.asked.now _ _ found c.in_default.is
    (subst (λ asked. FindsNone asked found) c.as_slice-components.ensures.value none))
    c.any_precursors.ensures

-- The flash was read.
pub returns-clause-read : goal.returns-clause-read
returns-clause-read g c = IfOk-weaker c.precursors_in.result _ _
    (λ found finds. flash_read c.args.map.now c.args.asked.now c.in-Some.flash c.named.result c.in_ok-bytes.bytes.items _ _ _ _ found c.in-Some.is
    c.named.ensures c.in_ok-bytes.ensures.bytes c.in_ok-bytes.ensures.others c.in_ok-bytes.ensures.whole
    (subst (λ asked. FindsPrecursors c.args.map.now (flash_of c.args.map.now c.in_ok-bytes.bytes.items) asked found) c.as_slice-components.ensures.value finds))
    c.precursors_in.ensures
