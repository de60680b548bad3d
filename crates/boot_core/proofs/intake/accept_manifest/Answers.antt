use Rattle.std.proofs.Common.{refl}
use Rattle.std.proofs.lemmas.Bool.{false≢true}
use Rattle.boot_core.proofs.Opening.{can_open, manifest_declined, manifest_empty, manifest_lacks, manifest_opened, manifest_repeats}
use Rattle.boot_core.proofs.intake.accept_manifest.Goals as goal

pub returns-in_err-ready : goal.returns-in_err-ready
returns-in_err-ready g c = manifest_declined _ _ _ _ _ c.in_err-ready.ensures c.requires.laid_out c.requires.opens
    c.args.manifest.now _ c.from_residual.ensures.1

pub returns-then-not-names_images : goal.returns-then-not-names_images
returns-then-not-names_images g c = manifest_lacks _ c.args.identity.now _ _ c.in_ok-ready.ensures c.args.manifest.now
    (λ names. false≢true (c.if-not-names_images.ensures.1 names)) c.requires.laid_out c.requires.opens

pub returns-then-not-names_each_once : goal.returns-then-not-names_each_once
returns-then-not-names_each_once g c = manifest_repeats _ c.args.identity.now _ _ c.in_ok-ready.ensures c.args.manifest.now
    (c.if-not-names_images.ensures.0 refl) (λ once. false≢true (c.if-not-names_each_once.ensures.1 once))
    c.requires.laid_out c.requires.opens

pub returns-then-has_no_component : goal.returns-then-has_no_component
returns-then-has_no_component g c = manifest_empty _ c.args.identity.now _ _ c.in_ok-ready.ensures c.args.manifest.now
    (c.if-not-names_images.ensures.0 refl) (c.if-not-names_each_once.ensures.0 refl)
    (c.if-has_no_component.ensures.0 refl) c.requires.laid_out c.requires.opens

pub returns : goal.returns
returns g c = manifest_opened _ _ _ _ c.in_ok-ready.ensures _ _ _ (c.if-not-names_images.ensures.0 refl)
    (c.if-not-names_each_once.ensures.0 refl) (λ none. false≢true (c.if-has_no_component.ensures.1 none))
    c.open_uploads.ensures

pub open_uploads-requires : goal.open_uploads-requires
open_uploads-requires g c = can_open _ _ _ _ c.in_ok-ready.ensures _ c.requires.laid_out c.requires.images
    c.requires.opens (c.if-not-names_images.ensures.0 refl)
