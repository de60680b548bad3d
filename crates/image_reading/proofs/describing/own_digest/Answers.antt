use Rattle.std.proofs.lemmas.Bool.{iff_false}
use Rattle.common.proofs.Results.{IfErr-passed}
use Rattle.image_reading.specs.Span.{bytes_of}
use Rattle.image_reading.proofs.FieldLaws.{SpellDigest-one, other_digest}
use Rattle.image_reading.proofs.describing.own_digest.Goals as goal

pub returns-in_err-value-clause-fault : goal.returns-in_err-value-clause-fault
returns-in_err-value-clause-fault g c =
    let chip = g.M.Medium.chip c.args.medium.now in
    λ values gathered. IfErr-passed _ _ _ c.from_residual.ensures.1
    (c.in_err-value.ensures.err chip values gathered (bytes_of chip c.args.hashed))

pub returns-then-not-is_digest-clause-fault : goal.returns-then-not-is_digest-clause-fault
returns-then-not-is_digest-clause-fault g c =
    let chip = g.M.Medium.chip c.args.medium.now in
    let is = rw c.digest-digest.ensures.same at c.is_digest.ensures.is in
    λ values gathered. other_digest values _ _ (bytes_of chip c.args.hashed)
    (c.in_ok-value.ensures.ok chip values gathered) c.digest-digest.ensures.digest
    (iff_false is c.if-not-is_digest.true)

pub returns-clause-entry : goal.returns-clause-entry
returns-clause-entry g c =
    let chip = g.M.Medium.chip c.args.medium.now in
    let is = rw c.digest-digest.ensures.same at c.is_digest.ensures.is in
    λ values gathered. SpellDigest-one values _ _ (bytes_of chip c.args.hashed)
    (c.in_ok-value.ensures.ok chip values gathered) c.digest-digest.ensures.digest (is.0 c.if-not-is_digest.false)
