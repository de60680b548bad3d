use Rattle.std.proofs.Common.{◌≡◌, ◌%◌, ◌∷◌, [], ◌∙◌, ap, arith, refl}
use Rattle.std.proofs.Math.Nat.{mod-eq_of_lt}
use Rattle.byteorder.specs.Endian.{little_bytes}
use Rattle.image_reading.specs.Fields.{FitsDependency}
use Rattle.tlv.proofs.MakingSteps.{little_bytes-byte}
use Rattle.tlv.proofs.make.entries.dependency_bytes.Goals as goal

pub returns : goal.returns
returns c =
    let dependency = c.args.dependency.now in
    let fits : FitsDependency dependency =
    record {
      image = omega arith;
      minimum = record { major = omega arith; minor = omega arith; revision = omega arith; build = omega arith };
    } in
    let image : c.to_le_bytes-image.result ≡ dependency.image ∷ 0 ∷ 0 ∷ 0 ∷ [] =
    c.to_le_bytes-image.ensures ∙ ap (little_bytes 4) c.from.ensures ∙ little_bytes-byte dependency.image fits.image in
    let major : dependency.minimum.major % 256 ≡ dependency.minimum.major = mod-eq_of_lt fits.minimum.major in
    let minor : dependency.minimum.minor % 256 ≡ dependency.minimum.minor = mod-eq_of_lt fits.minimum.minor in
    record {
      spelled = rw (
        image,
        c.to_le_bytes-major.ensures,
        c.to_le_bytes-minor.ensures,
        c.to_le_bytes-revision.ensures,
        c.to_le_bytes-build.ensures,
        major,
        minor,
      ) refl;
      fits = fits;
    }
