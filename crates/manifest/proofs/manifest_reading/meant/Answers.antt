use Rattle.std.proofs.Common.{refl}
use Rattle.std.proofs.lemmas.Bool.{false≢true}
use Rattle.manifest.proofs.manifest_reading.meant.Goals as goal

pub returns-then-not-name_images_below-clause-fault :
    goal.returns-then-not-name_images_below-clause-fault
returns-then-not-name_images_below-clause-fault c = (
  c.in_ok-manifest.manifest,
  c.in_ok-manifest.ensures.meets,
  λ below. false≢true (c.if-not-name_images_below.ensures.1 (rw c.as_slice.ensures.value below)),
)

pub returns-then-not-name_each_once-clause-fault :
    goal.returns-then-not-name_each_once-clause-fault
returns-then-not-name_each_once-clause-fault c =
    let images = rw c.as_slice.ensures.value at (c.if-not-name_images_below.ensures.0 refl) in (
      c.in_ok-manifest.manifest,
      (c.in_ok-manifest.ensures.meets, images),
      λ once. false≢true (c.if-not-name_each_once.ensures.1 (rw c.as_slice-2.ensures.value once)),
    )

pub returns-clause-means : goal.returns-clause-means
returns-clause-means c =
    let meets = c.in_ok-manifest.ensures.meets in
    record {
      keys = meets.0.0.0;
      spelled = meets.0.0.1;
      vendor = meets.0.1;
      class = meets.1;
      images = rw c.as_slice.ensures.value at (c.if-not-name_images_below.ensures.0 refl);
      once = rw c.as_slice-2.ensures.value at (c.if-not-name_each_once.ensures.0 refl);
    }
