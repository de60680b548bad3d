-- Laws about the texts of versions: a text is read as a version exactly if it is that version's
-- text.
use Rattle.std.proofs.Common.{◌≡◌, ℕ, ◌^◌, ◌<◌, ◌≤◌, ◌⊎◌, ◌++◌, List, ◌∷◌, Option, Some, None, refl, sym, ap, ◌∙◌, inl, inr, arith}
use Rattle.std.specs.Prelude.{decimal}
use Rattle.std.proofs.lemmas.Option.{option_and_then_some, none-some, same_Some}
use Rattle.common.specs.Ascii.{number_below, LacksByte, cut}
use Rattle.common.proofs.AsciiLaws.{number_below-decimal, number_below-spelled, LacksByte-append, LacksByte-decimal, cut-found, cut-missing, cut-parts, cut-whole}
use Rattle.version_order.proofs.OrderLaws.{version_from-parts}
use Rattle.version_order.specs.VersionText.{FitsFields, IsVersionText, version_from, part_at, build_at, revision_at, minor_at, version_of}
use Rattle.version_order.specs.declared.version.Version.{Version}

-- A number is read with its separator and the text after it, or alone.
part_at-more : (limit separator n : ℕ) (next : ℕ → Option (List ℕ) → Option Version) (after : List ℕ)
    → n < limit → n < 2 ^ 32 → separator < 48
    → part_at limit separator next (decimal n ++ separator ∷ after) ≡ next n (Some after)
part_at-more limit separator n next after below fits low =
    let lacks = LacksByte-decimal separator n (omega arith) low in
    rw (cut-found separator (decimal n) after lacks, number_below-decimal limit n below fits) refl

part_at-last : (limit separator n : ℕ) (next : ℕ → Option (List ℕ) → Option Version)
    → n < limit → n < 2 ^ 32 → separator < 48
    → part_at limit separator next (decimal n) ≡ next n None
part_at-last limit separator n next below fits low =
    let lacks = LacksByte-decimal separator n (omega arith) low in
    rw (cut-missing separator (decimal n) lacks, number_below-decimal limit n below fits) refl

version_of-more : (major : ℕ) (after : List ℕ) → major < 2 ^ 8
    → version_of (decimal major ++ 46 ∷ after) ≡ minor_at major (Some after)
unfolding version_of
version_of-more major after fits = part_at-more (2 ^ 8) 46 major minor_at after fits (omega arith) (omega arith)

version_of-last : (major : ℕ) → major < 2 ^ 8 → version_of (decimal major) ≡ minor_at major None
unfolding version_of
version_of-last major fits = part_at-last (2 ^ 8) 46 major minor_at fits (omega arith) (omega arith)

minor_at-more : (major minor : ℕ) (after : List ℕ) → minor < 2 ^ 8
    → minor_at major (Some (decimal minor ++ 46 ∷ after)) ≡ revision_at major minor (Some after)
minor_at-more major minor after fits =
    part_at-more (2 ^ 8) 46 minor (revision_at major) after fits (omega arith) (omega arith)

minor_at-last : (major minor : ℕ) → minor < 2 ^ 8
    → minor_at major (Some (decimal minor)) ≡ revision_at major minor None
minor_at-last major minor fits =
    part_at-last (2 ^ 8) 46 minor (revision_at major) fits (omega arith) (omega arith)

revision_at-more : (major minor revision : ℕ) (after : List ℕ) → revision < 2 ^ 16
    → revision_at major minor (Some (decimal revision ++ 43 ∷ after)) ≡ build_at major minor revision (Some after)
revision_at-more major minor revision after fits =
    part_at-more (2 ^ 16) 43 revision (build_at major minor) after fits (omega arith) (omega arith)

revision_at-last : (major minor revision : ℕ) → revision < 2 ^ 16
    → revision_at major minor (Some (decimal revision)) ≡ build_at major minor revision None
revision_at-last major minor revision fits =
    part_at-last (2 ^ 16) 43 revision (build_at major minor) fits (omega arith) (omega arith)

build_at-last : (major minor revision build : ℕ) → build < 2 ^ 32
    → build_at major minor revision (Some (decimal build)) ≡ Some (version_from major minor revision build)
build_at-last major minor revision build fits = rw (number_below-decimal (2 ^ 32) build fits fits) refl

-- The result if a version is read.
abbrev answer : Version → Option Version
answer version = Some version

-- A text of a version is read as that version.
pub version_of-text : (text : List ℕ) (version : Version) → IsVersionText text version
    → version_of text ≡ Some version
version_of-text text version (fits, inl whole) =
    let after_minor = decimal version.revision ++ 43 ∷ decimal version.build in
    rw whole (version_of-more version.major (decimal version.minor ++ 46 ∷ after_minor) fits.major
    ∙ minor_at-more version.major version.minor after_minor fits.minor
    ∙ revision_at-more version.major version.minor version.revision (decimal version.build) fits.revision
    ∙ build_at-last version.major version.minor version.revision version.build fits.build)
version_of-text text version (fits, inr (inl (no_build, short))) =
    rw short (version_of-more version.major (decimal version.minor ++ 46 ∷ decimal version.revision) fits.major
    ∙ minor_at-more version.major version.minor (decimal version.revision) fits.minor
    ∙ revision_at-last version.major version.minor version.revision fits.revision
    ∙ ap answer
    (version_from-parts version.major version.minor version.revision 0 version refl refl refl (sym no_build)))
version_of-text text version (fits, inr (inr (inl (no_revision, no_build, short)))) =
    rw short (version_of-more version.major (decimal version.minor) fits.major
    ∙ minor_at-last version.major version.minor fits.minor
    ∙ ap answer (version_from-parts version.major version.minor 0 0 version refl refl (sym no_revision) (sym no_build)))
version_of-text text version (fits, inr (inr (inr (no_minor, no_revision, no_build, short)))) =
    rw short (version_of-last version.major fits.major
    ∙ ap answer (version_from-parts version.major 0 0 0 version refl (sym no_minor) (sym no_revision) (sym no_build)))

-- A number, with its separator and the text after it, or alone.
abbrev part_text : ℕ → ℕ → Option (List ℕ) → List ℕ
part_text separator n None = decimal n
part_text separator n (Some after) = decimal n ++ separator ∷ after

-- A text that is split is the part before the separator, the separator and the part after it.
part_text-cut : (separator : ℕ) (text : List ℕ) (n : ℕ) → (cut separator text).0 ≡ decimal n
    → text ≡ part_text separator n (cut separator text).1
part_text-cut separator text n front =
    elim (cut separator text).1 as (λ o. (cut separator text).1 ≡ o → text ≡ part_text separator n o) [
      | None ↦ λ missing. cut-whole separator text missing ∙ front
      | Some after ↦ λ found. rw front at (cut-parts separator text after found)
    ] refl

-- A part that was read: the number, the text after its separator, and the version that was made
-- from both.
record SpellsPart (limit separator : ℕ) (next : ℕ → Option (List ℕ) → Option Version) (text : List ℕ)
    (version : Version) : Type 0 where
  number : ℕ
  rest : Option (List ℕ)
  below : number < limit
  spelled : text ≡ part_text separator number rest
  made : next number rest ≡ Some version

part_at-spelled : (limit separator : ℕ) (next : ℕ → Option (List ℕ) → Option Version) (text : List ℕ)
    (version : Version) → part_at limit separator next text ≡ Some version
    → SpellsPart limit separator next text version
part_at-spelled limit separator next text version read =
    let parts = cut separator text in
    option_and_then_some (λ number. next number parts.1) (number_below limit parts.0) version read
    (λ number first made.
    let spelled = number_below-spelled limit parts.0 number first in
    record {
      number = number;
      rest = parts.1;
      below = spelled.1;
      spelled = part_text-cut separator text number spelled.0;
      made = made;
    })

-- A version that was read part by part: the numbers before, and the text of those that follow.
record SpellsBuild (major minor revision : ℕ) (rest : Option (List ℕ)) (version : Version) : Type 0 where
  same_major : version.major ≡ major
  same_minor : version.minor ≡ minor
  same_revision : version.revision ≡ revision
  build_fits : version.build < 2 ^ 32
  spelled : (rest ≡ Some (decimal version.build)) ⊎ ((version.build ≡ 0) × (rest ≡ None))

-- The parts of a version that was made from them.
SpellsBuild-made : (major minor revision build : ℕ) (rest : Option (List ℕ)) (version : Version)
    → Some (version_from major minor revision build) ≡ Some version → build < 2 ^ 32
    → (rest ≡ Some (decimal build)) ⊎ ((build ≡ 0) × (rest ≡ None))
    → SpellsBuild major minor revision rest version
SpellsBuild-made major minor revision build rest version made fits spelled =
    let same = same_Some (version_from major minor revision build) version made in
    let last : build ≡ version.build = ap (λ (v : Version). v.build) same in
    record {
      same_major = sym (ap (λ (v : Version). v.major) same);
      same_minor = sym (ap (λ (v : Version). v.minor) same);
      same_revision = sym (ap (λ (v : Version). v.revision) same);
      build_fits = omega (arith, last, fits);
      spelled = rw last at spelled;
    }

build_at-spelled : (major minor revision : ℕ) (rest : Option (List ℕ)) (version : Version)
    → build_at major minor revision rest ≡ Some version → SpellsBuild major minor revision rest version
build_at-spelled major minor revision None version read =
    SpellsBuild-made major minor revision 0 None version read (omega arith) (inr (refl, refl))
build_at-spelled major minor revision (Some text) version read =
    let from = λ (build : ℕ). Some (version_from major minor revision build) in
    option_and_then_some from (number_below (2 ^ 32) text) version read
    (λ build first made.
    let number = number_below-spelled (2 ^ 32) text build first in
    let spelled = ap (λ (t : List ℕ). Some t) number.0 in
    SpellsBuild-made major minor revision build (Some text) version made number.1 (inl spelled))

record SpellsRevision (major minor : ℕ) (rest : Option (List ℕ)) (version : Version) : Type 0 where
  same_major : version.major ≡ major
  same_minor : version.minor ≡ minor
  revision_fits : version.revision < 2 ^ 16
  build_fits : version.build < 2 ^ 32
  spelled : (rest ≡ Some (decimal version.revision ++ 43 ∷ decimal version.build))
      ⊎ (((version.build ≡ 0) × (rest ≡ Some (decimal version.revision)))
      ⊎ ((version.revision ≡ 0) × (version.build ≡ 0) × (rest ≡ None)))

revision_at-spelled : (major minor : ℕ) (rest : Option (List ℕ)) (version : Version)
    → revision_at major minor rest ≡ Some version → SpellsRevision major minor rest version
revision_at-spelled major minor None version read =
    let found = build_at-spelled major minor 0 None version read in
    elim found.spelled [
      | inl more ↦ absurd (none-some _ more)
      | inr last ↦ record {
        same_major = found.same_major;
        same_minor = found.same_minor;
        revision_fits = omega (arith, found.same_revision);
        build_fits = found.build_fits;
        spelled = inr (inr (found.same_revision, last.0, refl));
      }
    ]
revision_at-spelled major minor (Some text) version read =
    let part = part_at-spelled (2 ^ 16) 43 (build_at major minor) text version read in
    let found = build_at-spelled major minor part.number part.rest version part.made in
    let spelled = ap (λ (t : List ℕ). Some t) (rw (← found.same_revision) at part.spelled) in
    record {
      same_major = found.same_major;
      same_minor = found.same_minor;
      revision_fits = omega (arith, found.same_revision, part.below);
      build_fits = found.build_fits;
      spelled = elim found.spelled [
        | inl more ↦ inl (rw more at spelled)
        | inr last ↦ inr (inl (last.0, rw last.1 at spelled))
      ];
    }

record SpellsMinor (major : ℕ) (rest : Option (List ℕ)) (version : Version) : Type 0 where
  same_major : version.major ≡ major
  minor_fits : version.minor < 2 ^ 8
  revision_fits : version.revision < 2 ^ 16
  build_fits : version.build < 2 ^ 32
  spelled : (rest ≡ Some (decimal version.minor ++ 46 ∷ (decimal version.revision ++ 43 ∷ decimal version.build)))
      ⊎ (((version.build ≡ 0) × (rest ≡ Some (decimal version.minor ++ 46 ∷ decimal version.revision)))
      ⊎ (((version.revision ≡ 0) × (version.build ≡ 0) × (rest ≡ Some (decimal version.minor)))
      ⊎ ((version.minor ≡ 0) × (version.revision ≡ 0) × (version.build ≡ 0) × (rest ≡ None))))

minor_at-spelled : (major : ℕ) (rest : Option (List ℕ)) (version : Version)
    → minor_at major rest ≡ Some version → SpellsMinor major rest version
minor_at-spelled major None version read =
    let found = revision_at-spelled major 0 None version read in
    let zeros : (version.revision ≡ 0) × (version.build ≡ 0) = elim found.spelled [
      | inl more ↦ absurd (none-some _ more)
      | inr short ↦ elim short [
        | inl more ↦ absurd (none-some _ more.1)
        | inr last ↦ (last.0, last.1)
      ]
    ] in
    record {
      same_major = found.same_major;
      minor_fits = omega (arith, found.same_minor);
      revision_fits = found.revision_fits;
      build_fits = found.build_fits;
      spelled = inr (inr (inr (found.same_minor, zeros.0, zeros.1, refl)));
    }
minor_at-spelled major (Some text) version read =
    let part = part_at-spelled (2 ^ 8) 46 (revision_at major) text version read in
    let found = revision_at-spelled major part.number part.rest version part.made in
    let spelled = ap (λ (t : List ℕ). Some t) (rw (← found.same_minor) at part.spelled) in
    record {
      same_major = found.same_major;
      minor_fits = omega (arith, found.same_minor, part.below);
      revision_fits = found.revision_fits;
      build_fits = found.build_fits;
      spelled = elim found.spelled [
        | inl more ↦ inl (rw more at spelled)
        | inr short ↦ elim short [
          | inl more ↦ inr (inl (more.0, rw more.1 at spelled))
          | inr last ↦ inr (inr (inl (last.0, last.1, rw last.2 at spelled)))
        ]
      ];
    }

-- The version that is read from a text is the text's version.
pub version_of-spelled : (text : List ℕ) (version : Version) → version_of text ≡ Some version
    → IsVersionText text version
unfolding version_of
version_of-spelled text version read =
    let part = part_at-spelled (2 ^ 8) 46 minor_at text version read in
    let found = minor_at-spelled part.number part.rest version part.made in
    let spelled = rw (← found.same_major) at part.spelled in
    let fits : FitsFields version = record {
      major = omega (arith, found.same_major, part.below);
      minor = found.minor_fits;
      revision = found.revision_fits;
      build = found.build_fits;
    } in (
      fits,
      elim found.spelled [
        | inl more ↦ inl (rw more at spelled)
        | inr short ↦ elim short [
          | inl more ↦ inr (inl (more.0, rw more.1 at spelled))
          | inr shorter ↦ elim shorter [
            | inl more ↦ inr (inr (inl (more.0, more.1, rw more.2 at spelled)))
            | inr last ↦ inr (inr (inr (last.0, last.1, last.2, rw last.3 at spelled)))
          ]
        ]
      ],
    )

-- A number and a separator, followed by a text that lacks the byte, lack the byte.
LacksByte-part : (byte n separator : ℕ) (after : List ℕ) → byte < 43 → n < 2 ^ 32 → 43 ≤ separator
    → LacksByte byte after → LacksByte byte (decimal n ++ separator ∷ after)
LacksByte-part byte n separator after low fits high lacks =
    let digits = LacksByte-decimal byte n (omega arith) (omega arith) in
    LacksByte-append byte (decimal n) (separator ∷ after) digits (λ e. omega arith, lacks)

-- The text of a version has only digits, full stops and a plus sign, and so no byte below 43.
pub LacksByte-version : (byte : ℕ) (text : List ℕ) (version : Version) → byte < 43 → IsVersionText text version
    → LacksByte byte text
LacksByte-version byte text version low (fits, spelled) =
    let number = λ (n : ℕ) (h : n < 2 ^ 32). LacksByte-decimal byte n (omega arith) (omega arith) in
    let dotted = λ (n : ℕ) (after : List ℕ) (h : n < 2 ^ 8).
    LacksByte-part byte n 46 after low (omega arith) (omega arith) in
    let minor : version.minor < 2 ^ 32 = omega (arith, fits.minor) in
    let revision : version.revision < 2 ^ 32 = omega (arith, fits.revision) in
    let build = number version.build fits.build in
    let built = LacksByte-part byte version.revision 43 _ low revision (omega arith) build in
    elim spelled [
      | inl e ↦ rw e (dotted version.major _ fits.major (dotted version.minor _ fits.minor built))
      | inr e ↦ elim e [
        | inl f ↦
            let last = number version.revision revision in
            rw f.1 (dotted version.major _ fits.major (dotted version.minor _ fits.minor last))
        | inr f ↦ elim f [
          | inl g ↦ rw g.2 (dotted version.major _ fits.major (number version.minor minor))
          | inr g ↦ rw g.3 (number version.major (omega (arith, fits.major)))
        ]
      ]
    ]
