-- The text of a key is read back as what the key says.
use Rattle.std.proofs.Common.{◌≡◌, ℕ, zero, suc, ◌+◌, ◌^◌, ◌<◌, ◌≤◌, Bool, true, false, List, [], ◌∷◌, ◌++◌, length, Option, Some, None, codes, decimal, append_assoc, append-nil, ap, arith, refl, sym, subst, rules, ◌∙◌, inl, inr}
use Rattle.std.proofs.lemmas.Bool.{cases_Bool}
use Rattle.std.proofs.lemmas.Option.{none-some}
use Rattle.std.specs.Cmp.Lexicographic.{bytes_decides}
use Rattle.std.specs.List.{AllByRecursion}
use Rattle.std.specs.Prelude.{if◌then◌else◌}
use Rattle.std.specs.Str.{bytes_eq}
use Rattle.common.specs.Ascii.{LacksByte, cut, number_below}
use Rattle.common.specs.Lines.{◌␣◌}
use Rattle.common.proofs.AsciiLaws.{LacksByte-decimal, cut-found, cut-missing, number_below-decimal}
use Rattle.reports.specs.DependencyText.{AreAlternativesText}
use Rattle.reports.specs.LineReading.{alternative_of, more_alternatives, reason_of, refuse_line_of, report_line_of}
use Rattle.reports.specs.ReportText.{FitsReason, reason_text}
use Rattle.reports.specs.declared.report.Reason.{Reason}
use Rattle.reports.specs.declared.report.ReportedImage.{ReportedImage}
use Rattle.reports.specs.declared.report_line.ReportLine.TheVariants as line
use Rattle.reports.proofs.LineLaws.{report_line_of-text, report_line_text-said}
use Rattle.version_order.specs.VersionText.{FitsFields, IsVersionText, version_of, version_text}
use Rattle.version_order.specs.declared.dependency.Dependency.{Dependency}
use Rattle.version_order.specs.declared.version.Version.{Version}
use Rattle.version_order.proofs.VersionTexts.{LacksByte-version, version_of-text}
use Rattle.inspecting.specs.Key.{key_text}
use Rattle.inspecting.specs.KeySaid.{FitsKey, said_by, taken_from_set}
use Rattle.inspecting.specs.RowKey.{refusal_of, refuse_key_of, row_key_of, take_key_of, versioned_of}
use Rattle.inspecting.specs.Summary.{take_key, taken_images}
use Rattle.inspecting.specs.declared.fleet.key.Key.{Key}
use Rattle.inspecting.specs.declared.fleet.key.Key.TheVariants as key
use Rattle.inspecting.specs.declared.fleet.row_key.RowKey.TheVariants as said

-- ---- sets

-- The fields after the space with which a text begins, or `None` if the text is empty.
abbrev fields_of : List ℕ → Option (List ℕ)
fields_of [] = None
fields_of (b ∷ bs) = Some bs

-- A version ends before the images after it.
cut-before : (spelled rest : List ℕ) (version : Version) (images : List Dependency)
    → IsVersionText spelled version → AreAlternativesText rest images
    → cut 32 (spelled ++ rest) ≡ (spelled, fields_of rest)
unfolding AreAlternativesText
cut-before spelled rest version [] says is =
    let lacks = LacksByte-version 32 spelled version (omega arith) says in
    rw (is, append-nil spelled) (cut-missing 32 spelled lacks)
cut-before spelled rest version (image ∷ images) says (small, next, more, next_says, others, is) =
    rw is (cut-found 32 spelled ((decimal image.image ␣ next) ++ more)
    (LacksByte-version 32 spelled version (omega arith) says))

image-read : (image : Dependency) (spelled : List ℕ) → image.image < 2 ^ 8 → IsVersionText spelled image.minimum
    → alternative_of (decimal image.image) spelled ≡ Some image
unfolding alternative_of
image-read image spelled small says =
    rw (number_below-decimal (2 ^ 8) image.image small (omega arith), version_of-text spelled image.minimum says) refl

-- The images of a text are read after those before them, if there are at most `room`.
images-read : (room : ℕ) (before : List Dependency) (text : List ℕ) (images : List Dependency)
    → AreAlternativesText text images → length images ≤ room
    → more_alternatives room before (fields_of text) ≡ Some (before ++ images)
unfolding AreAlternativesText more_alternatives
images-read room before text [] is few = rw (is, append-nil before) refl
images-read zero before text (image ∷ images) is few = absurd (omega arith)
images-read (suc room) before text (image ∷ images) (small, spelled, rest, says, others, is) few =
    rw (
      is,
      append_assoc (decimal image.image) (32 ∷ spelled) rest,
      cut-found 32 (decimal image.image) (spelled ++ rest)
          (LacksByte-decimal 32 image.image (omega arith) (omega arith)),
      cut-before spelled rest image.minimum images says others,
      image-read image spelled small says,
    )
    (images-read room (before ++ image ∷ []) rest images others (omega arith)
    ∙ ap (λ found. Some found) (append_assoc before (image ∷ []) images))

-- The text of a set is that of its images.
set-said : (n : ℕ) (images : List ReportedImage) → n + length images ≤ 256
    → AllByRecursion (λ image. FitsFields image.version) images
    → AreAlternativesText (taken_images n images) (taken_from_set n images)
unfolding AreAlternativesText
set-said n [] few fit = refl
set-said n (image ∷ images) few fit =
    let others = set-said (n + 1) images (omega (arith, few)) fit.1 in
    let small : n < 2 ^ 8 = omega (arith, few) in
    elim (cases_Bool image.is_taken) [
      | inl is ↦ rw is (
        small,
        version_text image.version,
        taken_images (n + 1) images,
        (fit.0, inl refl),
        others,
        refl,
      )
      | inr not ↦ rw not others
    ]

set-few : (n : ℕ) (images : List ReportedImage) → length (taken_from_set n images) ≤ length images
set-few n [] = omega arith
set-few n (image ∷ images) =
    let others = set-few (n + 1) images in
    elim (cases_Bool image.is_taken) [
      | inl is ↦ rw is (omega (arith, others))
      | inr not ↦ rw not (omega (arith, others))
    ]

-- The first word of the key of a set.
set-cut : (text : List ℕ) (images : List Dependency) → AreAlternativesText text images
    → cut 32 (codes "take" ++ text) ≡ (codes "take", fields_of text)
unfolding AreAlternativesText cut
set-cut text [] is = rw is refl
set-cut text (image ∷ images) (small, spelled, rest, says, others, is) = rw is refl

set-begins : (text : List ℕ) → (cut 32 (codes "take" ++ text)).0 ≡ codes "take"
    → row_key_of (codes "take" ++ text) ≡ take_key_of (cut 32 (codes "take" ++ text)).1
unfolding row_key_of
set-begins text first = rw first refl

set-read : (images : List ReportedImage) → length images ≤ 8
    → AllByRecursion (λ image. FitsFields image.version) images
    → row_key_of (take_key images) ≡ said.Take (record { items = taken_from_set 0 images })
set-read images few fit =
    let text = taken_images 0 images in
    let said = set-said 0 images (omega (arith, few)) fit in
    let words = set-cut text (taken_from_set 0 images) said in
    let read = images-read 8 [] text (taken_from_set 0 images) said (omega (arith, few, set-few 0 images)) in
    set-begins text (ap (λ w. w.0) words) ∙ rw (words, read) refl

-- ---- refused requests

-- A text with a full stop (46) is no text without one.
dotted : (before after word : List ℕ) → LacksByte 46 before → LacksByte 46 word
    → bytes_eq (before ++ 46 ∷ after) word ≡ false
dotted before after word lacks plain = elim (cases_Bool (bytes_eq (before ++ 46 ∷ after) word)) [
  | inl same ↦
      let is = (bytes_decides (before ++ 46 ∷ after) word).0 same in
      let found = ap (λ c. c.1) (cut-found 46 before after lacks) in
      let missing = ap (λ c. c.1) (cut-missing 46 word plain) in
      absurd (none-some after (sym missing ∙ ap (λ t. (cut 46 t).1) (sym is) ∙ found))
  | inr differs ↦ differs
]

-- A version is no word without a full stop, whatever follows it.
version-no_word : (version : Version) (more word : List ℕ) → FitsFields version → LacksByte 46 word
    → bytes_eq (version_text version ++ more) word ≡ false
version-no_word version more word fits plain =
    let after = decimal version.minor ++ 46 ∷ (decimal version.revision ++ 43 ∷ decimal version.build) in
    let lacks = LacksByte-decimal 46 version.major (omega (arith, fits.major)) (omega arith) in
    rw (append_assoc (decimal version.major) (46 ∷ after) more)
    (dotted (decimal version.major) (after ++ more) word lacks plain)

version-no_first : (version : Version) (word : List ℕ) → FitsFields version → LacksByte 46 word
    → bytes_eq (version_text version) word ≡ false
version-no_first version word fits plain =
    subst (λ t. bytes_eq t word ≡ false) (append-nil (version_text version)) (version-no_word version [] word fits plain)

version-cut : (version : Version) (rest : List ℕ) → FitsFields version
    → cut 32 (version_text version ␣ rest) ≡ (version_text version, Some rest)
version-cut version rest fits =
    cut-found 32 (version_text version) rest
    (LacksByte-version 32 (version_text version) version (omega arith) (fits, inl refl))

-- A version is no reason.
version-no_reason : (version : Version) (reason : List ℕ) → FitsFields version
    → reason_of (version_text version ␣ reason) ≡ None
unfolding reason_of
version-no_reason version reason fits =
    rw (
      version-no_word version (32 ∷ reason) (codes "damaged") fits (search rules),
      version-no_word version (32 ∷ reason) (codes "older") fits (search rules),
      version-no_word version (32 ∷ reason) (codes "counter") fits (search rules),
      version-cut version reason fits,
      version-no_first version (codes "no-such-image") fits (search rules),
      version-no_first version (codes "needs") fits (search rules),
      version-no_first version (codes "needs-one") fits (search rules),
    ) refl

-- The first word of the key, or of the line, of a refused request.
refuse-cut : (fields : List ℕ) → cut 32 (codes "refuse" ␣ fields) ≡ (codes "refuse", Some fields)
unfolding cut
refuse-cut fields = refl

refuse-line : (fields : List ℕ) → report_line_of (codes "refuse" ␣ fields) ≡ refuse_line_of fields
unfolding report_line_of cut
refuse-line fields = refl

refuse-key : (fields : List ℕ) → row_key_of (codes "refuse" ␣ fields) ≡ refuse_key_of (codes "refuse" ␣ fields)
unfolding row_key_of cut
refuse-key fields = refl

number-cut : (n : ℕ) (rest : List ℕ) → n < 2 ^ 8 → cut 32 (decimal n ␣ rest) ≡ (decimal n, Some rest)
number-cut n rest small = cut-found 32 (decimal n) rest (LacksByte-decimal 32 n (omega (arith, small)) (omega arith))

-- The line of a refusal is read.
refusal-read : (image : ℕ) (reason : Reason) → image < 2 ^ 8 → FitsReason reason
    → refusal_of (codes "refuse" ␣ decimal image ␣ reason_text reason) ≡ Some (record { image = image; reason = reason })
unfolding refusal_of
refusal-read image reason small fits =
    let one = line.Refuse (record { image = image; reason = reason }) in
    rw (report_line_of-text _ one (report_line_text-said one (small, fits))) refl

-- A version in the place of the reason makes no line.
version-no_refusal : (image : ℕ) (version : Version) (reason : List ℕ) → image < 2 ^ 8 → FitsFields version
    → refusal_of (codes "refuse" ␣ decimal image ␣ version_text version ␣ reason) ≡ None
unfolding refusal_of refuse_line_of
version-no_refusal image version reason small fits =
    rw (
      refuse-line (decimal image ␣ version_text version ␣ reason),
      number-cut image (version_text version ␣ reason) small,
      number_below-decimal (2 ^ 8) image small (omega arith),
      version-no_reason version reason fits,
    ) refl

-- A refused request for a version is read.
versioned-read : (image : ℕ) (version : Version) (reason : Reason) → image < 2 ^ 8 → FitsFields version
    → FitsReason reason → versioned_of (codes "refuse" ␣ decimal image ␣ version_text version ␣ reason_text reason)
    ≡ Some (said.Refuse (Some version) (record { image = image; reason = reason }))
unfolding versioned_of
versioned-read image version reason small fits fit =
    rw (
      refuse-cut (decimal image ␣ version_text version ␣ reason_text reason),
      number-cut image (version_text version ␣ reason_text reason) small,
      version-cut version (reason_text reason) fits,
      version_of-text (version_text version) version (fits, inl refl),
      refusal-read image reason small fit,
    ) refl

-- The text of any key is read back.
pub key_read : (it : Key) → FitsKey it → row_key_of (key_text it) ≡ said_by it
unfolding row_key_of
key_read key.Device fits = refl
key_read key.Bad fits = refl
key_read key.NotValid fits = refl
key_read (key.Take images) fits = set-read images.now fits.0 fits.1
key_read (key.Refuse image None reason) fits =
    refuse-key (decimal image ␣ reason_text reason.now) ∙ rw (refusal-read image reason.now fits.0 fits.2) refl
key_read (key.Refuse image (Some version) reason) fits =
    refuse-key (decimal image ␣ version_text version ␣ reason_text reason.now)
    ∙ rw (
      version-no_refusal image version (reason_text reason.now) fits.0 fits.1,
      versioned-read image version reason.now fits.0 fits.1 fits.2,
    ) refl
