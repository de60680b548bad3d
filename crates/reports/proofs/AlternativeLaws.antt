-- Reading the alternatives of a group finds exactly those of their text.
use Rattle.std.proofs.Common.{◌≡◌, ℕ, zero, suc, ◌-◌, ◌^◌, ◌<◌, ◌≤◌, List, [], ◌∷◌, ◌++◌, length, Option, Some, None, refl, sym, ap, subst, ◌∙◌, inl, append_assoc, length-append, arith, rules}
use Rattle.std.specs.Prelude.{codes, decimal}
use Rattle.std.specs.List.{AllByRecursion, flat_map}
use Rattle.std.proofs.lemmas.List.{append-nil}
use Rattle.std.proofs.lemmas.List.Concat.{flat_map-cons}
use Rattle.std.proofs.lemmas.Option.{option_and_then_some, none-some, same_Some}
use Rattle.version_order.specs.declared.dependency.Dependency.{Dependency}
use Rattle.version_order.specs.declared.group.Group.{Group}
use Rattle.version_order.specs.declared.version.Version.{Version}
use Rattle.version_order.specs.VersionText.{IsVersionText, version_of, version_text}
use Rattle.version_order.proofs.VersionTexts.{LacksByte-version, version_of-text, version_of-spelled}
use Rattle.common.specs.declared.limits.TheConstants.{MOST_ALTERNATIVES}
use Rattle.common.specs.Ascii.{number_below, cut, LacksByte}
use Rattle.common.specs.Lines.{◌␣◌}
use Rattle.common.proofs.AsciiLaws.{number_below-decimal, number_below-spelled, LacksByte-decimal, LacksByte-append, cut-found, cut-missing, cut-parts, cut-whole}
use Rattle.common.proofs.Options.{option_map-Some}
use Rattle.reports.specs.DependencyText.{AreAlternativesText, alternatives_text, FitsDependency, FitsGroup, HasFewAlternatives, IsNeedsOneText, needs_one_text}
use Rattle.reports.specs.LineReading.{alternative_of, group_from, group_of, more_alternatives}

-- The fields after the space with which a text begins, or `None` if the text is empty.
abbrev fields_of : List ℕ → Option (List ℕ)
fields_of [] = None
fields_of (b ∷ bs) = Some bs

-- The text of these fields after a space, which is empty if there are none.
abbrev text_of : Option (List ℕ) → List ℕ
text_of None = []
text_of (Some fields) = 32 ∷ fields

-- The group of these alternatives.
abbrev group_with : List Dependency → Group
group_with alternatives = record { alternatives = record { items = alternatives } }

-- ---- what is said is read

-- A version ends before the alternatives after it.
cut-before : (spelled rest : List ℕ) (version : Version) (alternatives : List Dependency)
    → IsVersionText spelled version → AreAlternativesText rest alternatives
    → cut 32 (spelled ++ rest) ≡ (spelled, fields_of rest)
unfolding AreAlternativesText
cut-before spelled rest version [] says is =
    let lacks = LacksByte-version 32 spelled version (omega arith) says in
    rw (is, append-nil spelled) (cut-missing 32 spelled lacks)
cut-before spelled rest version (alternative ∷ alternatives) says (small, next, more, next_says, others, is) =
    rw is (cut-found 32 spelled ((decimal alternative.image ␣ next) ++ more)
    (LacksByte-version 32 spelled version (omega arith) says))

alternative_of-text : (alternative : Dependency) (spelled : List ℕ) → alternative.image < 2 ^ 8
    → IsVersionText spelled alternative.minimum
    → alternative_of (decimal alternative.image) spelled ≡ Some alternative
unfolding alternative_of
alternative_of-text alternative spelled small says =
    rw (
      number_below-decimal (2 ^ 8) alternative.image small (omega arith),
      version_of-text spelled alternative.minimum says,
    ) refl

-- The alternatives of a text are read after those before them, if there are at most `room`.
more_alternatives-text : (room : ℕ) (before : List Dependency) (text : List ℕ) (alternatives : List Dependency)
    → AreAlternativesText text alternatives → length alternatives ≤ room
    → more_alternatives room before (fields_of text) ≡ Some (before ++ alternatives)
unfolding AreAlternativesText more_alternatives
more_alternatives-text room before text [] is few = rw (is, append-nil before) refl
more_alternatives-text zero before text (alternative ∷ alternatives) is few = absurd (omega arith)
more_alternatives-text (suc room) before text (alternative ∷ alternatives) (small, spelled, rest, says, others, is)
    few =
    rw (
      is,
      append_assoc (decimal alternative.image) (32 ∷ spelled) rest,
      cut-found 32 (decimal alternative.image) (spelled ++ rest)
          (LacksByte-decimal 32 alternative.image (omega arith) (omega arith)),
      cut-before spelled rest alternative.minimum alternatives says others,
      alternative_of-text alternative spelled small says,
    )
    (more_alternatives-text room (before ++ alternative ∷ []) rest alternatives others (omega arith)
    ∙ ap (λ found. Some found) (append_assoc before (alternative ∷ []) alternatives))

-- The text of at least one alternative begins with a space.
begins_with_space : (text : List ℕ) (alternatives : List Dependency) → AreAlternativesText text alternatives
    → 1 ≤ length alternatives → (fields : List ℕ) × (text ≡ 32 ∷ fields)
unfolding AreAlternativesText
begins_with_space text [] is some = absurd (omega arith)
begins_with_space text (alternative ∷ alternatives) (small, spelled, rest, says, others, is) some =
    ((decimal alternative.image ␣ spelled) ++ rest, is)

-- The group of a text is read from the fields after the first word.
pub group_of-text : (text : List ℕ) (group : Group) → IsNeedsOneText text group
    → (fields : List ℕ) × (text ≡ codes "needs-one" ␣ fields) × (group_of fields ≡ Some group)
group_of-text text group (few, spelled, says, is) =
    let (fields, begins) = begins_with_space spelled group.alternatives.items says few.some in
    let read = more_alternatives-text 4 [] (32 ∷ fields) group.alternatives.items (rw begins at says) few.most in
    (fields, is ∙ ap (λ (t : List ℕ). codes "needs-one" ++ t) begins, rw read refl)

-- ---- what is read is said

alternative_of-spelled : (image minimum : List ℕ) (alternative : Dependency)
    → alternative_of image minimum ≡ Some alternative
    → (alternative.image < 2 ^ 8) × (image ≡ decimal alternative.image) × IsVersionText minimum alternative.minimum
unfolding alternative_of
alternative_of-spelled image minimum alternative read =
    option_and_then_some _ (number_below (2 ^ 8) image) alternative read (λ number is_number after_number.
    option_and_then_some _ (version_of minimum) alternative after_number (λ version is_version made.
    let found = number_below-spelled (2 ^ 8) image number is_number in
    subst (λ (a : Dependency). (a.image < 2 ^ 8) × (image ≡ decimal a.image) × IsVersionText minimum a.minimum)
    (same_Some (record { image = number; minimum = version }) alternative made)
    (found.1, found.0, version_of-spelled minimum version is_version)))

-- A text is its first word, followed by the fields if there are any.
text_of-cut : (text : List ℕ) → text ≡ (cut 32 text).0 ++ text_of (cut 32 text).1
text_of-cut text =
    elim (cut 32 text).1 as (λ o. (cut 32 text).1 ≡ o → text ≡ (cut 32 text).0 ++ text_of o) [
      | None ↦ λ whole. cut-whole 32 text whole ∙ sym (append-nil (cut 32 text).0)
      | Some after ↦ λ found. cut-parts 32 text after found
    ] refl

-- Alternatives that were read after others are those of the text.
record AreRead (room : ℕ) (before : List Dependency) (text : List ℕ) (found : List Dependency) : Type 0 where
  more : List Dependency
  is : before ++ more ≡ found
  few : length more ≤ room
  says : AreAlternativesText text more

more_alternatives-spelled : (room : ℕ) (before : List Dependency) (rest : Option (List ℕ)) (found : List Dependency)
    → more_alternatives room before rest ≡ Some found → AreRead room before (text_of rest) found
unfolding more_alternatives AreAlternativesText
more_alternatives-spelled room before None found read =
    record { more = []; is = append-nil before ∙ same_Some before found read; few = omega arith; says = refl }
more_alternatives-spelled zero before (Some fields) found read = absurd (none-some found read)
more_alternatives-spelled (suc room) before (Some fields) found read =
    let image = cut 32 fields in
    option_and_then_some _ image.1 found read (λ rest is_rest after_rest.
    let minimum = cut 32 rest in
    option_and_then_some _ (alternative_of image.0 minimum.0) found after_rest (λ alternative is_alternative others.
    let first = alternative_of-spelled image.0 minimum.0 alternative is_alternative in
    let next = more_alternatives-spelled room (before ++ alternative ∷ []) minimum.1 found others in
    let whole : fields ≡ (decimal alternative.image ␣ minimum.0) ++ text_of minimum.1 =
    cut-parts 32 fields rest is_rest ∙ ap (λ t. t ␣ rest) first.1
    ∙ ap (λ t. decimal alternative.image ␣ t) (text_of-cut rest)
    ∙ sym (append_assoc (decimal alternative.image) (32 ∷ minimum.0) (text_of minimum.1)) in
    record {
      more = alternative ∷ next.more;
      is = sym (append_assoc before (alternative ∷ []) next.more) ∙ next.is;
      few = omega (arith, next.few);
      says = (
        first.0,
        minimum.0,
        text_of minimum.1,
        first.2,
        next.says,
        ap (λ (t : List ℕ). 32 ∷ t) whole,
      );
    }))

-- A text that begins with a space is that of at least one alternative.
some_alternative : (fields : List ℕ) (alternatives : List Dependency) → AreAlternativesText (32 ∷ fields) alternatives
    → 1 ≤ length alternatives
unfolding AreAlternativesText
some_alternative fields [] is = cc
some_alternative fields (alternative ∷ alternatives) is = omega arith

-- The fields are a text of the group that is read from them.
pub group_of-spelled : (fields : List ℕ) (group : Group) → group_of fields ≡ Some group
    → IsNeedsOneText (codes "needs-one" ␣ fields) group
group_of-spelled fields group read =
    let made = option_map-Some group_with (more_alternatives 4 [] (Some fields)) group read in
    let found = more_alternatives-spelled 4 [] (Some fields) made.0 made.1 in
    let few : HasFewAlternatives (group_with found.more) = record {
      some = some_alternative fields found.more found.says;
      most = found.few;
    } in
    rw (← made.2, ← found.is) (few, 32 ∷ fields, found.says, refl)

-- ---- what alternatives lack, and what fits

-- The texts of alternatives and of a group have no line feed.
LacksByte-alternatives : (text : List ℕ) (alternatives : List Dependency) → AreAlternativesText text alternatives
    → LacksByte 10 text
unfolding AreAlternativesText
LacksByte-alternatives text [] is = rw is tt
LacksByte-alternatives text (alternative ∷ alternatives) (small, spelled, rest, says, others, is) =
    let number = LacksByte-decimal 10 alternative.image (omega arith) (omega arith) in
    let version = LacksByte-version 10 spelled alternative.minimum (omega arith) says in
    let first = LacksByte-append 10 (decimal alternative.image) (32 ∷ spelled) number (λ e. omega arith, version) in
    rw is (
      λ e. omega arith,
      LacksByte-append 10 (decimal alternative.image ␣ spelled) rest first
          (LacksByte-alternatives rest alternatives others),
    )

pub LacksByte-needs_one : (text : List ℕ) (group : Group) → IsNeedsOneText text group → LacksByte 10 text
LacksByte-needs_one text group (few, spelled, says, is) =
    rw is (LacksByte-append 10 (codes "needs-one") spelled (search rules)
    (LacksByte-alternatives spelled group.alternatives.items says))

-- The printed texts of alternatives and of a group are texts of them.
alternatives_text-said : (alternatives : List Dependency) → AllByRecursion FitsDependency alternatives
    → AreAlternativesText (alternatives_text alternatives) alternatives
unfolding AreAlternativesText alternatives_text
alternatives_text-said [] fit = refl
alternatives_text-said (alternative ∷ alternatives) ((small, fits), others) = (
  small,
  version_text alternative.minimum,
  alternatives_text alternatives,
  (fits, inl refl),
  alternatives_text-said alternatives others,
  refl,
)

pub needs_one_text-said : (group : Group) → FitsGroup group → IsNeedsOneText (needs_one_text group) group
needs_one_text-said group (few, fit) =
    (few, alternatives_text group.alternatives.items, alternatives_text-said group.alternatives.items fit, refl)

-- The numbers of alternatives and of a group that have a text fit their fields.
fit-from_alternatives : (text : List ℕ) (alternatives : List Dependency) → AreAlternativesText text alternatives
    → AllByRecursion FitsDependency alternatives
unfolding AreAlternativesText
fit-from_alternatives text [] is = tt
fit-from_alternatives text (alternative ∷ alternatives) (small, spelled, rest, says, others, is) =
    ((small, says.0), fit-from_alternatives rest alternatives others)

pub FitsGroup-from_text : (text : List ℕ) (group : Group) → IsNeedsOneText text group → FitsGroup group
FitsGroup-from_text text group (few, spelled, says, is) =
    (few, fit-from_alternatives spelled group.alternatives.items says)

-- ---- reading them in a loop

-- No alternative is read if no version follows the number.
more_alternatives-no_version : (room : ℕ) (before : List Dependency) (fields : List ℕ) → (cut 32 fields).1 ≡ None
    → more_alternatives room before (Some fields) ≡ None
unfolding more_alternatives
more_alternatives-no_version zero before fields missing = refl
more_alternatives-no_version (suc room) before fields missing = rw missing refl

-- No alternative is read from two words that are none.
more_alternatives-wrong : (room : ℕ) (before : List Dependency) (fields rest : List ℕ)
    → (cut 32 fields).1 ≡ Some rest → alternative_of (cut 32 fields).0 (cut 32 rest).0 ≡ None
    → more_alternatives room before (Some fields) ≡ None
unfolding more_alternatives
more_alternatives-wrong zero before fields rest is_rest wrong = refl
more_alternatives-wrong (suc room) before fields rest is_rest wrong = rw (is_rest, wrong) refl

-- Then no group is read.
pub group_from-no_version : (before : List Dependency) (fields : List ℕ) → None ≡ (cut 32 fields).1
    → None ≡ group_from before (Some fields)
group_from-no_version before fields missing =
    rw (more_alternatives-no_version (MOST_ALTERNATIVES - length before) before fields (sym missing)) refl

pub group_from-wrong : (before : List Dependency) (fields rest : List ℕ) → Some rest ≡ (cut 32 fields).1
    → None ≡ alternative_of (cut 32 fields).0 (cut 32 rest).0 → None ≡ group_from before (Some fields)
group_from-wrong before fields rest is_rest wrong =
    rw (more_alternatives-wrong (MOST_ALTERNATIVES - length before) before fields rest (sym is_rest) (sym wrong)) refl

-- No group is read if an alternative would be one too many.
pub group_from-full : (before : List Dependency) (fields : List ℕ) → MOST_ALTERNATIVES ≤ length before
    → None ≡ group_from before (Some fields)
unfolding more_alternatives
group_from-full before fields full =
    let none : MOST_ALTERNATIVES - length before ≡ 0 = omega arith in rw none refl

-- One more alternative is read.
pub group_from-step : (before : List Dependency) (fields rest : List ℕ) (alternative : Dependency)
    → length before < MOST_ALTERNATIVES → Some rest ≡ (cut 32 fields).1
    → Some alternative ≡ alternative_of (cut 32 fields).0 (cut 32 rest).0
    → group_from before (Some fields) ≡ group_from (before ++ alternative ∷ []) (cut 32 rest).1
unfolding more_alternatives
group_from-step before fields rest alternative room is_rest is_alternative =
    let more : MOST_ALTERNATIVES - length before ≡ suc (MOST_ALTERNATIVES - length (before ++ alternative ∷ [])) =
    omega (arith, length-append before (alternative ∷ [])) in
    rw (more, ← is_rest, ← is_alternative) refl

-- ---- printing them in a loop

-- Alternatives are printed one after the other.
pub alternatives_text_each : (alternatives : List Dependency)
    → alternatives_text alternatives
    ≡ flat_map (λ alternative. 32 ∷ (decimal alternative.image ␣ version_text alternative.minimum)) alternatives
unfolding alternatives_text
alternatives_text_each [] = refl
alternatives_text_each (alternative ∷ alternatives) =
    let text = λ (a : Dependency). 32 ∷ (decimal a.image ␣ version_text a.minimum) in
    ap (λ (t : List ℕ). text alternative ++ t) (alternatives_text_each alternatives)
    ∙ sym (flat_map-cons text alternative alternatives)
