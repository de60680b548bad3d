-- Reading a line finds exactly the meaning of its text.
use Rattle.std.proofs.Common.{◌≡◌, ℕ, ◌^◌, ◌<◌, List, ◌∷◌, ◌++◌, Some, refl, ap, ◌∙◌, subst, inl, inr, arith, rules}
use Rattle.std.specs.Prelude.{codes, decimal, bytes_eq, option_map}
use Rattle.std.proofs.lemmas.Bool.{cases_Bool}
use Rattle.std.proofs.lemmas.Slice.Eq.{bytes_eq-Decides}
use Rattle.std.proofs.lemmas.Option.{option_and_then_some, none-some, same_Some}
use Rattle.version_order.specs.declared.version.Version.{Version}
use Rattle.version_order.specs.declared.dependency.Dependency.{Dependency}
use Rattle.common.specs.Lines.{◌␣◌}
use Rattle.common.specs.Ascii.{number_of, number_below, cut, LacksByte}
use Rattle.version_order.specs.VersionText.{IsVersionText, version_of, version_text}
use Rattle.common.proofs.AsciiLaws.{number_of-decimal, number_of-spelled, number_below-decimal, number_below-spelled, LacksByte-decimal, LacksByte-append, cut-found, cut-parts}
use Rattle.common.proofs.Options.{option_map-Some}
use Rattle.common.proofs.Words.{on_word}
use Rattle.version_order.proofs.VersionTexts.{LacksByte-version, version_of-text, version_of-spelled}
use Rattle.reports.specs.declared.report.Reason.{Reason}
use Rattle.reports.specs.declared.report.Reason.TheVariants.{Damaged, Older, Counter, NoSuchImage, Needs, NeedsOne}
use Rattle.reports.specs.declared.report.Refusal.{Refusal}
use Rattle.reports.specs.declared.report_line.ReportLine.{ReportLine}
use Rattle.reports.specs.declared.report_line.ReportLine.TheVariants as report_line
use Rattle.reports.specs.declared.table_line.TableLine.{TableLine}
use Rattle.reports.specs.declared.table_line.TableLine.TheVariants as table_line
use Rattle.reports.specs.TableText.{FitsTableLine, table_line_text, IsTableLineText}
use Rattle.reports.specs.ReportText.{FitsReason, FitsReportLine, reason_text, report_line_text, IsReasonText, IsReportLineText}
use Rattle.reports.specs.LineReading.{group_of, image_and_version_of, image_line_of, needs_line_of, request_line_of, table_line_at, table_line_of, run_line_of, take_line_of, reason_at, reason_of, refuse_line_of, report_line_at, report_line_of}
use Rattle.reports.proofs.AlternativeLaws.{FitsGroup-from_text, LacksByte-needs_one, group_of-spelled, group_of-text, needs_one_text-said}

-- A word ends at the space after it.
cut-number : (n : ℕ) (after : List ℕ) → n < 2 ^ 32 → cut 32 (decimal n ++ 32 ∷ after) ≡ (decimal n, Some after)
cut-number n after fits = cut-found 32 (decimal n) after (LacksByte-decimal 32 n (omega arith) (omega arith))

cut-version : (spelled after : List ℕ) (version : Version) → IsVersionText spelled version
    → cut 32 (spelled ++ 32 ∷ after) ≡ (spelled, Some after)
cut-version spelled after version says =
    cut-found 32 spelled after (LacksByte-version 32 spelled version (omega arith) says)

-- The fields of each line are read.
image_line_of-text : (number counter floor : ℕ) (version : Version) (spelled : List ℕ) → number < 2 ^ 8
    → counter < 2 ^ 32 → floor < 2 ^ 32 → IsVersionText spelled version
    → image_line_of (decimal number ␣ spelled ␣ decimal counter ␣ decimal floor) ≡ Some
    (table_line.Image number version counter floor)
unfolding image_line_of
image_line_of-text number counter floor version spelled small counter_fits floor_fits says =
    rw (
      cut-number number (spelled ␣ decimal counter ␣ decimal floor) (omega arith),
      number_below-decimal (2 ^ 8) number small (omega arith),
      cut-version spelled (decimal counter ␣ decimal floor) version says,
      version_of-text spelled version says,
      cut-number counter (decimal floor) counter_fits,
      number_of-decimal counter counter_fits,
      number_of-decimal floor floor_fits,
    ) refl

image_and_version_of-text : (image : ℕ) (version : Version) (spelled : List ℕ) → image < 2 ^ 8
    → IsVersionText spelled version → image_and_version_of (decimal image ␣ spelled) ≡ Some (image, version)
unfolding image_and_version_of
image_and_version_of-text image version spelled small says =
    rw (
      cut-number image spelled (omega arith),
      number_below-decimal (2 ^ 8) image small (omega arith),
      version_of-text spelled version says,
    ) refl

needs_line_of-text : (dependency : Dependency) (spelled : List ℕ) → dependency.image < 2 ^ 8
    → IsVersionText spelled dependency.minimum
    → needs_line_of (decimal dependency.image ␣ spelled) ≡ Some (table_line.Needs dependency)
unfolding needs_line_of
needs_line_of-text dependency spelled small says =
    rw (image_and_version_of-text dependency.image dependency.minimum spelled small says) refl

request_line_of-text : (counter : ℕ) (version : Version) (spelled : List ℕ) → counter < 2 ^ 32
    → IsVersionText spelled version
    → request_line_of (spelled ␣ decimal counter) ≡ Some (table_line.Request version counter)
unfolding request_line_of
request_line_of-text counter version spelled fits says =
    rw (
      cut-version spelled (decimal counter) version says,
      version_of-text spelled version says,
      number_of-decimal counter fits,
    ) refl

-- The first word says which fields follow.
table_line_of-image : (fields : List ℕ) → table_line_of (codes "image" ␣ fields) ≡ image_line_of fields
unfolding table_line_of cut
table_line_of-image fields = refl

table_line_of-needs : (fields : List ℕ) → table_line_of (codes "needs" ␣ fields) ≡ needs_line_of fields
unfolding table_line_of cut
table_line_of-needs fields = refl

table_line_of-needs_one : (fields : List ℕ)
    → table_line_of (codes "needs-one" ␣ fields) ≡ option_map (λ group. table_line.NeedsOne group) (group_of fields)
unfolding table_line_of cut
table_line_of-needs_one fields = refl

table_line_of-request : (fields : List ℕ) → table_line_of (codes "request" ␣ fields) ≡ request_line_of fields
unfolding table_line_of cut
table_line_of-request fields = refl

table_line_of-damaged : table_line_of (codes "damaged") ≡ Some table_line.Damaged
unfolding table_line_of
table_line_of-damaged = refl

-- A text of a line is read as that line.
pub table_line_of-text : (text : List ℕ) (said : TableLine) → IsTableLineText text said → table_line_of text ≡ Some said
table_line_of-text text (table_line.Image number version counter floor)
    (small, counter_fits, floor_fits, spelled, says, is) =
    ap table_line_of is ∙ table_line_of-image (decimal number ␣ spelled ␣ decimal counter ␣ decimal floor)
    ∙ image_line_of-text number counter floor version spelled small counter_fits floor_fits says
table_line_of-text text (table_line.Needs dependency) (small, spelled, says, is) =
    ap table_line_of is ∙ table_line_of-needs (decimal dependency.image ␣ spelled)
    ∙ needs_line_of-text dependency spelled small says
table_line_of-text text (table_line.NeedsOne group) is =
    let (fields, begins, read) = group_of-text text group is in
    ap table_line_of begins ∙ table_line_of-needs_one fields ∙ rw read refl
table_line_of-text text (table_line.Request version counter) (fits, spelled, says, is) =
    ap table_line_of is ∙ table_line_of-request (spelled ␣ decimal counter)
    ∙ request_line_of-text counter version spelled fits says
table_line_of-text text table_line.Damaged is = ap table_line_of is ∙ table_line_of-damaged

-- The two parts of a text, if the first is known.
cut-spelled : (text word rest : List ℕ) → (cut 32 text).0 ≡ word → (cut 32 text).1 ≡ Some rest → text ≡ word ␣ rest
cut-spelled text word rest is_word is_rest = cut-parts 32 text rest is_rest ∙ ap (λ first. first ␣ rest) is_word

-- The fields are a text of the line that is read from them.
image_line_of-spelled : (fields : List ℕ) (said : TableLine) → image_line_of fields ≡ Some said
    → IsTableLineText (codes "image" ␣ fields) said
unfolding image_line_of
image_line_of-spelled fields said read =
    option_and_then_some _ (number_below (2 ^ 8) (cut 32 fields).0) said read (λ number is_number after_number.
    option_and_then_some _ (cut 32 fields).1 said after_number (λ rest is_rest from_version.
    option_and_then_some _ (version_of (cut 32 rest).0) said from_version (λ version is_version after_version.
    option_and_then_some _ (cut 32 rest).1 said after_version (λ last is_last from_counter.
    option_and_then_some _ (number_of (cut 32 last).0) said from_counter (λ counter is_counter after_counter.
    option_and_then_some _ (cut 32 last).1 said after_counter (λ end is_end from_floor.
    option_and_then_some _ (number_of end) said from_floor (λ floor is_floor made.
    let spelled = (cut 32 rest).0 in
    let number_found = number_below-spelled (2 ^ 8) (cut 32 fields).0 number is_number in
    let counter_found = number_of-spelled (cut 32 last).0 counter is_counter in
    let floor_found = number_of-spelled end floor is_floor in
    let whole : fields ≡ decimal number ␣ spelled ␣ decimal counter ␣ decimal floor =
    cut-spelled fields (decimal number) rest number_found.0 is_rest
    ∙ ap (λ t. decimal number ␣ t) (cut-spelled rest spelled last refl is_last
    ∙ ap (λ t. spelled ␣ t) (cut-spelled last (decimal counter) end counter_found.0 is_end
    ∙ ap (λ t. decimal counter ␣ t) floor_found.0)) in
    subst (λ (t : TableLine). IsTableLineText (codes "image" ␣ fields) t)
    (same_Some (table_line.Image number version counter floor) said made) (
      number_found.1,
      counter_found.1,
      floor_found.1,
      spelled,
      version_of-spelled spelled version is_version,
      ap
          (λ t. codes "image" ␣ t) whole,
    ))))))))

-- A text of an image's number and a version.
abbrev IsImageAndVersion : List ℕ → ℕ → Version → Type 0
IsImageAndVersion text image version = (image < 2 ^ 8) × (spelled : List ℕ) × IsVersionText spelled version
    × (text ≡ decimal image ␣ spelled)

image_and_version_of-spelled : (fields : List ℕ) (found : ℕ × Version) → image_and_version_of fields ≡ Some found
    → IsImageAndVersion fields found.0 found.1
unfolding image_and_version_of
image_and_version_of-spelled fields found read =
    option_and_then_some _ (number_below (2 ^ 8) (cut 32 fields).0) found read (λ image is_image after_image.
    option_and_then_some _ (cut 32 fields).1 found after_image (λ rest is_rest from_version.
    option_and_then_some _ (version_of rest) found from_version (λ version is_version made.
    let image_found = number_below-spelled (2 ^ 8) (cut 32 fields).0 image is_image in
    subst (λ (x : ℕ × Version). IsImageAndVersion fields x.0 x.1) (same_Some (image, version) found made) (
      image_found.1,
      rest,
      version_of-spelled rest version is_version,
      cut-spelled fields
          (decimal image) rest image_found.0 is_rest,
    ))))

needs_line_of-spelled : (fields : List ℕ) (said : TableLine) → needs_line_of fields ≡ Some said
    → IsTableLineText (codes "needs" ␣ fields) said
unfolding needs_line_of
needs_line_of-spelled fields said read =
    option_and_then_some _ (image_and_version_of fields) said read (λ needed is_needed made.
    let found = image_and_version_of-spelled fields needed is_needed in
    subst (λ (t : TableLine). IsTableLineText (codes "needs" ␣ fields) t)
    (same_Some (table_line.Needs (record { image = needed.0; minimum = needed.1 })) said made)
    (found.0, found.1, found.2, ap (λ t. codes "needs" ␣ t) found.3))

needs_one_line-spelled : (fields : List ℕ) (said : TableLine)
    → option_map (λ group. table_line.NeedsOne group) (group_of fields) ≡ Some said
    → IsTableLineText (codes "needs-one" ␣ fields) said
needs_one_line-spelled fields said read =
    let (group, is_group, made) = option_map-Some (λ group. table_line.NeedsOne group) (group_of fields) said read in
    subst (λ (t : TableLine). IsTableLineText (codes "needs-one" ␣ fields) t) made
    (group_of-spelled fields group is_group)

request_line_of-spelled : (fields : List ℕ) (said : TableLine) → request_line_of fields ≡ Some said
    → IsTableLineText (codes "request" ␣ fields) said
unfolding request_line_of
request_line_of-spelled fields said read =
    option_and_then_some _ (version_of (cut 32 fields).0) said read (λ version is_version after_version.
    option_and_then_some _ (cut 32 fields).1 said after_version (λ rest is_rest from_counter.
    option_and_then_some _ (number_of rest) said from_counter (λ counter is_counter made.
    let spelled = (cut 32 fields).0 in
    let counter_found = number_of-spelled rest counter is_counter in
    let whole : fields ≡ spelled ␣ decimal counter =
    cut-spelled fields spelled rest refl is_rest ∙ ap (λ t. spelled ␣ t) counter_found.0 in
    subst (λ (t : TableLine). IsTableLineText (codes "request" ␣ fields) t)
    (same_Some (table_line.Request version counter) said made)
    (counter_found.1, spelled, version_of-spelled spelled version is_version, ap (λ t. codes "request" ␣ t) whole))))

table_line_at-spelled : (word fields : List ℕ) (said : TableLine) → table_line_at word fields ≡ Some said
    → IsTableLineText (word ␣ fields) said
table_line_at-spelled word fields said read =
    let Says = λ (first : List ℕ). IsTableLineText (first ␣ fields) said in
    on_word word (codes "image") Says (λ is. image_line_of-spelled fields said (rw is at read)) (λ not_image.
    let read = rw not_image at read in
    on_word word (codes "needs") Says (λ is. needs_line_of-spelled fields said (rw is at read)) (λ not_needs.
    let read = rw not_needs at read in
    on_word word (codes "needs-one") Says (λ is. needs_one_line-spelled fields said (rw is at read)) (λ not_needs_one.
    let read = rw not_needs_one at read in
    on_word word (codes "request") Says (λ is. request_line_of-spelled fields said (rw is at read)) (λ not_request.
    absurd (none-some said (rw not_request at read))))))

-- A text that is read as a line is a text of that line.
pub table_line_of-spelled : (text : List ℕ) (said : TableLine) → table_line_of text ≡ Some said
    → IsTableLineText text said
unfolding table_line_of
table_line_of-spelled text said read =
    elim (cases_Bool (bytes_eq text (codes "damaged"))) [
      | inl damaged ↦ subst (λ (t : TableLine). IsTableLineText text t)
          (same_Some table_line.Damaged said (rw damaged at read))
          ((bytes_eq-Decides text (codes "damaged")).0 damaged)
      | inr not_damaged ↦
          option_and_then_some _ (cut 32 text).1 said (rw not_damaged at read) (λ fields is_fields read_on.
          rw (cut-parts 32 text fields is_fields) (table_line_at-spelled (cut 32 text).0 fields said read_on))
    ]

-- ---- bytes that a line lacks

-- If two words have no line feed, both with a space between them have none.
LacksByte-words : (first others : List ℕ) → LacksByte 10 first → LacksByte 10 others → LacksByte 10 (first ␣ others)
LacksByte-words first others front back = LacksByte-append 10 first (32 ∷ others) front (λ e. omega arith, back)

LacksByte-number : (n : ℕ) → n < 2 ^ 32 → LacksByte 10 (decimal n)
LacksByte-number n fits = LacksByte-decimal 10 n (omega arith) (omega arith)

LacksByte-image_and_version : (image : ℕ) (version : Version) (spelled : List ℕ) → image < 2 ^ 8
    → IsVersionText spelled version → LacksByte 10 (decimal image ␣ spelled)
LacksByte-image_and_version image version spelled small says =
    LacksByte-words (decimal image) spelled (LacksByte-number image (omega arith))
    (LacksByte-version 10 spelled version (omega arith) says)

-- The text of a line has no line feed.
pub LacksByte-table_line : (text : List ℕ) (said : TableLine) → IsTableLineText text said → LacksByte 10 text
LacksByte-table_line text (table_line.Image number version counter floor)
    (small, counter_fits, floor_fits, spelled, says, is) =
    rw is (LacksByte-words (codes "image") (decimal number ␣ spelled ␣ decimal counter ␣ decimal floor) (search rules)
    (LacksByte-words (decimal number) (spelled ␣ decimal counter ␣ decimal floor)
    (LacksByte-number number (omega arith))
    (LacksByte-words spelled (decimal counter ␣ decimal floor) (LacksByte-version 10 spelled version (omega arith) says)
    (LacksByte-words (decimal counter) (decimal floor) (LacksByte-number counter counter_fits)
    (LacksByte-number floor floor_fits)))))
LacksByte-table_line text (table_line.Needs dependency) (small, spelled, says, is) =
    rw is (LacksByte-words (codes "needs") (decimal dependency.image ␣ spelled) (search rules)
    (LacksByte-image_and_version dependency.image dependency.minimum spelled small says))
LacksByte-table_line text (table_line.NeedsOne group) is = LacksByte-needs_one text group is
LacksByte-table_line text (table_line.Request version counter) (fits, spelled, says, is) =
    rw is (LacksByte-words (codes "request") (spelled ␣ decimal counter) (search rules)
    (LacksByte-words spelled (decimal counter) (LacksByte-version 10 spelled version (omega arith) says)
    (LacksByte-number counter fits)))
LacksByte-table_line text table_line.Damaged is = rw is (search rules)

-- ---- what is printed

-- The printed text of a line is a text of it.
pub table_line_text-said : (said : TableLine) → FitsTableLine said → IsTableLineText (table_line_text said) said
table_line_text-said (table_line.Image number version counter floor) (small, fits, counter_fits, floor_fits) =
    (small, counter_fits, floor_fits, version_text version, (fits, inl refl), refl)
table_line_text-said (table_line.Needs dependency) (small, fits) =
    (small, version_text dependency.minimum, (fits, inl refl), refl)
table_line_text-said (table_line.NeedsOne group) fits = needs_one_text-said group fits
table_line_text-said (table_line.Request version counter) (fits, counter_fits) =
    (counter_fits, version_text version, (fits, inl refl), refl)
table_line_text-said table_line.Damaged fits = refl

-- The numbers of a line that has a text fit their fields.
pub FitsTableLine-from_text : (text : List ℕ) (said : TableLine) → IsTableLineText text said → FitsTableLine said
FitsTableLine-from_text text (table_line.Image number version counter floor)
    (small, counter_fits, floor_fits, spelled, says, is) = (small, says.0, counter_fits, floor_fits)
FitsTableLine-from_text text (table_line.Needs dependency) (small, spelled, says, is) = (small, says.0)
FitsTableLine-from_text text (table_line.NeedsOne group) is = FitsGroup-from_text text group is
FitsTableLine-from_text text (table_line.Request version counter) (counter_fits, spelled, says, is) =
    (says.0, counter_fits)
FitsTableLine-from_text text table_line.Damaged is = tt

-- ---- lines of a report

-- The fields of each line and reason are read.
run_line_of-text : (number : ℕ) (version : Version) (spelled : List ℕ) → number < 2 ^ 8
    → IsVersionText spelled version → run_line_of (decimal number ␣ spelled) ≡ Some (report_line.Run number version)
unfolding run_line_of
run_line_of-text number version spelled small says =
    rw (image_and_version_of-text number version spelled small says) refl

take_line_of-text : (number : ℕ) (version : Version) (spelled : List ℕ) → number < 2 ^ 8
    → IsVersionText spelled version
    → take_line_of (decimal number ␣ spelled) ≡ Some (report_line.Take number version)
unfolding take_line_of
take_line_of-text number version spelled small says =
    rw (image_and_version_of-text number version spelled small says) refl

reason_of-no_such_image : (fields : List ℕ)
    → reason_of (codes "no-such-image" ␣ fields) ≡ reason_at (codes "no-such-image") fields
unfolding reason_of cut
reason_of-no_such_image fields = refl

reason_of-needs : (fields : List ℕ) → reason_of (codes "needs" ␣ fields) ≡ reason_at (codes "needs") fields
unfolding reason_of cut
reason_of-needs fields = refl

reason_of-needs_one : (fields : List ℕ)
    → reason_of (codes "needs-one" ␣ fields) ≡ option_map (λ group. NeedsOne group) (group_of fields)
unfolding reason_of cut
reason_of-needs_one fields = refl

reason_of-text : (text : List ℕ) (reason : Reason) → IsReasonText text reason → reason_of text ≡ Some reason
unfolding reason_of
reason_of-text text Damaged is = rw is refl
reason_of-text text Older is = rw is refl
reason_of-text text Counter is = rw is refl
reason_of-text text (NoSuchImage image) (small, is) =
    ap reason_of is ∙ reason_of-no_such_image (decimal image)
    ∙ rw (number_below-decimal (2 ^ 8) image small (omega arith)) refl
reason_of-text text (Needs image minimum) (small, spelled, says, is) =
    ap reason_of is ∙ reason_of-needs (decimal image ␣ spelled)
    ∙ rw (image_and_version_of-text image minimum spelled small says) refl
reason_of-text text (NeedsOne group) is =
    let (fields, begins, read) = group_of-text text group is in
    ap reason_of begins ∙ reason_of-needs_one fields ∙ rw read refl

refuse_line_of-text : (refusal : Refusal) (reason : List ℕ) → refusal.image < 2 ^ 8
    → IsReasonText reason refusal.reason
    → refuse_line_of (decimal refusal.image ␣ reason) ≡ Some (report_line.Refuse refusal)
unfolding refuse_line_of
refuse_line_of-text refusal reason small says =
    rw (
      cut-number refusal.image reason (omega arith),
      number_below-decimal (2 ^ 8) refusal.image small (omega arith),
      reason_of-text reason refusal.reason says,
    ) refl

-- The first word says which fields follow.
report_line_of-run : (fields : List ℕ) → report_line_of (codes "run" ␣ fields) ≡ run_line_of fields
unfolding report_line_of cut
report_line_of-run fields = refl

report_line_of-take : (fields : List ℕ) → report_line_of (codes "take" ␣ fields) ≡ take_line_of fields
unfolding report_line_of cut
report_line_of-take fields = refl

report_line_of-refuse : (fields : List ℕ) → report_line_of (codes "refuse" ␣ fields) ≡ refuse_line_of fields
unfolding report_line_of cut
report_line_of-refuse fields = refl

-- A text of a line is read as that line.
pub report_line_of-text : (text : List ℕ) (said : ReportLine) → IsReportLineText text said
    → report_line_of text ≡ Some said
report_line_of-text text (report_line.Run number version) (small, spelled, says, is) =
    ap report_line_of is ∙ report_line_of-run (decimal number ␣ spelled)
    ∙ run_line_of-text number version spelled small says
report_line_of-text text (report_line.Take number version) (small, spelled, says, is) =
    ap report_line_of is ∙ report_line_of-take (decimal number ␣ spelled)
    ∙ take_line_of-text number version spelled small says
report_line_of-text text (report_line.Refuse refusal) (small, reason, says, is) =
    ap report_line_of is ∙ report_line_of-refuse (decimal refusal.image ␣ reason)
    ∙ refuse_line_of-text refusal reason small says

-- The fields are a text of the line or the reason that is read from them.
run_line_of-spelled : (fields : List ℕ) (said : ReportLine) → run_line_of fields ≡ Some said
    → IsReportLineText (codes "run" ␣ fields) said
unfolding run_line_of
run_line_of-spelled fields said read =
    option_and_then_some _ (image_and_version_of fields) said read (λ runs is_runs made.
    let found = image_and_version_of-spelled fields runs is_runs in
    subst (λ (t : ReportLine). IsReportLineText (codes "run" ␣ fields) t)
    (same_Some (report_line.Run runs.0 runs.1) said made)
    (found.0, found.1, found.2, ap (λ t. codes "run" ␣ t) found.3))

take_line_of-spelled : (fields : List ℕ) (said : ReportLine) → take_line_of fields ≡ Some said
    → IsReportLineText (codes "take" ␣ fields) said
unfolding take_line_of
take_line_of-spelled fields said read =
    option_and_then_some _ (image_and_version_of fields) said read (λ taken is_taken made.
    let found = image_and_version_of-spelled fields taken is_taken in
    subst (λ (t : ReportLine). IsReportLineText (codes "take" ␣ fields) t)
    (same_Some (report_line.Take taken.0 taken.1) said made)
    (found.0, found.1, found.2, ap (λ t. codes "take" ␣ t) found.3))

needs_one_reason-spelled : (fields : List ℕ) (reason : Reason)
    → option_map (λ group. NeedsOne group) (group_of fields) ≡ Some reason
    → IsReasonText (codes "needs-one" ␣ fields) reason
needs_one_reason-spelled fields reason read =
    let (group, is_group, made) = option_map-Some (λ group. NeedsOne group) (group_of fields) reason read in
    subst (λ (r : Reason). IsReasonText (codes "needs-one" ␣ fields) r) made
    (group_of-spelled fields group is_group)

reason_at-spelled : (word fields : List ℕ) (reason : Reason) → reason_at word fields ≡ Some reason
    → IsReasonText (word ␣ fields) reason
reason_at-spelled word fields reason read =
    elim (cases_Bool (bytes_eq word (codes "no-such-image"))) [
      | inl no_such_image ↦
          rw ((bytes_eq-Decides word (codes "no-such-image")).0 no_such_image)
          (option_and_then_some _ (number_below (2 ^ 8) fields) reason (rw no_such_image at read)
          (λ image is_image made.
          let found = number_below-spelled (2 ^ 8) fields image is_image in
          subst (λ (r : Reason). IsReasonText (codes "no-such-image" ␣ fields) r)
          (same_Some (NoSuchImage image) reason made) (found.1, ap (λ t. codes "no-such-image" ␣ t) found.0)))
      | inr not_that ↦
          let read = rw not_that at read in
          elim (cases_Bool (bytes_eq word (codes "needs"))) [
            | inl needs ↦
                rw ((bytes_eq-Decides word (codes "needs")).0 needs)
                (option_and_then_some _ (image_and_version_of fields) reason (rw needs at read)
                (λ needed is_needed made.
                let found = image_and_version_of-spelled fields needed is_needed in
                subst (λ (r : Reason). IsReasonText (codes "needs" ␣ fields) r)
                (same_Some (Needs needed.0 needed.1) reason made)
                (found.0, found.1, found.2, ap (λ t. codes "needs" ␣ t) found.3)))
            | inr not_needs ↦
                let read = rw not_needs at read in
                elim (cases_Bool (bytes_eq word (codes "needs-one"))) [
                  | inl needs_one ↦ rw ((bytes_eq-Decides word (codes "needs-one")).0 needs_one)
                      (needs_one_reason-spelled fields reason (rw needs_one at read))
                  | inr not_needs_one ↦ absurd (none-some reason (rw not_needs_one at read))
                ]
          ]
    ]

reason_of-spelled : (text : List ℕ) (reason : Reason) → reason_of text ≡ Some reason → IsReasonText text reason
unfolding reason_of
reason_of-spelled text reason read =
    elim (cases_Bool (bytes_eq text (codes "damaged"))) [
      | inl damaged ↦ subst (λ (r : Reason). IsReasonText text r) (same_Some Damaged reason (rw damaged at read))
          ((bytes_eq-Decides text (codes "damaged")).0 damaged)
      | inr not_damaged ↦
          let read = rw not_damaged at read in
          elim (cases_Bool (bytes_eq text (codes "older"))) [
            | inl older ↦ subst (λ (r : Reason). IsReasonText text r) (same_Some Older reason (rw older at read))
                ((bytes_eq-Decides text (codes "older")).0 older)
            | inr not_older ↦
                let read = rw not_older at read in
                elim (cases_Bool (bytes_eq text (codes "counter"))) [
                  | inl counter ↦ subst (λ (r : Reason). IsReasonText text r)
                      (same_Some Counter reason (rw counter at read))
                      ((bytes_eq-Decides text (codes "counter")).0 counter)
                  | inr not_counter ↦
                      option_and_then_some _ (cut 32 text).1 reason (rw not_counter at read)
                      (λ fields is_fields read_on.
                      rw (cut-parts 32 text fields is_fields) (reason_at-spelled (cut 32 text).0 fields reason read_on))
                ]
          ]
    ]

refuse_line_of-spelled : (fields : List ℕ) (said : ReportLine) → refuse_line_of fields ≡ Some said
    → IsReportLineText (codes "refuse" ␣ fields) said
unfolding refuse_line_of
refuse_line_of-spelled fields said read =
    option_and_then_some _ (number_below (2 ^ 8) (cut 32 fields).0) said read (λ image is_image after_image.
    option_and_then_some _ (cut 32 fields).1 said after_image (λ rest is_rest from_reason.
    option_and_then_some _ (reason_of rest) said from_reason (λ reason is_reason made.
    let image_found = number_below-spelled (2 ^ 8) (cut 32 fields).0 image is_image in
    let whole = cut-spelled fields (decimal image) rest image_found.0 is_rest in
    subst (λ (t : ReportLine). IsReportLineText (codes "refuse" ␣ fields) t)
    (same_Some (report_line.Refuse (record { image = image; reason = reason })) said made)
    (image_found.1, rest, reason_of-spelled rest reason is_reason, ap (λ t. codes "refuse" ␣ t) whole))))

report_line_at-spelled : (word fields : List ℕ) (said : ReportLine) → report_line_at word fields ≡ Some said
    → IsReportLineText (word ␣ fields) said
report_line_at-spelled word fields said read =
    let Says = λ (first : List ℕ). IsReportLineText (first ␣ fields) said in
    on_word word (codes "run") Says (λ is. run_line_of-spelled fields said (rw is at read)) (λ not_run.
    let read = rw not_run at read in
    on_word word (codes "take") Says (λ is. take_line_of-spelled fields said (rw is at read)) (λ not_take.
    let read = rw not_take at read in
    on_word word (codes "refuse") Says (λ is. refuse_line_of-spelled fields said (rw is at read)) (λ not_refuse.
    absurd (none-some said (rw not_refuse at read)))))

-- A text that is read as a line is a text of that line.
pub report_line_of-spelled : (text : List ℕ) (said : ReportLine) → report_line_of text ≡ Some said
    → IsReportLineText text said
unfolding report_line_of
report_line_of-spelled text said read =
    option_and_then_some _ (cut 32 text).1 said read (λ fields is_fields read_on.
    rw (cut-parts 32 text fields is_fields) (report_line_at-spelled (cut 32 text).0 fields said read_on))

-- The texts of a reason and of a line have no line feed.
LacksByte-reason : (text : List ℕ) (reason : Reason) → IsReasonText text reason → LacksByte 10 text
LacksByte-reason text Damaged is = rw is (search rules)
LacksByte-reason text Older is = rw is (search rules)
LacksByte-reason text Counter is = rw is (search rules)
LacksByte-reason text (NoSuchImage image) (small, is) =
    rw is (LacksByte-words (codes "no-such-image") (decimal image) (search rules)
    (LacksByte-number image (omega arith)))
LacksByte-reason text (Needs image minimum) (small, spelled, says, is) =
    rw is (LacksByte-words (codes "needs") (decimal image ␣ spelled) (search rules)
    (LacksByte-image_and_version image minimum spelled small says))
LacksByte-reason text (NeedsOne group) is = LacksByte-needs_one text group is

pub LacksByte-report_line : (text : List ℕ) (said : ReportLine) → IsReportLineText text said → LacksByte 10 text
LacksByte-report_line text (report_line.Run number version) (small, spelled, says, is) =
    rw is (LacksByte-words (codes "run") (decimal number ␣ spelled) (search rules)
    (LacksByte-image_and_version number version spelled small says))
LacksByte-report_line text (report_line.Take number version) (small, spelled, says, is) =
    rw is (LacksByte-words (codes "take") (decimal number ␣ spelled) (search rules)
    (LacksByte-image_and_version number version spelled small says))
LacksByte-report_line text (report_line.Refuse refusal) (small, reason, says, is) =
    rw is (LacksByte-words (codes "refuse") (decimal refusal.image ␣ reason) (search rules)
    (LacksByte-words (decimal refusal.image) reason (LacksByte-number refusal.image (omega arith))
    (LacksByte-reason reason refusal.reason says)))

-- The printed texts of a reason and of a line are texts of them.
reason_text-said : (reason : Reason) → FitsReason reason → IsReasonText (reason_text reason) reason
reason_text-said Damaged fits = refl
reason_text-said Older fits = refl
reason_text-said Counter fits = refl
reason_text-said (NoSuchImage image) small = (small, refl)
reason_text-said (Needs image minimum) (small, fits) = (small, version_text minimum, (fits, inl refl), refl)
reason_text-said (NeedsOne group) fits = needs_one_text-said group fits

pub report_line_text-said : (said : ReportLine) → FitsReportLine said → IsReportLineText (report_line_text said) said
report_line_text-said (report_line.Run number version) (small, fits) =
    (small, version_text version, (fits, inl refl), refl)
report_line_text-said (report_line.Take number version) (small, fits) =
    (small, version_text version, (fits, inl refl), refl)
report_line_text-said (report_line.Refuse refusal) (small, fits) =
    (small, reason_text refusal.reason, reason_text-said refusal.reason fits, refl)

-- The numbers of a reason and of a line that have a text fit their fields.
FitsReason-from_text : (text : List ℕ) (reason : Reason) → IsReasonText text reason → FitsReason reason
FitsReason-from_text text Damaged is = tt
FitsReason-from_text text Older is = tt
FitsReason-from_text text Counter is = tt
FitsReason-from_text text (NoSuchImage image) (small, is) = small
FitsReason-from_text text (Needs image minimum) (small, spelled, says, is) = (small, says.0)
FitsReason-from_text text (NeedsOne group) is = FitsGroup-from_text text group is

pub FitsReportLine-from_text : (text : List ℕ) (said : ReportLine) → IsReportLineText text said → FitsReportLine said
FitsReportLine-from_text text (report_line.Run number version) (small, spelled, says, is) = (small, says.0)
FitsReportLine-from_text text (report_line.Take number version) (small, spelled, says, is) = (small, says.0)
FitsReportLine-from_text text (report_line.Refuse refusal) (small, reason, says, is) =
    (small, FitsReason-from_text reason refusal.reason says)
