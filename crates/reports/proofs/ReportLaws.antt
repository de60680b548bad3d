-- Reading a report line by line gives exactly the meaning of the lines.
use Rattle.std.proofs.Common.{◌≡◌, ℕ, suc, ◌+◌, ◌<◌, ◌≤◌, Bool, true, false, eqb, ltb, ◌&&◌, List, [], ◌∷◌, ◌++◌, length, map, Option, Some, refl, sym, ap, ◌∙◌, append_assoc, length-append, arith, add-zero, zero-add, ◌⊎◌, inl, inr}
use Rattle.std.proofs.lemmas.List.{append-nil, map-append, nil_from_length}
use Rattle.std.proofs.lemmas.Bool.{and_parts, eqb-true, ltb-true, lt-ltb, eq-eqb}
use Rattle.std.proofs.lemmas.Option.{cond_some}
use Rattle.common.specs.declared.limits.TheConstants.{MOST_IMAGES}
use Rattle.version_order.specs.declared.version.Version.{Version}
use Rattle.reports.specs.declared.report.TheConstants.{MOST_REFUSALS}
use Rattle.reports.specs.declared.report.Refusal.{Refusal}
use Rattle.reports.specs.declared.report.ReportedImage.{ReportedImage}
use Rattle.reports.specs.declared.report.Report.{Report}
use Rattle.reports.specs.declared.report_line.ReportLine.{ReportLine}
use Rattle.reports.specs.declared.report_line.ReportLine.TheVariants as line
use Rattle.common.specs.Reading.{with_text}
use Rattle.reports.specs.ReportText.{reported_line, reported_lines, report_lines}
use Rattle.reports.specs.ReportReading.{empty_report, with_reported_image, with_refusal, with_report_line}
use Rattle.common.proofs.Options.{and_then_some}
use Rattle.common.proofs.ReadingLaws.{run}

abbrev refuse_line : Refusal → ReportLine
refuse_line refusal = line.Refuse refusal

-- ---- one more line is one more line of what is spelled

-- The lines of images one after the other.
pub reported_lines-append : (n : ℕ) (xs ys : List ReportedImage)
    → reported_lines n (xs ++ ys) ≡ reported_lines n xs ++ reported_lines (n + length xs) ys
reported_lines-append n [] ys = rw add-zero refl
reported_lines-append n (x ∷ xs) ys =
    let e : n + 1 + length xs ≡ n + suc (length xs) = omega arith in
    ap (λ (ls : List ReportLine). reported_line n x ∷ ls)
    (reported_lines-append (n + 1) xs ys ∙ ap (λ (k : ℕ). reported_lines (n + 1) xs ++ reported_lines k ys) e)

-- The conditions under which one more image is added.
with_reported_image-some : (report next : Report) (number : ℕ) (image : ReportedImage)
    → with_reported_image report number image ≡ Some next
    → (report.refusals.items ≡ []) × (number ≡ length report.images.items)
    × (length report.images.items < MOST_IMAGES)
    × (record report { images = record { items = report.images.items ++ image ∷ [] } } ≡ next)
with_reported_image-some report next number image e =
    let counts = eqb number (length report.images.items) in
    let room = ltb (length report.images.items) MOST_IMAGES in
    let g = cond_some (eqb (length report.refusals.items) 0 && (counts && room))
    (record report { images = record { items = report.images.items ++ image ∷ [] } }) next e in
    let a = and_parts (eqb (length report.refusals.items) 0) (counts && room) g.0 in
    let b = and_parts counts room a.1 in
    (nil_from_length report.refusals.items (eqb-true _ _ a.0), eqb-true _ _ b.0, ltb-true _ _ b.1, g.1)

with_refusal-some : (report next : Report) (refusal : Refusal) → with_refusal report refusal ≡ Some next
    → (0 < length report.images.items) × (length report.refusals.items < MOST_REFUSALS)
    × (record report { refusals = record { items = report.refusals.items ++ refusal ∷ [] } } ≡ next)
with_refusal-some report next refusal e =
    let g = cond_some (ltb 0 (length report.images.items) && ltb (length report.refusals.items) MOST_REFUSALS)
    (record report { refusals = record { items = report.refusals.items ++ refusal ∷ [] } }) next e in
    let a = and_parts (ltb 0 (length report.images.items)) (ltb (length report.refusals.items) MOST_REFUSALS) g.0 in
    (ltb-true _ _ a.0, ltb-true _ _ a.1, g.1)

report_lines-image : (report next : Report) (number : ℕ) (image : ReportedImage)
    → with_reported_image report number image ≡ Some next
    → report_lines next ≡ report_lines report ++ reported_line number image ∷ []
report_lines-image report next number image e =
    let g = with_reported_image-some report next number image e in
    rw (← g.3, g.0, g.1) (append-nil (reported_lines 0 (report.images.items ++ image ∷ []))
    ∙ reported_lines-append 0 report.images.items (image ∷ [])
    ∙ ap (λ (n : ℕ). reported_lines 0 report.images.items ++ reported_lines n (image ∷ []))
    (zero-add (length report.images.items))
    ∙ ap (λ (ls : List ReportLine). ls ++ reported_line (length report.images.items) image ∷ [])
    (sym (append-nil (reported_lines 0 report.images.items))))

-- A line that was added: an image, or a refusal.
abbrev IsAdded : Report → ReportLine → Report → Type 0
IsAdded report said next =
    ((number : ℕ) × (image : ReportedImage) × (with_reported_image report number image ≡ Some next)
    × (said ≡ reported_line number image))
    ⊎ ((refusal : Refusal) × (with_refusal report refusal ≡ Some next) × (said ≡ refuse_line refusal))

is_added : (report next : Report) (said : ReportLine) → with_report_line report said ≡ Some next
    → IsAdded report said next
unfolding with_report_line
is_added report next (line.Run number version) e = inl (number, record { is_taken = false; version = version }, e, refl)
is_added report next (line.Take number version) e = inl (number, record { is_taken = true; version = version }, e, refl)
is_added report next (line.Refuse refusal) e = inr (refusal, e, refl)

-- One more line that is added is one more line of the report.
pub report_lines-grow : (report next : Report) (said : ReportLine) → with_report_line report said ≡ Some next
    → report_lines next ≡ report_lines report ++ said ∷ []
report_lines-grow report next said e =
    elim (is_added report next said e) [
      | inl (number, image, added, is) ↦ rw is (report_lines-image report next number image added)
      | inr (refusal, added, is) ↦
          let g = with_refusal-some report next refusal added in
          rw (is, ← g.2) (ap (λ (ls : List ReportLine). reported_lines 0 report.images.items ++ ls)
          (map-append refuse_line report.refusals.items (refusal ∷ []))
          ∙ sym (append_assoc (reported_lines 0 report.images.items) (map refuse_line report.refusals.items)
          (line.Refuse refusal ∷ [])))
    ]

-- ---- the limits of a report

-- There are at most eight images and eight refusals.
pub record IsShort (report : Report) : Type 0 where
  pub images : length report.images.items ≤ MOST_IMAGES
  pub refusals : length report.refusals.items ≤ MOST_REFUSALS

IsShort-image : (report next : Report) (number : ℕ) (image : ReportedImage)
    → with_reported_image report number image ≡ Some next → IsShort report → IsShort next
IsShort-image report next number image e short =
    let g = with_reported_image-some report next number image e in
    rw (← g.3) (record {
      images = omega (
        arith,
        g.2,
        length-append report.images.items
            (image ∷ []),
      );
      refusals = short.refusals;
    })

IsShort-with_report_line : (report next : Report) (said : ReportLine) → with_report_line report said ≡ Some next
    → IsShort report → IsShort next
IsShort-with_report_line report next said e short =
    elim (is_added report next said e) [
      | inl (number, image, added, is) ↦ IsShort-image report next number image added short
      | inr (refusal, added, is) ↦
          let g = with_refusal-some report next refusal added in
          rw (← g.2) (record {
            images = short.images;
            refusals = omega (arith, g.1, length-append report.refusals.items (refusal ∷ []));
          })
    ]

-- A report that was read keeps the limits.
pub IsShort-run : (line_of : List ℕ → Option ReportLine) (report final : Report) (texts : List (List ℕ))
    → run (with_text line_of with_report_line) report texts ≡ Some final → IsShort report → IsShort final
IsShort-run line_of report final [] e short = let d : report ≡ final = cc in rw (← d) short
IsShort-run line_of report final (text ∷ texts) e short =
    let first = and_then_some (with_text line_of with_report_line report text)
    (λ next. run (with_text line_of with_report_line) next texts) final e in
    let placed = and_then_some (line_of text) (with_report_line report) first.0 first.1 in
    IsShort-run line_of first.0 final texts first.2 (IsShort-with_report_line report first.0 placed.0 placed.2 short)

-- ---- placing the lines of a report gives the report

abbrev of_lists : List ReportedImage → List Refusal → Report
of_lists images refusals = record { images = record { items = images }; refusals = record { items = refusals } }

placed-image : (front : List ReportedImage) (image : ReportedImage) → length front < MOST_IMAGES
    → with_reported_image (of_lists front []) (length front) image ≡ Some (of_lists (front ++ image ∷ []) [])
placed-image front image room = rw (
  eq-eqb (length front) (length front) refl,
  lt-ltb
      (length front) MOST_IMAGES room,
) refl

placed-reported_line : (front : List ReportedImage) (is_taken : Bool) (version : Version) → length front < MOST_IMAGES
    → with_report_line (of_lists front [])
    (reported_line (length front) (record { is_taken = is_taken; version = version })) ≡ Some
    (of_lists (front ++ record { is_taken = is_taken; version = version } ∷ []) [])
unfolding with_report_line
placed-reported_line front true version room = placed-image front (record { is_taken = true; version = version }) room
placed-reported_line front false version room = placed-image front (record { is_taken = false; version = version }) room

run-reported_lines : (front images : List ReportedImage) (rest : List ReportLine)
    → length front + length images ≤ MOST_IMAGES
    → run with_report_line (of_lists front []) (reported_lines (length front) images ++ rest) ≡ run with_report_line
    (of_lists (front ++ images) []) rest
run-reported_lines front [] rest room =
    ap (λ (xs : List ReportedImage). run with_report_line (of_lists xs []) rest) (sym (append-nil front))
run-reported_lines front (image ∷ images) rest room =
    let first = placed-reported_line front image.is_taken image.version (omega arith) in
    let more : length (front ++ image ∷ []) ≡ length front + 1 = omega (arith, length-append front (image ∷ [])) in
    let others = run-reported_lines (front ++ image ∷ []) images rest (omega arith) in
    rw first ((rw more at others) ∙ ap (λ (xs : List ReportedImage). run with_report_line
    (of_lists xs []) rest) (append_assoc front (image ∷ []) images))

placed-refusal : (images : List ReportedImage) (front : List Refusal) (refusal : Refusal) → 1 ≤ length images
    → length front < MOST_REFUSALS
    → with_report_line (of_lists images front) (refuse_line refusal) ≡ Some
    (of_lists images (front ++ refusal ∷ []))
unfolding with_report_line
placed-refusal images front refusal some room =
    rw (lt-ltb 0 (length images) (omega arith), lt-ltb (length front) MOST_REFUSALS room) refl

run-refusals : (images : List ReportedImage) (front refusals : List Refusal) → 1 ≤ length images
    → length front + length refusals ≤ MOST_REFUSALS
    → run with_report_line (of_lists images front) (map refuse_line refusals) ≡ Some
    (of_lists images (front ++ refusals))
run-refusals images front [] some room = ap (λ (rs : List Refusal). Some (of_lists images rs)) (sym (append-nil front))
run-refusals images front (refusal ∷ refusals) some room =
    let others = run-refusals images (front ++ refusal ∷ []) refusals some
    (omega (arith, length-append front (refusal ∷ []))) in
    rw (placed-refusal images front refusal some (omega arith))
    (others ∙ ap (λ (rs : List Refusal). Some (of_lists images rs))
    (append_assoc front (refusal ∷ []) refusals))

-- Adding the lines of a report one after another gives the report.
pub run-report_lines : (report : Report) → 1 ≤ length report.images.items → IsShort report
    → run with_report_line empty_report (report_lines report) ≡ Some report
run-report_lines report some short =
    run-reported_lines [] report.images.items (map refuse_line report.refusals.items) (omega (arith, short.images))
    ∙ run-refusals report.images.items [] report.refusals.items some (omega (arith, short.refusals))

-- ---- a report that was read from a line has an image

HasImage-image : (report next : Report) (number : ℕ) (image : ReportedImage)
    → with_reported_image report number image ≡ Some next → 1 ≤ length next.images.items
HasImage-image report next number image e =
    let g = with_reported_image-some report next number image e in
    rw (← g.3) (omega (arith, length-append report.images.items (image ∷ [])))

HasImage-with_report_line : (report next : Report) (said : ReportLine) → with_report_line report said ≡ Some next
    → 1 ≤ length next.images.items
HasImage-with_report_line report next said e =
    elim (is_added report next said e) [
      | inl (number, image, added, is) ↦ HasImage-image report next number image added
      | inr (refusal, added, is) ↦
          let g = with_refusal-some report next refusal added in
          rw (← g.2) (omega (arith, g.0))
    ]

-- A report that was read from at least one line has an image.
pub has_image_after : (line_of : List ℕ → Option ReportLine) (report final : Report) (texts : List (List ℕ))
    → run (with_text line_of with_report_line) report texts ≡ Some final
    → (0 < length texts) ⊎ (1 ≤ length report.images.items) → 1 ≤ length final.images.items
has_image_after line_of report final [] e (inl some) = absurd (omega arith)
has_image_after line_of report final [] e (inr some) = let d : report ≡ final = cc in rw (← d) some
has_image_after line_of report final (text ∷ texts) e some =
    let first = and_then_some (with_text line_of with_report_line report text)
    (λ next. run (with_text line_of with_report_line) next texts) final e in
    let placed = and_then_some (line_of text) (with_report_line report) first.0 first.1 in
    has_image_after line_of first.0 final texts first.2
    (inr (HasImage-with_report_line report first.0 placed.0 placed.2))
