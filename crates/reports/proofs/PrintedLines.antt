-- Printed lines, one step of a loop at a time.
use Rattle.std.proofs.Common.{◌≡◌, ℕ, ◌+◌, ◌<◌, List, [], ◌∷◌, ◌++◌, length, get_or, map, take, sym, ap, ◌∙◌, append-nil, arith}
use Rattle.std.proofs.lemmas.List.{take_more, length-take-le, flat_map_more, map-append}
use Rattle.std.proofs.lemmas.List.Concat.{flat_map-append}
use Rattle.common.specs.Lines.{printed_lines}
use Rattle.reports.specs.declared.table.Image.{Image}
use Rattle.reports.specs.declared.report.ReportedImage.{ReportedImage}
use Rattle.reports.specs.declared.table_line.TableLine.{TableLine}
use Rattle.reports.specs.declared.table_line.TableLine.TheVariants as line
use Rattle.reports.specs.declared.report_line.ReportLine.{ReportLine}
use Rattle.reports.specs.TableText.{image_lines, needs_lines, request_lines, table_line_text, table_lines}
use Rattle.reports.specs.ReportText.{report_line_text, reported_line, reported_lines}
use Rattle.reports.proofs.ReportLaws.{reported_lines-append}
use Rattle.reports.proofs.TableLaws.{table_lines-append}

-- One more image is printed after the others.
pub printed_images_more : (xs : List Image) (i : ℕ) (x : Image) → i < length xs → x ≡ get_or xs i x
    → printed_lines table_line_text (table_lines 0 (take i xs)) ++ printed_lines table_line_text
    (image_lines i x) ≡ printed_lines table_line_text (table_lines 0 (take (i + 1) xs))
printed_images_more xs i x below is =
    let lines : table_lines 0 (take (i + 1) xs) ≡ table_lines 0 (take i xs) ++ image_lines i x =
    ap (λ ys. table_lines 0 ys) (take_more xs i x below ∙ ap (λ y. take i xs ++ y ∷ []) (sym is))
    ∙ table_lines-append 0 (take i xs) (x ∷ [])
    ∙ ap (λ (ls : List TableLine). table_lines 0 (take i xs) ++ ls)
    (append-nil (image_lines (0 + length (take i xs)) x)
    ∙ ap (λ k. image_lines k x) (omega (arith, length-take-le i xs (omega arith)))) in
    sym (ap (printed_lines table_line_text) lines
    ∙ flat_map-append (λ said. table_line_text said ++ 10 ∷ []) (table_lines 0 (take i xs)) (image_lines i x))

-- One more reported image is printed after the others.
pub printed_reported_more : (xs : List ReportedImage) (i : ℕ) (d : ReportedImage) (said : ReportLine)
    → i < length xs → said ≡ reported_line i (get_or xs i d)
    → printed_lines report_line_text (reported_lines 0 (take i xs)) ++
    (report_line_text said ++ 10 ∷ []) ≡ printed_lines report_line_text (reported_lines 0 (take (i + 1) xs))
printed_reported_more xs i d said below is =
    let x = get_or xs i d in
    let lines : reported_lines 0 (take (i + 1) xs) ≡ reported_lines 0 (take i xs) ++ said ∷ [] =
    ap (λ ys. reported_lines 0 ys) (take_more xs i d below)
    ∙ reported_lines-append 0 (take i xs) (x ∷ [])
    ∙ ap (λ (k : ℕ). reported_lines 0 (take i xs) ++ reported_line k x ∷ [])
    (omega (arith, length-take-le i xs (omega arith)))
    ∙ ap (λ (line : ReportLine). reported_lines 0 (take i xs) ++ line ∷ []) (sym is) in
    flat_map_more (λ line. report_line_text line ++ 10 ∷ []) [] (reported_lines 0 (take i xs)) said
    ∙ ap (printed_lines report_line_text) (sym lines)

-- An image is printed as its first line, its dependencies and groups, and its request.
pub printed_image : (n : ℕ) (image : Image)
    → (table_line_text (line.Image n image.running.version image.running.counter image.floor) ++ 10 ∷ [])
    ++ (printed_lines table_line_text (needs_lines image.running)
    ++ printed_lines table_line_text (request_lines image.request))
    ≡ printed_lines table_line_text (image_lines n image)
printed_image n image =
    let text = λ (said : TableLine). table_line_text said ++ 10 ∷ [] in
    let first = line.Image n image.running.version image.running.counter image.floor in
    sym (ap (λ (more : List ℕ). text first ++ more)
    (flat_map-append text (needs_lines image.running) (request_lines image.request)))

-- One more element is printed on a line of its own after the others.
pub printed_at : {A B : Type 0} (text_of : B → List ℕ) (line_of : A → B) (xs : List A) (i : ℕ) (d : A)
    → i < length xs
    → printed_lines text_of (map line_of (take i xs)) ++ (text_of (line_of (get_or xs i d)) ++ 10 ∷ [])
    ≡ printed_lines text_of (map line_of (take (i + 1) xs))
printed_at text_of line_of xs i d below =
    let x = get_or xs i d in
    flat_map_more (λ thing. text_of thing ++ 10 ∷ []) [] (map line_of (take i xs)) (line_of x)
    ∙ sym (ap (printed_lines text_of) (ap (map line_of) (take_more xs i d below) ∙ map-append line_of (take i xs) (x ∷ [])))

-- The same of an element that is the one at its place.
pub printed_more : {A B : Type 0} (text_of : B → List ℕ) (line_of : A → B) (xs : List A) (i : ℕ) (x : A)
    → i < length xs → x ≡ get_or xs i x
    → printed_lines text_of (map line_of (take i xs)) ++ (text_of (line_of x) ++ 10 ∷ [])
    ≡ printed_lines text_of (map line_of (take (i + 1) xs))
printed_more text_of line_of xs i x below is =
    ap (λ y. printed_lines text_of (map line_of (take i xs)) ++ (text_of (line_of y) ++ 10 ∷ [])) is
    ∙ printed_at text_of line_of xs i x below
