-- Adding the lines of images one after another gives these images.
use Rattle.std.proofs.Common.{◌≡◌, ℕ, zero, suc, ◌+◌, ◌<◌, ◌≤◌, Bool, true, false, List, [], ◌∷◌, ◌++◌, length, map, Some, None, refl, sym, ap, ◌∙◌, append_assoc, length-append, arith}
use Rattle.std.specs.Prelude.{option_map}
use Rattle.std.specs.List.{AllByRecursion}
use Rattle.std.proofs.Common.{get_or, set, MatchBool}
use Rattle.std.proofs.lemmas.List.{append-nil}
use Rattle.std.proofs.lemmas.Bool.{lt-ltb, eq-eqb}
use Rattle.common.specs.declared.limits.TheConstants.{MOST_DEPENDENCIES, MOST_GROUPS, MOST_IMAGES}
use Rattle.version_order.specs.declared.version.Version.{Version}
use Rattle.version_order.specs.declared.dependency.Dependency.{Dependency}
use Rattle.version_order.specs.declared.group.Group.{Group}
use Rattle.reports.specs.declared.table.Entry.{Entry}
use Rattle.reports.specs.declared.table.Request.{Request}
use Rattle.reports.specs.declared.table.Request.TheVariants as request
use Rattle.reports.specs.declared.table.Image.{Image}
use Rattle.reports.specs.declared.table_line.TableLine.{TableLine}
use Rattle.reports.specs.declared.table_line.TableLine.TheVariants as line
use Rattle.reports.specs.TableText.{group_lines, needs_lines, request_lines, image_lines, table_lines, HasFewNeeds, AsksForFew, IsSmall}
use Rattle.reports.specs.TableReading.{new_entry, with_dependency, with_group, with_line, with_line_in_last, with_image, with_line_of_images}
use Rattle.common.proofs.ReadingLaws.{run}

in_last-cons : (image last : Image) (front : List Image) (said : TableLine)
    → with_line_in_last (image ∷ (front ++ last ∷ [])) said ≡ option_map (λ more. image ∷ more)
    (with_line_in_last (front ++ last ∷ []) said)
unfolding with_line_in_last
in_last-cons image last [] said = refl
in_last-cons image last (next ∷ front) said = refl

-- A line that the last image accepts is added.
pub in_last-push : (front : List Image) (last more : Image) (said : TableLine) → with_line last said ≡ Some more
    → with_line_in_last (front ++ last ∷ []) said ≡ Some (front ++ more ∷ [])
unfolding with_line_in_last
in_last-push [] last more said taken = rw taken refl
in_last-push (image ∷ front) last more said taken =
    in_last-cons image last front said ∙ rw (in_last-push front last more said taken) refl

-- A line that the last image refuses is refused.
pub in_last-refused : (front : List Image) (last : Image) (said : TableLine) → with_line last said ≡ None
    → with_line_in_last (front ++ last ∷ []) said ≡ None
unfolding with_line_in_last
in_last-refused [] last said refused = rw refused refl
in_last-refused (image ∷ front) last said refused =
    in_last-cons image last front said ∙ rw (in_last-refused front last said refused) refl

-- The last image accepts the lines of several elements one by one.
run-each : {A : Type 0} (line_of : A → TableLine) (limit : ℕ) (put : List A → Image)
    → ((images : List Image) (x : A) → with_line_of_images images (line_of x) ≡ with_line_in_last images (line_of x))
    → ((before : List A) (x : A) → length before < limit
    → with_line (put before) (line_of x) ≡ Some (put (before ++ x ∷ [])))
    → (front : List Image) (before xs : List A) (rest : List TableLine) → length before + length xs ≤ limit
    → run with_line_of_images (front ++ put before ∷ []) (map line_of xs ++ rest) ≡ run with_line_of_images
    (front ++ put (before ++ xs) ∷ []) rest
run-each line_of limit put later takes front before [] rest few =
    ap (λ (xs : List _). run with_line_of_images (front ++ put xs ∷ []) rest) (sym (append-nil before))
run-each line_of limit put later takes front before (x ∷ xs) rest few =
    let first = later (front ++ put before ∷ []) x
    ∙ in_last-push front (put before) (put (before ++ x ∷ [])) (line_of x) (takes before x (omega arith)) in
    let others = run-each line_of limit put later takes front (before ++ x ∷ []) xs rest
    (omega (arith, length-append before (x ∷ []))) in
    rw first (others ∙ ap (λ (xs : List _). run with_line_of_images
    (front ++ put xs ∷ []) rest) (append_assoc before (x ∷ []) xs))

-- An entry with these dependencies and groups.
abbrev entry_with : Version → ℕ → List Dependency → List Group → Entry
entry_with version counter dependencies groups =
    record {
      version = version;
      counter = counter;
      dependencies = record { items = dependencies };
      groups = record { items = groups };
    }

-- The last image adds the lines of an entry's dependencies and groups to this entry.
run-needs : (put : Entry → Image)
    → ((entry more : Entry) (dependency : Dependency) → with_dependency dependency entry ≡ Some more
    → with_line (put entry) (line.Needs dependency) ≡ Some (put more))
    → ((entry more : Entry) (group : Group) → with_group group entry ≡ Some more
    → with_line (put entry) (line.NeedsOne group) ≡ Some (put more))
    → (front : List Image) (entry : Entry) (rest : List TableLine) → HasFewNeeds entry
    → run with_line_of_images (front ++ put (new_entry entry.version entry.counter) ∷ []) (needs_lines entry ++ rest)
    ≡ run with_line_of_images (front ++ put entry ∷ []) rest
unfolding with_line_of_images
run-needs put takes_dependency takes_group front entry rest few =
    let dependencies = entry.dependencies.items in
    let groups = entry.groups.items in
    let with_needs = entry_with entry.version entry.counter in
    let first = run-each (λ dependency. line.Needs dependency) MOST_DEPENDENCIES (λ ds. put (with_needs ds []))
    (λ images x. refl)
    (λ before x room. takes_dependency (with_needs before []) (with_needs (before ++ x ∷ []) []) x
    (rw (lt-ltb (length before) MOST_DEPENDENCIES room) refl))
    front [] dependencies (group_lines groups ++ rest) (omega (arith, few.dependencies)) in
    let then = run-each (λ group. line.NeedsOne group) MOST_GROUPS (λ gs. put (with_needs dependencies gs))
    (λ images x. refl)
    (λ before x room. takes_group (with_needs dependencies before) (with_needs dependencies (before ++ x ∷ [])) x
    (rw (lt-ltb (length before) MOST_GROUPS room) refl))
    front [] groups rest (omega (arith, few.groups)) in
    ap (λ (ls : List TableLine). run with_line_of_images (front ++ put (with_needs [] []) ∷ []) ls)
    (append_assoc (map (λ dependency. line.Needs dependency) dependencies) (group_lines groups) rest)
    ∙ first ∙ then

-- An image with this running entry, and no request yet.
abbrev running_so_far : ℕ → Entry → Image
running_so_far floor entry = record { running = entry; request = request.None; floor = floor }

-- An image with this request.
abbrev request_so_far : Entry → ℕ → Entry → Image
request_so_far running floor entry = record { running = running; request = request.Entry entry; floor = floor }

-- The lines of a request, after those of the running image.
run-request : (front : List Image) (image : Image) (asked : Request) (rest : List TableLine)
    → image.request ≡ request.None → AsksForFew asked
    → run with_line_of_images (front ++ image ∷ []) (request_lines asked ++ rest) ≡ run with_line_of_images
    (front ++ record image { request = asked } ∷ []) rest
unfolding with_line_of_images
run-request front image request.None rest none few =
    let e : record image { request = request.None } ≡ image =
    ap (λ (r : Request). record image { request = r }) (sym none) in rw e refl
run-request front image request.Damaged rest none few =
    let first : with_line_in_last (front ++ image ∷ []) line.Damaged ≡ Some
    (front ++ record image { request = request.Damaged } ∷ []) =
    in_last-push front image (record image { request = request.Damaged }) line.Damaged (rw none refl) in
    rw first refl
run-request front image (request.Entry entry) rest none few =
    let put = request_so_far image.running image.floor in
    let begun = put (new_entry entry.version entry.counter) in
    let first : with_line_in_last (front ++ image ∷ []) (line.Request entry.version entry.counter) ≡ Some
    (front ++ begun ∷ []) =
    in_last-push front image begun (line.Request entry.version entry.counter) (rw none refl) in
    rw first (run-needs put (λ before more dependency e. rw e refl) (λ before more group e. rw e refl)
    front entry rest few)

-- The lines of one image.
run-image : (front : List Image) (image : Image) (rest : List TableLine) → length front < MOST_IMAGES
    → HasFewNeeds image.running → AsksForFew image.request
    → run with_line_of_images front (image_lines (length front) image ++ rest) ≡ run with_line_of_images
    (front ++ image ∷ []) rest
unfolding with_line_of_images
run-image front image rest room few_running few_request =
    let put = running_so_far image.floor in
    let begun = put (new_entry image.running.version image.running.counter) in
    let first : with_image front (length front) begun ≡ Some (front ++ begun ∷ []) =
    rw (eq-eqb (length front) (length front) refl, lt-ltb (length front) MOST_IMAGES room) refl in
    let needs = run-needs put (λ before more dependency e. rw e refl) (λ before more group e. rw e refl)
    front image.running (request_lines image.request ++ rest) few_running in
    let asked = run-request front (record image { request = request.None }) image.request rest refl few_request in
    rw first (ap (λ (ls : List TableLine). run with_line_of_images (front ++ begun ∷ []) ls)
    (append_assoc (needs_lines image.running) (request_lines image.request) rest) ∙ needs ∙ asked)

-- The lines of images, one image after the other.
pub run-table_lines : (front images : List Image) → AllByRecursion IsSmall images
    → length front + length images ≤ MOST_IMAGES
    → run with_line_of_images front (table_lines (length front) images) ≡ Some (front ++ images)
run-table_lines front [] few room = ap Some (sym (append-nil front))
run-table_lines front (image ∷ images) few room =
    let first = run-image front image (table_lines (length front + 1) images) (omega arith) few.0.0 few.0.1 in
    let more : length (front ++ image ∷ []) ≡ length front + 1 = omega (arith, length-append front (image ∷ [])) in
    let others = run-table_lines (front ++ image ∷ []) images few.1 (omega arith) in
    first ∙ (rw more at others) ∙ ap Some (append_assoc front (image ∷ []) images)

-- ---- the last image, by its place

pub in_last-set : (images : List Image) (place : ℕ) (last more : Image) (said : TableLine)
    → length images ≡ place + 1 → last ≡ get_or images place last → with_line last said ≡ Some more
    → with_line_in_last images said ≡ Some (set images place more)
unfolding with_line_in_last
in_last-set [] place last more said count is taken = absurd (omega arith)
in_last-set (image ∷ []) zero last more said count is taken = rw (sym is, taken) refl
in_last-set (image ∷ []) (suc place) last more said count is taken = absurd (omega arith)
in_last-set (image ∷ next ∷ images) zero last more said count is taken = absurd (omega arith)
in_last-set (image ∷ next ∷ images) (suc place) last more said count is taken =
    rw (in_last-set (next ∷ images) place last more said (omega arith) is taken) refl

pub in_last-none : (images : List Image) (place : ℕ) (last : Image) (said : TableLine) → length images ≡ place + 1
    → last ≡ get_or images place last → with_line last said ≡ None → with_line_in_last images said ≡ None
unfolding with_line_in_last
in_last-none [] place last said count is refused = absurd (omega arith)
in_last-none (image ∷ []) zero last said count is refused = rw (sym is, refused) refl
in_last-none (image ∷ []) (suc place) last said count is refused = absurd (omega arith)
in_last-none (image ∷ next ∷ images) zero last said count is refused = absurd (omega arith)
in_last-none (image ∷ next ∷ images) (suc place) last said count is refused =
    rw (in_last-none (next ∷ images) place last said (omega arith) is refused) refl

-- A line changes the images as it changes the last one.
pub in_last-placed : (is_placed : Bool) (images : List Image) (place : ℕ) (last more : Image) (said : TableLine)
    → length images ≡ place + 1 → last ≡ get_or images place last
    → MatchBool is_placed (with_line last said ≡ Some more) (with_line last said ≡ None)
    → MatchBool is_placed (with_line_in_last images said ≡ Some (set images place more))
    (with_line_in_last images said ≡ None)
in_last-placed true images place last more said count is placed =
    in_last-set images place last more said count is placed
in_last-placed false images place last more said count is placed = in_last-none images place last said count is placed
