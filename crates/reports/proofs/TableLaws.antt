-- Reading a table line by line gives exactly the meaning of the lines.
use Rattle.std.proofs.Common.{◌≡◌, ℕ, suc, ◌+◌, ◌<◌, eqb, ltb, ◌&&◌, List, [], ◌∷◌, ◌++◌, length, map, Option, Some, refl, sym, ap, ◌∙◌, append_assoc, arith}
use Rattle.std.proofs.lemmas.List.{append-nil, map-append, nil_from_length}
use Rattle.std.proofs.Common.{add-zero, zero-add}
use Rattle.std.proofs.lemmas.Bool.{and_parts, eqb-true, ltb-true}
use Rattle.std.proofs.lemmas.Option.{cond_some}
use Rattle.common.proofs.Options.{option_map-Some}
use Rattle.common.specs.declared.limits.TheConstants.{MOST_DEPENDENCIES, MOST_GROUPS, MOST_IMAGES}
use Rattle.version_order.specs.declared.dependency.Dependency.{Dependency}
use Rattle.version_order.specs.declared.group.Group.{Group}
use Rattle.reports.specs.declared.table.Entry.{Entry}
use Rattle.reports.specs.declared.table.Request.{Request}
use Rattle.reports.specs.declared.table.Request.TheVariants as request
use Rattle.reports.specs.declared.table.Image.{Image}
use Rattle.reports.specs.declared.table.Table.{Table}
use Rattle.reports.specs.declared.table_line.TableLine.{TableLine}
use Rattle.reports.specs.declared.table_line.TableLine.TheVariants as line
use Rattle.reports.specs.TableText.{group_lines, needs_lines, request_lines, image_lines, table_lines}
use Rattle.reports.specs.TableReading.{in_last_entry, new_entry, with_dependency, with_group, with_request, with_line, with_line_in_last, with_line_of_images, table_of, with_table_line}

push_nil : {A : Type 0} (xs : List A) (x : A) → (xs ++ x ∷ []) ++ [] ≡ (xs ++ []) ++ x ∷ []
push_nil xs x = append-nil (xs ++ x ∷ []) ∙ ap (λ (t : List _). t ++ x ∷ []) (sym (append-nil xs))

-- ---- one more line is one more line of what is spelled

abbrev needs_line : Dependency → TableLine
needs_line dependency = line.Needs dependency

abbrev needs_one_line : Group → TableLine
needs_one_line group = line.NeedsOne group

-- The lines of images one after the other.
pub table_lines-append : (n : ℕ) (xs ys : List Image)
    → table_lines n (xs ++ ys) ≡ table_lines n xs ++ table_lines (n + length xs) ys
table_lines-append n [] ys = rw add-zero refl
table_lines-append n (x ∷ xs) ys =
    let e : n + 1 + length xs ≡ n + suc (length xs) = omega arith in
    ap (λ (ls : List TableLine). image_lines n x ++ ls)
    (table_lines-append (n + 1) xs ys ∙ ap (λ (k : ℕ). table_lines (n + 1) xs ++ table_lines k ys) e)
    ∙ simp append_assoc

-- One more dependency, before any group and within the limit.
pub with_dependency-some : (dependency : Dependency) (entry more : Entry)
    → with_dependency dependency entry ≡ Some more → (entry.groups.items ≡ [])
    × (length entry.dependencies.items < MOST_DEPENDENCIES)
    × (record entry { dependencies = record { items = entry.dependencies.items ++ dependency ∷ [] } } ≡ more)
with_dependency-some dependency entry more e =
    let no_groups = eqb (length entry.groups.items) 0 in
    let room = ltb (length entry.dependencies.items) MOST_DEPENDENCIES in
    let g = cond_some (no_groups && room)
    (record entry { dependencies = record { items = entry.dependencies.items ++ dependency ∷ [] } }) more e in
    let a = and_parts no_groups room g.0 in
    (nil_from_length entry.groups.items (eqb-true _ _ a.0), ltb-true _ _ a.1, g.1)

-- One more group, within the limit.
pub with_group-some : (group : Group) (entry more : Entry) → with_group group entry ≡ Some more
    → (length entry.groups.items < MOST_GROUPS)
    × (record entry { groups = record { items = entry.groups.items ++ group ∷ [] } } ≡ more)
with_group-some group entry more e =
    let g = cond_some (ltb (length entry.groups.items) MOST_GROUPS)
    (record entry { groups = record { items = entry.groups.items ++ group ∷ [] } }) more e in
    (ltb-true _ _ g.0, g.1)

-- An entry has one more line, for a dependency or a group.
abbrev HasOneMore : Entry → Entry → TableLine → Type 0
HasOneMore entry more said =
    (needs_lines more ≡ needs_lines entry ++ said ∷ []) × (more.version ≡ entry.version)
    × (more.counter ≡ entry.counter)

dependency-more : (dependency : Dependency) (entry more : Entry) → with_dependency dependency entry ≡ Some more
    → HasOneMore entry more (line.Needs dependency)
dependency-more dependency entry more e =
    let g = with_dependency-some dependency entry more e in
    rw (← g.2, g.0) (
      ap (λ (ls : List TableLine). ls ++ []) (map-append needs_line entry.dependencies.items (dependency ∷ []))
          ∙ push_nil (map needs_line entry.dependencies.items) (line.Needs dependency),
      refl,
      refl,
    )

group-more : (group : Group) (entry more : Entry) → with_group group entry ≡ Some more
    → HasOneMore entry more (line.NeedsOne group)
group-more group entry more e =
    let g = with_group-some group entry more e in
    rw (← g.1) (
      ap (λ (ls : List TableLine). map needs_line entry.dependencies.items ++ ls)
          (map-append needs_one_line entry.groups.items (group ∷ []))
          ∙ sym (append_assoc (map needs_line entry.dependencies.items) (group_lines entry.groups.items)
          (line.NeedsOne group ∷ [])),
      refl,
      refl,
    )

-- One more dependency or group of the last entry is one more line of the image.
image_lines-more : (with_one_more : Entry → Option Entry) (said : TableLine)
    → ((entry more : Entry) → with_one_more entry ≡ Some more → HasOneMore entry more said)
    → (n : ℕ) (image more : Image) (asked : Request) → image.request ≡ asked
    → in_last_entry with_one_more image asked ≡ Some more
    → image_lines n more ≡ image_lines n image ++ said ∷ []
image_lines-more with_one_more said grows n image more request.None is e =
    let a = option_map-Some (λ entry. record image { running = entry }) (with_one_more image.running) more e in
    let d = grows image.running a.0 a.1 in
    rw (← a.2, d.0, d.1, d.2, is) (ap (λ (ls : List TableLine).
    line.Image n image.running.version image.running.counter image.floor ∷ ls)
    (push_nil (needs_lines image.running) said))
image_lines-more with_one_more said grows n image more request.Damaged is e = cc
image_lines-more with_one_more said grows n image more (request.Entry entry) is e =
    let a = option_map-Some (λ asked. record image { request = request.Entry asked }) (with_one_more entry) more e in
    let d = grows entry a.0 a.1 in
    rw (← a.2, d.0, d.1, d.2, is) (ap (λ (ls : List TableLine).
    line.Image n image.running.version image.running.counter image.floor ∷ ls)
    (sym (append_assoc (needs_lines image.running) (line.Request entry.version entry.counter ∷ needs_lines entry)
    (said ∷ []))))

image_lines-request : (n : ℕ) (image more : Image) (new asked : Request) (said : TableLine)
    → request_lines new ≡ said ∷ [] → image.request ≡ asked → with_request image new asked ≡ Some more
    → image_lines n more ≡ image_lines n image ++ said ∷ []
image_lines-request n image more new request.None said one is e =
    let d : record image { request = new } ≡ more = cc in
    rw (← d, is, one) (ap (λ (ls : List TableLine).
    line.Image n image.running.version image.running.counter image.floor ∷ (ls ++ said ∷ []))
    (sym (append-nil (needs_lines image.running))))
image_lines-request n image more new request.Damaged said one is e = cc
image_lines-request n image more new (request.Entry entry) said one is e = cc

image_lines-with_line : (n : ℕ) (image more : Image) (said : TableLine) → with_line image said ≡ Some more
    → image_lines n more ≡ image_lines n image ++ said ∷ []
image_lines-with_line n image more (line.Image number version counter floor) e = cc
image_lines-with_line n image more (line.Needs dependency) e =
    image_lines-more (with_dependency dependency) (line.Needs dependency) (dependency-more dependency)
    n image more image.request refl e
image_lines-with_line n image more (line.NeedsOne group) e =
    image_lines-more (with_group group) (line.NeedsOne group) (group-more group) n image more image.request refl e
image_lines-with_line n image more (line.Request version counter) e =
    image_lines-request n image more (request.Entry (new_entry version counter)) image.request
    (line.Request version counter) refl refl e
image_lines-with_line n image more line.Damaged e =
    image_lines-request n image more request.Damaged image.request line.Damaged refl refl e

table_lines-in_last : (n : ℕ) (images next : List Image) (said : TableLine)
    → with_line_in_last images said ≡ Some next → table_lines n next ≡ table_lines n images ++ said ∷ []
unfolding with_line_in_last
table_lines-in_last n [] next said e = cc
table_lines-in_last n (image ∷ []) next said e =
    let a = option_map-Some (λ more. more ∷ []) (with_line image said) next e in
    rw (← a.2) (append-nil (image_lines n a.0) ∙ image_lines-with_line n image a.0 said a.1
    ∙ ap (λ (ls : List TableLine). ls ++ said ∷ []) (sym (append-nil (image_lines n image))))
table_lines-in_last n (image ∷ other ∷ images) next said e =
    let a = option_map-Some (λ more. image ∷ more) (with_line_in_last (other ∷ images) said) next e in
    rw (← a.2) (ap (λ (ls : List TableLine). image_lines n image ++ ls)
    (table_lines-in_last (n + 1) (other ∷ images) a.0 said a.1)
    ∙ sym (append_assoc (image_lines n image) (table_lines (n + 1) (other ∷ images)) (said ∷ [])))

-- One more line that is added is one more line of the images.
images-grow : (images next : List Image) (said : TableLine) → with_line_of_images images said ≡ Some next
    → table_lines 0 next ≡ table_lines 0 images ++ said ∷ []
unfolding with_line_of_images
images-grow images next (line.Image number version counter floor) e =
    let image : Image = record { running = new_entry version counter; request = request.None; floor = floor } in
    let g = cond_some (eqb number (length images) && ltb (length images) MOST_IMAGES) (images ++ image ∷ []) next e in
    let number-is = eqb-true number (length images) (and_parts (eqb number (length images))
    (ltb (length images) MOST_IMAGES) g.0).0 in
    rw (← g.1, number-is) (table_lines-append 0 images (image ∷ [])
    ∙ ap (λ (n : ℕ). table_lines 0 images ++ table_lines n (image ∷ [])) (zero-add (length images)))
images-grow images next (line.Needs dependency) e = table_lines-in_last 0 images next (line.Needs dependency) e
images-grow images next (line.NeedsOne group) e = table_lines-in_last 0 images next (line.NeedsOne group) e
images-grow images next (line.Request version counter) e =
    table_lines-in_last 0 images next (line.Request version counter) e
images-grow images next line.Damaged e = table_lines-in_last 0 images next line.Damaged e

pub table_lines-grow : (table next : Table) (said : TableLine) → with_table_line table said ≡ Some next
    → table_lines 0 next.images.items ≡ table_lines 0 table.images.items ++ said ∷ []
table_lines-grow table next said e =
    let a = option_map-Some table_of (with_line_of_images table.images.items said) next e in
    rw (← a.2) (images-grow table.images.items a.0 said a.1)
