-- A table that is read keeps the limits.
use Rattle.std.proofs.Common.{◌≡◌, ℕ, suc, ◌≤◌, eqb, ltb, ◌&&◌, List, [], ◌∷◌, ◌++◌, length, Option, Some, refl, ap, length-append, arith}
use Rattle.std.specs.List.{AllByRecursion}
use Rattle.std.proofs.lemmas.Bool.{and_parts, ltb-true}
use Rattle.std.proofs.lemmas.Option.{cond_some, same_Some}
use Rattle.common.specs.declared.limits.TheConstants.{MOST_IMAGES}
use Rattle.version_order.specs.declared.version.Version.{Version}
use Rattle.version_order.specs.declared.group.Group.{Group}
use Rattle.version_order.specs.declared.dependency.Dependency.{Dependency}
use Rattle.reports.specs.declared.table.Entry.{Entry}
use Rattle.reports.specs.declared.table.Request.{Request}
use Rattle.reports.specs.declared.table.Request.TheVariants as request
use Rattle.reports.specs.declared.table.Image.{Image}
use Rattle.reports.specs.declared.table.Table.{Table}
use Rattle.reports.specs.declared.table_line.TableLine.{TableLine}
use Rattle.reports.specs.declared.table_line.TableLine.TheVariants as line
use Rattle.common.specs.Reading.{with_text}
use Rattle.reports.specs.TableText.{HasFewNeeds, AsksForFew, IsSmall}
use Rattle.reports.specs.TableReading.{in_last_entry, new_entry, with_dependency, with_group, with_request, with_line, with_line_in_last, with_line_of_images, table_of, with_table_line}
use Rattle.common.proofs.Options.{and_then_some, option_map-Some}
use Rattle.common.proofs.ReadingLaws.{run}
use Rattle.reports.proofs.TableLaws.{with_dependency-some, with_group-some}

-- There are at most eight images, each within the limits.
pub record AreFew (images : List Image) : Type 0 where
  pub most : length images ≤ MOST_IMAGES
  pub few : AllByRecursion IsSmall images

-- An entry without dependencies and groups is within the limits.
few_in_new : {version : Version} {counter : ℕ} → HasFewNeeds (new_entry version counter)
few_in_new = record { dependencies = omega arith; groups = omega arith }

few-with_dependency : (dependency : Dependency) (entry more : Entry) → with_dependency dependency entry ≡ Some more
    → HasFewNeeds entry → HasFewNeeds more
few-with_dependency dependency entry more e few =
    let g = with_dependency-some dependency entry more e in
    rw (← g.2) (record {
      dependencies = omega (arith, g.1, length-append entry.dependencies.items (dependency ∷ []));
      groups = few.groups;
    })

few-with_group : (group : Group) (entry more : Entry) → with_group group entry ≡ Some more → HasFewNeeds entry
    → HasFewNeeds more
few-with_group group entry more e few =
    let g = with_group-some group entry more e in
    rw (← g.1) (record {
      dependencies = few.dependencies;
      groups = omega (arith, g.0, length-append entry.groups.items (group ∷ []));
    })

IsSmall-more : (with_one_more : Entry → Option Entry)
    → ((entry more : Entry) → with_one_more entry ≡ Some more → HasFewNeeds entry → HasFewNeeds more)
    → (image more : Image) (asked : Request) → image.request ≡ asked
    → in_last_entry with_one_more image asked ≡ Some more → IsSmall image → IsSmall more
IsSmall-more with_one_more keeps image more request.None is e small =
    let a = option_map-Some (λ entry. record image { running = entry }) (with_one_more image.running) more e in
    rw (← a.2) (keeps image.running a.0 a.1 small.0, small.1)
IsSmall-more with_one_more keeps image more request.Damaged is e small = cc
IsSmall-more with_one_more keeps image more (request.Entry entry) is e small =
    let a = option_map-Some (λ asked. record image { request = request.Entry asked }) (with_one_more entry) more e in
    rw (← a.2) (small.0, keeps entry a.0 a.1 (rw is at small.1))

IsSmall-request : (image more : Image) (new asked : Request) → AsksForFew new
    → with_request image new asked ≡ Some more → IsSmall image → IsSmall more
IsSmall-request image more new request.None few e small =
    let d : record image { request = new } ≡ more = cc in rw (← d) (small.0, few)
IsSmall-request image more new request.Damaged few e small = cc
IsSmall-request image more new (request.Entry entry) few e small = cc

IsSmall-with_line : (image more : Image) (said : TableLine) → with_line image said ≡ Some more → IsSmall image
    → IsSmall more
IsSmall-with_line image more (line.Image number version counter floor) e small = cc
IsSmall-with_line image more (line.Needs dependency) e small =
    IsSmall-more (with_dependency dependency) (few-with_dependency dependency) image more image.request refl e small
IsSmall-with_line image more (line.NeedsOne group) e small =
    IsSmall-more (with_group group) (few-with_group group) image more image.request refl e small
IsSmall-with_line image more (line.Request version counter) e small =
    IsSmall-request image more (request.Entry (new_entry version counter)) image.request few_in_new e small
IsSmall-with_line image more line.Damaged e small = IsSmall-request image more request.Damaged image.request tt e small

in_last-keeps : (images next : List Image) (said : TableLine) → with_line_in_last images said ≡ Some next
    → AllByRecursion IsSmall images → (length next ≡ length images) × AllByRecursion IsSmall next
unfolding with_line_in_last
in_last-keeps [] next said e small = cc
in_last-keeps (image ∷ []) next said e small =
    let a = option_map-Some (λ more. more ∷ []) (with_line image said) next e in
    rw (← a.2) (refl, (IsSmall-with_line image a.0 said a.1 small.0, tt))
in_last-keeps (image ∷ other ∷ images) next said e small =
    let a = option_map-Some (λ more. image ∷ more) (with_line_in_last (other ∷ images) said) next e in
    let kept = in_last-keeps (other ∷ images) a.0 said a.1 small.1 in
    rw (← a.2) (ap suc kept.0, (small.0, kept.1))

AreFew-in_last : (images next : List Image) (said : TableLine) → with_line_in_last images said ≡ Some next
    → AreFew images → AreFew next
AreFew-in_last images next said e few =
    let kept = in_last-keeps images next said e few.few in record {
      most = omega (arith, kept.0, few.most);
      few =
          kept.1;
    }

All-push : (images : List Image) (image : Image) → AllByRecursion IsSmall images → IsSmall image
    → AllByRecursion IsSmall (images ++ image ∷ [])
All-push [] image small one = (one, tt)
All-push (first ∷ images) image small one = (small.0, All-push images image small.1 one)

AreFew-with_line_of_images : (images next : List Image) (said : TableLine)
    → with_line_of_images images said ≡ Some next → AreFew images → AreFew next
unfolding with_line_of_images
AreFew-with_line_of_images images next (line.Image number version counter floor) e few =
    let image : Image = record { running = new_entry version counter; request = request.None; floor = floor } in
    let g = cond_some (eqb number (length images) && ltb (length images) MOST_IMAGES) (images ++ image ∷ []) next e in
    let room = ltb-true (length images) MOST_IMAGES
    (and_parts (eqb number (length images)) (ltb (length images) MOST_IMAGES) g.0).1 in
    rw (← g.1) (record {
      most = omega (
        arith,
        length-append images
            (image ∷ []),
      );
      few = All-push images image few.few (few_in_new, tt);
    })
AreFew-with_line_of_images images next (line.Needs dependency) e few =
    AreFew-in_last images next (line.Needs dependency) e few
AreFew-with_line_of_images images next (line.NeedsOne group) e few =
    AreFew-in_last images next (line.NeedsOne group) e few
AreFew-with_line_of_images images next (line.Request version counter) e few =
    AreFew-in_last images next (line.Request version counter) e few
AreFew-with_line_of_images images next line.Damaged e few = AreFew-in_last images next line.Damaged e few

-- A table that was read keeps the limits.
pub AreFew-run : (line_of : List ℕ → Option TableLine) (table final : Table) (texts : List (List ℕ))
    → run (with_text line_of with_table_line) table texts ≡ Some final → AreFew table.images.items
    → AreFew final.images.items
AreFew-run line_of table final [] e few = rw (← same_Some table final e) few
AreFew-run line_of table final (text ∷ texts) e few =
    let first = and_then_some (with_text line_of with_table_line table text)
    (λ next. run (with_text line_of with_table_line) next texts) final e in
    let placed = and_then_some (line_of text) (with_table_line table) first.0 first.1 in
    let images = option_map-Some table_of (with_line_of_images table.images.items placed.0) first.0 placed.2 in
    let next : AreFew first.0.images.items =
    rw (← images.2) (AreFew-with_line_of_images table.images.items images.0 placed.0 images.1 few) in
    AreFew-run line_of first.0 final texts first.2 next
