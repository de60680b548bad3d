-- The findings of a sweep, event by event, and that their JSON has no number that isn't whole.
use Rattle.std.proofs.Common.{◌≡◌, ℕ, ◌+◌, ◌<◌, List, [], ◌∷◌, ◌++◌, ap, append_assoc, arith, get_or, length, map, refl, sym, take, ◌∙◌, add-zero, append-nil, length-take-le, zero-add, true≢false, true, false, Bool, codes, None, Option, Some}
use Rattle.std.proofs.lemmas.List.{take_more}
use Rattle.std.specs.Prelude.{if◌then◌else◌, ◌==◌, option_map}
use Rattle.serde_json.specs.Data.{Data, Members, no_members, string}
use Rattle.machine.specs.declared.event.Event.{Event}
use Rattle.version_order.specs.declared.version.Version.{Version}
use Rattle.device_texts.proofs.JsonLaws.{AreAllWhole, AreWhole, IsWhole, append-whole, map-whole, member-whole, none-whole, nothing-whole, value-whole, with_some-whole}
use Rattle.device_texts.proofs.JsonWholeLaws.{number-whole, text-whole, versioned-whole}
use Rattle.device_texts.specs.Json.{number_json, with_member}
use Rattle.sweep.specs.Findings.{image_of, marks_of, marks_text, numbered, writes_before}
use Rattle.sweep.specs.FoundJson.{cut_json, cuts_json, event_json, events_json, place_json, set_json, version_json, with_found, with_image_if, with_runs, with_tally, with_versions, with_writes}
use Rattle.sweep.specs.declared.cuts.Cuts.{Cuts}
use Rattle.sweep.specs.declared.cuts.Cuts.TheVariants.{One, Two}
use Rattle.sweep.specs.declared.cuts.TornWrite.{TornWrite}
use Rattle.sweep.specs.declared.found.Found.{Found}
use Rattle.sweep.specs.declared.found.SetTally.{SetTally}
use Rattle.sweep.specs.declared.marks.Mark.{Mark}
use Rattle.sweep.specs.declared.tally.Tally.{Tally}

-- One more value at the end.
numbered-last : {A B : Type 0} (said : ℕ → A → List B) (n : ℕ) (xs : List A) (x : A)
    → numbered said n (xs ++ x ∷ []) ≡ numbered said n xs ++ said (n + length xs) x
numbered-last said n [] x = simp (append-nil, add-zero)
numbered-last said n (y ∷ ys) x =
    let same : (n + 1) + length ys ≡ n + length (y ∷ ys) = omega arith in
    ap (λ r. said n y ++ r) (numbered-last said (n + 1) ys x)
    ∙ rw same (sym (append_assoc (said n y) _ _))

-- The values so far and the next.
pub numbered-more : {A B : Type 0} (said : ℕ → A → List B) (xs : List A) (i : ℕ) (d : A) → i < length xs
    → numbered said 0 (take (i + 1) xs) ≡ numbered said 0 (take i xs) ++ said i (get_or xs i d)
numbered-more said xs i d below =
    let count : length (take i xs) ≡ i = length-take-le i xs (omega arith) in
    let at : 0 + length (take i xs) ≡ i = zero-add (length (take i xs)) ∙ count in
    ap (numbered said 0) (take_more xs i d below)
    ∙ numbered-last said 0 (take i xs) (get_or xs i d)
    ∙ ap (λ n. numbered said 0 (take i xs) ++ said n (get_or xs i d)) at

-- Some writes have two members.
pub writes-some : (before : ℕ) (marks : List Mark) (ms : Members) → (length marks == 0) ≡ false
    → with_writes before marks ms
    ≡ with_member (codes "first_write") (number_json (before + 1))
    (with_member (codes "replies") (string (marks_text marks)) ms)
writes-some before [] ms some = absurd (true≢false some)
writes-some before (mark ∷ marks) ms some = refl

-- If nothing that is said has such a number, all of it has none.
numbered-whole : {A : Type 0} (said : ℕ → A → List Data) (n : ℕ) (xs : List A)
    → ((n : ℕ) (x : A) → AreAllWhole (said n x)) → AreAllWhole (numbered said n xs)
numbered-whole said n [] each = none-whole
numbered-whole said n (x ∷ xs) each =
    append-whole (said n x) (numbered said (n + 1) xs) (each n x) (numbered-whole said (n + 1) xs each)

writes-whole : (before : ℕ) (marks : List Mark) (ms : Members) → AreWhole ms → AreWhole (with_writes before marks ms)
writes-whole before [] ms all = all
writes-whole before (mark ∷ marks) ms all = number-whole _ (before + 1) _ (text-whole _ _ ms all)

image-whole : (image : Option ℕ) (ms : Members) → AreWhole ms → AreWhole (with_image_if image ms)
image-whole None ms all = all
image-whole (Some n) ms all = number-whole _ n ms all

event-whole : (n : ℕ) (event : Event (Unit {0})) (before : ℕ) (marks : List Mark)
    → IsWhole (event_json n event before marks)
event-whole n event before marks =
    (number-whole _ n _ (text-whole _ _ _ (image-whole (image_of event) _ (writes-whole before marks no_members nothing-whole)))).none

events-whole : (found : Found) → AreAllWhole (events_json found)
events-whole found = numbered-whole (place_json found) 0 found.events.items (λ n event.
    value-whole _ [] (event-whole (n + 1) event (writes_before found.writes.items n) (marks_of found n)) none-whole)

cut-whole : (cut : TornWrite) → IsWhole (cut_json cut)
cut-whole cut = (number-whole _ cut.write _ (text-whole _ _ no_members nothing-whole)).none

cuts-whole : (cuts : Option Cuts) → AreAllWhole (cuts_json cuts)
cuts-whole None = none-whole
cuts-whole (Some (One cut)) = value-whole _ [] (cut-whole cut) none-whole
cuts-whole (Some (Two first second)) =
    value-whole _ _ (cut-whole first) (value-whole _ [] (cut-whole second) none-whole)

tally-whole : (tally : Tally) (ms : Members) → AreWhole ms → AreWhole (with_tally tally ms)
tally-whole tally ms all =
    number-whole _ tally.runs _ (member-whole _ _ ms (cuts-whole tally.first).none all)

some_runs-whole : (none : Bool) (key : List ℕ) (it : Data) (ms : Members) → IsWhole it → AreWhole ms
    → AreWhole (if none then ms else with_member key it ms)
some_runs-whole true key it ms whole all = all
some_runs-whole false key it ms whole all = member-whole key it ms whole all

runs-whole : (key : List ℕ) (tally : Tally) (ms : Members) → AreWhole ms → AreWhole (with_runs key tally ms)
runs-whole key tally ms all =
    some_runs-whole (tally.runs == 0) key _ ms (tally-whole tally no_members nothing-whole).none all

versions-whole : (versions : Option (List Version)) (ms : Members) → AreWhole ms
    → AreWhole (with_versions versions ms)
versions-whole None ms all = member-whole _ _ ms refl all
versions-whole (Some versions) ms all =
    with_some-whole _ _ ms (numbered-whole version_json 0 versions (λ n version.
    value-whole _ [] (versioned-whole n version) none-whole)) all

set-whole : (set : SetTally) → IsWhole (set_json set)
set-whole set =
    (tally-whole set.tally _
    (versions-whole (option_map (λ all. all.items) set.versions) no_members nothing-whole)).none

-- The findings have no number that isn't whole.
pub found-whole : (found : Found) (ms : Members) → AreWhole ms → AreWhole (with_found found ms)
found-whole found ms all =
    with_some-whole _ _ _ (events-whole found)
    (number-whole _ found.runs _
    (with_some-whole _ _ _ (map-whole set_json found.sets.items set-whole)
    (runs-whole _ found.others _ (runs-whole _ found.refused ms all))))
