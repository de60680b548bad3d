-- The JSON of the findings of a sweep, a field a line, as docs/JSON.md lists them.
use Rattle.std.specs.Prelude.{ℕ, ◌+◌, ◌==◌, true, List, [], ◌∷◌, map, None, Option, Some, codes, if◌then◌else◌, option_map}
use Rattle.serde_json.specs.Data.{Data, Members, array, boolean, no_members, object, string}
use Rattle.serde_json.specs.View.{items_of}
use Rattle.machine.specs.declared.event.Event.{Event}
use Rattle.version_order.specs.declared.version.Version.{Version}
use Rattle.device_texts.specs.Json.{number_json, versioned_json, with_image, with_member, with_some}
use Rattle.sweep.specs.Findings.{image_of, kind_text, marks_of, marks_text, numbered, tear_text, writes_before}
use Rattle.sweep.specs.declared.cuts.Cuts.{Cuts}
use Rattle.sweep.specs.declared.cuts.Cuts.TheVariants.{One, Two}
use Rattle.sweep.specs.declared.cuts.TornWrite.{TornWrite}
use Rattle.sweep.specs.declared.found.Found.{Found}
use Rattle.sweep.specs.declared.found.SetTally.{SetTally}
use Rattle.sweep.specs.declared.marks.Mark.{Mark}
use Rattle.sweep.specs.declared.tally.Tally.{Tally}

-- The image of an event, if it has one.
abbrev pub with_image_if : Option ℕ → Members → Members
with_image_if None members = members
with_image_if (Some n) members = with_image n members

-- The number of the first write of an event and a character for each write, if it has writes.
abbrev pub with_writes : ℕ → List Mark → Members → Members
with_writes before [] members = members
with_writes before (mark ∷ marks) members =
    with_member (codes "first_write") (number_json (before + 1))
    (with_member (codes "replies") (string (marks_text (mark ∷ marks))) members)

-- The event of this number, counted from 1, with its writes.
abbrev pub event_json : ℕ → Event (Unit {0}) → ℕ → List Mark → Data
event_json n event before marks =
    object (with_member (codes "event") (number_json n)
    (with_member (codes "kind") (string (kind_text event))
    (with_image_if (image_of event) (with_writes before marks no_members))))

-- The event of this index.
abbrev pub place_json : Found → ℕ → Event (Unit {0}) → List Data
place_json found n event =
    event_json (n + 1) event (writes_before found.writes.items n) (marks_of found n) ∷ []

abbrev pub events_json : Found → List Data
events_json found = numbered (place_json found) 0 found.events.items

abbrev pub cut_json : TornWrite → Data
cut_json cut =
    object (with_member (codes "write") (number_json cut.write)
    (with_member (codes "torn") (string (tear_text cut.tear)) no_members))

-- The cuts of a run. The run without a cut has none.
abbrev pub cuts_json : Option Cuts → List Data
cuts_json None = []
cuts_json (Some (One cut)) = cut_json cut ∷ []
cuts_json (Some (Two first second)) = cut_json first ∷ cut_json second ∷ []

-- A number of runs and the cuts of the first of them.
abbrev pub with_tally : Tally → Members → Members
with_tally tally members =
    with_member (codes "runs") (number_json tally.runs)
    (with_member (codes "cuts") (array (items_of (cuts_json tally.first))) members)

-- A member for runs that went wrong, if there are any.
abbrev pub with_runs : List ℕ → Tally → Members → Members
with_runs key tally members =
    if tally.runs == 0 then members else with_member key (object (with_tally tally no_members)) members

-- The image of this number with its version.
abbrev pub version_json : ℕ → Version → List Data
version_json n version = versioned_json n version ∷ []

abbrev pub versions_json : List Version → List Data
versions_json versions = numbered version_json 0 versions

-- The images of a set, or that one is damaged.
abbrev pub with_versions : Option (List Version) → Members → Members
with_versions None members = with_member (codes "damaged") (boolean true) members
with_versions (Some versions) members = with_some (codes "run") (versions_json versions) members

-- The runs that ended with the same images.
abbrev pub set_json : SetTally → Data
set_json set =
    object (with_tally set.tally
    (with_versions (option_map (λ all. all.items) set.versions) no_members))

-- The members of the findings.
abbrev pub with_found : Found → Members → Members
with_found found members =
    with_some (codes "events") (events_json found)
    (with_member (codes "runs") (number_json found.runs)
    (with_some (codes "ends") (map set_json found.sets.items)
    (with_runs (codes "other") found.others
    (with_runs (codes "refused_runs") found.refused members))))
