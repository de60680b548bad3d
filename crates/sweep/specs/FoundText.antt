-- The text of the findings of a sweep, as docs/FORMATS.md describes it.
use Rattle.std.specs.Prelude.{ℕ, ◌+◌, ◌==◌, List, [], ◌∷◌, ◌++◌, None, Option, Some, codes, decimal, if◌then◌else◌, option_map}
use Rattle.std.specs.List.{flat_map}
use Rattle.common.specs.Lines.{◌␣◌}
use Rattle.machine.specs.declared.event.Event.{Event}
use Rattle.version_order.specs.VersionText.{version_text}
use Rattle.version_order.specs.declared.version.Version.{Version}
use Rattle.sweep.specs.Findings.{image_of, kind_text, marks_of, marks_text, numbered, tear_text, writes_before}
use Rattle.sweep.specs.declared.cuts.Cuts.{Cuts}
use Rattle.sweep.specs.declared.cuts.Cuts.TheVariants.{One, Two}
use Rattle.sweep.specs.declared.cuts.TornWrite.{TornWrite}
use Rattle.sweep.specs.declared.found.Found.{Found}
use Rattle.sweep.specs.declared.found.SetTally.{SetTally}
use Rattle.sweep.specs.declared.marks.Mark.{Mark}
use Rattle.sweep.specs.declared.tally.Tally.{Tally}

-- The image of an event after a space, if it has one.
abbrev pub image_text : Option ℕ → List ℕ
image_text None = []
image_text (Some n) = 32 ∷ decimal n

-- The event of this number, counted from 1.
abbrev pub numbered_event_text : ℕ → Event (Unit {0}) → List ℕ
numbered_event_text n event = (decimal n ␣ kind_text event) ++ image_text (image_of event)

-- The number of the first write of an event and a character for each write, if it has writes.
abbrev pub writes_text : ℕ → List Mark → List ℕ
writes_text before [] = []
writes_text before (mark ∷ marks) =
    codes " from" ␣ decimal (before + 1) ␣ marks_text (mark ∷ marks)

-- The line of the event of this number, counted from 1, with its writes.
abbrev pub written_event : ℕ → Event (Unit {0}) → ℕ → List Mark → List ℕ
written_event n event before marks =
    numbered_event_text n event ++ writes_text before marks ++ 10 ∷ []

-- The line of the event of this index.
abbrev pub event_line : Found → ℕ → Event (Unit {0}) → List ℕ
event_line found n event =
    written_event (n + 1) event (writes_before found.writes.items n) (marks_of found n)

abbrev pub events_text : Found → List ℕ
events_text found = numbered (event_line found) 0 found.events.items

-- A cut as a line of a script.
abbrev pub cut_text : TornWrite → List ℕ
cut_text cut = codes "cut" ␣ decimal cut.write ␣ tear_text cut.tear

abbrev pub cuts_text : Cuts → List ℕ
cuts_text (One cut) = cut_text cut
cuts_text (Two first second) = cut_text first ␣ cut_text second

-- The cuts of the first of some runs.
abbrev pub first_text : Option Cuts → List ℕ
first_text None = codes "uncut"
first_text (Some cuts) = cuts_text cuts

-- A line with a word, a number of runs and the cuts of the first of them.
abbrev pub tally_text : List ℕ → Tally → List ℕ
tally_text word tally = (word ␣ decimal tally.runs ␣ first_text tally.first) ++ 10 ∷ []

-- A line for runs that went wrong, if there are any.
abbrev pub wrong_text : List ℕ → Tally → List ℕ
wrong_text word tally = if tally.runs == 0 then [] else tally_text word tally

-- The line of the image of this number.
abbrev pub version_line : ℕ → Version → List ℕ
version_line n version = (codes "run" ␣ decimal n ␣ version_text version) ++ 10 ∷ []

abbrev pub versions_text : List Version → List ℕ
versions_text versions = numbered version_line 0 versions

-- The lines of a set, or that an image is damaged.
abbrev pub end_text : Option (List Version) → List ℕ
end_text None = codes "damaged" ++ 10 ∷ []
end_text (Some versions) = versions_text versions

-- The lines of the runs that ended with the same images.
abbrev pub set_text : SetTally → List ℕ
set_text set =
    tally_text (codes "end") set.tally ++ end_text (option_map (λ all. all.items) set.versions)

abbrev pub sets_text : List SetTally → List ℕ
sets_text sets = flat_map set_text sets

-- The text of the findings.
abbrev pub found_text : Found → List ℕ
found_text found =
    events_text found ++ (codes "runs" ␣ decimal found.runs) ++ 10 ∷ []
    ++ sets_text found.sets.items
    ++ wrong_text (codes "other") found.others ++ wrong_text (codes "refused") found.refused
