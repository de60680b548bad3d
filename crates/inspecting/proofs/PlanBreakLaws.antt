-- Lemmas on what a plan wrote before an error.
use Rattle.std.proofs.Common.{◌≡◌, ◌<◌, ◌≤◌, ◌⊎◌, ℕ, List, [], ◌∷◌, ◌++◌, Option, None, Some, ap, append_assoc, arith, inl, inr, length, map, refl, subst, suc, sym, take, zero, ◌∙◌}
use Rattle.std.proofs.KnownBytes.{Appends-kept, Appends-nil, Appends-trans, Consumes-trans, Consumes-whole, Keeps-refl, Keeps-trans}
use Rattle.std.proofs.lemmas.List.{append-nil}
use Rattle.std.specs.Io.KnownBytes.{Appends, Consumes, IsAtEnd, Keeps}
use Rattle.std.specs.List.{AllByRecursion, flat_map}
use Rattle.reports.specs.declared.table.Entry.{Entry}
use Rattle.common.specs.Lines.{lines_of}
use Rattle.device_texts.specs.declared.form.Form.{Form}
use Rattle.host.specs.Input.{FileBytes, Gives, IsKnownAs, held_by}
use Rattle.host.specs.declared.source.Source.{Source}
use Rattle.host.specs.declared.source.Source.TheVariants.{StandardInput, File}
use Rattle.inspecting.proofs.FleetReadingLaws.{AllByRecursion-map_devices, IsReadAs-feed, planned_lines-are, told-append, told-none}
use Rattle.inspecting.proofs.PlanLaws.{plan_text-one}
use Rattle.inspecting.proofs.ResultLaws.{TakesPrefix-none}
use Rattle.inspecting.proofs.RowsLaws.{IsSumOf-tallied}
use Rattle.inspecting.specs.Bounded.{Holds}
use Rattle.inspecting.specs.Fleet.{BeginsNext, Device, IsDevice, device_lines}
use Rattle.inspecting.specs.Plan.{IsPlanOfFirst, IsPlanned, Planned, plan_text, planned_text}
use Rattle.inspecting.specs.PlanAnswers.{BreaksSource}
use Rattle.inspecting.specs.PlanEnd.{BeginsSummary, BreaksEnd, BreaksRest, HasPlanned, PlansPart, WritesFirst, WritesPart, WritesSummaryPart}
use Rattle.inspecting.specs.Planning.{Advances, AreLinesOf, BreaksBytes, BreaksLine, BreaksLines, EndsPlan, HasRead, IsTold, Stands, TellsPart, planned_lines, told_text}
use Rattle.inspecting.specs.SummaryJson.{summary_lines}
use Rattle.inspecting.specs.SummaryLines.{WritesSomeRows}
use Rattle.inspecting.specs.Written.{TakesPrefix}
use Rattle.inspecting.specs.declared.fleet.planner.Current.{Current}
use Rattle.inspecting.specs.declared.fleet.planner.Planner.{Planner}
use Rattle.inspecting.specs.declared.fleet.summary.Summary.{Summary}
use Rattle.inspecting.specs.declared.fleet.telling.Telling.{Telling}
use Rattle.inspecting.specs.declared.fleet.telling.Telling.TheVariants as tell
use Rattle.inspecting.specs.declared.fleet.telling.Told.TheVariants as how

-- A device is written in part.
pub TellsPart-written : (form : Form) (planned : Planned) (before after : Option (List ℕ))
    → TakesPrefix (planned_text form planned) before after → TellsPart planned (how.Written form) before after
TellsPart-written form planned before after begun (tell.Devices other) plan is =
    subst (λ used. TakesPrefix (plan_text used (planned ∷ [])) before after) is (rw (plan_text-one form planned) begun)
TellsPart-written form planned before after begun (tell.Summary used) plan is = absurd is

-- A device that isn't counted isn't written.
pub TellsPart-counted : (form : Form) (planned : Planned) (old : Summary) (known : Option (List ℕ))
    → TellsPart planned (how.Counted form old) known known
TellsPart-counted form planned old known (tell.Devices used) plan is = absurd is
TellsPart-counted form planned old known (tell.Summary used) plan is = TakesPrefix-none [] known

-- The devices whose lines are read are the first ones, if the next one begins.
pub IsPlanOfFirst-ended : (entries : List (Option Entry)) (plan : List Planned) (lines rest : List (List ℕ))
    → AllByRecursion (λ planned. IsDevice planned.device) plan → AllByRecursion (IsPlanned entries) plan
    → lines ≡ planned_lines plan → BeginsNext rest → IsPlanOfFirst entries (lines ++ rest) plan
IsPlanOfFirst-ended entries plan lines rest devices each are next = record {
  fleet = record {
    each = AllByRecursion-map_devices plan devices;
    rest = rest;
    split = ap (λ ls. ls ++ rest) (are ∙ planned_lines-are plan);
    complete = λ some. next;
  };
  each = each;
}

first_of : (entries : List (Option Entry)) (device : Option Current) (lines rest : List (List ℕ)) (plan : List Planned)
    → AllByRecursion (λ planned. IsDevice planned.device) plan → AllByRecursion (IsPlanned entries) plan
    → AreLinesOf lines plan device → (device ≡ None → plan ≡ []) → IsPlanOfFirst entries (lines ++ rest) plan
first_of entries None lines rest plan devices each are begun = record {
  fleet = record {
    each = AllByRecursion-map_devices plan devices;
    rest = rest;
    split = ap (λ ls. ls ++ rest) (are ∙ planned_lines-are plan);
    complete = λ some.
        let zero = subst (λ all. 0 < length (map (λ (p : Planned). p.device) all)) (begun refl) some in
        absurd (omega (arith, zero));
  };
  each = each;
}
first_of entries (Some current) lines rest plan devices each (device, is, so_far) begun =
    let more = device_lines device ++ rest in
    let split : lines ++ rest ≡ planned_lines plan ++ more =
    ap (λ ls. ls ++ rest) is ∙ append_assoc (planned_lines plan) (device_lines device) rest in
    subst (λ ls. IsPlanOfFirst entries ls plan) (sym split)
    (IsPlanOfFirst-ended entries plan (planned_lines plan) more devices each refl
    (device.name, record { spelled = refl; named = so_far.is.named }))

-- The devices that have their results are the first ones, whatever follows.
pub IsPlanOfFirst-has : (entries : List (Option Entry)) (telling : Telling) (planner : Planner) (lines rest : List (List ℕ)) (plan : List Planned)
    → (planner.device ≡ None → plan ≡ []) → HasRead entries telling planner lines plan
    → IsPlanOfFirst entries (lines ++ rest) plan
IsPlanOfFirst-has entries telling planner lines rest plan begun has =
    first_of entries planner.device lines rest plan has.devices has.each has.lines_are begun

pub IsPlanOfFirst-stands : (entries : List (Option Entry)) (telling : Telling) (planner : Planner) (read rest : List ℕ) (plan : List Planned)
    → Stands entries telling planner read plan → IsPlanOfFirst entries (lines_of (read ++ rest)) plan
IsPlanOfFirst-stands entries telling planner read rest plan stands =
    subst (λ ls. IsPlanOfFirst entries ls plan) (sym (stands.read.split rest))
    (IsPlanOfFirst-has entries telling planner stands.lines (lines_of (stands.prefix ++ rest)) plan stands.begun stands.has)

-- Nothing more is written.
pub BreaksLines-none : (entries : List (Option Entry)) (telling : Telling) (lines : List (List ℕ)) (plan : List Planned) (known : Option (List ℕ))
    → IsPlanOfFirst entries lines plan → BreaksLines entries telling lines plan known known
BreaksLines-none entries telling lines plan known first = record {
  more = [];
  last = [];
  one = omega arith;
  is = subst (IsPlanOfFirst entries lines) (sym (append-nil plan)) first;
  count = 0;
  written = subst (Appends known known) (sym (append-nil (told_text telling []))) (told-none telling known);
}

-- One more device is written in part.
pub BreaksLines-one : (entries : List (Option Entry)) (telling : Telling) (lines : List (List ℕ)) (plan : List Planned) (planned : Planned) (before after : Option (List ℕ))
    → IsPlanOfFirst entries lines (plan ++ planned ∷ []) → TakesPrefix (told_text telling (planned ∷ [])) before after
    → BreaksLines entries telling lines plan before after
BreaksLines-one entries (tell.Devices form) lines plan planned before after first begun = record {
  more = [];
  last = planned ∷ [];
  one = omega arith;
  is = first;
  count = begun.0;
  written = begun.1;
}
BreaksLines-one entries (tell.Summary form) lines plan planned before after first begun = record {
  more = [];
  last = planned ∷ [];
  one = omega arith;
  is = first;
  count = begun.0;
  written = begun.1;
}

-- Some devices were written before.
pub BreaksLines-more : (entries : List (Option Entry)) (telling : Telling) (lines : List (List ℕ)) (plan more : List Planned) (a b c : Option (List ℕ))
    → Appends a b (told_text telling more) → BreaksLines entries telling lines (plan ++ more) b c
    → BreaksLines entries telling lines plan a c
BreaksLines-more entries telling lines plan more a b c written breaks =
    let part = take breaks.count (told_text telling breaks.last) in
    record {
      more = more ++ breaks.more;
      last = breaks.last;
      one = breaks.one;
      is = subst (IsPlanOfFirst entries lines)
          (append_assoc plan more (breaks.more ++ breaks.last) ∙ ap (λ ps. plan ++ ps) (sym (append_assoc more breaks.more breaks.last)))
          breaks.is;
      count = breaks.count;
      written = subst (Appends a c)
          (sym (append_assoc (told_text telling more) (told_text telling breaks.more) part)
          ∙ ap (λ t. t ++ part) (sym (told-append telling more breaks.more)))
          (Appends-trans a b c _ _ written breaks.written);
    }

-- A planner that reads bytes, and then has an error.
pub BreaksBytes-after : (entries : List (Option Entry)) (first second : Planner) (some others bytes : List ℕ) (a b c : Option (List ℕ))
    → some ++ others ≡ bytes → Advances entries first second some a b → BreaksBytes entries second others b c
    → BreaksBytes entries first bytes a c
BreaksBytes-after entries first second some others bytes a b c split one two telling read rest plan stands =
    let mid = one telling read plan stands in
    let whole : (read ++ some) ++ (others ++ rest) ≡ read ++ (bytes ++ rest) =
    append_assoc read some (others ++ rest)
    ∙ ap (λ t. read ++ t) (sym (append_assoc some others rest) ∙ ap (λ t. t ++ rest) split) in
    BreaksLines-more entries telling (lines_of (read ++ (bytes ++ rest))) plan mid.more a b c mid.written
    (subst (λ t. BreaksLines entries telling (lines_of t) (plan ++ mid.more) b c) whole
    (two telling (read ++ some) rest (plan ++ mid.more) mid.stands))

-- A planner that can't read more bytes.
pub BreaksBytes-none : (entries : List (Option Entry)) (planner : Planner) (bytes : List ℕ) (known : Option (List ℕ))
    → BreaksBytes entries planner bytes known known
BreaksBytes-none entries planner bytes known telling read rest plan stands =
    BreaksLines-none entries telling _ plan known (IsPlanOfFirst-stands entries telling planner read (bytes ++ rest) plan stands)

-- A planner that reads a line, and then has an error in it.
pub BreaksBytes-line : (entries : List (Option Entry)) (old mid : Planner) (part after bytes : List ℕ) (a b : Option (List ℕ))
    → (part ++ 10 ∷ []) ++ after ≡ bytes
    → ((telling : Telling) (read : List ℕ) (plan : List Planned) → Stands entries telling old read plan → Stands entries telling mid (read ++ part) plan)
    → BreaksLine entries mid a b → BreaksBytes entries old bytes a b
BreaksBytes-line entries old mid part after bytes a b split goes breaks telling read rest plan stands =
    let then = goes telling read plan stands in
    let whole : (read ++ part) ++ 10 ∷ (after ++ rest) ≡ read ++ (bytes ++ rest) =
    append_assoc read part (10 ∷ (after ++ rest))
    ∙ ap (λ t. read ++ t) (sym (append_assoc part (10 ∷ []) (after ++ rest))
    ∙ sym (append_assoc (part ++ 10 ∷ []) after rest) ∙ ap (λ t. t ++ rest) split) in
    subst (λ ls. BreaksLines entries telling ls plan a b)
    (sym (IsReadAs-feed (read ++ part) then.lines then.prefix (after ++ rest) then.read) ∙ ap lines_of whole)
    (breaks telling then.prefix then.lines (lines_of (after ++ rest)) plan then.line then.begun then.has)

abbrev nothing : List ℕ
nothing = []

keeps_nothing : (a b : Option (List ℕ)) → Appends a b [] → Keeps a b
keeps_nothing None b none = tt
keeps_nothing (Some x) None none = absurd none
keeps_nothing (Some x) (Some y) none = none ∙ append-nil x

take_nothing : (count : ℕ) → take count nothing ≡ []
take_nothing zero = refl
take_nothing (suc n) = refl

-- While the devices are counted, nothing is written.
keeps_counted : (entries : List (Option Entry)) (form : Form) (lines : List (List ℕ)) (plan : List Planned) (b c : Option (List ℕ))
    → BreaksLines entries (tell.Summary form) lines plan b c → Keeps b c
keeps_counted entries form lines plan b c breaks =
    keeps_nothing b c (subst (Appends b c) (take_nothing breaks.count) breaks.written)

-- A part of a plan is written: the devices that have their results, and what was written before an error.
pub WritesPart-lines : (entries : List (Option Entry)) (telling : Telling) (bytes : List ℕ) (plan : List Planned) (a b c : Option (List ℕ))
    → Appends a b (told_text telling plan) → BreaksLines entries telling (lines_of bytes) plan b c
    → WritesPart entries bytes telling a c
WritesPart-lines entries (tell.Devices form) bytes plan a b c written breaks =
    let all = BreaksLines-more entries (tell.Devices form) (lines_of bytes) [] plan a b c written breaks in
    record { told = all.more; last = all.last; one = all.one; is = all.is; count = all.count; written = all.written }
WritesPart-lines entries (tell.Summary form) bytes plan a b c written breaks =
    inl (Keeps-trans a b c (keeps_nothing a b written) (keeps_counted entries form (lines_of bytes) plan b c breaks))

-- The end of a plan is written in part.
pub BreaksEnd-lines : (entries : List (Option Entry)) (telling : Telling) (bytes : List ℕ) (plan : List Planned) (b c : Option (List ℕ))
    → BreaksLines entries telling (lines_of bytes) plan b c → BreaksEnd entries telling bytes plan b c
BreaksEnd-lines entries (tell.Devices form) bytes plan b c breaks = breaks
BreaksEnd-lines entries (tell.Summary form) bytes plan b c breaks =
    inl (keeps_counted entries form (lines_of bytes) plan b c breaks)

begins_after : (form : Form) (plan : List Planned) (a b c : Option (List ℕ)) → Appends a b []
    → BeginsSummary form plan b c → BeginsSummary form plan a c
begins_after form plan a b c none sum = record {
  rows = sum.rows;
  is = sum.is;
  notes = sum.notes;
  begun = (sum.begun.0, Appends-trans a b c [] _ none sum.begun.1);
}

summary_after : (entries : List (Option Entry)) (form : Form) (bytes : List ℕ) (a b c : Option (List ℕ)) → Appends a b []
    → WritesSummaryPart entries bytes form b c → WritesSummaryPart entries bytes form a c
summary_after entries form bytes a b c none (inl kept) = inl (Keeps-trans a b c (keeps_nothing a b none) kept)
summary_after entries form bytes a b c none (inr (plan, is, sum)) = inr (plan, is, begins_after form plan a b c none sum)

-- All devices have their results, and the summary isn't written to its end.
pub BreaksEnd-rest : (entries : List (Option Entry)) (planner : Planner) (telling : Telling) (bytes : List ℕ) (plan : List Planned) (a b c : Option (List ℕ))
    → EndsPlan entries telling planner bytes plan a b
    → ((all : List Planned) → IsTold telling planner.told all → BreaksRest telling all b c)
    → BreaksEnd entries telling bytes plan a c
BreaksEnd-rest entries planner (tell.Devices form) bytes plan a b c ended breaks = absurd (breaks _ ended.told)
BreaksEnd-rest entries planner (tell.Summary form) bytes plan a b c ended breaks = summary_after entries form bytes a b c ended.written
    (elim (breaks _ ended.told) [ inl kept ↦ inl kept | inr sum ↦ inr (plan ++ ended.more, ended.is, sum) ])

-- The rows of the summary aren't written to their end.
pub BreaksRest-summary : (telling : Telling) (plan : List Planned) (used : Form) (summary : Summary) (old new : Option (List ℕ))
    → WritesSomeRows used summary.rows old new → IsTold telling (how.Counted used summary) plan
    → BreaksRest telling plan old new
BreaksRest-summary (tell.Devices form) plan used summary old new some told = absurd told
BreaksRest-summary (tell.Summary form) plan used summary old new (inl kept) told = inl kept
BreaksRest-summary (tell.Summary form) plan used summary old new (inr (rows, are, notes, begun)) told = inr (record {
  rows = rows;
  is = IsSumOf-tallied _ rows summary.rows are told.1;
  notes = notes;
  begun = subst (λ f. TakesPrefix (summary_lines f rows notes) old new) told.0 begun;
})

WritesPart-end : (entries : List (Option Entry)) (telling : Telling) (bytes : List ℕ) (plan : List Planned) (a b c : Option (List ℕ))
    → Appends a b (told_text telling plan) → BreaksEnd entries telling bytes plan b c
    → WritesPart entries bytes telling a c
WritesPart-end entries (tell.Devices form) bytes plan a b c written breaks =
    WritesPart-lines entries (tell.Devices form) bytes plan a b c written breaks
WritesPart-end entries (tell.Summary form) bytes plan a b c written breaks = summary_after entries form bytes a b c written breaks

known_rest : (input mid : Option (List ℕ)) (bytes : List ℕ) → Consumes input mid bytes
    → (rest : List ℕ) × IsKnownAs input (bytes ++ rest)
known_rest None mid bytes read = ([], tt)
known_rest (Some x) None bytes read = absurd read
known_rest (Some x) (Some y) bytes read = (y, sym read)

known_some : (input : Option (List ℕ)) → (bytes : List ℕ) × IsKnownAs input bytes
known_some None = ([], tt)
known_some (Some x) = (x, refl)

first_none : (entries : List (Option Entry)) (lines : List (List ℕ)) → IsPlanOfFirst entries lines []
first_none entries lines = record {
  fleet = record { each = tt; rest = lines; split = refl; complete = λ some. absurd (omega (arith, some)) };
  each = tt;
}

WritesPart-none : (entries : List (Option Entry)) (telling : Telling) (bytes : List ℕ) (known : Option (List ℕ))
    → WritesPart entries bytes telling known known
WritesPart-none entries telling bytes known = WritesPart-lines entries telling bytes [] known known known (told-none telling known)
    (BreaksLines-none entries telling (lines_of bytes) [] known (first_none entries (lines_of bytes)))

-- Nothing was read.
pub PlansPart-none : (entries : List (Option Entry)) (telling : Telling) (input known : Option (List ℕ))
    → PlansPart entries telling input known known
PlansPart-none entries telling input known =
    let (bytes, is) = known_some input in
    record { bytes = bytes; known = is; writes = WritesPart-none entries telling bytes known }

-- A piece can't be planned.
pub PlansPart-read : (entries : List (Option Entry)) (telling : Telling) (planner : Planner) (input mid now a b c : Option (List ℕ)) (piece : List ℕ)
    → HasPlanned entries telling planner input mid a b → Consumes mid now piece → BreaksBytes entries planner piece b c
    → PlansPart entries telling input a c
PlansPart-read entries telling planner input mid now a b c piece was read breaks =
    let (rest, is) = known_rest input now (was.bytes ++ piece) (Consumes-trans input mid now was.bytes piece was.read read) in
    record {
      bytes = was.bytes ++ (piece ++ rest);
      known = subst (IsKnownAs input) (append_assoc was.bytes piece rest) is;
      writes = WritesPart-lines entries telling (was.bytes ++ (piece ++ rest)) was.plan a b c was.written
          (breaks telling was.bytes rest was.plan was.stands);
    }

-- No more can be read.
pub PlansPart-stopped : (entries : List (Option Entry)) (telling : Telling) (planner : Planner) (input mid a b : Option (List ℕ))
    → HasPlanned entries telling planner input mid a b → PlansPart entries telling input a b
PlansPart-stopped entries telling planner input mid a b was =
    let (rest, is) = known_rest input mid was.bytes was.read in
    record {
      bytes = was.bytes ++ rest;
      known = is;
      writes = WritesPart-lines entries telling (was.bytes ++ rest) was.plan a b b was.written
          (BreaksLines-none entries telling _ was.plan b (IsPlanOfFirst-stands entries telling planner was.bytes rest was.plan was.stands));
    }

-- The input is at its end, and the plan can't be ended.
pub PlansPart-ended : (entries : List (Option Entry)) (telling : Telling) (planner : Planner) (input mid rest a b c : Option (List ℕ))
    → HasPlanned entries telling planner input mid a b → Consumes mid rest [] → IsAtEnd rest
    → ((how : Telling) (bytes : List ℕ) (plan : List Planned) → Stands entries how planner bytes plan → BreaksEnd entries how bytes plan b c)
    → PlansPart entries telling input a c
PlansPart-ended entries telling planner input mid rest a b c was read end breaks =
    let all = subst (Consumes input rest) (append-nil was.bytes) (Consumes-trans input mid rest was.bytes [] was.read read) in
    record {
      bytes = was.bytes;
      known = Consumes-whole input rest was.bytes (λ held. was.bytes ≡ held) all end refl;
      writes = WritesPart-end entries telling was.bytes was.plan a b c was.written (breaks telling was.bytes was.plan was.stands);
    }

first_kept : (entries : List (Option Entry)) (lines : List (List ℕ)) (form : Form) (a b c : Option (List ℕ))
    → WritesFirst entries lines form a b → Keeps b c → WritesFirst entries lines form a c
first_kept entries lines form a b c writes kept = record {
  told = writes.told;
  last = writes.last;
  one = writes.one;
  is = writes.is;
  count = writes.count;
  written = Appends-kept a b c _ writes.written kept;
}

summary_kept : (entries : List (Option Entry)) (bytes : List ℕ) (form : Form) (a b c : Option (List ℕ))
    → WritesSummaryPart entries bytes form a b → Keeps b c → WritesSummaryPart entries bytes form a c
summary_kept entries bytes form a b c (inl same) kept = inl (Keeps-trans a b c same kept)
summary_kept entries bytes form a b c (inr (plan, is, sum)) kept = inr (
  plan,
  is,
  record {
    rows = sum.rows;
    is = sum.is;
    notes = sum.notes;
    begun = (sum.begun.0, Appends-kept a b c _ sum.begun.1 kept);
  },
)

-- A flush after a part of a plan changes nothing.
WritesPart-kept : (entries : List (Option Entry)) (bytes : List ℕ) (telling : Telling) (a b c : Option (List ℕ))
    → WritesPart entries bytes telling a b → Keeps b c → WritesPart entries bytes telling a c
WritesPart-kept entries bytes (tell.Devices form) a b c writes kept = first_kept entries (lines_of bytes) form a b c writes kept
WritesPart-kept entries bytes (tell.Summary form) a b c writes kept = summary_kept entries bytes form a b c writes kept

gives_known : (source : Source) (input : Option (List ℕ)) (file : FileBytes) (held : Option (List ℕ)) (bytes : List ℕ)
    → held ≡ held_by source input file → IsKnownAs held bytes → Gives source input file bytes
gives_known StandardInput input file held bytes is known = subst (λ all. IsKnownAs all bytes) is known
gives_known (File name) input file held bytes is known = subst (λ all. IsKnownAs all bytes) is known

-- A part of the plan of what a source holds was written, and flushed.
pub BreaksSource-part : (entries : List (Option Entry)) (telling : Telling) (source : Source) (input : Option (List ℕ)) (file : FileBytes)
    (held a b c : Option (List ℕ)) → held ≡ held_by source input file → PlansPart entries telling held a b → Keeps b c
    → BreaksSource source entries telling input file a c
BreaksSource-part entries telling source input file held a b c is part kept = record {
  bytes = part.bytes;
  given = gives_known source input file held part.bytes is part.known;
  writes = WritesPart-kept entries part.bytes telling a b c part.writes kept;
}

-- A source can't be read.
pub BreaksSource-none : (entries : List (Option Entry)) (telling : Telling) (source : Source) (input : Option (List ℕ)) (file : FileBytes)
    (known : Option (List ℕ)) → BreaksSource source entries telling input file known known
BreaksSource-none entries telling source input file known =
    BreaksSource-part entries telling source input file (held_by source input file) known known known refl
    (PlansPart-none entries telling (held_by source input file) known) (Keeps-refl known)
