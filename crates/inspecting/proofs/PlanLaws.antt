-- Lemmas about devices with their results, and one more.
use Rattle.std.proofs.Common.{◌≡◌, ℕ, Option, None, ◌||◌, List, [], ◌∷◌, ◌++◌, append_assoc, ap, ◌∙◌, subst}
use Rattle.std.proofs.lemmas.Grind.{flat_map-append}
use Rattle.std.proofs.lemmas.List.{append-nil}
use Rattle.std.proofs.lemmas.List.Concat.{flat_map-cons}
use Rattle.std.proofs.lemmas.List.Folds.{list_any-append}
use Rattle.std.specs.Io.KnownBytes.{Appends}
use Rattle.std.specs.List.{flat_map}
use Rattle.std.proofs.KnownBytes.{Appends-nil}
use Rattle.reports.specs.declared.table.Entry.{Entry}
use Rattle.common.specs.Lines.{lines_of}
use Rattle.device_texts.specs.declared.form.Form.{Form}
use Rattle.inspecting.proofs.FleetReadingLaws.{AllByRecursion-map_devices, planned_lines-are, told-both}
use Rattle.inspecting.specs.Fleet.{device_lines}
use Rattle.inspecting.specs.Outcome.{is_bad}
use Rattle.inspecting.specs.Plan.{IsPlan, Planned, has_bad, plan_text, planned_text}
use Rattle.inspecting.specs.Planning.{AreLinesOf, EndsPlan, IsTold, ReadsLines, Tells, planned_lines, told_text}
use Rattle.inspecting.specs.SummaryRows.{Summarizes}
use Rattle.inspecting.specs.declared.fleet.planner.Planner.{Planner}
use Rattle.inspecting.specs.declared.fleet.summary.Summary.{Summary}
use Rattle.inspecting.specs.declared.fleet.telling.Telling.{Telling}
use Rattle.inspecting.specs.declared.fleet.telling.Telling.TheVariants as tell
use Rattle.inspecting.specs.declared.fleet.telling.Told.TheVariants as how

flat_map-one : {X A : Type 0} (f : X → List A) (x : X) → flat_map f (x ∷ []) ≡ f x
flat_map-one f x = flat_map-cons f x [] ∙ append-nil (f x)

pub planned_lines-more : (plan : List Planned) (planned : Planned) → planned_lines (plan ++ planned ∷ []) ≡ planned_lines plan ++ device_lines planned.device
planned_lines-more plan planned =
    flat_map-append (λ (p : Planned). device_lines p.device) plan (planned ∷ [])
    ∙ ap (λ ls. planned_lines plan ++ ls) (flat_map-one (λ (p : Planned). device_lines p.device) planned)

pub plan_text-one : (form : Form) (planned : Planned) → plan_text form (planned ∷ []) ≡ planned_text form planned
plan_text-one form planned = flat_map-one (planned_text form) planned

-- One more device is written.
pub Tells-written : (form : Form) (planned : Planned) (before after : Option (List ℕ))
    → Appends before after (planned_text form planned) → Tells planned (how.Written form) (how.Written form) before after
Tells-written form planned before after written (tell.Devices other) plan is =
    (is, subst (λ used. Appends before after (plan_text used (planned ∷ []))) is (rw (plan_text-one form planned) written))
Tells-written form planned before after written (tell.Summary used) plan is = absurd is

-- One more device is counted.
pub Tells-counted : (form : Form) (planned : Planned) (old new : Summary) (known : Option (List ℕ))
    → ((plan : List Planned) → Summarizes plan old → Summarizes (plan ++ planned ∷ []) new)
    → Tells planned (how.Counted form old) (how.Counted form new) known known
Tells-counted form planned old new known counts (tell.Devices used) plan is = absurd is
Tells-counted form planned old new known counts (tell.Summary used) plan is = ((is.0, counts plan is.1), Appends-nil known)

pub has_bad-more : (plan : List Planned) (planned : Planned) → has_bad (plan ++ planned ∷ []) ≡ (has_bad plan || has_bad (planned ∷ []))
has_bad-more plan planned = list_any-append (λ (p : Planned). is_bad p.outcome) plan (planned ∷ [])

-- All lines of a fleet are those of devices that have a result.
pub EndsPlan-done : {entries : List (Option Entry)} {planner : Planner} {a b c : Option (List ℕ)} (telling : Telling) (bytes : List ℕ) (plan last : List Planned)
    → Appends a b (told_text telling last) → planner.device ≡ None → ReadsLines entries telling planner (lines_of bytes) (plan ++ last) b c
    → EndsPlan entries telling planner bytes plan a c
EndsPlan-done {planner = planner} {a = a} {b = b} {c = c} telling bytes plan last written none ended =
    let whole = append_assoc plan last ended.more in
    let are = subst (AreLinesOf (lines_of bytes) ((plan ++ last) ++ ended.more)) none ended.has.lines_are in
    record {
      more = last ++ ended.more;
      is = subst (IsPlan _ bytes) whole (record {
        fleet = record {
          each = AllByRecursion-map_devices ((plan ++ last) ++ ended.more) ended.has.devices;
          lines = are ∙ planned_lines-are ((plan ++ last) ++ ended.more);
        };
        each = ended.has.each;
      });
      bad = ended.has.bad ∙ ap has_bad whole;
      told = subst (IsTold telling planner.told) whole ended.has.told;
      written = told-both telling a b c last ended.more written ended.written;
    }
