-- Lemmas by which a plan goes on from piece to piece, and ends.
use Rattle.std.proofs.Common.{◌≡◌, ℕ, List, [], ◌++◌, append_assoc, Option, ap, ◌∙◌, refl, subst}
use Rattle.std.proofs.KnownBytes.{Appends-nil, Appends-trans, Consumes-kept, Consumes-trans}
use Rattle.std.proofs.lemmas.List.{append-nil}
use Rattle.std.specs.Io.KnownBytes.{Appends, Consumes, IsAtEnd, Keeps}
use Rattle.reports.specs.declared.table.Entry.{Entry}
use Rattle.device_texts.specs.declared.form.Form.{Form}
use Rattle.host.specs.declared.answer.Answer.{Answer}
use Rattle.inspecting.proofs.FleetReadingLaws.{told-append, told-both}
use Rattle.inspecting.specs.Plan.{Planned, plan_text}
use Rattle.inspecting.specs.PlanEnd.{EndsWith, HasPlanned, IsAnswerFor, IsPlanText, Plans, WritesRest}
use Rattle.inspecting.specs.Planning.{Advances, EndsPlan, IsTold, Stands, told_text}
use Rattle.inspecting.proofs.RowsLaws.{IsSumOf-tallied}
use Rattle.inspecting.specs.SummaryJson.{summary_lines}
use Rattle.inspecting.specs.SummaryLines.{WritesRows}
use Rattle.inspecting.specs.declared.fleet.planner.Planner.{Planner}
use Rattle.inspecting.specs.declared.fleet.summary.Summary.{Summary}
use Rattle.inspecting.specs.declared.fleet.telling.Telling.{Telling}
use Rattle.inspecting.specs.declared.fleet.telling.Telling.TheVariants as tell
use Rattle.inspecting.specs.declared.fleet.telling.Told.TheVariants as how

-- One more piece is read and planned.
pub HasPlanned-more : {entries : List (Option Entry)} {telling : Telling} {old new : Planner} {input mid rest a b c : Option (List ℕ)} (bytes : List ℕ)
    → HasPlanned entries telling old input mid a b → Consumes mid rest bytes → Advances entries old new bytes b c
    → HasPlanned entries telling new input rest a c
HasPlanned-more {telling = telling} {input = input} {mid = mid} {rest = rest} {a = a} {b = b} {c = c} bytes was read goes =
    let more = goes telling was.bytes was.plan was.stands in
    record {
      bytes = was.bytes ++ bytes;
      read = Consumes-trans input mid rest was.bytes bytes was.read read;
      plan = was.plan ++ more.more;
      stands = more.stands;
      written = told-both telling a b c was.plan more.more was.written more.written;
    }

-- Nothing is read.
pub HasPlanned-kept : {entries : List (Option Entry)} {telling : Telling} {planner : Planner} {input mid rest a b : Option (List ℕ)}
    → HasPlanned entries telling planner input mid a b → Keeps mid rest → HasPlanned entries telling planner input rest a b
HasPlanned-kept {input = input} {mid = mid} {rest = rest} was kept = record {
  bytes = was.bytes;
  read = Consumes-kept input mid rest was.bytes was.read kept;
  plan = was.plan;
  stands = was.stands;
  written = was.written;
}

-- The text that ends a plan follows what was written while the fleet was read.
pub EndsWith-done : {entries : List (Option Entry)} {answer : Answer} {planner : Planner} {a b c : Option (List ℕ)} (telling : Telling) (bytes : List ℕ) (plan : List Planned)
    → EndsPlan entries telling planner bytes plan a b
    → ((all : List Planned) → IsTold telling planner.told all → WritesRest telling all b c)
    → IsAnswerFor planner.has_bad answer → EndsWith entries telling answer bytes plan a c
EndsWith-done {answer = answer} {a = a} {b = b} {c = c} telling bytes plan ended writes answered =
    let all = plan ++ ended.more in
    let rest = writes all ended.told in
    let parts : told_text telling all ++ rest.text ≡ told_text telling plan ++ (told_text telling ended.more ++ rest.text) =
    ap (λ t. t ++ rest.text) (told-append telling plan ended.more) ∙ append_assoc (told_text telling plan) (told_text telling ended.more) rest.text in
    record {
      more = ended.more;
      is = ended.is;
      answered = subst (λ bad. IsAnswerFor bad answer) ended.bad answered;
      text = told_text telling ended.more ++ rest.text;
      is_text = subst (IsPlanText telling all) parts rest.is_text;
      written = Appends-trans a b c (told_text telling ended.more) rest.text ended.written rest.written;
    }

-- Each device was written while the fleet was read.
pub WritesRest-none : (telling : Telling) (plan : List Planned) (used : Form) (known : Option (List ℕ))
    → IsTold telling (how.Written used) plan → WritesRest telling plan known known
WritesRest-none (tell.Devices form) plan used known told = record { text = []; is_text = append-nil (plan_text form plan); written = Appends-nil known }
WritesRest-none (tell.Summary form) plan used known told = absurd told

-- The summary is written.
pub WritesRest-summary : (telling : Telling) (plan : List Planned) (used : Form) (summary : Summary) (old new : Option (List ℕ))
    → WritesRows used summary.rows old new → IsTold telling (how.Counted used summary) plan → WritesRest telling plan old new
WritesRest-summary (tell.Devices form) plan used summary old new writes told = absurd told
WritesRest-summary (tell.Summary form) plan used summary old new writes told = record {
  text = summary_lines form writes.rows writes.notes;
  is_text = (writes.rows, IsSumOf-tallied _ writes.rows summary.rows writes.are told.1, writes.notes, refl);
  written = subst (λ f. Appends old new (summary_lines f writes.rows writes.notes)) told.0 writes.written;
}

-- The input is at its end.
pub Plans-ended : {entries : List (Option Entry)} {telling : Telling} {planner : Planner} {answer : Answer} {input mid rest a b c : Option (List ℕ)}
    → HasPlanned entries telling planner input mid a b → Consumes mid rest [] → IsAtEnd rest
    → ((how : Telling) (bytes : List ℕ) (plan : List Planned) → Stands entries how planner bytes plan → EndsWith entries how answer bytes plan b c)
    → Plans entries telling answer input rest a c
Plans-ended {telling = telling} {input = input} {mid = mid} {rest = rest} {a = a} {b = b} {c = c} was read end ends =
    let last = ends telling was.bytes was.plan was.stands in
    record {
      bytes = was.bytes;
      read = subst (Consumes input rest) (append-nil was.bytes) (Consumes-trans input mid rest was.bytes [] was.read read);
      end = end;
      writes = record {
        plan = was.plan ++ last.more;
        is = last.is;
        answered = last.answered;
        text = told_text telling was.plan ++ last.text;
        is_text = last.is_text;
        written = Appends-trans a b c (told_text telling was.plan) last.text was.written last.written;
      };
    }
