-- What `plan` reads one after the other. A flush after its answer changes nothing.
use Rattle.std.proofs.Common.{◌≡◌, ◌<◌, ◌+◌, ℕ, List, [], ◌∷◌, ◌++◌, Bor, Global, Option, Vec, append_assoc, ap, get_or, length, map, subst, sym, take}
use Rattle.std.proofs.KnownBytes.{Appends-kept}
use Rattle.std.proofs.lemmas.List.{append-nil, map-append, take_more}
use Rattle.std.specs.List.{AllZip}
use Rattle.std.specs.Io.KnownBytes.{Keeps}
use Rattle.reports.specs.declared.table.Entry.{Entry}
use Rattle.command_line.specs.declared.orders.PlanOrder.{PlanOrder}
use Rattle.command_line.specs.declared.orders.PlanOrder.TheVariants.{Fleet, Merge}
use Rattle.device_texts.specs.declared.form.Form.{Form}
use Rattle.host.specs.declared.answer.Answer.{Answer}
use Rattle.host.specs.declared.answer.Answer.TheVariants.{Done}
use Rattle.host.specs.declared.source.Source.{Source}
use Rattle.host.specs.Input.{FileBytes, Gives, IsNamed, KeepsOthers}
use Rattle.host.specs.Inputs.{GiveEach, names_of}
use Rattle.host.proofs.InputLaws.{GiveEach-read}
use Rattle.inspecting.specs.PlanAnswers.{AnswersPlan, ReadsEach, telling_of}
use Rattle.inspecting.specs.PlanEnd.{WritesPlan}
use Rattle.inspecting.specs.declared.fleet.telling.Telling.{Telling}

-- Sources were read, and whatever others give afterwards, all of them give before.
pub record HasReadEach (words : List (List ℕ)) (texts : List (List ℕ)) (input now_input : Option (List ℕ)) (file now_file : FileBytes) : Type 0 where
  pub sources : List Source
  pub named : AllZip IsNamed words sources
  pub given : (rest : List Source) (more : List (List ℕ)) → GiveEach rest now_input now_file more
      → GiveEach (sources ++ rest) input file (texts ++ more)

pub HasReadEach-none : (input : Option (List ℕ)) (file : FileBytes) → HasReadEach [] [] input input file file
HasReadEach-none input file = record { sources = []; named = tt; given = λ rest more given. given }

AllZip-last : {A B : Type 0} (R : A → B → Type 0) (xs : List A) (ys : List B) (x : A) (y : B) → AllZip R xs ys
    → R x y → AllZip R (xs ++ x ∷ []) (ys ++ y ∷ [])
AllZip-last R [] [] x y each last = (last, tt)
AllZip-last R [] (z ∷ ys) x y each last = absurd each
AllZip-last R (z ∷ xs) [] x y each last = absurd each
AllZip-last R (z ∷ xs) (w ∷ ys) x y each last = (each.0, AllZip-last R xs ys x y each.1 last)

-- One more source is read.
pub HasReadEach-more : (words : List (List ℕ)) (texts : List (List ℕ)) (input now_input then_input : Option (List ℕ))
    (file now_file then_file : FileBytes) (word : List ℕ) (source : Source) (text : List ℕ)
    → HasReadEach words texts input now_input file now_file → IsNamed word source
    → Gives source now_input now_file text → KeepsOthers source now_input now_file then_input then_file
    → HasReadEach (words ++ word ∷ []) (texts ++ text ∷ []) input then_input file then_file
HasReadEach-more words texts input now_input then_input file now_file then_file word source text has named gives keeps = record {
  sources = has.sources ++ source ∷ [];
  named = AllZip-last IsNamed words has.sources word source has.named named;
  given = λ rest more given.
      rw (append_assoc has.sources (source ∷ []) rest, append_assoc texts (text ∷ []) more)
      (has.given (source ∷ rest) (text ∷ more)
      (GiveEach-read source rest now_input then_input now_file then_file text more gives keeps given));
}

-- The same of a place among the names.
pub HasReadEach-next : (names : List (Bor (List ℕ))) (place : ℕ) (name : Bor (List ℕ)) (texts : List (Vec ℕ Global)) (text : Vec ℕ Global)
    (input now_input then_input : Option (List ℕ)) (file now_file then_file : FileBytes) (source : Source)
    → place < length names → name ≡ get_or names place name
    → HasReadEach (names_of (take place names)) (map (λ text. text.items) texts) input now_input file now_file
    → IsNamed name.now source → Gives source now_input now_file text.items
    → KeepsOthers source now_input now_file then_input then_file
    → HasReadEach (names_of (take (place + 1) names)) (map (λ text. text.items) (texts ++ text ∷ [])) input then_input file then_file
HasReadEach-next names place name texts text input now_input then_input file now_file then_file source within is has named gives keeps =
    rw (
      take_more names place name within,
      ← is,
      map-append (λ (word : Bor (List ℕ)). word.now) (take place names) (name ∷ []),
      map-append (λ (one : Vec ℕ Global). one.items) texts (text ∷ []),
    )
    (HasReadEach-more (names_of (take place names)) (map (λ text. text.items) texts) input now_input then_input
    file now_file then_file name.now source text.items has named gives keeps)

-- All sources were read.
pub ReadsEach-all : (names : List (Bor (List ℕ))) (texts : List (Vec ℕ Global)) (input now_input : Option (List ℕ))
    (file now_file : FileBytes)
    → HasReadEach (names_of names) (map (λ text. text.items) texts) input now_input file now_file
    → ReadsEach names input file (map (λ text. text.items) texts)
ReadsEach-all names texts input now_input file now_file has = record {
  sources = has.sources;
  named = has.named;
  given = rw (← append-nil has.sources, ← append-nil (map (λ text. text.items) texts)) (has.given [] [] tt);
}

-- What was known before a flush is known after it.
WritesPlan-kept : {entries : List (Option Entry)} {bytes : List ℕ} {answer : Answer} (telling : Telling)
    (old mid new : Option (List ℕ)) → WritesPlan entries bytes telling answer old mid → Keeps mid new
    → WritesPlan entries bytes telling answer old new
WritesPlan-kept telling old mid new writes kept = record {
  plan = writes.plan;
  is = writes.is;
  answered = writes.answered;
  text = writes.text;
  is_text = writes.is_text;
  written = Appends-kept old mid new writes.text writes.written kept;
}

-- The same of an answer.
pub AnswersPlan-kept : (form : Form) (asked : PlanOrder) (input : Option (List ℕ)) (file : FileBytes)
    (old mid new : Option (List ℕ)) → AnswersPlan form Done asked input file old mid → Keeps mid new
    → AnswersPlan form Done asked input file old new
AnswersPlan-kept form (Fleet fleet requests is_summary) input file old mid new answered kept =
    let plans = answered.2.plans in (
      answered.0,
      answered.1,
      record {
        entries = answered.2.entries;
        release = answered.2.release;
        plans = record {
          bytes = plans.bytes;
          given = plans.given;
          writes = WritesPlan-kept (telling_of form is_summary) old mid new plans.writes kept;
        };
      },
    )
AnswersPlan-kept form (Merge summaries) input file old mid new answered kept = record {
  texts = answered.texts;
  read = answered.read;
  parts = answered.parts;
  spelled = answered.spelled;
  rows = answered.rows;
  is = answered.is;
  answered = answered.answered;
  notes = answered.notes;
  written = Appends-kept old mid new _ answered.written kept;
}
