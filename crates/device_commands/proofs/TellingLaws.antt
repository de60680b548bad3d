-- Replies that are written one by one: what all of them give, and what was written if one could not
-- be.
use Rattle.std.proofs.Common.{◌≡◌, ℕ, ◌+◌, ◌-◌, ◌||◌, Bool, false, List, [], ◌∷◌, ◌++◌, Option, Some, Result, Ok, Err, IfErr, IfOk, ap, append-nil, arith, get_or, length, length-append, map, OnErr, refl, subst, sym, take, ◌∙◌}
use Rattle.std.specs.Io.KnownBytes.{Appends}
use Rattle.std.specs.List.{list_any}
use Rattle.std.proofs.KnownBytes.{Appends-nil, Appends-trans}
use Rattle.std.proofs.Math.Bool.{or-false}
use Rattle.std.proofs.Math.Seq.{get_or-append_seam, take-append-add}
use Rattle.std.proofs.lemmas.List.{length-map, map-append}
use Rattle.std.proofs.lemmas.List.Folds.{list_any-append}
use Rattle.std.proofs.lemmas.Option.{slice_get-get_or}
use Rattle.machine.specs.declared.event.Event.{Event}
use Rattle.flash_model.specs.declared.torn.Armed.{Armed}
use Rattle.device_texts.specs.declared.line_order.LineOrder.{LineOrder}
use Rattle.flash_contents.specs.Holding.{DeviceView}
use Rattle.machine.specs.Intake.{Setup}
use Rattle.flash_contents.specs.Passing.{StepsTo}
use Rattle.machine.specs.Steps.{DeviceEvent}
use Rattle.machine.specs.declared.reply.Reply.{Reply}
use Rattle.flash_contents.proofs.HeldRuns.{runs_more, runs_none}
use Rattle.boot_core.specs.CutEvents.{IsCutAsDue, IsCutByWrite}
use Rattle.boot_core.specs.Device.{seen}
use Rattle.boot_core.proofs.CutEvents.{cut_by_due, steps_more}
use Rattle.host.specs.declared.answer.Answer.{Answer}
use Rattle.host.specs.declared.answer.Answer.TheVariants.{Done}
use Rattle.host.specs.declared.error.Refusal.{Refusal}
use Rattle.host.specs.declared.error.Refusal.TheVariants.{NoMemory}
use Rattle.host.specs.Status.{status_of_refusal}
use Rattle.device_texts.specs.declared.device.DeviceFile.{DeviceFile}
use Rattle.device_texts.specs.FlashOf.{armed_chip}
use Rattle.device_texts.specs.ReplyJson.{note_line, reply_line, reply_lines}
use Rattle.device_texts.specs.declared.form.Form.{Form}
use Rattle.device_texts.proofs.ReplyLaws.{note_line-none, reply_lines-none, reply_lines-one, reply_lines-push}
use Rattle.common.specs.Lines.{lines_of}
use Rattle.host.specs.Input.{FileBytes, KeepsFiles}
use Rattle.inputs.specs.declared.checking.BufferedInput.{BufferedInput}
use Rattle.device_commands.specs.declared.run.Told.{Told}
use Rattle.device_commands.specs.RunEnd.{IsMadeOf, IsPlayed, Plays, PlaysFirst, answer_after, came_by, ending, is_refusal, last_answer}
use Rattle.device_texts.specs.DeviceFile.{setup_of}
use Rattle.device_commands.specs.Telling.{BreaksEvent, BreaksOff, BreaksText, PlaysRun, PlaysText, RepliesTo, RepliesToAll, RunsFirstLines, TellsAll, TellsEvent, TellsFirst, TellsSome, TellsText}
use Rattle.inputs.specs.Loading.{AreBuffered, AreCutsOf, LoadsAll}
use Rattle.inputs.proofs.ScriptLaws.{AreTaken, LoadsFirst-none, LoadsFirst-taken}

-- The last reply gives the answer of a run.
last_answer-push : (replies : List Reply) (reply : Reply)
    → last_answer (replies ++ reply ∷ []) ≡ answer_after (Some reply)
last_answer-push replies reply =
    let all = replies ++ reply ∷ [] in
    let count : length all ≡ length replies + 1 = length-append replies (reply ∷ []) in
    let last : length all - 1 ≡ length replies = omega (arith, count) in
    ap answer_after (slice_get-get_or all (length all - 1) reply (omega (arith, count))
    ∙ ap Some (ap (λ k. get_or all k reply) last ∙ get_or-append_seam replies reply [] reply))

-- One more reply may be a refusal.
any_refusal-push : (replies : List Reply) (reply : Reply)
    → list_any is_refusal (replies ++ reply ∷ []) ≡ (list_any is_refusal replies || is_refusal reply)
any_refusal-push replies reply =
    list_any-append is_refusal replies (reply ∷ [])
    ∙ ap (λ (b : Bool). list_any is_refusal replies || b) (or-false (is_refusal reply))

-- The number of replies is that of the events.
replied : (events : List DeviceEvent) (replies : List Reply) (came : List (Event (List ℕ)))
    → map came_by events ≡ came → length replies ≡ length events → length replies ≡ length came
replied events replies came come each = each ∙ sym (length-map events came_by) ∙ ap length come

-- One more event has its reply.
RepliesToAll-more : (setup here : Setup) (old mid new : DeviceView) (came : List (Event (List ℕ)))
    (one : Event (List ℕ)) (replies : List Reply) → RepliesToAll setup old mid came replies → here ≡ setup
    → (step : RepliesTo here mid new one)
    → RepliesToAll setup old new (came ++ one ∷ []) (replies ++ step.reply ∷ [])
RepliesToAll-more setup here old mid new came one replies so_far same step =
    let steps = subst (λ s. StepsTo s mid new step.event step.reply) same step.steps in
    record {
      events = so_far.events ++ step.event ∷ [];
      come = map-append came_by so_far.events (step.event ∷ [])
          ∙ ap (λ l. l ++ came_by step.event ∷ []) so_far.come ∙ ap (λ c. came ++ c ∷ []) step.comes;
      runs = runs_more setup old mid new so_far.events replies step.event step.reply so_far.runs steps;
      each = length-append replies (step.reply ∷ []) ∙ ap (λ k. k + 1) so_far.each
          ∙ sym (length-append so_far.events (step.event ∷ []));
      due = steps_more IsCutAsDue setup old mid new so_far.events replies step.event step.reply so_far.due steps step.due;
    }

-- There was no event yet.
pub TellsAll-none : (form : Form) (setup : Setup) (here : DeviceView) (written : Option (List ℕ))
    → here.flash.faults ≡ 0 → TellsAll form Done false false setup here here [] written written
TellsAll-none form setup here written sound = record {
  replies = [];
  run = record { events = []; come = refl; runs = runs_none setup here; each = refl; due = refl };
  sound = λ none. (sound, refl);
  answered = refl;
  is_refused = refl;
  notes = [];
  noted = refl;
  written = subst (Appends written written) (sym (reply_lines-none form 1)) (Appends-nil written);
}

-- The reply to one more event was written.
pub TellsAll-more : (form : Form) (setup here : Setup) (old mid new : DeviceView) (came : List (Event (List ℕ)))
    (one : Event (List ℕ)) (number : ℕ) (answer : Answer) (next : Told) (refused refuses failed fails : Bool)
    (before between after : Option (List ℕ))
    → TellsAll form answer refused failed setup old mid came before between → number ≡ length came + 1 → here ≡ setup
    → TellsEvent form next number here mid new one between after
    → refuses ≡ (refused || next.has_refused)
    → (fails ≡ false → (failed ≡ false) × (new.flash.faults ≡ 0))
    → TellsAll form next.answer refuses fails setup old new (came ++ one ∷ []) before after
unfolding RepliesToAll-more
TellsAll-more form setup here old mid new came one number answer next refused refuses failed fails before between after
    so_far counted same told refusing sound =
    let run = so_far.run in
    let step = told.step in
    let count = replied run.events so_far.replies came run.come run.each in
    let place : number ≡ 1 + length so_far.replies = omega (arith, count, counted) in
    record {
      replies = so_far.replies ++ step.reply ∷ [];
      run = RepliesToAll-more setup here old mid new came one so_far.replies run same step;
      sound = λ none.
          let now = sound none in
          let before_it = so_far.sound now.0 in (
            now.1,
            steps_more IsCutByWrite setup old mid new run.events so_far.replies step.event step.reply before_it.1
                (subst (λ s. StepsTo s mid new step.event step.reply) same step.steps)
                (cut_by_due mid.flash new.flash step.reply before_it.0 now.1 step.due),
          );
      answered = told.answered ∙ sym (last_answer-push so_far.replies step.reply);
      is_refused = refusing ∙ ap (λ (b : Bool). b || next.has_refused) so_far.is_refused
          ∙ ap (λ (b : Bool). list_any is_refusal so_far.replies || b) told.refused
          ∙ sym (any_refusal-push so_far.replies step.reply);
      notes = so_far.notes ++ told.notes ∷ [];
      noted = length-append so_far.notes (told.notes ∷ []) ∙ ap (λ k. k + 1) so_far.noted
          ∙ sym (length-append so_far.replies (step.reply ∷ []));
      written = subst (Appends before after)
          (sym (reply_lines-push form 1 so_far.replies so_far.notes step.reply told.notes so_far.noted))
          (Appends-trans before between after _ _ so_far.written
          (subst (λ k. Appends between after (reply_line form k step.reply ++ note_line form k told.notes)) place told.written));
    }

-- The reply to one more event was not written.
pub TellsSome-more : (form : Form) (refusal : Refusal) (setup here : Setup) (old mid new : DeviceView)
    (came : List (Event (List ℕ))) (one : Event (List ℕ)) (number : ℕ) (answer : Answer) (refused failed : Bool)
    (before between after : Option (List ℕ))
    → TellsAll form answer refused failed setup old mid came before between → number ≡ length came + 1 → here ≡ setup
    → BreaksEvent form refusal number here mid new one between after
    → TellsSome form refusal setup old new (came ++ one ∷ []) before after
TellsSome-more form refusal setup here old mid new came one number answer refused failed before between after so_far counted
    same told =
    let run = so_far.run in
    let reply = told.step.reply in
    let count = replied run.events so_far.replies came run.come run.each in
    let place : number ≡ 1 + length so_far.replies = omega (arith, count, counted) in
    let broken = told.broken in
    record {
      told = so_far.replies;
      untold = reply ∷ [];
      notes = so_far.notes;
      late = told.notes ∷ [];
      count = broken.count;
      run = RepliesToAll-more setup here old mid new came one so_far.replies run same told.step;
      one = omega arith;
      written = Appends-trans before between after _ _ so_far.written
          (subst (λ text. Appends between after (take broken.count text))
          (ap (λ k. reply_line form k reply ++ note_line form k told.notes) place
          ∙ sym (reply_lines-one form (1 + length so_far.replies) reply told.notes))
          broken.begun);
      output = λ file. absurd (broken.output file);
    }

-- The line of a reply was written in part, and so were its lines.
pub BreaksOff-reply : (form : Form) (number : ℕ) (refusal : Refusal) (line : List ℕ) (before after : Option (List ℕ))
    → BreaksOff refusal line before after → BreaksOff refusal (line ++ note_line form number []) before after
BreaksOff-reply form number refusal line before after broken =
    subst (λ text. BreaksOff refusal text before after)
    (sym (ap (λ notes. line ++ notes) (note_line-none form number) ∙ append-nil line)) broken

-- The line of a reply was written, and that of its notes in part.
pub BreaksOff-notes : (refusal : Refusal) (line notes : List ℕ) (before between after : Option (List ℕ))
    → Appends before between line → BreaksOff refusal notes between after
    → BreaksOff refusal (line ++ notes) before after
BreaksOff-notes refusal line notes before between after written broken = record {
  count = length line + broken.count;
  begun = subst (Appends before after) (sym (take-append-add line notes broken.count))
      (Appends-trans before between after _ _ written broken.begun);
  output = broken.output;
}

-- A refusal with another status isn't that of the flash file.
pub not_of_file : (refusal : Refusal) → status_of_refusal refusal ≡ 1 → status_of_refusal refusal ≡ 4 → ⊥
not_of_file refusal one four = omega (arith, one, four)

-- All replies so far were written. Then the next line could not be read, or the flash file failed.
pub TellsSome-all : (form : Form) (refusal : Refusal) (setup : Setup) (old new : DeviceView) (came : List (Event (List ℕ)))
    (answer : Answer) (refused failed : Bool) (before after : Option (List ℕ))
    → TellsAll form answer refused failed setup old new came before after
    → TellsSome form refusal setup old new came before after
TellsSome-all form refusal setup old new came answer refused failed before after told = record {
  told = told.replies;
  untold = [];
  notes = told.notes;
  late = [];
  count = 0;
  run = subst (RepliesToAll setup old new came) (sym (append-nil told.replies)) told.run;
  one = omega arith;
  written = subst (Appends before after) (sym (append-nil (reply_lines form 1 told.replies told.notes))) told.written;
  output = λ file. refl;
}

-- A run broke off at some line.
pub BreaksText-some : (form : Form) (refusal : Refusal) (setup : Setup) (old new : DeviceView) (text rest : List ℕ)
    (line_order : LineOrder) (taken : ℕ) (buffered : List BufferedInput) (files : FileBytes) (came : List (Event (List ℕ)))
    (before after : Option (List ℕ)) → AreTaken text rest line_order taken buffered files came
    → TellsSome form refusal setup old new came before after → (status_of_refusal refusal ≡ 4 → ⊥)
    → BreaksText form refusal setup old new text buffered files before after
BreaksText-some form refusal setup old new text rest line_order taken buffered files came before after are tells other = record {
  lines = taken;
  came = came;
  comes = LoadsFirst-taken text rest line_order taken buffered files came are;
  tells = tells;
  whole = λ file. absurd (other file);
}

-- A run reached the end of its script, and the flash file failed.
pub BreaksText-all : (form : Form) (refusal : Refusal) (setup : Setup) (old new : DeviceView) (text : List ℕ) (buffered : List BufferedInput) (files : FileBytes)
    (came : List (Event (List ℕ))) (answer : Answer) (refused failed : Bool) (before after : Option (List ℕ))
    → LoadsAll text buffered files came → TellsAll form answer refused failed setup old new came before after
    → BreaksText form refusal setup old new text buffered files before after
BreaksText-all form refusal setup old new text buffered files came answer refused failed before after comes told = record {
  lines = length (lines_of text);
  came = came;
  comes = comes;
  tells = TellsSome-all form refusal setup old new came answer refused failed before after told;
  whole = λ file. refl;
}

-- All replies of a new device were written.
PlaysText-told : (form : Form) (is_strict : Bool) (device : DeviceFile) (bytes : List ℕ) (cuts : List Armed) (text : List ℕ)
    (buffered : List BufferedInput) (files : FileBytes) (old new : DeviceView) (answer : Answer)
    (before after : Option (List ℕ)) → IsMadeOf device.map bytes cuts old
    → TellsText form is_strict answer (setup_of device) old new text buffered files before after
    → PlaysText form is_strict answer device bytes cuts text buffered files before after
PlaysText-told form is_strict device bytes cuts text buffered files old new answer before after made all =
    let told = all.tells in
    let run = told.run in
    record {
      came = all.came;
      comes = all.comes;
      plays = record {
        events = run.events;
        replies = told.replies;
        come = run.come;
        played = record { old = old; new = new; made = made; runs = run.runs; each = run.each };
        cut = (told.sound refl).1;
        answered = all.ends ∙ ap (λ (b : Bool). ending is_strict b all.last) told.is_refused
            ∙ ap (ending is_strict (list_any is_refusal told.replies)) told.answered;
        notes = told.notes;
        noted = told.noted;
        written = told.written;
      };
    }

-- There was no memory for the flash of a new device.
pub TellsFirst-none : (form : Form) (device : DeviceFile) (bytes : List ℕ) (cuts : List Armed) (text : List ℕ)
    (buffered : List BufferedInput) (files : FileBytes) (written : Option (List ℕ))
    → TellsFirst form NoMemory device bytes cuts text buffered files written written
TellsFirst-none form device bytes cuts text buffered files written =
    let here : DeviceView = seen (armed_chip device.map bytes cuts) [] false in
    let setup = setup_of device in
    record {
      old = here;
      new = here;
      made = record { flash = refl; down = refl; closed = λ j. refl };
      breaks = record {
        lines = 0;
        came = [];
        comes = LoadsFirst-none text buffered files;
        tells = TellsSome-all form NoMemory setup here here [] Done false false written written
            (TellsAll-none form setup here written refl);
        whole = λ file. absurd (not_of_file NoMemory refl file);
      };
    }

-- A run of a new device was answered, or ended without an answer.
pub PlaysRun-made : (form : Form) (is_strict : Bool) (device : DeviceFile) (bytes : List ℕ) (cuts : List Armed) (text : List ℕ)
    (buffered : List BufferedInput) (files : FileBytes) (old new : DeviceView) (before after : Option (List ℕ))
    → IsMadeOf device.map bytes cuts old → (result : Result Answer Refusal)
    → IfOk result (λ answer. TellsText form is_strict answer (setup_of device) old new text buffered files before after)
    → IfErr result (λ refusal. BreaksText form refusal (setup_of device) old new text buffered files before after)
    → PlaysRun form is_strict result device bytes cuts text buffered files before after
PlaysRun-made form is_strict device bytes cuts text buffered files old new before after made (Ok answer) all some = record {
  plays = PlaysText-told form is_strict device bytes cuts text buffered files old new answer before after made all;
  tells = tt;
}
PlaysRun-made form is_strict device bytes cuts text buffered files old new before after made (Err refusal) all some = record {
  plays = tt;
  tells = record { old = old; new = new; made = made; breaks = some };
}

-- What holds whatever a call returns holds if it fails.
pub OnErr-any : {T E P : Type 0} (result : Result T E) → P → OnErr result P
OnErr-any (Ok value) holds = tt
OnErr-any (Err error) holds = holds

-- What follows if a call fails.
pub OnErr-then : {T E P Q : Type 0} (result : Result T E) → (P → Q) → OnErr result P → OnErr result Q
OnErr-then (Ok value) then failed = tt
OnErr-then (Err error) then failed = then failed

-- All replies were written, but of the last one perhaps a prefix.
PlaysFirst-some : (form : Form) (refusal : Refusal) (device : DeviceFile) (bytes : List ℕ) (cuts : List Armed)
    (came : List (Event (List ℕ))) (old new : DeviceView) (before after : Option (List ℕ))
    → IsMadeOf device.map bytes cuts old → TellsSome form refusal (setup_of device) old new came before after
    → PlaysFirst form device bytes cuts came before after
PlaysFirst-some form refusal device bytes cuts came old new before after made tells = record {
  events = tells.run.events;
  told = tells.told;
  last = tells.untold;
  come = tells.run.come;
  played = record { old = old; new = new; made = made; runs = tells.run.runs; each = tells.run.each };
  one = tells.one;
  notes = tells.notes;
  late = tells.late;
  count = tells.count;
  written = tells.written;
}

-- All replies were written.
PlaysFirst-all : (form : Form) (is_strict : Bool) (answer : Answer) (device : DeviceFile) (bytes : List ℕ) (cuts : List Armed)
    (came : List (Event (List ℕ))) (before after : Option (List ℕ))
    → Plays form is_strict answer device bytes cuts came before after
    → PlaysFirst form device bytes cuts came before after
PlaysFirst-all form is_strict answer device bytes cuts came before after plays = record {
  events = plays.events;
  told = plays.replies;
  last = [];
  come = plays.come;
  played = subst (IsPlayed device bytes cuts plays.events) (sym (append-nil plays.replies)) plays.played;
  one = omega arith;
  notes = plays.notes;
  late = [];
  count = 0;
  written = subst (Appends before after) (sym (append-nil (reply_lines form 1 plays.replies plays.notes))) plays.written;
}

-- A checked script was run to some line, or to its end.
pub RunsFirstLines-played : (form : Form) (is_strict : Bool) (result : Result Answer Refusal) (device : DeviceFile) (bytes : List ℕ)
    (cuts : List Armed) (text : List ℕ) (buffered : List BufferedInput) (input : Option (List ℕ)) (first_files files : FileBytes)
    (before after : Option (List ℕ)) → AreCutsOf text cuts → KeepsFiles first_files files
    → AreBuffered buffered input first_files
    → PlaysRun form is_strict result device bytes cuts text buffered files before after
    → RunsFirstLines form device bytes text input first_files before after
RunsFirstLines-played form is_strict (Ok answer) device bytes cuts text buffered input first_files files before after cut kept held run =
    let all : PlaysText form is_strict answer device bytes cuts text buffered files before after = run.plays in
    record {
      cuts = cuts;
      lines = length (lines_of text);
      came = all.came;
      cut = cut;
      says = λ known stays. (all.comes input first_files kept held known stays).1;
      plays = PlaysFirst-all form is_strict answer device bytes cuts all.came before after all.plays;
    }
RunsFirstLines-played form is_strict (Err refusal) device bytes cuts text buffered input first_files files before after cut kept held run =
    let some : TellsFirst form refusal device bytes cuts text buffered files before after = run.tells in
    record {
      cuts = cuts;
      lines = some.breaks.lines;
      came = some.breaks.came;
      cut = cut;
      says = λ known stays. (some.breaks.comes input first_files kept held known stays).1;
      plays = PlaysFirst-some form refusal device bytes cuts some.breaks.came some.old some.new before after some.made some.breaks.tells;
    }
