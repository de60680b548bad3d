use Rattle.std.proofs.Common.{rules, ◌∙◌, refl, sym, Bool, true, false, true≢false, Ok, Err}
use Rattle.flash_contents.proofs.Confirming.{confirm_cut, confirm_ends}
use Rattle.boot_core.specs.declared.confirming.Confirmation.{Confirmation}
use Rattle.boot_core.proofs.Passed.{err_as, err_ends, ok_ends}
use Rattle.boot_core.proofs.Trials.{tried_answers}
use Rattle.boot_core.proofs.confirming.confirm_tried.Goals as goal

pub returns-in-Ok-true : goal.returns-in-Ok-true
returns-in-Ok-true g c = record {
  outside = c.confirm_image.ensures.outside;
  cut = search rules;
  ok = confirm_ends c.args.map.now _ _ _ c.args.state.now c.args.image refl c.requires.read c.requires.kind true
      (λ e. c.in-Ok-true.ensures.done c.in-Ok-true.field-0-test) (λ e. absurd (true≢false e));
  answers = tried_answers c.args.map.now c.args.image _ c.args.state.now c.requires.read c.requires.kind
      (g.F.Flash.chip c.confirm_image.new.flash) (Ok true)
      (rw c.in-Ok-true.field-0-test at c.in-Ok-true.ensures.answers);
  off = λ off. absurd (true≢false (sym c.requires.on ∙ off));
  same = λ e. absurd (true≢false e);
  journal = c.confirm_image.ensures.journal;
  ends = ok_ends c.in-Ok-true.ensures.ends;
}

pub returns-in-Ok-false : goal.returns-in-Ok-false
returns-in-Ok-false g c = record {
  outside = c.confirm_image.ensures.outside;
  cut = search rules;
  ok = confirm_ends c.args.map.now _ _ _ c.args.state.now c.args.image refl c.requires.read c.requires.kind false
      (λ e. absurd (true≢false (sym e))) (λ e. c.in-Ok-false.ensures.none c.in-Ok-false.field-0-test);
  answers = tried_answers c.args.map.now c.args.image _ c.args.state.now c.requires.read c.requires.kind
      (g.F.Flash.chip c.confirm_image.new.flash) (Ok false)
      (rw c.in-Ok-false.field-0-test at c.in-Ok-false.ensures.answers);
  off = λ off. absurd (true≢false (sym c.requires.on ∙ off));
  same = λ e. c.in-Ok-false.ensures.same c.in-Ok-false.field-0-test;
  journal = c.confirm_image.ensures.journal;
  ends = ok_ends c.in-Ok-false.ensures.ends;
}

pub returns-in-Err : goal.returns-in-Err
returns-in-Err g c = record {
  outside = c.confirm_image.ensures.outside;
  cut = λ cut. confirm_cut c.args.map.now _ _ _ c.args.state.now c.args.image refl c.requires.read c.requires.kind
      c.confirm_image.ensures.stands (c.in-Err.ensures.tried (err_as {T = Confirmation} {U = Bool} c.in-Err.error _ cut));
  ok = search rules;
  answers = tried_answers c.args.map.now c.args.image _ c.args.state.now c.requires.read c.requires.kind
      (g.F.Flash.chip c.confirm_image.new.flash) (Err c.in-Err.error) c.in-Err.ensures.answers;
  off = λ off. absurd (true≢false (sym c.requires.on ∙ off));
  same = search rules;
  journal = c.confirm_image.ensures.journal;
  ends = err_ends c.in-Err.ensures.ends;
}
