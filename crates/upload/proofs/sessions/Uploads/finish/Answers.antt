use Rattle.std.proofs.Common.{arith, ◌∙◌, ap, sym}
use Rattle.std.proofs.lemmas.Grind.{common_steps}
use Rattle.std.proofs.lemmas.Option.{none-some, same_Some}
use Rattle.upload.proofs.Views.{view_kept}
use Rattle.upload.proofs.FinishRow.{finish_row, finish_open}
use Rattle.upload.proofs.RefusedFinish.{some_refusal}
use Rattle.upload.specs.declared.sessions.Upload.{Upload}
use Rattle.upload.proofs.sessions.Uploads.finish.Goals as goal

pub returns : goal.returns
returns g c =
    let kept = view_kept c.args.map.now _ _ _ c.finish_upload-answer.ensures.outside in
    let told = c.args.self.now.sessions in
    record {
      outside = c.finish_upload-answer.ensures.outside;
      all_open = finish_open c.args.image _ _ kept told _ _ c.take.ensures.rest _ c.close_after.ensures;
      finishes = λ u written is. rw (← same_Some _ _ (c.in-Some.ensures.value ∙ is))
          (c.finish_upload-answer.ensures.finish written);
      none = λ none. absurd (none-some c.in-Some.upload (sym none ∙ sym c.in-Some.ensures.value));
      refused = rw (← c.in-Some.ensures.value) c.finish_upload-answer.ensures.refused;
      off = λ off u is size. c.finish_upload-answer.ensures.off off
          (ap (λ (v : Upload). v.received) (same_Some _ _ (c.in-Some.ensures.value ∙ is)) ∙ size
          ∙ sym (ap (λ (v : Upload). v.size) (same_Some _ _ (c.in-Some.ensures.value ∙ is))));
      stays = λ is. absurd (some_refusal _ _ _ _ _ (c.requires.open c.in-Some.upload (sym c.in-Some.ensures.value))
          c.finish_upload-answer.ensures.finish is);
      closes = λ plain. rw (c.close_after.ensures.same plain) c.take.ensures.rest;
      closed = c.close_after.ensures.closed;
      row = finish_row c.args.image _ _ kept told _ _ c.in-Some.upload c.in-Some.ensures.value c.take.ensures.rest
          _ c.finish_upload-answer.ensures.finish c.close_after.ensures;
      erases = c.finish_upload-answer.ensures.erases;
      journal = c.finish_upload-answer.ensures.journal;
      ends = c.finish_upload-answer.ensures.ends;
    }

pub returns-in_default : goal.returns-in_default
returns-in_default g c = grind (arith, common_steps)
