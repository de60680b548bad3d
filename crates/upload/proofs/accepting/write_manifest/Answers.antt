use Rattle.std.proofs.Common.{refl, ◌∙◌, ap, arith, subst, sym}
use Rattle.sector_map.specs.Part.{Log}
use Rattle.sector_map.specs.Map.{part_of}
use Rattle.std.proofs.lemmas.Result.{on_ok_weaker}
use Rattle.sector_map.proofs.Parts.{keeps_trans, keeps_wider, laid_out_kept}
use Rattle.upload.specs.View.{view}
use Rattle.upload.specs.Accepted.{AreBlank, accepted_parts}
use Rattle.upload.proofs.Views.{view_kept}
use Rattle.upload.proofs.Opened.{log_of_accepted, parts_and_log}
use Rattle.upload.proofs.AcceptRow.{sequenced, sequence_cut, cut_after, accept_done, opens_all, leaves_early, leaves_late, same_record}
use Rattle.upload.proofs.TakenRow.{named_fit}
use Rattle.flash_model.proofs.Ending.{ends_after}
use Rattle.upload.proofs.Ends.{err_passed}
use Rattle.upload.proofs.Worn.{worn_erased}
use Rattle.upload.proofs.accepting.write_manifest.Goals as goal

pub returns-in_err-record_sequence : goal.returns-in_err-record_sequence
returns-in_err-record_sequence g c =
    let map = c.args.map.now in
    let cs = c.args.components.now in
    let kept = view_kept map _ _ _ c.record_sequence.ensures.outside in
    rw (err_passed _ _ c.from_residual.ensures.1) (record {
      outside = keeps_wider map _ (accepted_parts cs) _ _ (log_of_accepted cs) c.record_sequence.ensures.outside;
      cut = sequence_cut _ _ _ _ cs c.requires.state.read kept c.record_sequence.ensures.either;
      leaves = leaves_early _ _ _ _ c.requires.state.read kept c.record_sequence.ensures.either;
      ok = tt;
      erases = tt;
      equal = λ equal. ap (λ chip. part_of map chip Log) (c.record_sequence.ensures.idle equal);
      idle = λ equal blank. c.record_sequence.ensures.idle equal;
      journal = omega (arith, c.record_sequence.ensures.journal);
      ends = c.in_err-record_sequence.ensures.ends;
    })

pub returns : goal.returns
returns g c =
    let map = c.args.map.now in
    let cs = c.args.components.now in
    let all = accepted_parts cs in
    let read = c.requires.state.read in
    let laid = laid_out_kept map _ _ (g.F.Flash.chip c.record_sequence.new.flash) c.requires.state.laid_out
    c.record_sequence.ensures.outside in
    let kept = view_kept map _ _ _ c.record_sequence.ensures.outside in
    let fit = named_fit map _ cs laid c.requires.there c.requires.fit in
    record {
      outside = keeps_trans map all _ _ _
          (keeps_wider map _ all _ _ (log_of_accepted cs) c.record_sequence.ensures.outside)
          (keeps_wider map _ all _ _ (parts_and_log cs) c.open_all.ensures.outside);
      cut = λ s was. cut_after _ _ _ c.open_all.ensures.opening s c.args.sequence cs (λ i. refl)
          (sequenced _ _ _ _ s read kept c.in_ok-record_sequence.ensures.ok was);
      leaves = leaves_late _ _ _ _ _ cs read kept c.in_ok-record_sequence.ensures.ok c.open_all.ensures.opening;
      ok = on_ok_weaker c.open_all.result (λ all. record {
        log = λ state is. all.opening.log ∙ c.in_ok-record_sequence.ensures.ok
            ∙ same_record (view map (g.F.Flash.chip c.args.flash.now)) _ c.args.sequence read is;
        empty = all.empty;
        table = all.table;
        opens = opens_all _ _ _ cs _ _ kept fit all;
        steps = accept_done _ _ _ cs _ _ kept fit all _ _ read c.in_ok-record_sequence.ensures.ok;
      }) c.open_all.ensures.opened;
      erases = on_ok_weaker c.open_all.result (λ all. worn_erased map _ _ (g.F.Flash.chip c.open_all.new.flash)
          c.args.state.now.sequence c.args.sequence cs c.record_sequence.ensures.outside
          c.in_ok-record_sequence.ensures.erases all) c.open_all.ensures.erases;
      equal = λ equal. c.open_all.ensures.outside.parts Log refl
          ∙ ap (λ chip. part_of map chip Log) (c.record_sequence.ensures.idle equal);
      idle = λ equal blank.
          let same = c.record_sequence.ensures.idle equal in
          c.open_all.ensures.idle (subst (λ chip. AreBlank map chip cs) (sym same) blank) ∙ same;
      journal = omega (arith, c.record_sequence.ensures.journal, c.open_all.ensures.journal);
      ends = ends_after _ _ (g.F.Flash.chip c.record_sequence.new.flash) _ c.in_ok-record_sequence.ensures.ends.uncut
          c.in_ok-record_sequence.ensures.ends.asleep c.open_all.ensures.ends;
    }
