use Rattle.sector_map.specs.declared.layout.Side.TheVariants.{Primary, Secondary}
use Rattle.std.proofs.Common.{ℕ, ◌+◌, List, arith, sym, ◌∙◌, ap}
use Rattle.std.proofs.lemmas.Result.{on_ok_weaker}
use Rattle.flash_model.specs.Chip.{Chip}
use Rattle.sector_map.specs.Part.{TrailerOf}
use Rattle.sector_map.proofs.Parts.{laid_out_kept}
use Rattle.flash_model.specs.Units.{are_erased}
use Rattle.trailer.proofs.Marks.{settled, secondary_kept, one_of_trailers, both_trailers}
use Rattle.trailer.proofs.Marks.{beside, across, still_erased, spared_alike}
use Rattle.flash_model.proofs.Ending.{at_error, ends_passed, ends_then}
use Rattle.trailer.proofs.FailedCalls.{at_any, refuses_failed, refuses_first}
use Rattle.trailer.proofs.settling.settle.Goals as goal

pub returns-in_err-erase_trailer : goal.returns-in_err-erase_trailer
returns-in_err-erase_trailer g c =
    let outside = one_of_trailers c.args.map.now _ _ c.args.image Secondary c.erase_trailer.ensures.outside in
    record {
      outside = outside;
      ok = at_error _ _ c.from_residual.ensures.0;
      marks = at_error _ _ c.from_residual.ensures.0;
      erased = at_error _ _ c.from_residual.ensures.0;
      back = at_error _ _ c.from_residual.ensures.0;
      erases = at_error _ _ c.from_residual.ensures.0;
      spares = at_error _ _ c.from_residual.ensures.0;
      must = at_error _ _ c.from_residual.ensures.0;
      journal = omega (arith, c.erase_trailer.ensures.journal);
      off = refuses_failed _ _ _ c.from_residual.ensures.0
          (ends_passed _ _ _ _ c.from_residual.ensures.1 c.in_err-erase_trailer.ensures.ends);
      ends = ends_passed _ _ _ _ c.from_residual.ensures.1 c.in_err-erase_trailer.ensures.ends;
    }

pub make_whole-requires : goal.make_whole-requires
make_whole-requires g c = record {
  laid_out = laid_out_kept _ _ _ _ c.requires.laid_out c.erase_trailer.ensures.outside;
  there = c.requires.there;
}

pub returns-in_err-make_whole : goal.returns-in_err-make_whole
returns-in_err-make_whole g c =
    let first = one_of_trailers c.args.map.now _ _ c.args.image Secondary c.erase_trailer.ensures.outside in
    let outside = both_trailers c.args.map.now _ _ _ c.args.image Primary first c.make_whole.ensures.outside in
    record {
      outside = outside;
      ok = at_error _ _ c.from_residual-in_err-make_whole.ensures.0;
      marks = at_error _ _ c.from_residual-in_err-make_whole.ensures.0;
      erased = at_error _ _ c.from_residual-in_err-make_whole.ensures.0;
      back = at_error _ _ c.from_residual-in_err-make_whole.ensures.0;
      erases = at_error _ _ c.from_residual-in_err-make_whole.ensures.0;
      spares = at_error _ _ c.from_residual-in_err-make_whole.ensures.0;
      must = at_error _ _ c.from_residual-in_err-make_whole.ensures.0;
      journal = omega (arith, c.erase_trailer.ensures.journal, c.make_whole.ensures.journal);
      off = refuses_first _ _ _ c.in_ok-erase_trailer.ensures.off;
      ends = ends_then _ _ _ _ _ c.in_ok-erase_trailer.ensures.ends
          (ends_passed _ _ _ _ c.from_residual-in_err-make_whole.ensures.1 c.in_err-make_whole.ensures.ends);
    }

pub mark_trailer-requires-clause-image : goal.mark_trailer-requires-clause-image
mark_trailer-requires-clause-image g c = record {
  laid_out = laid_out_kept _ _ _ _ (laid_out_kept _ _ _ _ c.requires.laid_out c.erase_trailer.ensures.outside)
      c.make_whole.ensures.outside;
  there = c.requires.there;
}

pub mark_trailer-requires-clause-whole : goal.mark_trailer-requires-clause-whole
mark_trailer-requires-clause-whole g c = rw c.is_confirmed.ensures c.in_ok-make_whole.ensures.ok

pub returns : goal.returns
returns g c =
    let first = one_of_trailers c.args.map.now _ _ c.args.image Secondary c.erase_trailer.ensures.outside in
    let both = both_trailers c.args.map.now _ _ _ c.args.image Primary first c.make_whole.ensures.outside in
    let has_marks = rw c.is_confirmed.ensures at c.mark_trailer.ensures.ok in
    record {
      outside = both_trailers c.args.map.now _ _ _ c.args.image Primary both c.mark_trailer.ensures.outside;
      ok = on_ok_weaker c.mark_trailer.result (λ marks.
          settled c.args.map.now _ c.args.image _ marks
          (secondary_kept c.args.map.now _ _ _ c.args.image c.in_ok-erase_trailer.ensures.ok
          c.make_whole.ensures.outside c.mark_trailer.ensures.outside))
          has_marks;
      marks = has_marks;
      erased = at_any _ _ (ap (λ (bytes : List ℕ). are_erased bytes)
          (c.mark_trailer.ensures.outside.parts (TrailerOf c.args.image Secondary) (beside c.args.image)
          ∙ c.make_whole.ensures.outside.parts (TrailerOf c.args.image Secondary) (beside c.args.image))
          ∙ c.in_ok-erase_trailer.ensures.bytes);
      back = on_ok_weaker c.mark_trailer.result (λ marks. λ back.
          still_erased c.args.map.now _ _ c.args.image Primary c.mark_trailer.ensures.units
          c.requires.laid_out.is_map c.requires.there (c.in_ok-make_whole.ensures.back back))
          has_marks;
      erases = on_ok_weaker c.mark_trailer.result
          (λ none. omega (arith, none, c.in_ok-make_whole.ensures.erases, c.in_ok-erase_trailer.ensures.erases))
          c.mark_trailer.ensures.erases;
      spares = on_ok_weaker c.mark_trailer.result (λ none. λ spared.
          none
          ∙ ap (λ (chip : Chip). chip.erases) (c.in_ok-make_whole.ensures.spares (spared_alike c.args.map.now _ _
          c.args.image Primary _
          (sym (c.erase_trailer.ensures.outside.parts (TrailerOf c.args.image Primary) (across c.args.image)))
          spared))
          ∙ c.in_ok-erase_trailer.ensures.erases)
          c.mark_trailer.ensures.erases;
      must = on_ok_weaker c.mark_trailer.result (λ none. λ must.
          none
          ∙ c.in_ok-make_whole.ensures.must (λ spared. must (spared_alike c.args.map.now _ _
          c.args.image Primary _
          (c.erase_trailer.ensures.outside.parts (TrailerOf c.args.image Primary) (across c.args.image)) spared))
          ∙ ap (λ n. n + 1) c.in_ok-erase_trailer.ensures.erases ∙ omega arith)
          c.mark_trailer.ensures.erases;
      journal = omega (
        arith,
        c.erase_trailer.ensures.journal,
        c.make_whole.ensures.journal,
        c.mark_trailer.ensures.journal,
      );
      off = refuses_first _ _ _ c.in_ok-erase_trailer.ensures.off;
      ends = ends_then _ _ _ _ _ c.in_ok-erase_trailer.ensures.ends
          (ends_then _ _ _ _ _ c.in_ok-make_whole.ensures.ends c.mark_trailer.ensures.ends);
    }
