use Rattle.std.proofs.Common.{◌∙◌, arith, refl, rules}
use Rattle.std.proofs.lemmas.Result.{on_ok_weaker}
use Rattle.trailer.proofs.Places.{units_alone}
use Rattle.trailer.proofs.Marks.{ok_still_free, magic_still_free, marked, two_alone, three_alone, two_of_units, three_of_units}
use Rattle.flash_model.proofs.Ending.{at_error, ends_passed, ends_then}
use Rattle.flash_model.proofs.Frame.{same_outside_wider}
use Rattle.trailer.proofs.marking.mark_trailer.Goals as goal

pub returns-in_err-mark : goal.returns-in_err-mark
returns-in_err-mark g c =
    let outside = units_alone c.args.map.now _ _ c.args.image _ 32 8 c.args.side c.mark.ensures.outside
    c.requires.image.laid_out c.requires.image.there refl (omega arith) (omega arith) in
    record {
      outside = outside;
      units = same_outside_wider _ 8 _ 32 _ _ c.mark.ensures.outside (omega arith) (omega arith);
      ok = at_error _ _ c.from_residual.ensures.0;
      erases = at_error _ _ c.from_residual.ensures.0;
      journal = omega (arith, c.mark.ensures.journal);
      ends = ends_passed _ _ _ _ c.from_residual.ensures.1 c.in_err-mark.ensures.ends;
    }

pub mark_ok-requires-clause-free : goal.mark_ok-requires-clause-free
mark_ok-requires-clause-free g c =
    ok_still_free c.args.map.now c.args.image c.args.side c.requires.image.laid_out.is_map
    c.requires.image.there _ _ c.args.confirmed c.requires.whole c.mark.ensures.outside

pub returns-in_err-mark_ok : goal.returns-in_err-mark_ok
returns-in_err-mark_ok g c =
    let outside = two_alone c.args.map.now _ _ _ c.args.image c.args.side c.mark.ensures.outside
    c.mark_ok.ensures.outside c.requires.image.laid_out c.requires.image.there in
    record {
      outside = outside;
      units = two_of_units c.args.map.now _ _ _ c.args.image c.args.side c.mark.ensures.outside
          c.mark_ok.ensures.outside c.requires.image.laid_out.is_map;
      ok = at_error _ _ c.from_residual-in_err-mark_ok.ensures.0;
      erases = at_error _ _ c.from_residual-in_err-mark_ok.ensures.0;
      journal = omega (arith, c.mark.ensures.journal, c.mark_ok.ensures.journal);
      ends = ends_then _ _ _ _ _ c.in_ok-mark.ensures.ends
          (ends_passed _ _ _ _ c.from_residual-in_err-mark_ok.ensures.1 c.in_err-mark_ok.ensures.ends);
    }

pub mark-requires-2 : goal.mark-requires-2
mark-requires-2 g c =
    let free = magic_still_free c.args.map.now c.args.image c.args.side c.requires.image.laid_out.is_map
    c.requires.image.there _ _ _ c.args.confirmed c.requires.whole c.mark.ensures.outside
    c.mark_ok.ensures.outside in
    (omega arith, (search rules, free))

pub returns : goal.returns
returns g c =
    let outside = three_alone c.args.map.now _ _ _ _ c.args.image c.args.side
    c.mark.ensures.outside c.mark_ok.ensures.outside c.mark-2.ensures.outside c.requires.image.laid_out
    c.requires.image.there in
    let ok = on_ok_weaker c.mark-2.result (λ magic.
    marked c.args.map.now c.args.image c.args.side c.requires.image.laid_out.is_map
    c.requires.image.there _ _ _ _ c.args.confirmed c.requires.whole
    c.mark.ensures.outside c.in_ok-mark.ensures.ok
    c.mark_ok.ensures.outside c.in_ok-mark_ok.ensures.ok c.mark_ok.ensures.tried
    c.mark-2.ensures.outside magic)
    c.mark-2.ensures.ok in
    record {
      outside = outside;
      units = three_of_units c.args.map.now _ _ _ _ c.args.image c.args.side c.mark.ensures.outside
          c.mark_ok.ensures.outside c.mark-2.ensures.outside c.requires.image.laid_out.is_map;
      ok = ok;
      erases = on_ok_weaker c.mark-2.result
          (λ none. none ∙ c.in_ok-mark_ok.ensures.erases ∙ c.in_ok-mark.ensures.erases)
          c.mark-2.ensures.erases;
      journal = omega (arith, c.mark.ensures.journal, c.mark_ok.ensures.journal, c.mark-2.ensures.journal);
      ends = ends_then _ _ _ _ _ c.in_ok-mark.ensures.ends
          (ends_then _ _ _ _ _ c.in_ok-mark_ok.ensures.ends c.mark-2.ensures.ends);
    }
