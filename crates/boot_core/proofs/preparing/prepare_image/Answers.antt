use Rattle.std.proofs.Common.{arith, ap, ◌≡◌, refl, sym, subst, true}
use Rattle.std.proofs.lemmas.Result.{on_ok_weaker}
use Rattle.flash_model.specs.Units.{are_erased}
use Rattle.flash_model.specs.Chip.{Chip}
use Rattle.sector_map.specs.Map.{Keeps}
use Rattle.sector_map.specs.Part.{TrailerOf, only}
use Rattle.sector_map.proofs.Parts.{keeps_trans, laid_out_kept}
use Rattle.trailer.specs.Fields.{bytes_at, fields_at, trailer_bytes}
use Rattle.trailer.proofs.Erased.{erased_range}
use Rattle.upload.proofs.Ends.{err_passed}
use Rattle.boot_core.proofs.Passed.{err_ends, then_ends, then_err}
use Rattle.boot_core.proofs.SwapSizes.{held_kept, made_ready, sized}
use Rattle.boot_core.proofs.Records.{one_erase}
use Rattle.boot_core.proofs.preparing.prepare_image.Goals as goal

pub swap_length-requires-clause-held : goal.swap_length-requires-clause-held
swap_length-requires-clause-held g c = λ is.
    held_kept c.args.map.now (only (TrailerOf c.args.image c.args.side)) c.args.image _ _ c.clear.ensures.outside
    (λ on. refl) (c.requires.held is)

pub swap_length-requires-clause-there : goal.swap_length-requires-clause-there
swap_length-requires-clause-there g c = record {
  laid_out = laid_out_kept c.args.map.now _ _ _ c.requires.there.laid_out c.clear.ensures.outside;
  there = c.requires.there.there;
}

pub write_size-requires-clause-image : goal.write_size-requires-clause-image
write_size-requires-clause-image g c = record {
  laid_out = rw c.swap_length.ensures.same
      (laid_out_kept c.args.map.now _ _ _ c.requires.there.laid_out c.clear.ensures.outside);
  there = c.requires.there.there;
}

pub write_size-requires-clause-erased : goal.write_size-requires-clause-erased
write_size-requires-clause-erased g c = subst
    (λ chip. are_erased (bytes_at c.args.map.now chip c.args.image c.args.side 48 8) ≡ true)
    (sym c.swap_length.ensures.same)
    (erased_range (trailer_bytes c.args.map.now (g.F.Flash.chip c.clear.new.flash) c.args.image c.args.side) _ _
    c.in_ok-clear.ensures.bytes)

pub returns : goal.returns
returns g c = record {
  outside = keeps_trans c.args.map.now (only (TrailerOf c.args.image c.args.side)) _ _ _ c.clear.ensures.outside
      (subst (λ chip. Keeps c.args.map.now (only (TrailerOf c.args.image c.args.side)) chip
      (g.F.Flash.chip c.write_size.new.flash)) c.swap_length.ensures.same c.write_size.ensures.outside);
  ok =
      let map = c.args.map.now in
      let mid = g.F.Flash.chip c.swap_length.new.flash in
      let new = g.F.Flash.chip c.write_size.new.flash in
      on_ok_weaker c.write_size.result
      (λ written. made_ready map c.args.image c.in_ok-size.size c.args.side _ mid new c.in_ok-clear.ensures.ok
      c.in_ok-size.ensures.ok.exact c.swap_length.ensures.same
      (sized (fields_at map mid c.args.image c.args.side) (fields_at map new c.args.image c.args.side)
      c.in_ok-size.size c.write_size.ensures.own
      (written c.in_ok-size.ensures.ok.some c.in_ok-size.ensures.ok.most))
      c.write_size.ensures.outside)
      c.write_size.ensures.ok;
  erases = on_ok_weaker c.write_size.result
      (λ written. omega (
        arith,
        written,
        ap (λ (chip : Chip). chip.erases) c.swap_length.ensures.same,
        one_erase _ _ _ c.in_ok-clear.ensures.erases,
      ))
      c.write_size.ensures.erases;
  journal = omega (
    arith,
    c.clear.ensures.journal,
    ap (λ (chip : Chip). chip.journaled) c.swap_length.ensures.same,
    c.write_size.ensures.journal,
  );
  ends = then_ends (then_ends c.in_ok-clear.ensures.ends c.in_ok-size.ensures.ends) c.write_size.ensures.ends;
}

pub returns-in_err-clear : goal.returns-in_err-clear
returns-in_err-clear g c =
    rw (err_passed c.from_residual.result c.in_err-clear.field-0.0 c.from_residual.ensures.1) (record {
      outside = c.clear.ensures.outside;
      ok = tt;
      erases = tt;
      journal = omega (arith, c.clear.ensures.journal);
      ends = err_ends c.in_err-clear.ensures.ends;
    })

pub returns-in_err-size : goal.returns-in_err-size
returns-in_err-size g c =
    rw (err_passed c.from_residual-in_err-size.result c.in_err-size.field-0.0 c.from_residual-in_err-size.ensures.1) (record {
      outside = rw c.swap_length.ensures.same c.clear.ensures.outside;
      ok = tt;
      erases = tt;
      journal = omega (
        arith,
        c.clear.ensures.journal,
        ap (λ (chip : Chip). chip.journaled) c.swap_length.ensures.same,
      );
      ends = then_err c.in_ok-clear.ensures.ends c.in_err-size.ensures.ends;
    })
