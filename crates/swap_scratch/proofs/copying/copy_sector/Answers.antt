use Rattle.std.proofs.Common.{arith, refl, subst, ◌+◌, ◌∙◌, ◌≤◌}
use Rattle.std.proofs.lemmas.Result.{on_ok_weaker}
use Rattle.flash_model.proofs.Copies.{copy_after_erase}
use Rattle.swap_scratch.specs.Copies.{journal_of_copy}
use Rattle.swap_scratch.proofs.SectorCopies.{copied_outside, sector_addressed, sector_copyable, sectors_apart}
use Rattle.flash_model.proofs.Ending.{at_error, ends_passed, ends_then}
use Rattle.swap_scratch.proofs.copying.copy_sector.Goals as goal

pub returns-in_err-erase : goal.returns-in_err-erase
returns-in_err-erase g c = record {
  outside = c.erase.ensures.outside;
  ok = at_error _ _ c.from_residual.ensures.0;
  erases = at_error _ _ c.from_residual.ensures.0;
  journal = omega (arith, c.erase.ensures.journal);
  ends = ends_passed _ _ _ _ c.from_residual.ensures.1 c.in_err-erase.ensures.ends;
}

pub copy_range-requires : goal.copy_range-requires
copy_range-requires g c = record {
  range = sector_copyable _ _ _ _ _ _ _ c.requires c.sector_size-size.ensures c.erase.ensures.outside
      c.in_ok-erase.ensures.ok;
  addressed = sector_addressed _ _ _ _ _ _ _ c.requires c.sector_size-size.ensures c.erase.ensures.outside;
  apart = sectors_apart _ _ _ _ _ _ _ c.requires c.sector_size-size.ensures c.erase.ensures.outside;
}

pub returns : goal.returns
returns g c = record {
  outside = copied_outside _ _ _ _ _ _ _ c.requires c.sector_size-size.ensures c.erase.ensures.outside _
      c.erase.ensures.outside c.copy_range.ensures.outside;
  ok = on_ok_weaker c.copy_range.result (λ copied.
      copy_after_erase _ _ _ _ _ _ _ _ copied c.erase.ensures.outside c.requires.apart c.sector_size-size.ensures refl)
      c.copy_range.ensures.ok;
  erases = on_ok_weaker c.copy_range.result (λ none. none ∙ c.in_ok-erase.ensures.erases) c.copy_range.ensures.erases;
  journal = subst (λ size. (g.F.Flash.chip c.copy_range.new.flash).journaled
      ≤ (g.F.Flash.chip c.args.flash.now).journaled + (12 + journal_of_copy size)) c.sector_size-size.ensures
      (omega (arith, c.erase.ensures.journal, c.copy_range.ensures.journal));
  ends = ends_then _ _ _ _ _ c.in_ok-erase.ensures.ends c.copy_range.ensures.ends;
}
