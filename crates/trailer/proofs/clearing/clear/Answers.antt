use Rattle.std.proofs.Common.{◌+◌, ◌∙◌, ap, arith, if◌then◌else◌, sym}
use Rattle.std.proofs.lemmas.Bool.{false≢true}
use Rattle.std.proofs.lemmas.Result.{on_ok_weaker}
use Rattle.flash_model.specs.Chip.{Chip}
use Rattle.flash_model.proofs.Ending.{ends_then}
use Rattle.trailer.proofs.Erased.{erased_fields_at, whole_erased}
use Rattle.trailer.proofs.FailedCalls.{refuses_first}
use Rattle.trailer.proofs.clearing.clear.Goals as goal

pub returns-then-branch : goal.returns-then-branch
returns-then-branch g c =
    let whole = whole_erased c.args.map.now (g.F.Flash.chip c.args.flash.now) c.args.image c.args.side
    c.requires.laid_out c.requires.there in
    grind (arith, erased_fields_at, whole)

pub returns : goal.returns
returns g c =
    let old = g.F.Flash.chip c.args.flash.now in
    let same = c.is_range_erased.ensures.same in
    let written = sym (whole_erased c.args.map.now old c.args.image c.args.side c.requires.laid_out c.requires.there)
    ∙ sym c.in_ok-is_range_erased.ensures.ok ∙ c.if-branch.false in
    record {
      outside = rw same at c.erase_trailer.ensures.outside;
      idle = λ all. absurd (false≢true (sym written ∙ all));
      bytes = c.erase_trailer.ensures.bytes;
      ok = c.erase_trailer.ensures.ok;
      erases = on_ok_weaker c.erase_trailer.result (λ one.
          one ∙ ap (λ (chip : Chip). chip.erases + 1) same
          ∙ ap (λ all. old.erases + (if all then 0 else 1)) (sym written))
          c.erase_trailer.ensures.erases;
      journal = rw same at c.erase_trailer.ensures.journal;
      off = refuses_first _ _ _ c.in_ok-is_range_erased.ensures.off;
      ends = ends_then _ _ _ _ _ c.in_ok-is_range_erased.ensures.ends c.erase_trailer.ensures.ends;
    }
