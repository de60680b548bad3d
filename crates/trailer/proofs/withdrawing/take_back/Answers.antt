use Rattle.std.proofs.Common.{sym, ◌∙◌}
use Rattle.std.proofs.lemmas.Result.{on_ok_weaker}
use Rattle.std.proofs.lemmas.Option.{none-some}
use Rattle.flash_model.proofs.Ending.{ends_then}
use Rattle.sector_map.specs.declared.layout.Side.TheVariants.{Secondary}
use Rattle.trailer.proofs.FieldUnits.{erased_withdrawn}
use Rattle.trailer.proofs.FieldWritten.{sets_withdrawn}
use Rattle.trailer.proofs.Gone.{gone_withdrawn}
use Rattle.trailer.proofs.FailedCalls.{at_any, refuses_first}
use Rattle.trailer.proofs.Withdrawal.{kept_when_standing, still_written, taken_back}
use Rattle.trailer.proofs.withdrawing.take_back.Goals as goal

pub write_units-requires-clause-erased : goal.write_units-requires-clause-erased
write_units-requires-clause-erased g c = rw c.standing.ensures.same
    (erased_withdrawn c.args.map.now _ c.args.image Secondary
    (kept_when_standing c.args.map.now _ c.args.image _ (sym c.in_ok-standing.ensures.ok ∙ c.in-Some.is)))

pub returns-in-Some : goal.returns-in-Some
returns-in-Some g c =
    let map = c.args.map.now in
    let old = g.F.Flash.chip c.args.flash.now in
    let new = g.F.Flash.chip c.write_units.new.flash in
    let stood = sym c.in_ok-standing.ensures.ok ∙ c.in-Some.is in
    let set = sets_withdrawn map c.args.image Secondary old new c.write_units.result c.requires
    (rw c.standing.ensures.same at c.write_units.ensures) in
    record {
      outside = set.outside;
      either = taken_back map old new c.args.image _ stood set.own;
      ok = on_ok_weaker c.write_units.result (λ is. gone_withdrawn map new c.args.image is) set.ok;
      idle = λ none. absurd (none-some _ (sym none ∙ stood));
      erased = at_any _ _ (still_written map old new c.args.image _ stood set.own c.requires.laid_out set.outside
          c.requires.there);
      erases = set.erases;
      journal = set.journal;
      off = refuses_first _ _ _ c.in_ok-standing.ensures.off;
      ends = ends_then _ _ _ _ _ c.in_ok-standing.ensures.ends c.write_units.ensures.ends;
    }
