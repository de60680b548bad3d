use Rattle.std.proofs.Common.{◌∙◌, ap, arith, sym}
use Rattle.std.proofs.lemmas.Bool.{false≢true}
use Rattle.std.proofs.lemmas.Result.{on_ok_weaker}
use Rattle.flash_model.proofs.Ending.{ends_then}
use Rattle.sector_map.specs.declared.layout.Side.TheVariants.{Primary}
use Rattle.trailer.specs.Fields.{fields_at}
use Rattle.trailer.proofs.FailedCalls.{refuses_first}
use Rattle.trailer.proofs.FieldUnits.{either_image_ok, erased_image_ok, image_ok_is, kept_image_ok}
use Rattle.trailer.proofs.FieldWritten.{sets_image_ok}
use Rattle.trailer.proofs.requesting.set_ok.Goals as goal

pub write_units-requires-clause-erased : goal.write_units-requires-clause-erased
write_units-requires-clause-erased g c = grind (arith, erased_image_ok, image_ok_is)

pub returns-then-branch : goal.returns-then-branch
returns-then-branch g c = grind (arith, kept_image_ok, image_ok_is)

pub returns : goal.returns
returns g c =
    let map = c.args.map.now in
    let old = g.F.Flash.chip c.args.flash.now in
    let new = g.F.Flash.chip c.write_units.new.flash in
    let set = sets_image_ok map c.args.image Primary old new c.write_units.result c.requires
    (rw c.is_unit_set.ensures.same at c.write_units.ensures) in
    let was = image_ok_is map old c.args.image Primary ∙ sym c.in_ok-is_unit_set.ensures.ok ∙ c.if-branch.false in
    record {
      outside = set.outside;
      unit = set.unit;
      idle = λ is. absurd (false≢true (sym was ∙ is));
      either = either_image_ok _ _ set.own was;
      ok = on_ok_weaker c.write_units.result
          (λ is. set.own ∙ ap (λ b. record (fields_at map old c.args.image Primary) { image_ok = b }) is) set.ok;
      flag = on_ok_weaker c.write_units.result (λ is. λ unset. is) set.bytes;
      erases = set.erases;
      journal = set.journal;
      off = refuses_first _ _ _ c.in_ok-is_unit_set.ensures.off;
      ends = ends_then _ _ _ _ _ c.in_ok-is_unit_set.ensures.ends c.write_units.ensures.ends;
    }
