use Rattle.std.proofs.Common.{◌∙◌, ap, sym}
use Rattle.std.proofs.lemmas.Result.{on_ok_weaker}
use Rattle.sector_map.specs.declared.layout.Side.TheVariants.{Secondary}
use Rattle.trailer.specs.Fields.{Fields, erased_fields, fields_at}
use Rattle.trailer.specs.Standing.{is_permanent}
use Rattle.trailer.proofs.FieldUnits.{erased_image_ok}
use Rattle.trailer.proofs.FieldWritten.{sets_image_ok}
use Rattle.trailer.proofs.requesting.mark_kind.Goals as goal

pub write_units-requires-clause-erased : goal.write_units-requires-clause-erased
write_units-requires-clause-erased g c =
    erased_image_ok c.args.map.now _ c.args.image Secondary (ap (λ (f : Fields). f.image_ok) c.requires.erased)

pub returns-in-Permanent : goal.returns-in-Permanent
returns-in-Permanent g c =
    let set = sets_image_ok c.args.map.now c.args.image Secondary _ _ _ c.requires.image c.write_units.ensures in
    let now = fields_at c.args.map.now (g.F.Flash.chip c.write_units.new.flash) c.args.image Secondary in
    let own = set.own ∙ ap (λ (f : Fields). record f { image_ok = now.image_ok }) c.requires.erased in
    record {
      outside = set.outside;
      unit = set.unit;
      own = own;
      flag = on_ok_weaker c.write_units.result (λ is. λ permanent. is) set.bytes;
      ok = on_ok_weaker c.write_units.result (λ is. own ∙ ap (λ b. record erased_fields { image_ok = b }) is
          ∙ ap (λ kind. record erased_fields { image_ok = is_permanent kind }) (sym c.in-Permanent.is)) set.ok;
      erases = set.erases;
      journal = set.journal;
      ends = set.ends;
    }
