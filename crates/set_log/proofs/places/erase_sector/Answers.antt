use Rattle.std.proofs.Common.{rules, ◌*◌, subst}
use Rattle.flash_model.specs.Chip.{SameOutside, IsErased}
use Rattle.std.proofs.lemmas.Result.{on_ok_weaker}
use Rattle.set_log.specs.Log.{log_of}
use Rattle.set_log.proofs.View.{at_sector, log_alone, log_same, log_erased}
use Rattle.set_log.proofs.places.erase_sector.Goals as goal

pub returns : goal.returns
returns g c =
    let map = c.args.map.now in
    let chip = g.F.Flash.chip c.args.flash.now in
    let new = g.F.Flash.chip c.erase.new.self in
    let here = at_sector map chip c.args.sector c.log_sector.result c.requires.laid_out c.requires.sector
    c.log_sector.ensures in
    record {
      outside = log_alone map _ _ _ _ _ c.requires.laid_out c.erase.ensures.outside here;
      within = subst (λ n. SameOutside (c.args.sector * map.sector_size) n (log_of map chip) (log_of map new))
          c.requires.laid_out.sector_size
          (log_same map _ _ _ _ _ c.requires.laid_out c.erase.ensures.outside here);
      ok = on_ok_weaker c.erase.result
          (λ (erased : IsErased new (c.log_sector.result * chip.sector_size) chip.sector_size).
          subst (λ n. IsErased (log_of map new) (c.args.sector * map.sector_size) n) c.requires.laid_out.sector_size
          (log_erased map _ _ _ _ erased here))
          c.erase.ensures.ok;
      erases = search rules;
      uncounted = search rules;
      on = c.erase.ensures.on;
      journal = c.erase.ensures.journal;
      ends = search rules;
    }
