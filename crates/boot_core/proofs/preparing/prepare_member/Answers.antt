use Rattle.std.proofs.Common.{rules, ◌≡◌, true, Err}
use Rattle.common.specs.Masks.{is_member}
use Rattle.boot_core.proofs.Passed.{err_ends, ok_ends}
use Rattle.boot_core.proofs.SwapSizes.{member_kept, ready_kept}
use Rattle.boot_core.proofs.preparing.prepare_member.Goals as goal

pub returns-in_err-prepare_image : goal.returns-in_err-prepare_image
returns-in_err-prepare_image g c =
    let member : is_member c.args.mask c.args.image ≡ true = search rules in
    let passed : c.from_residual.result ≡ Err c.in_err-prepare_image.field-0.0 = search rules in
    rw passed (record {
      outside = member_kept c.args.map.now c.args.mask c.args.image c.args.side _ _ member c.prepare_image.ensures.outside;
      ok = tt;
      kept = λ i other was. ready_kept c.args.map.now i c.args.image
          c.args.side c.args.side _ _ other c.prepare_image.ensures.outside was;
      erases = tt;
      journal = rw member c.prepare_image.ensures.journal;
      ends = err_ends c.in_err-prepare_image.ensures.ends;
    })

pub returns-in_ok-prepare_image : goal.returns-in_ok-prepare_image
returns-in_ok-prepare_image g c =
    let member : is_member c.args.mask c.args.image ≡ true = search rules in
    record {
      outside = member_kept c.args.map.now c.args.mask c.args.image c.args.side _ _ member c.prepare_image.ensures.outside;
      ok = λ is. c.in_ok-prepare_image.ensures.ok;
      kept = λ i other was. ready_kept c.args.map.now i c.args.image
          c.args.side c.args.side _ _ other c.prepare_image.ensures.outside was;
      erases = rw member c.in_ok-prepare_image.ensures.erases;
      journal = rw member c.prepare_image.ensures.journal;
      ends = ok_ends c.in_ok-prepare_image.ensures.ends;
    }
