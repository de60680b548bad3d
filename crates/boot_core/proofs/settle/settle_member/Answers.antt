use Rattle.std.proofs.Common.{rules, ◌≡◌, true, Err}
use Rattle.sector_map.specs.Part.{trailers_in, trailers_of}
use Rattle.common.specs.Masks.{is_member}
use Rattle.sector_map.proofs.Parts.{keeps_wider}
use Rattle.sector_map.proofs.Touched.{trailers_in_mask}
use Rattle.flash_contents.proofs.Swapping.{settled_kept}
use Rattle.boot_core.proofs.Passed.{err_ends, ok_ends}
use Rattle.boot_core.proofs.settle.settle_member.Goals as goal

pub returns-in_err-settle : goal.returns-in_err-settle
returns-in_err-settle g c =
    let member : is_member c.args.mask c.args.image ≡ true = search rules in
    let passed : c.from_residual.result ≡ Err c.in_err-settle.field-0.0 = search rules in
    rw passed (record {
      outside = keeps_wider c.args.map.now (trailers_of c.args.image) (trailers_in c.args.mask) _ _
          (trailers_in_mask c.args.mask c.args.image member) c.settle.ensures.outside;
      others = λ i other was.
          settled_kept c.args.map.now i c.args.image _ _ _ other c.settle.ensures.outside was;
      ok = tt;
      erases = tt;
      journal = rw member c.settle.ensures.journal;
      ends = err_ends c.in_err-settle.ensures.ends;
    })

pub returns-in_ok-settle : goal.returns-in_ok-settle
returns-in_ok-settle g c =
    let member : is_member c.args.mask c.args.image ≡ true = search rules in
    record {
      outside = keeps_wider c.args.map.now (trailers_of c.args.image) (trailers_in c.args.mask) _ _
          (trailers_in_mask c.args.mask c.args.image member) c.settle.ensures.outside;
      others = λ i other was.
          settled_kept c.args.map.now i c.args.image _ _ _ other c.settle.ensures.outside was;
      ok = λ is. record { both = c.in_ok-settle.ensures.ok };
      erases = rw member c.in_ok-settle.ensures.erases;
      journal = rw member c.settle.ensures.journal;
      ends = ok_ends c.in_ok-settle.ensures.ends;
    }
