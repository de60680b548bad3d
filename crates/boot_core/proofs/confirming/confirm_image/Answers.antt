use Rattle.std.proofs.Common.{rules, arith, ◌≡◌, ◌<◌, true, ap}
use Rattle.common.specs.Masks.{is_member}
use Rattle.trailer.specs.Fields.{Fields}
use Rattle.upload.proofs.Ends.{err_passed}
use Rattle.flash_contents.proofs.Confirming.{confirm_either, confirm_yes}
use Rattle.boot_core.proofs.Trials.{set_answers}
use Rattle.boot_core.proofs.Passed.{err_ends, ok_ends}
use Rattle.boot_core.proofs.confirming.confirm_image.Goals as goal

pub returns-in_err-set_ok : goal.returns-in_err-set_ok
returns-in_err-set_ok g c =
    let lt : c.args.image < c.args.map.now.images = omega arith in
    let member : is_member c.args.state.now.mask c.args.image ≡ true = search rules in
    rw (err_passed c.from_residual.result c.in_err-set_ok.field-0.0 c.from_residual.ensures.1) (record {
      outside = c.set_ok.ensures.outside;
      stands = confirm_either c.args.map.now _ _ c.args.state.now c.args.image c.requires.read lt member
          c.set_ok.ensures.outside c.set_ok.ensures.either;
      done = tt;
      none = tt;
      answers = set_answers _ c.args.map.now _ _ c.args.image c.in_err-set_ok.field-0.0 c.in_err-set_ok.ensures.ends
          (lt, member);
      tried = search rules;
      same = tt;
      journal = c.set_ok.ensures.journal;
      ends = err_ends c.in_err-set_ok.ensures.ends;
    })

pub returns : goal.returns
returns g c =
    let lt : c.args.image < c.args.map.now.images = omega arith in
    let member : is_member c.args.state.now.mask c.args.image ≡ true = search rules in
    record {
      outside = c.set_ok.ensures.outside;
      stands = confirm_either c.args.map.now _ _ c.args.state.now c.args.image c.requires.read lt member
          c.set_ok.ensures.outside c.set_ok.ensures.either;
      done = λ done. confirm_yes c.args.map.now _ _ c.args.state.now c.args.image c.requires.read lt member
          c.set_ok.ensures.outside c.in_ok-set_ok.ensures.ok;
      none = search rules;
      answers = ((lt, member), ap (λ (t : Fields). t.image_ok) c.in_ok-set_ok.ensures.ok);
      tried = search rules;
      same = search rules;
      journal = c.set_ok.ensures.journal;
      ends = ok_ends c.in_ok-set_ok.ensures.ends;
    }
