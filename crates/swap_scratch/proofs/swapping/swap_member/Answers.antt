use Rattle.std.proofs.Common.{rules, arith, ◌≡◌, true}
use Rattle.std.proofs.lemmas.Result.{on_ok_weaker}
use Rattle.common.specs.Masks.{is_member}
use Rattle.swap_scratch.proofs.Members.{resumed, finished, counted_on}
use Rattle.swap_scratch.proofs.Asking.{asks_shifted}
use Rattle.swap_scratch.proofs.Sums.{done_by_one, shares_erased}
use Rattle.swap_scratch.proofs.swapping.swap_member.Goals as goal

pub returns : goal.returns
returns g c =
    let member : is_member c.args.mask c.args.image ≡ true = search rules in
    record {
      outside = search rules;
      rest = c.swap_image.ensures.rest;
      idle = search rules;
      resumes = λ counts x y below. resumed _ _ _ _ _ _ c.requires.images.laid_out c.requires.images.within member
          c.swap_image.ensures.outside c.swap_image.ensures.rest counts x y below c.swap_image.ensures.idle
          c.swap_image.ensures.resumes;
      done = on_ok_weaker c.swap_image.result (λ swapped. λ counts x y below.
          finished _ _ _ _ _ _ c.requires.images.laid_out c.requires.images.within member
          c.swap_image.ensures.outside c.swap_image.ensures.rest counts x y below c.swap_image.ensures.idle swapped)
          c.swap_image.ensures.swapped;
      counted = on_ok_weaker c.swap_image.result
          (λ counted. λ was. counted_on _ _ _ _ _ _ c.swap_image.ensures.outside counted was)
          c.swap_image.ensures.counted;
      forward = omega (
        arith,
        done_by_one _ _ _ _ _ _ member c.requires.there c.swap_image.ensures.outside,
        c.swap_image.ensures.forward,
      );
      erases = on_ok_weaker c.swap_image.result (λ erased. λ counts x y below.
          shares_erased _ _ _ _ _ _ counts x y member below
          (erased (x c.args.image) (y c.args.image) (below.now c.args.image) (below.place.each c.args.image member)))
          c.swap_image.ensures.erases;
      journal = asks_shifted _ _ _ _ _ _ _ c.swap_image.ensures.journal
          (omega (arith, done_by_one _ _ _ _ _ _ member c.requires.there c.swap_image.ensures.outside));
      journal_ok = on_ok_weaker c.swap_image.result (λ asked. asks_shifted _ _ _ _ _ _ _ asked
          (done_by_one _ _ _ _ _ _ member c.requires.there c.swap_image.ensures.outside))
          c.swap_image.ensures.journal_ok;
      off = λ _. c.swap_image.ensures.off;
      ends = c.swap_image.ensures.ends;
    }
