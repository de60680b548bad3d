use Rattle.std.proofs.Common.{arith, refl, subst, sym}
use Rattle.sector_map.specs.declared.layout.Side.TheVariants.{Secondary}
use Rattle.swap_scratch.specs.Swap.{IsSwapAt}
use Rattle.flash_contents.proofs.Reverting.{back_done, back_resumes}
use Rattle.boot_core.proofs.Passed.{on_ok_both}
use Rattle.boot_core.proofs.Records.{read_kept, stands_within}
use Rattle.boot_core.proofs.back.swap_back.Goals as goal

pub swap_set-requires : goal.swap_set-requires
swap_set-requires g c = record {
  images = record {
    laid_out = c.requires.laid_out;
    within = stands_within c.args.map.now _ c.args.state.now c.requires.read;
  };
}

pub returns : goal.returns
returns g c =
    let map = c.args.map.now in
    let old = g.F.Flash.chip c.args.flash.now in
    let state = c.args.state.now in
    let swaps = c.swap_set.ensures in
    record {
      outside = swaps.outside;
      read = read_kept map _ _ _ state swaps.outside refl c.requires.read;
      stands = λ s trial is was. back_resumes map _ _ state.mask swaps.outside swaps.resumes s trial is was;
      done = on_ok_both _ _ _ c.swap_set.result (λ swapped erases. record {
        ok = back_done map _ _ state.mask swaps.outside swapped;
        erases = λ s trial is was. omega (
          arith,
          erases was.0 was.1
              (subst (λ mask. IsSwapAt map old Secondary mask was.0 was.1) (sym is) was.2.place),
        );
      }) swaps.swapped swaps.erases;
      forward = swaps.forward;
      journal = swaps.journal;
      journal_ok = swaps.journal_ok;
      ends = swaps.ends;
    }
