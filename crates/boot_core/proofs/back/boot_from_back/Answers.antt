use Rattle.std.proofs.Common.{subst, sym}
use Rattle.sector_map.specs.Map.{Keeps}
use Rattle.sector_map.specs.Part.{swap_of}
use Rattle.sector_map.specs.declared.layout.Side.TheVariants.{Primary, Secondary}
use Rattle.sector_map.proofs.Parts.{laid_out_kept}
use Rattle.upload.specs.View.{view}
use Rattle.upload.proofs.Ends.{err_passed}
use Rattle.flash_contents.specs.Starting.{IsLost, IsLowestLost}
use Rattle.boot_core.specs.Found.{IsLostFor}
use Rattle.boot_core.proofs.Reverts.{finish_fails, finish_gives, lost_stops, reverted_stops, swap_fails, swapped_lost}
use Rattle.boot_core.proofs.Reverts.{swapped_then_fails}
use Rattle.boot_core.proofs.Asking.{asks_return, asks_swap}
use Rattle.boot_core.specs.Journal.{CountsOn}
use Rattle.boot_core.proofs.back.boot_from_back.Goals as goal

pub lowest_damaged-requires : goal.lowest_damaged-requires
lowest_damaged-requires g c = laid_out_kept c.args.map.now _ _ _ c.requires.laid_out c.swap_back.ensures.outside

pub finish_back-requires : goal.finish_back-requires
finish_back-requires g c = rw c.lowest_damaged.ensures.same (record {
  laid_out = laid_out_kept c.args.map.now _ _ _ c.requires.laid_out c.swap_back.ensures.outside;
  read = c.swap_back.ensures.read;
  kind = c.requires.kind;
})

pub returns-in_err-swap_back : goal.returns-in_err-swap_back
returns-in_err-swap_back g c = λ table report.
    rw (err_passed c.from_residual.result c.in_err-swap_back.field-0.0 c.from_residual.ensures.1) (record {
      boot = swap_fails c.args.map.now c.args.state.now _ c.requires.laid_out c.requires.read c.requires.kind _
          c.in_err-swap_back.ensures;
      stops = tt;
      journal = asks_swap c.args.map.now c.args.state.now _ Secondary
          (subst (λ k. CountsOn k Secondary) (sym c.requires.kind) tt) _ c.swap_back.ensures.forward
          c.swap_back.ensures.journal;
    })

pub returns-in_err-image : goal.returns-in_err-image
returns-in_err-image g c = λ table report.
    rw (
      err_passed c.from_residual-in_err-image.result c.in_err-image.field-0.0 c.from_residual-in_err-image.ensures.1,
      c.lowest_damaged.ensures.same,
    ) (record {
      boot = swapped_then_fails c.args.map.now c.args.state.now _ c.requires.laid_out c.requires.read c.requires.kind _
          c.in_ok-swap_back.ensures (rw c.lowest_damaged.ensures.same at c.in_err-image.ensures.ends);
      stops = tt;
      journal = asks_swap c.args.map.now c.args.state.now _ Secondary
          (subst (λ k. CountsOn k Secondary) (sym c.requires.kind) tt) _ c.swap_back.ensures.forward
          c.swap_back.ensures.journal;
    })

pub returns-in-Some : goal.returns-in-Some
returns-in-Some g c = λ table report.
    let map = c.args.map.now in
    let mask = c.args.state.now.mask in
    let lost : IsLost (view map (g.F.Flash.chip c.swap_back.new.flash)) mask Primary c.in-Some.image =
    subst (λ found. IsLowestLost (view map (g.F.Flash.chip c.swap_back.new.flash)) mask Primary found) c.in-Some.is
    c.in_ok-image.ensures.ok in
    rw c.lowest_damaged.ensures.same (record {
      boot = swapped_lost map c.args.state.now _ c.requires.laid_out c.requires.read c.requires.kind _
          c.in_ok-swap_back.ensures c.in-Some.image lost;
      journal = asks_swap c.args.map.now c.args.state.now _ Secondary
          (subst (λ k. CountsOn k Secondary) (sym c.requires.kind) tt) _ c.swap_back.ensures.forward
          c.swap_back.ensures.journal;
      stops = λ finding permanent is. lost_stops
          (λ f. IsLostFor (view map (g.F.Flash.chip c.swap_back.new.flash)) mask f
          × Keeps map (swap_of mask Secondary) (g.F.Flash.chip c.args.flash.now) (g.F.Flash.chip c.swap_back.new.flash))
          c.in-Some.image finding permanent is (lost, c.swap_back.ensures.outside);
    })

pub returns-in_err-finish_back-in-None : goal.returns-in_err-finish_back-in-None
returns-in_err-finish_back-in-None g c = λ table report.
    rw (err_passed c.from_residual-in_err-finish_back-in-None.result c.in_err-finish_back-in-None.field-0.0
    c.from_residual-in_err-finish_back-in-None.ensures.1) (record {
      boot = finish_fails c.args.map.now c.args.state.now _ c.requires.laid_out c.requires.read c.requires.kind _
          c.in_ok-swap_back.ensures _ (rw c.lowest_damaged.ensures.same at c.in_err-finish_back-in-None.ensures);
      stops = tt;
      journal = asks_return c.args.map.now c.args.state.now _ Secondary
          (subst (λ k. CountsOn k Secondary) (sym c.requires.kind) tt) _ c.swap_back.ensures.forward _ c.requires.kind
          c.in_ok-swap_back.ensures.journal_ok (rw c.lowest_damaged.ensures.same at c.finish_back.ensures.returns);
    })

pub returns-in_ok-finish_back-in-None : goal.returns-in_ok-finish_back-in-None
returns-in_ok-finish_back-in-None g c = λ table report. record {
  journal = asks_return c.args.map.now c.args.state.now _ Secondary
      (subst (λ k. CountsOn k Secondary) (sym c.requires.kind) tt) _ c.swap_back.ensures.forward _ c.requires.kind
      c.in_ok-swap_back.ensures.journal_ok (rw c.lowest_damaged.ensures.same at c.finish_back.ensures.returns);
  boot = finish_gives c.args.map.now c.args.state.now _ c.requires.laid_out c.requires.read c.requires.kind _
      c.in_ok-swap_back.ensures _ (rw c.lowest_damaged.ensures.same at c.in_ok-finish_back-in-None.ensures);
  stops = λ finding permanent is. reverted_stops
      (λ f. IsLostFor (view c.args.map.now (g.F.Flash.chip c.finish_back.new.flash)) c.args.state.now.mask f
      × Keeps c.args.map.now (swap_of c.args.state.now.mask Secondary) (g.F.Flash.chip c.args.flash.now)
      (g.F.Flash.chip c.finish_back.new.flash)) c.args.state.now.mask finding permanent is;
}
