use Rattle.std.proofs.Common.{◌≡◌, arith, refl, subst}
use Rattle.sector_map.specs.declared.layout.Side.TheVariants.{Primary}
use Rattle.upload.specs.View.{view}
use Rattle.upload.proofs.Ends.{err_passed}
use Rattle.flash_contents.specs.Starting.{IsLost, IsLowestLost}
use Rattle.boot_core.specs.Found.{IsLostFor}
use Rattle.boot_core.proofs.Reverts.{look_fails, lost_stops, reverted_stops, settle_fails, settle_gives, settled_lost}
use Rattle.boot_core.proofs.Asking.{asks_few, members_few}
use Rattle.boot_core.proofs.back.boot_from_back_settle.Goals as goal

pub settle_and_return-requires : goal.settle_and_return-requires
settle_and_return-requires g c = rw c.lowest_damaged.ensures.same (record {
  laid_out = c.requires.laid_out;
  read = c.requires.read;
})

pub returns-in_err-lost : goal.returns-in_err-lost
returns-in_err-lost g c = λ table report.
    rw (
      err_passed c.from_residual.result c.in_err-lost.field-0.0 c.from_residual.ensures.1,
      c.lowest_damaged.ensures.same,
    ) (record {
      boot = look_fails c.args.map.now c.args.state.now _ c.requires.laid_out c.requires.read c.requires.kind
          (rw c.lowest_damaged.ensures.same at c.in_err-lost.ensures.ends);
      stops = tt;
      journal = asks_few c.args.map.now c.args.state.now _ _ 0 (omega arith) (omega arith);
    })

pub returns-in-Some : goal.returns-in-Some
returns-in-Some g c = λ table report.
    let map = c.args.map.now in
    let mask = c.args.state.now.mask in
    let old = g.F.Flash.chip c.args.flash.now in
    let lost : IsLost (view map old) mask Primary c.in-Some.lost =
    subst (λ found. IsLowestLost (view map old) mask Primary found) c.in-Some.is c.in_ok-lost.ensures.ok in
    rw c.lowest_damaged.ensures.same (record {
      boot = settled_lost map c.args.state.now _ c.requires.laid_out c.requires.read c.requires.kind c.in-Some.lost lost;
      journal = asks_few c.args.map.now c.args.state.now _ _ 0 (omega arith) (omega arith);
      stops = λ finding permanent is. lost_stops (λ f. IsLostFor (view map old) mask f × (old ≡ old))
          c.in-Some.lost finding permanent is (lost, refl);
    })

pub returns-in_err-settle_and_return-in-None : goal.returns-in_err-settle_and_return-in-None
returns-in_err-settle_and_return-in-None g c = λ table report.
    rw (err_passed c.from_residual-in_err-settle_and_return-in-None.result
    c.in_err-settle_and_return-in-None.field-0.0 c.from_residual-in_err-settle_and_return-in-None.ensures.1) (record {
      boot = settle_fails c.args.map.now c.args.state.now _ c.requires.laid_out c.requires.read c.requires.kind _
          (rw c.lowest_damaged.ensures.same at c.in_err-settle_and_return-in-None.ensures);
      stops = tt;
      journal = asks_few c.args.map.now c.args.state.now _ _ 856 (omega (
        arith,
        rw c.lowest_damaged.ensures.same at c.settle_and_return.ensures.journal,
        members_few c.args.map.now _ c.args.state.now.mask c.requires.laid_out,
      )) (omega arith);
    })

pub returns-in_ok-settle_and_return-in-None : goal.returns-in_ok-settle_and_return-in-None
returns-in_ok-settle_and_return-in-None g c = λ table report. record {
  journal = asks_few c.args.map.now c.args.state.now _ _ 856 (omega (
    arith,
    rw c.lowest_damaged.ensures.same at c.settle_and_return.ensures.journal,
    members_few c.args.map.now _ c.args.state.now.mask c.requires.laid_out,
  )) (omega arith);
  boot = settle_gives c.args.map.now c.args.state.now _ c.requires.laid_out c.requires.read c.requires.kind _
      (rw c.lowest_damaged.ensures.same at c.in_ok-settle_and_return-in-None.ensures);
  stops = λ finding permanent is. reverted_stops
      (λ f. IsLostFor (view c.args.map.now (g.F.Flash.chip c.settle_and_return.new.flash)) c.args.state.now.mask f
      × (g.F.Flash.chip c.settle_and_return.new.flash ≡ g.F.Flash.chip c.args.flash.now))
      c.args.state.now.mask finding permanent is;
}
