use Rattle.std.proofs.Common.{arith, refl, sym, ◌∙◌}
use Rattle.std.proofs.lemmas.Bool.{false≢true}
use Rattle.std.proofs.lemmas.Result.{IfOk-weaker}
use Rattle.flash_model.proofs.Ending.{no_error}
use Rattle.upload.proofs.Ends.{reads_well}
use Rattle.upload.proofs.Ready.{ready_erased, ready_for, units_inside}
use Rattle.upload.proofs.StandingLaws.{counted_inside}
use Rattle.upload.proofs.adding.is_ready.Goals as goal

pub returns-in_default : goal.returns-in_default
returns-in_default g c =
    let never = c.written_of.ensures.none c.in_default.is in
    record {
      same = refl;
      ok = (λ yes. absurd (false≢true yes), λ ready. absurd (never ready.written ready.counts));
      off = λ off written counts. absurd (never written counts);
      ends = reads_well _ _ _ refl;
    }

pub overflow_add-start : goal.overflow_add-start
overflow_add-start g c =
    let map = c.args.map.now in
    let counts = c.in-Some.ensures.some in
    let inside = counted_inside map _ c.args.image _ _ c.requires.laid_out counts in
    omega (arith, c.slot_start-start.ensures, inside, c.requires.laid_out.size, counts.count, counts.fits, counts.room)

pub is_erased-requires : goal.is_erased-requires
is_erased-requires g c =
    let map = c.args.map.now in
    let counts = c.in-Some.ensures.some in
    let inside = counted_inside map _ c.args.image _ _ c.requires.laid_out counts in
    rw c.is_blank.ensures.same (let units = units_inside map c.args.image c.in-Some.written c.args.count c.whole_units-units.result c.args.upload.now counts
    c.requires.fits (omega (arith, c.whole_units-units.ensures.least, c.len.ensures.value)) in
    omega (arith, c.slot_start-start.ensures, inside, units))

pub returns-then-not-is_blank : goal.returns-then-not-is_blank
returns-then-not-is_blank g c = record {
  same = c.is_blank.ensures.same;
  ok = (
    λ yes. absurd (false≢true yes),
    λ ready. absurd (false≢true (sym c.if-not-is_blank.true ∙ c.in_ok-is_blank.ensures.ok.1 ready.trailer)),
  );
  off = λ off written counts. absurd (no_error _ _ (c.in_ok-is_blank.ensures.off off));
  ends = reads_well _ _ _ c.is_blank.ensures.same;
}

pub returns : goal.returns
returns g c =
    let map = c.args.map.now in
    let chip = g.F.Flash.chip c.args.flash.now in
    let counts = c.in-Some.ensures.some in
    let units = c.whole_units-units.ensures in
    let told = rw (c.slot_start-start.ensures, c.is_blank.ensures.same) at c.is_erased.ensures.ok in
    record {
      same = c.is_erased.ensures.same ∙ c.is_blank.ensures.same;
      ok = IfOk-weaker c.is_erased.result _ _ (λ answer tells. (
        λ yes. ready_for map chip c.args.image c.in-Some.written c.args.count c.whole_units-units.result units.units.0
            c.args.upload.now counts (c.in_ok-is_blank.ensures.ok.0 c.if-not-is_blank.false) units.units.1
            (omega (arith, units.most, c.len.ensures.value)) (tells.0 yes),
        λ ready. tells.1 (ready_erased map chip c.args.image c.in-Some.written c.args.count
            c.whole_units-units.result units.units.0 c.args.upload.now counts units.units.1
            (omega (arith, units.least, c.len.ensures.value)) ready),
      )) told;
      off = λ off written counts. absurd (no_error _ _ (c.in_ok-is_blank.ensures.off off));
      ends = rw c.is_blank.ensures.same at c.is_erased.ensures.ends;
    }
