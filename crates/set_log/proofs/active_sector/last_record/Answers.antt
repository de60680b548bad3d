use Rattle.std.proofs.Common.{rules, ◌≡◌, ◌+◌, ◌-◌, ◌*◌, arith, ap, refl, sym, ◌∙◌, suc, Some}
use Rattle.set_log.proofs.Last.{last_step, last_here, last_of_is}
use Rattle.set_log.proofs.View.{at_gate, at_inside, gate_tells}
use Rattle.set_log.proofs.active_sector.last_record.Goals as goal

pub loop-place-init : goal.loop-place-init
loop-place-init g c = record {
  same = refl;
  below = omega (arith, c.record_places-place.ensures);
  last = last_of_is _ _ c.args.sector _ c.record_places-place.ensures;
}

pub is_unit_erased-requires : goal.is_unit_erased-requires
is_unit_erased-requires g c =
    let map = c.args.map.now in
    rw c.loop-place.invariant.same (at_inside map _ _ (c.args.sector * map.sector_size + 64 * (c.loop-place.place - 1) + 56) 8
    c.requires.laid_out (at_gate map _ c.args.sector (c.loop-place.place - 1) c.requires.laid_out.is_map c.requires.sector
    (omega (arith, c.loop-place.invariant.below)) (omega (arith, c.record_start-start.ensures))))

pub loop-place-preserved : goal.loop-place-preserved
loop-place-preserved g c =
    let gate = gate_tells c.args.map.now _ _ c.args.sector (c.loop-place.place - 1) _ c.requires.laid_out c.requires.sector
    (omega (arith, c.loop-place.invariant.below)) (omega (arith, c.record_start-start.ensures))
    (rw c.loop-place.invariant.same at c.in_ok-is_unit_erased.ensures.ok) in
    let reads = sym gate ∙ c.if-not-branch.false in
    let next : c.loop-place.place ≡ suc (c.loop-place.place - 1) = omega arith in
    record {
      same = c.is_unit_erased.ensures.same ∙ c.loop-place.invariant.same;
      below = omega (arith, c.loop-place.invariant.below);
      last = c.loop-place.invariant.last ∙ last_step _ _ _ _ next reads;
    }

pub returns-then-not-branch : goal.returns-then-not-branch
returns-then-not-branch g c =
    let gate = gate_tells c.args.map.now _ _ c.args.sector (c.loop-place.place - 1) _ c.requires.laid_out c.requires.sector
    (omega (arith, c.loop-place.invariant.below)) (omega (arith, c.record_start-start.ensures))
    (rw c.loop-place.invariant.same at c.in_ok-is_unit_erased.ensures.ok) in
    let reads = sym gate ∙ c.if-not-branch.true in
    let next : c.loop-place.place ≡ suc (c.loop-place.place - 1) = omega arith in
    let body = rw (c.is_unit_erased.ensures.same, c.loop-place.invariant.same) at c.in_ok-body.ensures.ok in
    record {
      same = search rules;
      ok = sym (c.loop-place.invariant.last ∙ last_here _ _ _ _ next reads ∙ ap Some (sym body));
      ends = search rules;
    }
