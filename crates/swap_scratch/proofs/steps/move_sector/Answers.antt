use Rattle.std.proofs.Common.{rules, arith, refl, subst, ◌+◌, ◌≤◌}
use Rattle.std.proofs.lemmas.Result.{on_ok_weaker}
use Rattle.swap_scratch.specs.Copies.{journal_of_copy}
use Rattle.swap_scratch.proofs.ImagePlaces.{order_of, keeps_move, behind_move, step_inside}
use Rattle.swap_scratch.proofs.Moves.{partway_beside, free_target, next}
use Rattle.swap_scratch.proofs.steps.move_sector.Goals as goal

pub copy_sector-requires : goal.copy_sector-requires
copy_sector-requires g c =
    let inside = step_inside c.args.map.now (g.F.Flash.chip c.args.flash.now) c.args.image c.args.used c.args.status
    _ _ c.requires.laid_out c.requires.step.there c.requires.step.few c.requires.step.below
    c.sectors_of_step-from.ensures in
    record {
      from_inside = inside.0;
      to_inside = inside.1;
      apart = inside.2;
      addressed = search rules;
      units = search rules;
    }

pub returns : goal.returns
returns g c = record {
  outside = keeps_move c.args.map.now c.args.image c.args.used c.args.status _ _ _ _
      c.requires.laid_out c.requires.step.there c.requires.step.few c.requires.step.below c.sectors_of_step-from.ensures
      c.copy_sector.ensures.outside;
  kept = λ x y was.
      partway_beside _ _ _ _ _ _ _ _ _ _ was c.copy_sector.ensures.outside refl refl
      (free_target _ _ _ _ _
      (order_of c.args.map.now c.args.image c.args.used c.requires.laid_out.is_map c.requires.step.there
      c.requires.step.few) c.sectors_of_step-from.ensures (omega arith) (omega arith));
  moved = on_ok_weaker c.copy_sector.result (λ copied. λ x y was.
      next _ x y _ _ _ _ _ _ _ c.args.status refl (record {
        order = order_of c.args.map.now c.args.image c.args.used c.requires.laid_out.is_map c.requires.step.there
            c.requires.step.few;
        below = omega arith;
        move = c.sectors_of_step-from.ensures;
        copied = copied;
        same = c.copy_sector.ensures.outside;
        size = refl;
        whole = refl;
      }) was)
      c.copy_sector.ensures.ok;
  behind = behind_move c.args.map.now c.args.image c.args.used c.args.status _ _ _ _
      c.requires.laid_out c.requires.step.there c.requires.step.few c.requires.step.below c.sectors_of_step-from.ensures
      c.copy_sector.ensures.outside;
  erases = search rules;
  journal = subst (λ size. (g.F.Flash.chip c.copy_sector.new.flash).journaled
      ≤ (g.F.Flash.chip c.args.flash.now).journaled + (12 + journal_of_copy size)) c.requires.laid_out.sector_size
      c.copy_sector.ensures.journal;
  ends = search rules;
}
