use Rattle.std.proofs.Common.{rules, ◌≡◌, ◌+◌, sym, subst, ◌∙◌}
use Rattle.std.specs.Prelude.{if◌then◌else◌}
use Rattle.flash_model.proofs.Ending.{no_error}
use Rattle.common.proofs.Options.{some_value}
use Rattle.flash_model.specs.Chip.{Chip}
use Rattle.sector_map.specs.declared.layout.Side.TheVariants.{Secondary}
use Rattle.flash_model.specs.Units.{are_erased}
use Rattle.trailer.specs.Fields.{trailer_bytes}
use Rattle.trailer.specs.Standing.{first_is_set, incoming_slot}
use Rattle.upload.proofs.Requested.{stands_in_units, two}
use Rattle.upload.proofs.withdrawing.withdraw_standing.Goals as goal

pub returns : goal.returns
returns g c =
    let map = c.args.map.now in
    let image = c.args.image in
    let old = g.F.Flash.chip c.args.flash.now in
    let new = g.F.Flash.chip c.withdraw.new.flash in
    let found = some_value c.in_ok-standing.field-0 (search rules) in
    let stands = sym c.in_ok-standing.ensures.ok ∙ found.1 in
    let units = stands_in_units map old image found.0 c.requires.laid_out c.requires.there stands in
    record {
      outside = search rules;
      withdraws = search rules;
      nothing = search rules;
      erases = two old.erases new.erases (first_is_set (incoming_slot map old image))
          (are_erased (trailer_bytes map old image Secondary)) units.0 units.1
          (subst (λ (before : Chip). new.erases ≡ before.erases
          + (if first_is_set (incoming_slot map before image) then 1 else 0)
          + (if are_erased (trailer_bytes map before image Secondary) then 0 else 1))
          c.standing.ensures.same c.in_ok-withdraw.ensures.erases);
      off = λ off. absurd (no_error _ _ (c.in_ok-standing.ensures.off off));
      journal = rw c.standing.ensures.same at c.withdraw.ensures.journal;
      ends = search rules;
    }
