use Rattle.std.proofs.Common.{rules, ◌≡◌, ◌∙◌, length, subst}
use Rattle.reports.specs.Combination.{IsValid, running_set}
use Rattle.upload.specs.View.{view}
use Rattle.flash_contents.specs.Reading.{HasRows, IsReading}
use Rattle.flash_contents.proofs.Steadying.{taken_below}
use Rattle.decision.specs.Found.{IsReadingAt, IsTableHeld}
use Rattle.decision.specs.Places.{reading_in}
use Rattle.decision.proofs.deciding.find_into.Goals as goal

pub returns-in-Some : goal.returns-in-Some
returns-in-Some g c = record {
  same = search rules;
  ok = λ s can.
      subst (λ r. IsReading s (reading_in c.read_table_into.new.table r)) c.in-Some.is (c.in_ok-image.ensures.ok s can);
  whole = search rules;
  rows = search rules;
  front = subst
      (λ r. IsReadingAt (view c.args.map.now (g.F.Flash.chip c.args.flash.now)) c.args.mask
      (reading_in c.read_table_into.new.table r)) c.in-Some.is c.in_ok-image.ensures.front;
  held = tt;
  ends = search rules;
}

pub returns-then-not-is_valid : goal.returns-then-not-is_valid
returns-then-not-is_valid g c = record {
  same = search rules;
  ok = λ s can.
      let no : IsValid c.read_table_into.new.table running_set → ⊥ = search rules in (
        c.read_table_into.new.table,
        subst (λ r. IsReading s (reading_in c.read_table_into.new.table r)) c.in-None.is (c.in_ok-image.ensures.ok s can),
        no,
      );
  whole = search rules;
  rows = search rules;
  front = subst
      (λ r. IsReadingAt (view c.args.map.now (g.F.Flash.chip c.args.flash.now)) c.args.mask
      (reading_in c.read_table_into.new.table r)) c.in-None.is c.in_ok-image.ensures.front;
  held = tt;
  ends = search rules;
}

pub returns-else-not-is_valid : goal.returns-else-not-is_valid
returns-else-not-is_valid g c =
    let rows : length c.read_table_into.new.table.images.items ≡ c.args.map.now.images =
    subst (λ r. HasRows c.args.map.now.images (reading_in c.read_table_into.new.table r)) c.in-None.is
    c.in_ok-image.ensures.whole in record {
      same = search rules;
      ok = λ s can. record {
        rows = subst (λ r. IsReading s (reading_in c.read_table_into.new.table r)) c.in-None.is (c.in_ok-image.ensures.ok s can);
        valid = search rules;
        right = c.choose_into.ensures.right;
        greatest = c.choose_into.ensures.greatest;
        standard = c.choose_into.ensures.standard;
      };
      whole = λ i taken.
          taken_below c.choose_into.new.report c.args.map.now.images i (c.choose_into.ensures.right.images ∙ rows) taken;
      rows = rows;
      front = subst
          (λ r. IsReadingAt (view c.args.map.now (g.F.Flash.chip c.args.flash.now)) c.args.mask
          (reading_in c.read_table_into.new.table r)) c.in-None.is c.in_ok-image.ensures.front;
      held = (
        subst
            (λ r. IsTableHeld (view c.args.map.now (g.F.Flash.chip c.args.flash.now)) c.args.mask
            (reading_in c.read_table_into.new.table r)) c.in-None.is c.in_ok-image.ensures.held,
        c.choose_into.ensures.greatest,
      );
      ends = search rules;
    }
