use Rattle.std.proofs.Common.{ap, get_or, sym, ◌∙◌}
use Rattle.creating.proofs.make_device.expect_file.Goals as goal

-- The device that was read is the same, field by field. So the text is its device file.
pub returns-in-Ok : goal.returns-in-Ok
returns-in-Ok c =
    let told = c.in-Ok.ensures.read in
    let of = told.2 in
    let same = c.is_same.ensures c.if-is_same.true in (
      told.0,
      told.1,
      record {
        map = record {
          sector_size = sym same.sector_size ∙ of.map.sector_size;
          images = sym same.images ∙ of.map.images;
          sectors = λ i. ap (λ counts. get_or counts i 0) (sym same.sectors) ∙ of.map.sectors i;
        };
        vendor = sym same.vendor ∙ of.vendor;
        class = sym same.class ∙ of.class;
        images = sym same.identified ∙ of.images ∙ same.images;
        trial_boots = sym same.trial_boots ∙ of.trial_boots;
      },
    )
