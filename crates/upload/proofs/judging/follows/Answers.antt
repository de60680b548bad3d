use Rattle.std.proofs.Common.{◌∙◌, ap, sym, true≢false}
use Rattle.sector_map.specs.Map.{part_of}
use Rattle.sector_map.specs.Part.{Slot}
use Rattle.sector_map.specs.declared.layout.Side.TheVariants.{Primary}
use Rattle.image_reading.specs.declared.desc.Desc.{Desc}
use Rattle.image_reading.proofs.Descriptions.{front-unique, front_has_no_fault}
use Rattle.upload.proofs.Ends.{reads_well}
use Rattle.upload.proofs.Precursors.{has_front, front_has}
use Rattle.upload.proofs.judging.follows.Goals as goal

pub returns : goal.returns
returns g c =
    let slot = part_of c.args.map.now (g.F.Flash.chip c.args.flash.now) (Slot c.args.component.now.image Primary) in
    let asked = c.args.component.now.precursor in
    let found = c.intact_image_into.new.description in
    let begins = rw c.if-not-is_intact.false at c.in_ok-is_intact.ensures.found in
    record {
      same = c.intact_image_into.ensures.same;
      ok = (
        λ yes. has_front slot asked c.in-Some.digest c.in-Some.is found begins (c.is_same_digest.ensures.0 yes),
        λ has.
            let at = front_has slot asked c.in-Some.digest c.in-Some.is has in
            let same = front-unique slot found at.0 begins at.1 in
            c.is_same_digest.ensures.1 (ap (λ (d : Desc). d.digest) same ∙ at.2),
      );
      ends = reads_well _ _ _ c.intact_image_into.ensures.same;
    }

pub returns-then-not-is_intact : goal.returns-then-not-is_intact
returns-then-not-is_intact g c =
    let slot = part_of c.args.map.now (g.F.Flash.chip c.args.flash.now) (Slot c.args.component.now.image Primary) in
    let failed = rw c.if-not-is_intact.true at c.in_ok-is_intact.ensures.found in
    record {
      same = c.intact_image_into.ensures.same;
      ok = (
        λ e. absurd (true≢false (sym e)),
        λ has.
            let at = front_has slot c.args.component.now.precursor c.in-Some.digest c.in-Some.is has in
            absurd (front_has_no_fault slot at.0 failed.0 at.1 failed.1),
      );
      ends = reads_well _ _ _ c.intact_image_into.ensures.same;
    }
