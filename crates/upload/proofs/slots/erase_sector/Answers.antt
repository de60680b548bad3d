use Rattle.std.proofs.Common.{rules, ℕ, ◌+◌, ◌*◌, ◌∙◌, arith, ap, subst, sym, if◌then◌else◌}
use Rattle.std.proofs.lemmas.Result.{on_ok_weaker}
use Rattle.flash_model.proofs.Frame.{product_le, same_outside_refl}
use Rattle.sector_map.specs.declared.layout.Side.TheVariants.{Secondary}
use Rattle.sector_map.specs.Part.{Slot, only}
use Rattle.sector_map.specs.Map.{first_of, IsIn, IsLaidOut, Keeps, sectors_of}
use Rattle.flash_model.specs.Chip.{Ends, SameOutside}
use Rattle.sector_map.proofs.Parts.{keeps_refl}
use Rattle.sector_map.proofs.Places.{addressed}
use Rattle.sector_map.proofs.Products.{mul_le}
use Rattle.sector_map.proofs.PartBytes.{keeps_erase}
use Rattle.upload.proofs.Ends.{reads_well}
use Rattle.upload.proofs.Writing.{in_slot, slot_sector}
use Rattle.upload.proofs.Worn.{sector_told}
use Rattle.upload.proofs.slots.erase_sector.Goals as goal

pub overflow_add-sector : goal.overflow_add-sector
overflow_add-sector g c =
    let there = slot_sector c.args.map.now c.args.image c.args.index c.requires.image.laid_out.is_map c.requires.within in
    omega (arith, there, c.slot.ensures, addressed c.args.map.now c.requires.image.laid_out.is_map)

pub sector_start-requires : goal.sector_start-requires
sector_start-requires g c =
    let there = slot_sector c.args.map.now c.args.image c.args.index c.requires.image.laid_out.is_map c.requires.within in
    omega (arith, there, c.slot.ensures)

pub is_erased-requires : goal.is_erased-requires
is_erased-requires g c =
    let laid = c.requires.image.laid_out in
    let there = slot_sector c.args.map.now c.args.image c.args.index laid.is_map c.requires.within in
    let chip = g.F.Flash.chip c.args.flash.now in
    let size = c.args.map.now.sector_size in
    let last = product_le (c.slot.result + c.args.index) (sectors_of c.args.map.now) size
    (omega (arith, there, c.slot.ensures)) in
    let all = mul_le (sectors_of c.args.map.now) chip.sectors size laid.sectors in
    omega (arith, last, all, ap (λ e. chip.sectors * e) laid.sector_size, c.sector_start.ensures)

pub erase-requires : goal.erase-requires
erase-requires g c =
    let there = slot_sector c.args.map.now c.args.image c.args.index c.requires.image.laid_out.is_map c.requires.within in
    omega (
      arith,
      there,
      c.slot.ensures,
      c.requires.image.laid_out.sectors,
      ap
          (λ chip. chip.sectors) c.is_erased.ensures.same,
    )

pub returns-then-branch : goal.returns-then-branch
returns-then-branch g c =
    let told = sector_told c.args.map.now _ c.args.image c.args.index c.sector_start.result c.in_ok-is_erased.field-0
    c.in_ok-is_erased.ensures.ok c.requires.image.laid_out c.requires.within
    (c.sector_start.ensures ∙ ap (λ first. (first + c.args.index) * c.args.map.now.sector_size) c.slot.ensures) in
    record {
      outside = subst (λ chip. Keeps c.args.map.now (only (Slot c.args.image Secondary))
          (g.F.Flash.chip c.args.flash.now) chip) (sym c.is_erased.ensures.same) (keeps_refl c.args.map.now _ _);
      sector = subst (λ chip. SameOutside ((first_of c.args.map.now (Slot c.args.image Secondary)
          + c.args.index) * c.args.map.now.sector_size) c.args.map.now.sector_size (g.F.Flash.chip c.args.flash.now) chip)
          (sym c.is_erased.ensures.same) (same_outside_refl _ _ _);
      ok = search rules;
      idle = λ erased. c.is_erased.ensures.same;
      erases = omega (arith, c.is_erased.ensures.erases);
      worn = omega (
        arith,
        c.is_erased.ensures.erases,
        ap {B = ℕ} (λ t. if t then 0 else 1)
            (sym told ∙ c.if-branch.true),
      );
      journal = omega (arith, c.is_erased.ensures.journal);
      ends = reads_well _ _ _ c.is_erased.ensures.same;
    }

pub returns : goal.returns
returns g c =
    let map = c.args.map.now in
    let part = Slot c.args.image Secondary in
    let same = c.is_erased.ensures.same in
    let told = sector_told c.args.map.now _ c.args.image c.args.index c.sector_start.result c.in_ok-is_erased.field-0
    c.in_ok-is_erased.ensures.ok c.requires.image.laid_out c.requires.within
    (c.sector_start.ensures ∙ ap (λ first. (first + c.args.index) * c.args.map.now.sector_size) c.slot.ensures) in
    let one = ap {B = ℕ} (λ t. if t then 0 else 1) (sym told ∙ c.if-branch.false) in
    record {
      outside = subst (λ chip. Keeps map (only part) chip (g.F.Flash.chip c.erase.new.self)) same
          (keeps_erase map part (c.slot.result + c.args.index) (g.F.Flash.chip c.is_erased.new.flash)
          (g.F.Flash.chip c.erase.new.self) (subst (λ chip. IsLaidOut map chip) (sym same) c.requires.image.laid_out)
          c.erase.ensures.outside
          (subst (λ first. IsIn map part (first + c.args.index)) (sym c.slot.ensures)
          (in_slot map c.args.image c.args.index c.requires.within)));
      sector = search rules;
      ok = search rules;
      idle = search rules;
      erases = on_ok_weaker c.erase.result (λ more. omega (arith, more, c.is_erased.ensures.erases))
          c.erase.ensures.erases;
      worn = on_ok_weaker c.erase.result (λ more. omega (arith, more, c.is_erased.ensures.erases, one))
          c.erase.ensures.erases;
      journal = omega (arith, c.is_erased.ensures.journal, c.erase.ensures.journal);
      ends = subst (λ chip. Ends c.erase.result chip (g.F.Flash.chip c.erase.new.self)) same c.erase.ensures.ends;
    }
