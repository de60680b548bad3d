use Rattle.std.proofs.Common.{Bor, List, length, take}
use Rattle.version_order.specs.declared.dependency.Dependency.{Dependency}
use Rattle.c_interface.proofs.Parts.{bad_image, made, no_room, spec_of}
use Rattle.c_interface.proofs.making.write_parts.Goals as goal

pub returns-then-whole-image : goal.returns-then-whole-image
returns-then-whole-image c =
    no_room c.args.parts.now c.args.body.now c.args.image.now c.write_image.new.buffer c.in-Ok.whole
    c.in-Ok.ensures.size c.in-Ok.ensures.makeable c.in-Ok.ensures.written c.if-whole-image.true
    (spec_of c.args.parts.now c.args.dependencies _ c.args.body _ _ _ c.version_in.ensures c.counter_in.ensures c.requires.dependencies
    c.slices_of-slices.ensures c.requires.groups)

pub returns-else-whole-image : goal.returns-else-whole-image
returns-else-whole-image c =
    made c.args.parts.now c.args.body.now c.args.image.now c.write_image.new.buffer c.in-Ok.whole
    c.in-Ok.ensures.size c.in-Ok.ensures.makeable c.in-Ok.ensures.written c.in-Ok.ensures.intact c.if-whole-image.false
    (spec_of c.args.parts.now c.args.dependencies _ c.args.body _ _ _ c.version_in.ensures c.counter_in.ensures c.requires.dependencies
    c.slices_of-slices.ensures c.requires.groups)

pub returns-in-Err : goal.returns-in-Err
returns-in-Err c =
    let slices : Bor (List (Bor (List Dependency))) =
    record { ref_ptr = (0, 0); now = take (length c.args.groups.now) c.slices_of-slices.result } in
    bad_image c.args.parts.now c.args.body.now c.args.image.now c.write_image.new.buffer _ c.in-Err.ensures.only
    c.in-Err.ensures.kept
    (spec_of c.args.parts.now c.args.dependencies slices c.args.body _ _ _ c.version_in.ensures c.counter_in.ensures
    c.requires.dependencies c.slices_of-slices.ensures c.requires.groups)
