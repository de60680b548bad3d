use Rattle.std.proofs.Common.{◌≡◌, ◌*◌, ◌<◌, ◌≤◌, ◌∙◌, [], length, take, ap, arith, refl, subst}
use Rattle.std.proofs.lemmas.List.{append-nil, length-replicate, take_all}
use Rattle.std.specs.List.{AllZip}
use Rattle.flash_model.specs.Torn.{replaced}
use Rattle.sector_map.specs.declared.layout.Side.TheVariants.{Primary}
use Rattle.sector_map.specs.Map.{length_of, sectors_of, start_of}
use Rattle.sector_map.specs.Part.{Slot}
use Rattle.host.specs.Input.{IsNamed}
use Rattle.host.specs.Inputs.{names_of}
use Rattle.device_commands.proofs.ImageLaws.{AreRead-more, AreRead-none, slot_within}
use Rattle.host.proofs.InputLaws.{KeepsFiles-itself, KeepsFiles-twice}
use Rattle.device_commands.proofs.provision.read_images.Goals as goal

-- Nothing was read, and the flash is erased.
pub loop-image-init : goal.loop-image-init
loop-image-init g c =
    let map = c.args.map.now in
    let whole = ap (λ all. length all) c.in-Ok.ensures ∙ length-replicate (sectors_of map * map.sector_size) 0xff in
    record { read = AreRead-none map c.args.images.now _ _ _ c.in-Ok.ensures whole; opened = refl }

-- The slot lies in the flash, and the file fits the slot.
pub put-requires : goal.put-requires
put-requires g c =
    let map = c.args.map.now in
    let image = c.loop-image.image in
    let room = slot_within map image map.is_map c.loop-image-test.true in
    let long : length c.deref-in-loop-image.result.now ≡ length c.in_ok-file.file.items = ap (λ all. length all) c.deref-in-loop-image.ensures.value in
    omega (
      arith,
      room,
      long,
      c.if-len-most.false,
      c.len.ensures,
      c.slot_length-most.ensures,
      c.in_ok-file.file.ok.0,
      c.slot_start.ensures,
      c.loop-image.invariant.read.whole,
    )

-- One more file was read and put.
pub loop-image-preserved : goal.loop-image-preserved
loop-image-preserved g c =
    let map = c.args.map.now in
    let image = c.loop-image.image in
    let file = c.in_ok-file.file in
    let short : length file.items ≤ length_of map (Slot image Primary) =
    omega (arith, c.if-len-most.false, c.len.ensures, c.slot_length-most.ensures, file.ok.0) in
    let all : length file.items ≤ c.slot_length-most.result = omega (arith, c.if-len-most.false, c.len.ensures, file.ok.0) in
    let within : image < length c.args.images.now = omega (arith, c.loop-image-test.true, c.if-images-from.false, c.from.ensures) in
    let put = c.put.ensures ∙ ap (λ at. replaced at c.deref-in-loop-image.result.now c.loop-image.bytes.items) c.slot_start.ensures
    ∙ ap (λ content. replaced (start_of map (Slot image Primary)) content c.loop-image.bytes.items) c.deref-in-loop-image.ensures.value in
    record {
      read = AreRead-more map c.args.images.now image _ _ _ _ _ _ _ _ c.source_at-source.result file.items
          map.is_map c.loop-image-test.true within c.source_at-source.ensures (c.in_ok-file.ensures.bytes all)
          c.in_ok-file.ensures.others c.in_ok-file.ensures.files short put c.loop-image.invariant.read;
      opened = c.in_ok-file.ensures.opened ∙ c.loop-image.invariant.opened;
    }

-- All files were read.
pub returns-clause-read : goal.returns-clause-read
returns-clause-read g c =
    let read = c.loop-image.invariant.read in
    let names = c.args.images.now in
    let all : take c.loop-image.image names ≡ names = take_all c.loop-image.image names
    (omega (arith, c.loop-image-test.false, c.if-images-from.false, c.from.ensures)) in (
      read.sources,
      read.contents,
      subst (λ some. AllZip IsNamed (names_of some) read.sources) all read.named,
      simp append-nil at (read.given [] [] tt),
      record { count = omega (arith, read.counted, c.loop-image-test.false, c.loop-image.auto.image-end); each = read.fit },
      read.put,
    )

-- If the number of images is wrong, or there is no memory for the flash, nothing was read.
pub returns-then-images-from-clause-kept : goal.returns-then-images-from-clause-kept
returns-then-images-from-clause-kept g c = KeepsFiles-itself _

pub returns-in_default-clause-kept : goal.returns-in_default-clause-kept
returns-in_default-clause-kept g c = KeepsFiles-itself _

-- A file that could not be read, or is too long, changes no file.
pub returns-in_err-file-clause-kept : goal.returns-in_err-file-clause-kept
returns-in_err-file-clause-kept g c = KeepsFiles-twice _ _ _ c.loop-image.invariant.read.kept c.in_err-file.ensures.files

pub returns-then-len-most-clause-kept : goal.returns-then-len-most-clause-kept
returns-then-len-most-clause-kept g c = KeepsFiles-twice _ _ _ c.loop-image.invariant.read.kept c.in_ok-file.ensures.files

pub returns-clause-kept : goal.returns-clause-kept
returns-clause-kept g c = c.loop-image.invariant.read.kept
