use Rattle.std.proofs.Common.{◌*◌, ◌/◌, ◌≡◌, ◌<◌, ◌∙◌, ap, arith, refl}
use Rattle.std.proofs.Math.Nat.{mul-div_cancel, mul-mod_left}
use Rattle.std.specs.Vec.{vec_len}
use Rattle.flash_model.specs.Memory.{new_chip}
use Rattle.sector_map.proofs.Parts.{laid_out_by}
use Rattle.sector_map.specs.Map.{sectors_of}
use Rattle.device_texts.specs.FlashOf.{flash_of}
use Rattle.device_texts.proofs.flash.flash_of.Goals as goal

-- The bytes fill whole sectors.
pub from_bytes-requires-clause-whole : goal.from_bytes-requires-clause-whole
from_bytes-requires-clause-whole g c =
    let map = c.args.map.now in
    let whole : vec_len c.args.bytes ≡ sectors_of map * map.sector_size = c.args.bytes.ok.0 ∙ c.requires.whole in
    rw whole (mul-mod_left (sectors_of map) map.sector_size)

-- The number of sectors is that of the map.
pub returns-clause-chip : goal.returns-clause-chip
returns-clause-chip g c =
    let map = c.args.map.now in
    let whole : vec_len c.args.bytes ≡ sectors_of map * map.sector_size = c.args.bytes.ok.0 ∙ c.requires.whole in
    let some : 0 < map.sector_size = omega (arith, map.is_map.sector.least) in
    let count : vec_len c.args.bytes / map.sector_size ≡ sectors_of map =
    rw whole (mul-div_cancel (sectors_of map) some) in
    c.from_bytes.ensures.chip ∙ ap (λ n. new_chip map.sector_size n c.args.bytes.items) count

-- So the map is laid out on them.
pub returns-clause-laid_out : goal.returns-clause-laid_out
returns-clause-laid_out g c =
    let map = c.args.map.now in
    rw (returns-clause-chip g c) (laid_out_by map (flash_of map c.args.bytes.items) map.is_map refl
    (omega arith) c.requires.whole map.is_map.addressed)
