-- Each field is written over its complete part, so the concatenated parts are the version's bytes.
use Rattle.std.proofs.Common.{◌≡◌}
use Rattle.byteorder.specs.Endian.{little_bytes}
use Rattle.image_header.proofs.Fields.{drop-take_same}
use Rattle.image_header.proofs.writing.version_bytes.Goals as goal

pub returns : goal.returns
returns c =
    let version = c.args.version in
    let major : c.write_u8.new.buffer ≡ little_bytes 1 version.major = rw drop-take_same at c.write_u8.ensures in
    let minor : c.write_u8-2.new.buffer ≡ little_bytes 1 version.minor = rw drop-take_same at c.write_u8-2.ensures in
    let revision : c.write_u16.new.buf ≡ little_bytes 2 version.revision = rw drop-take_same at c.write_u16.ensures in
    let build : c.write_u32.new.buf ≡ little_bytes 4 version.build = rw drop-take_same at c.write_u32.ensures in
    rw (major, minor, revision, build)
