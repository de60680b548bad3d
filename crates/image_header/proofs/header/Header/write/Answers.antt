-- Each field is written over its complete part, so the concatenated parts are the header's bytes.
use Rattle.std.proofs.Common.{◌≡◌, ◌∙◌}
use Rattle.byteorder.specs.Endian.{little_bytes}
use Rattle.image_header.specs.Header.{header_magic, version_bytes}
use Rattle.image_header.proofs.Fields.{drop-take_same}
use Rattle.image_header.proofs.header.Header.write.Goals as goal

pub returns : goal.returns
returns c =
    let header = c.args.self.now in
    let magic : c.write_u32.new.buf ≡ little_bytes 4 header_magic = c.write_u32.ensures in
    let load_address : c.write_u32-2.new.buf ≡ little_bytes 4 header.load_address =
    rw drop-take_same at c.write_u32-2.ensures in
    let header_size : c.write_u16.new.buf ≡ little_bytes 2 header.header_size =
    rw drop-take_same at c.write_u16.ensures in
    let protected_size : c.write_u16-2.new.buf ≡ little_bytes 2 header.protected_size =
    rw drop-take_same at c.write_u16-2.ensures in
    let body_size : c.write_u32-3.new.buf ≡ little_bytes 4 header.body_size =
    rw drop-take_same at c.write_u32-3.ensures in
    let flags : c.write_u32-4.new.buf ≡ little_bytes 4 header.flags = rw drop-take_same at c.write_u32-4.ensures in
    let version : c.copy_from_slice.new.self ≡ version_bytes header.version =
    c.copy_from_slice.ensures.after ∙ c.version_bytes.ensures in
    let pad : c.write_u32-5.new.buf ≡ little_bytes 4 header.pad = rw drop-take_same at c.write_u32-5.ensures in
    rw (magic, load_address, header_size, protected_size, body_size, flags, version, pad)
