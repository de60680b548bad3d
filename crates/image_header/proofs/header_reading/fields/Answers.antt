-- Each field of the bytes is the header's field.
use Rattle.std.proofs.Common.{◌≡◌, ◌++◌, drop, ◌∙◌, slice_index, arith, rules}
use Rattle.common.specs.Bytes.{IsBytes}
use Rattle.image_header.specs.declared.header.Header.{Header}
use Rattle.image_header.specs.Header.{field_bytes}
use Rattle.image_header.proofs.Fields.{BeginsWith-fields, drop-number_1, drop-number_2, drop-number_4}
use Rattle.image_header.proofs.header_reading.fields.Goals as goal

pub returns : goal.returns
returns c =
    let bytes = c.args.bytes.now in
    let header : Header = record {
      load_address = c.read_u32.result;
      header_size = c.read_u16.result;
      protected_size = c.read_u16-2.result;
      body_size = c.read_u32-2.result;
      flags = c.read_u32-3.result;
      version = record {
        major = slice_index bytes 20;
        minor = slice_index bytes 21;
        revision = c.read_u16-3.result;
        build = c.read_u32-4.result;
      };
      pad = c.read_u32-5.result;
    } in
    let bounded : IsBytes bytes = λ i. omega (arith, c.type_inv.bytes i) in
    let load_address = drop-number_4 4 c.read_u32.result bytes (omega arith) bounded c.read_u32.ensures in
    let header_size = drop-number_2 8 c.read_u16.result bytes (omega arith) bounded c.read_u16.ensures in
    let protected_size = drop-number_2 10 c.read_u16-2.result bytes (omega arith) bounded c.read_u16-2.ensures in
    let body_size = drop-number_4 12 c.read_u32-2.result bytes (omega arith) bounded c.read_u32-2.ensures in
    let flags = drop-number_4 16 c.read_u32-3.result bytes (omega arith) bounded c.read_u32-3.ensures in
    let major = drop-number_1 20 bytes (omega arith) bounded in
    let minor = drop-number_1 21 bytes (omega arith) bounded in
    let revision = drop-number_2 22 c.read_u16-3.result bytes (omega arith) bounded c.read_u16-3.ensures in
    let build = drop-number_4 24 c.read_u32-4.result bytes (omega arith) bounded c.read_u32-4.ensures in
    let pad = drop-number_4 28 c.read_u32-5.result bytes (omega arith) bounded c.read_u32-5.ensures in
    let parts : drop 4 bytes ≡ field_bytes header ++ drop 32 bytes =
    load_address ∙ rw (header_size, protected_size, body_size, flags, major, minor, revision, build, pad) in
    λ magic. BeginsWith-fields bytes header (omega arith) bounded magic (search rules) parts
