use Rattle.std.proofs.Common.{◌≡◌, drop, sym, ap, ◌∙◌, arith, rules}
use Rattle.std.proofs.lemmas.List.{take_rest}
use Rattle.byteorder.specs.Endian.{little_number}
use Rattle.common.specs.Bytes.{IsBytes}
use Rattle.image_reading.specs.Fields.{IsDependencyForm}
use Rattle.image_reading.proofs.FieldLaws.{FitsDependency-dependency_at, dependency_bytes-dependency_at}
use Rattle.image_reading.proofs.fields.dependency_of.Goals as goal

pub returns-clause-fits : goal.returns-clause-fits
returns-clause-fits c =
    let value = c.args.value.now in
    let revision : c.read_u16.result ≡ little_number 2 (drop 6 value) =
    c.read_u16.ensures ∙ ap (little_number 2) (take_rest value 6) in
    let build : c.read_u32.result ≡ little_number 4 (drop 8 value) =
    c.read_u32.ensures ∙ ap (little_number 4) (take_rest value 8) in
    rw (revision, build) (FitsDependency-dependency_at value (λ i. omega (arith, c.type_inv.value i)))

pub returns-clause-spelled : goal.returns-clause-spelled
returns-clause-spelled c =
    let value = c.args.value.now in
    let fits : IsBytes value = λ i. omega (arith, c.type_inv.value i) in
    let form : IsDependencyForm value = record {
      size = search rules;
      first = search rules;
      second = search rules;
      third = search rules;
    } in
    let revision : c.read_u16.result ≡ little_number 2 (drop 6 value) =
    c.read_u16.ensures ∙ ap (little_number 2) (take_rest value 6) in
    let build : c.read_u32.result ≡ little_number 4 (drop 8 value) =
    c.read_u32.ensures ∙ ap (little_number 4) (take_rest value 8) in
    rw (revision, build) (sym (dependency_bytes-dependency_at value fits form))
