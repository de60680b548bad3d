use Rattle.std.proofs.Common.{◌≡◌, ◌+◌, length, slice_range, None, Some, refl, sym, ◌∙◌, ap, arith}
use Rattle.flash_model.specs.Torn.{with_pattern}
use Rattle.flash_model.proofs.Ranges.{length_range}
use Rattle.flash_model.proofs.TornBytes.{length-with_pattern}
use Rattle.slice_flash.proofs.ByTable.{number_of_cut, written_by_table}
use Rattle.slice_flash.proofs.Reaching.{reached_cut, reached_uncut}
use Rattle.slice_flash.specs.Rows.{torn_bytes}
use Rattle.slice_flash.proofs.Writes.{bytes_back, length-torn, put_back}
use Rattle.slice_flash.proofs.flash.SliceFlash.write.Goals as goal

pub invariant_of-self-clause-cut_by_table : goal.invariant_of-self-clause-cut_by_table
invariant_of-self-clause-cut_by_table g c =
    let flash = c.args.self.now in
    flash.cut_by_table ∙ sym (reached_uncut flash.table.now flash.writes _ flash.fits c.saturating_add-self.ensures
    (sym c.left_after-left.ensures ∙ c.in-None.is))

pub invariant_of-self-clause-written : goal.invariant_of-self-clause-written
invariant_of-self-clause-written g c =
    let flash = c.args.self.now in
    let old = slice_range flash.bytes.now c.args.at (c.args.at + c.args.n) in
    let long : length (with_pattern c.args.pattern.now old) ≡ c.args.n =
    length-with_pattern c.args.pattern.now old ∙ length_range flash.bytes.now c.args.at _ ∙ omega (arith, c.requires.inside) in
    written_by_table flash.table.now _ _ _ c.args.at c.args.n (with_pattern c.args.pattern.now old) flash.bytes.now _ flash.writes _ None
    (c.requires.taken _ long refl) c.saturating_add-self.ensures (sym c.left_after-left.ensures ∙ c.in-None.is) long
    (put_back c.args.at c.args.n flash.bytes.now _ _ c.repeat.ensures.bytes long) flash.written

pub invariant_of-self-in-Some-clause-cut_by_table : goal.invariant_of-self-in-Some-clause-cut_by_table
invariant_of-self-in-Some-clause-cut_by_table g c =
    let flash = c.args.self.now in
    c.add.ensures.amount ∙ ap (λ n. n + 1) flash.cut_by_table
    ∙ sym (reached_cut flash.table.now flash.writes _ c.in-Some.left c.saturating_add-self.ensures
    (sym c.left_after-left.ensures ∙ c.in-Some.is))

pub invariant_of-self-in-Some-clause-off_by_table : goal.invariant_of-self-in-Some-clause-off_by_table
invariant_of-self-in-Some-clause-off_by_table g c off =
    let flash = c.args.self.now in
    number_of_cut flash.table.now flash.writes _ c.in-Some.left c.saturating_add-self.ensures
    (sym c.left_after-left.ensures ∙ c.in-Some.is)

pub invariant_of-self-in-Some-clause-written : goal.invariant_of-self-in-Some-clause-written
invariant_of-self-in-Some-clause-written g c =
    let flash = c.args.self.now in
    let old = slice_range flash.bytes.now c.args.at (c.args.at + c.args.n) in
    let long : length (with_pattern c.args.pattern.now old) ≡ c.args.n =
    length-with_pattern c.args.pattern.now old ∙ length_range flash.bytes.now c.args.at _ ∙ omega (arith, c.requires.inside) in
    let torn : length (torn_bytes c.in-Some.left old (with_pattern c.args.pattern.now old)) ≡ c.args.n =
    length-torn c.in-Some.left old _ (length_range flash.bytes.now c.args.at _ ∙ omega (arith, c.requires.inside)) long in
    written_by_table flash.table.now _ _ _ c.args.at c.args.n (with_pattern c.args.pattern.now old) flash.bytes.now _ flash.writes _
    (Some c.in-Some.left) (c.requires.taken _ long refl) c.saturating_add-self.ensures
    (sym c.left_after-left.ensures ∙ c.in-Some.is) long (put_back c.args.at c.args.n flash.bytes.now _ _ c.tear.ensures.bytes torn) flash.written

pub invariant_of-self-clause-are_bytes : goal.invariant_of-self-clause-are_bytes
invariant_of-self-clause-are_bytes g c =
    bytes_back c.args.at _ c.args.self.now.bytes.now _ c.args.self.now.are_bytes c.repeat.ensures.are_bytes

pub invariant_of-self-in-Some-clause-are_bytes : goal.invariant_of-self-in-Some-clause-are_bytes
invariant_of-self-in-Some-clause-are_bytes g c =
    bytes_back c.args.at _ c.args.self.now.bytes.now _ c.args.self.now.are_bytes c.tear.ensures.are_bytes
