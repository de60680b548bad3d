use Rattle.std.proofs.Common.{arith, rules, ◌≡◌, ◌*◌, ℕ, List, Err, sym, ◌∙◌, subst}
use Rattle.std.proofs.lemmas.List.{length-replicate}
use Rattle.flash_model.specs.Written.{IsWrite}
use Rattle.flash_model.proofs.WrittenLaws.{erase_taken}
use Rattle.slice_flash.proofs.Writes.{blank_pattern, erase_done, erase_failed, erase_is_done, erase_is_failed}
use Rattle.slice_flash.proofs.flash.SliceFlashFlash.erase.Goals as goal

pub returns-in_err-write-clause-chip : goal.returns-in_err-write-clause-chip
returns-in_err-write-clause-chip g c =
    let flash = c.args.self.now in
    let same : c.from_residual.result ≡ Err c.in_err-write.field-0.0 = search rules in
    rw same (erase_failed _ _ _ _ (omega arith) (c.in_err-write.ensures.chip _ (length-replicate {A = ℕ} flash.sector_size 255)
    (blank_pattern _ _ _ _ c.requires flash.whole)))

pub returns-in_err-write-clause-slice : goal.returns-in_err-write-clause-slice
returns-in_err-write-clause-slice g c =
    let flash = c.args.self.now in
    let same : c.from_residual.result ≡ Err c.in_err-write.field-0.0 = search rules in
    rw same (erase_is_failed _ _ _ _ _ (c.in_err-write.ensures.slice _ (length-replicate {A = ℕ} flash.sector_size 255)
    (blank_pattern _ _ _ _ c.requires flash.whole)))

pub returns-clause-chip : goal.returns-clause-chip
returns-clause-chip g c =
    let flash = c.args.self.now in
    erase_done _ _ _ _ c.add.ensures.amount (omega arith) (c.in_ok-write.ensures.chip _ (length-replicate {A = ℕ} flash.sector_size 255)
    (blank_pattern _ _ _ _ c.requires flash.whole))

pub returns-clause-slice : goal.returns-clause-slice
returns-clause-slice g c =
    let flash = c.args.self.now in
    erase_is_done _ _ _ _ _ (c.in_ok-write.ensures.slice _ (length-replicate {A = ℕ} flash.sector_size 255)
    (blank_pattern _ _ _ _ c.requires flash.whole)) (search rules)

pub write-requires-clause-taken : goal.write-requires-clause-taken
write-requires-clause-taken g c = λ range long is.
    let flash = c.args.self.now in
    subst (λ (r : List ℕ). IsWrite flash.sector_size (record { at = c.args.sector * flash.sector_size; done = r }) flash.bytes.now)
    (blank_pattern c.args.sector flash.sectors flash.sector_size flash.bytes.now c.requires flash.whole ∙ sym is)
    (erase_taken c.args.sector flash.sectors flash.sector_size flash.bytes.now c.requires flash.whole)
