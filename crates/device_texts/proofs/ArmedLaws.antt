-- A new flash after writes of it were armed.
use Rattle.std.proofs.Common.{◌≡◌, ◌++◌, ◌∷◌, [], List, ℕ, ap, append_assoc, sym, ◌∙◌}
use Rattle.std.proofs.lemmas.List.{map-append}
use Rattle.flash_model.specs.declared.torn.Armed.{Armed}
use Rattle.flash_model.specs.Chip.{Chip}
use Rattle.flash_model.specs.Memory.{with_armed}
use Rattle.sector_map.specs.declared.layout.SectorMap.{SectorMap}
use Rattle.device_texts.specs.FlashOf.{armed_chip, armed_in, armed_of, flash_of}
use Rattle.device_texts.specs.declared.flash.CutWrite.{CutWrite}

-- One more cut is armed.
pub armed-more : (old mid new : List Armed) (before : List CutWrite) (cut : CutWrite) (at : ℕ) → at ≡ cut.write
    → new ≡ mid ++ record { at = at; torn = cut.torn } ∷ [] → mid ≡ old ++ armed_in before
    → new ≡ old ++ armed_in (before ++ cut ∷ [])
armed-more old mid new before cut at number is known =
    let one : List Armed = armed_of cut ∷ [] in
    is ∙ ap (λ k. mid ++ record { at = k; torn = cut.torn } ∷ []) number
    ∙ ap (λ all. all ++ one) known ∙ append_assoc old (armed_in before) one
    ∙ ap (λ all. old ++ all) (sym (map-append armed_of before (cut ∷ [])))

-- The flash with these bytes after these writes were armed, if none was armed before.
pub armed-chip : (old new : Chip) (map : SectorMap) (bytes : List ℕ) (cuts : List Armed)
    → old ≡ flash_of map bytes → new ≡ with_armed old new.fixed.armed
    → new.fixed.armed ≡ old.fixed.armed ++ cuts → new ≡ armed_chip map bytes cuts
armed-chip old new map bytes cuts held same armed =
    same ∙ ap (λ chip. with_armed chip new.fixed.armed) held
    ∙ ap (λ all. armed_chip map bytes all) (armed ∙ ap (λ chip. chip.fixed.armed ++ cuts) held)
