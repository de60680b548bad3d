-- The state of the log follows from its current record.
use Rattle.std.proofs.Common.{◌≡◌, ◌≢◌, ◌⊎◌, ℕ, false, true, List, Option, Some, None, IsSome, subst, refl, sym, ◌∙◌, ap, inl, inr, ⊎_elim}
use Rattle.flash_model.specs.Chip.{Chip}
use Rattle.sector_map.specs.declared.layout.SectorMap.{SectorMap}
use Rattle.sector_map.specs.Map.{IsWithin}
use Rattle.set_log.specs.declared.state.State.{State}
use Rattle.set_log.specs.Record.{fits, state_from}
use Rattle.set_log.specs.Log.{record_of, state_of, state_said}
use Rattle.set_log.proofs.Spelled.{spells_of}
use Rattle.set_log.proofs.Table.{fits_within}

pub said : (map : SectorMap) (chip : Chip) (found : Option (List ℕ)) → record_of map chip ≡ found
    → state_of map chip ≡ state_said map.images found
unfolding state_of
said map chip found is = ap (state_said map.images) is

pub said_either : (map : SectorMap) (body : List ℕ) (s : State) (old new : Chip)
    → state_from map.images body ≡ Some s
    → (record_of map new ≡ record_of map old) ⊎ (record_of map new ≡ Some body)
    → (state_of map new ≡ state_of map old) ⊎ (state_of map new ≡ Some s)
said_either map body s old new back either = ⊎_elim
    (λ kept. inl (said map new _ kept ∙ sym (said map old _ refl)))
    (λ put. inr (said map new _ put ∙ back))
    either

pub has_record : (map : SectorMap) (chip : Chip) → IsSome (state_of map chip) → record_of map chip ≢ None
has_record map chip has none =
    let wrong : false ≡ true = subst (λ state. IsSome state) (said map chip None none) has in
    absurd (cc wrong)

said_fits : (images : ℕ) (found : Option (List ℕ)) (s : State) → state_said images found ≡ Some s
    → fits images s ≡ true
said_fits images None s is = let wrong : None ≡ Some s = is in absurd (cc wrong)
said_fits images (Some body) s is = (spells_of images body s is).kept

-- The state of a log keeps the table of records.
pub state_fits : (map : SectorMap) (chip : Chip) (s : State) → state_of map chip ≡ Some s
    → fits map.images s ≡ true
unfolding state_of
state_fits map chip s is = said_fits map.images (record_of map chip) s is

-- So its set has only images of the map.
pub state_within : (map : SectorMap) (chip : Chip) (s : State) → state_of map chip ≡ Some s → IsWithin map s.mask
state_within map chip s is = fits_within map s (state_fits map chip s is)
