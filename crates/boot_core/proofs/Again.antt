-- The record of a trial that goes on keeps the table of records, as the old record does.
use Rattle.std.proofs.Common.{◌≡◌, ℕ, ◌<◌, ◌≤◌, ◌==◌, true, false, not, nat_le, Some, arith, sym, ◌∙◌, subst, ⊎_elim}
use Rattle.std.proofs.lemmas.Bool.{and_from, and_parts}
use Rattle.std.proofs.lemmas.Bool.Decides.{leb_tells}
use Rattle.flash_model.specs.Chip.{Chip}
use Rattle.sector_map.specs.declared.layout.SectorMap.{SectorMap}
use Rattle.set_log.specs.declared.state.State.{State}
use Rattle.set_log.specs.declared.state.RecordKind.{RecordKind}
use Rattle.set_log.specs.declared.state.RecordKind.TheVariants.{Trial}
use Rattle.set_log.specs.Record.{fits}
use Rattle.set_log.specs.Log.{state_of}
use Rattle.boot_core.proofs.Records.{fits_next, kind_of_read}

le_yes : (a b : ℕ) → a ≤ b → nat_le a b ≡ true
le_yes a b le = ⊎_elim (λ (h : (nat_le a b ≡ true) × (a ≤ b)). h.0)
    (λ (h : (nat_le a b ≡ false) × (b < a)). absurd (omega (arith, h.1, le))) (leb_tells a b)

le_of_yes : (a b : ℕ) → nat_le a b ≡ true → a ≤ b
le_of_yes a b told = ⊎_elim (λ (h : (nat_le a b ≡ true) × (a ≤ b)). h.1)
    (λ (h : (nat_le a b ≡ false) × (b < a)). absurd (never (sym told ∙ h.0))) (leb_tells a b) where
      never : true ≡ false → ⊥
      never e = cc

pub fits_again : (map : SectorMap) (chip : Chip) (s : State) (left : ℕ) → state_of map chip ≡ Some s
    → s.kind ≡ Trial → left ≤ s.left
    → fits map.images (record s { left = left; permanent = false }) ≡ true
fits_again map chip s left read is less =
    let asked = kind_of_read map chip s Trial read is in
    let parts = and_parts (not (s.mask == 0)) (nat_le s.left 6) asked in
    let few : s.left ≤ 6 = le_of_yes s.left 6 parts.1 in
    let small : left ≤ 6 = omega (arith, less, few) in
    subst (λ (k : RecordKind). fits map.images (record s { kind = k; permanent = false; left = left }) ≡ true) (sym is)
    (fits_next map chip s Trial false left read (and_from (not (s.mask == 0)) _ parts.0 (le_yes left 6 small)))
