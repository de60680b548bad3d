-- A new record in the log doesn't change what can be read. If a decision is found, nothing has to
-- be said of why.
use Rattle.std.proofs.Common.{rules, ◌≡◌, ℕ, Bool, true, false, List, refl, sym, subst}
use Rattle.flash_model.specs.Chip.{Chip}
use Rattle.sector_map.specs.declared.layout.SectorMap.{SectorMap}
use Rattle.sector_map.specs.declared.layout.Side.TheVariants.{Primary, Secondary}
use Rattle.sector_map.specs.Map.{Keeps}
use Rattle.sector_map.specs.Part.{Log, only}
use Rattle.common.specs.Masks.{is_member}
use Rattle.upload.specs.View.{view}
use Rattle.machine.specs.Device.{DeviceState}
use Rattle.upload.specs.Steady.{IsFront, IsRequested}
use Rattle.upload.proofs.Views.{view_kept}
use Rattle.machine.specs.States.{wanted_bytes}
use Rattle.reports.specs.declared.table.Table.{Table}
use Rattle.flash_contents.specs.Reading.{CanRead, CanReadAt}
use Rattle.reports.specs.declared.report.Report.{Report}
use Rattle.set_log.specs.declared.state.State.{State}
use Rattle.flash_contents.specs.declared.finding.Finding.{Finding}
use Rattle.flash_contents.specs.declared.finding.Finding.TheVariants.{Decided}
use Rattle.boot_core.specs.Found.{IsSwapAloneFor, IsToldAgain}

read_before : (map : SectorMap) (old new : Chip) (s : DeviceState) (b : Bool) (i : ℕ) → Keeps map (only Log) old new
    → CanReadAt (view map new) s b i → CanReadAt (view map old) s b i
read_before map old new s true i keeps was = record {
  ran = subst (λ l. IsFront l (s.running i)) ((view_kept map _ _ _ keeps).slots i Secondary refl) was.ran;
  asked = subst (λ l. IsFront l (wanted_bytes (s.request i)))
      ((view_kept map _ _ _ keeps).slots i Primary refl) was.asked;
  wanted = was.wanted;
}
read_before map old new s false i keeps was = record {
  running = subst (λ l. IsFront l (s.running i)) ((view_kept map _ _ _ keeps).slots i Primary refl) was.running;
  request = subst (λ t. IsRequested t ((view map old).slot i Secondary) (s.request i))
      ((view_kept map _ _ _ keeps).trailers i Secondary refl)
      (subst (λ l. IsRequested ((view map new).trailer i Secondary) l (s.request i))
      ((view_kept map _ _ _ keeps).slots i Secondary refl) was.request);
}

-- What can be read after a new record could be read before it.
pub can_read_before : (map : SectorMap) (old new : Chip) (s : DeviceState) (mask : ℕ) (floors : List ℕ)
    → Keeps map (only Log) old new → CanRead (view map new) s mask floors → CanRead (view map old) s mask floors
can_read_before map old new s mask floors keeps can = record {
  images = can.images;
  floors = can.floors;
  each = λ i lt. read_before map old new s (is_member mask i) i keeps (can.each i lt);
}

-- If a decision is found, nothing has to be said of why.
pub decided_told : (map : SectorMap) (w : Chip) (state : State) (answer : Finding) (table : Table) (report : Report)
    → answer ≡ Decided table report → IsToldAgain (view map w) state.mask state.floors answer
decided_told map w state answer table report is =
    subst (λ f. IsToldAgain (view map w) state.mask state.floors f) (sym is) (search rules)

pub decided_alone : (map : SectorMap) (old new : Chip) (state : State) (answer : Finding) (table : Table)
    (report : Report) → answer ≡ Decided table report → IsSwapAloneFor map state.mask old new answer
decided_alone map old new state answer table report is =
    subst (λ f. IsSwapAloneFor map state.mask old new f) (sym is) (search rules)
