-- A revert is carried out: its swap is finished, and then its end is recorded.
use Rattle.std.proofs.Common.{◌≡◌, ℕ, Bool, Some, Ok, Err, arith, inl, refl, subst}
use Rattle.flash_model.specs.Chip.{Chip, Ends}
use Rattle.flash_model.specs.declared.error.FlashError.{FlashError}
use Rattle.sector_map.specs.declared.layout.SectorMap.{SectorMap}
use Rattle.sector_map.specs.declared.layout.Side.TheVariants.{Primary, Secondary}
use Rattle.sector_map.specs.Map.{IsLaidOut}
use Rattle.set_log.specs.Log.{state_of}
use Rattle.set_log.specs.declared.state.RecordKind.TheVariants as log
use Rattle.set_log.specs.declared.state.State.{State}
use Rattle.machine.specs.Device.{DeviceState, Trial}
use Rattle.upload.specs.View.{view}
use Rattle.flash_contents.specs.Holding.{Stands}
use Rattle.flash_contents.specs.Passing.{IsSwappingBackSome, reply_of}
use Rattle.flash_contents.specs.Starting.{IsLost}
use Rattle.flash_contents.specs.Wear.{IsResumed}
use Rattle.machine.specs.declared.error.Fault.TheVariants.{RunningDamaged}
use Rattle.flash_contents.specs.declared.finding.Finding.{Finding}
use Rattle.flash_contents.specs.declared.finding.Finding.TheVariants.{Decided, Damaged, Invalid}
use Rattle.machine.specs.declared.reply.Reply.TheVariants.{Reverted, Refused}
use Rattle.flash_contents.proofs.Returning.{returned_intact}
use Rattle.flash_contents.proofs.Standing.{back_cut, back_ends, back_settle_cut, back_settle_ends, stands_back, stands_back_settle}
use Rattle.boot_core.specs.FromBack.{CarriesBack, FinishesBack, IsBackDone, SettlesAndReturns, SettlesBackFor, SwapsBack}
use Rattle.boot_core.proofs.Booted.{boot_fails, boot_gives}
use Rattle.boot_core.proofs.OnMap.{layout_kept, layout_same, layout_then, layout_wider, settled_moved, swap_moved}
use Rattle.boot_core.proofs.Passed.{here_ends, then_ends, then_err}

-- ---- what a refusal for one damaged image says

pub lost_stops : (P : Finding → Type 0) (i : ℕ) (told : Finding) (q : Bool)
    → Refused (RunningDamaged i) ≡ reply_of told q → P (Damaged i) → P told
lost_stops P i (Decided table report) q e holds = cc
lost_stops P i (Damaged j) q e holds = let same : i ≡ j = cc in subst (λ n. P (Damaged n)) same holds
lost_stops P i Invalid q e holds = cc

pub reverted_stops : (P : Finding → Type 0) (mask : ℕ) (told : Finding) (q : Bool)
    → Reverted mask ≡ reply_of told q → P told
reverted_stops P mask (Decided table report) q e = cc
reverted_stops P mask (Damaged j) q e = cc
reverted_stops P mask Invalid q e = cc

-- ---- from the record of a revert on

module _ (map : SectorMap) (state : State) (old : Chip) (laid : IsLaidOut map old)
    (read : state_of map old ≡ Some state) (kind : state.kind ≡ log.Back) where
  -- The flash stops the swap.
  pub swap_fails : {error : FlashError} (mid : Chip) → SwapsBack map state old mid (Err error)
      → CarriesBack map state old mid (Err error)
  swap_fails mid swaps = record {
    boot = λ boots. boot_fails (layout_kept (swap_moved state.mask Secondary) laid swaps.outside)
        (back_cut map old mid state read kind (λ s trial is was. inl (inl (swaps.stands s trial is was))) boots)
        swaps.ends;
  }

  module _ {value : Unit {0}} (mid : Chip) (swaps : SwapsBack map state old mid (Ok value)) where
    here : (s : DeviceState) (trial : Trial) → state.mask ≡ trial.set → IsSwappingBackSome map old s trial
        → IsBackDone map state mid s trial
    here s trial is was = (is, swaps.stands s trial is was, swaps.done.ok s trial is was)

    -- The flash stops the boot before it writes more.
    pub swapped_then_fails : {T : Type 0} {error : FlashError} → Ends {T = T} (Err error) mid mid
        → CarriesBack map state old mid (Err error)
    swapped_then_fails {T} {error} ends = record {
      boot = λ boots. boot_fails {T = T} (layout_kept (swap_moved state.mask Secondary) laid swaps.outside)
          (back_cut map old mid state read kind (λ s trial is was. inl (inl (swaps.stands s trial is was))) boots)
          (then_ends swaps.ends ends);
    }

    -- An image of the set isn't intact.
    pub swapped_lost : (i : ℕ) → IsLost (view map mid) state.mask Primary i
        → CarriesBack map state old mid (Ok (Refused (RunningDamaged i)))
    swapped_lost i lost =
        let never : (s : DeviceState) → Stands map old s → ⊥ = λ s stands.
        let found = stands_back map old s state read kind stands in
        returned_intact (view map mid) s found.0 log.Back state.mask i found.1
        (swaps.done.ok s found.0 found.1 found.2) lost in
        record {
          boot = λ boots. boot_gives (layout_kept (swap_moved state.mask Secondary) laid swaps.outside)
              (λ s stands. absurd (never s stands)) (λ s stands. absurd (never s stands))
              (λ s stands. absurd (never s stands)) tt tt swaps.ends;
        }

    module _ {error : FlashError} (new : Chip) (finishes : FinishesBack map state mid new (Err error)) where
      pub finish_fails : CarriesBack map state old new (Err error)
      finish_fails = record {
        boot = λ boots. boot_fails {T = Unit {0}}
            (layout_then (layout_kept (swap_moved state.mask Secondary) laid swaps.outside)
            (layout_wider (settled_moved state.mask) (layout_kept (swap_moved state.mask Secondary) laid swaps.outside).laid
            finishes.layout))
            (back_cut map old new state read kind
            (λ s trial is was. finishes.stands s trial (here s trial is was)) boots)
            (then_err {U = Unit {0}} swaps.ends finishes.ends);
      }

    module _ {done : Unit {0}} (new : Chip) (finishes : FinishesBack map state mid new (Ok done)) where
      worn : (s : DeviceState) → Stands map old s → IsResumed map old new Secondary state.mask
      worn s stands =
          let found = stands_back map old s state read kind stands in
          omega (arith, swaps.done.erases s found.0 found.1 found.2, finishes.done.erases)

      pub finish_gives : CarriesBack map state old new (Ok (Reverted state.mask))
      finish_gives = record {
        boot = λ boots. boot_gives
            (layout_then (layout_kept (swap_moved state.mask Secondary) laid swaps.outside)
            (layout_wider (settled_moved state.mask) (layout_kept (swap_moved state.mask Secondary) laid swaps.outside).laid
            finishes.layout))
            (back_cut map old new state read kind
            (λ s trial is was. finishes.stands s trial (here s trial is was)) boots)
            (back_ends map old new state read kind
            (λ s trial is was. finishes.done.ok s trial (here s trial is was)) boots)
            (λ s stands. (worn s stands, refl)) tt tt (then_ends swaps.ends finishes.ends);
      }

-- ---- from the record that a set is swapped back on

module _ (map : SectorMap) (state : State) (old : Chip) (laid : IsLaidOut map old)
    (read : state_of map old ≡ Some state) (kind : state.kind ≡ log.BackSettle) where
  pub look_fails : {T : Type 0} {error : FlashError} → Ends {T = T} (Err error) old old
      → SettlesBackFor map state old old (Err error)
  look_fails {T} {error} ends = record {
    boot = λ boots. boot_fails {T = T} (layout_same laid refl)
        (λ s stands. (s, inl refl, stands)) ends;
  }

  pub settled_lost : (i : ℕ) → IsLost (view map old) state.mask Primary i
      → SettlesBackFor map state old old (Ok (Refused (RunningDamaged i)))
  settled_lost i lost =
      let never : (s : DeviceState) → Stands map old s → ⊥ = λ s stands.
      let found = stands_back_settle map old s state read kind stands in
      returned_intact (view map old) s found.0 log.BackSettle state.mask i found.1 found.2 lost in
      record {
        boot = λ boots. boot_gives {T = Unit {0}} {value = tt} (layout_same laid refl) (λ s stands. absurd (never s stands))
            (λ s stands. absurd (never s stands)) (λ s stands. absurd (never s stands)) tt tt here_ends;
      }

  pub settle_fails : {error : FlashError} (new : Chip) → SettlesAndReturns map state old new (Err error)
      → SettlesBackFor map state old new (Err error)
  settle_fails new settles = record {
    boot = λ boots. boot_fails (layout_wider (settled_moved state.mask) laid settles.layout)
        (back_settle_cut map old new state read kind settles.stands boots) settles.ends;
  }

  pub settle_gives : {done : Unit {0}} (new : Chip) → SettlesAndReturns map state old new (Ok done)
      → SettlesBackFor map state old new (Ok (Reverted state.mask))
  settle_gives new settles = record {
    boot = λ boots. boot_gives (layout_wider (settled_moved state.mask) laid settles.layout)
        (back_settle_cut map old new state read kind settles.stands boots)
        (back_settle_ends map old new state read kind settles.done.ok boots)
        (λ s stands. (settles.done.erases, refl)) tt tt settles.ends;
  }
