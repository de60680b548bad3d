-- When an upload is open for more bytes.
use Rattle.std.proofs.Common.{◌≡◌, ℕ, ◌+◌, ◌*◌, ◌<◌, ◌≤◌, Bool, true, List, Ok, Err, length, arith, refl, sym, ◌∙◌, ap, subst, inl, inr, true≢false}
use Rattle.flash_model.specs.Chip.{Chip, Ends, IsErased}
use Rattle.flash_model.specs.declared.error.FlashError.{FlashError}
use Rattle.flash_model.specs.declared.error.FlashError.TheVariants.{Off}
use Rattle.flash_model.proofs.Frame.{same_outside_refl}
use Rattle.sector_map.proofs.Parts.{keeps_refl}
use Rattle.flash_model.proofs.Ending.{ends_passed, ends_well}
use Rattle.flash_model.proofs.Erased.{erased_narrower}
use Rattle.sector_map.specs.declared.layout.SectorMap.{SectorMap}
use Rattle.sector_map.specs.declared.layout.Side.TheVariants.{Secondary}
use Rattle.sector_map.specs.Part.{Slot}
use Rattle.sector_map.specs.Map.{IsLaidOut, length_of, start_of}
use Rattle.trailer.specs.Fields.{erased_fields, fields_at}
use Rattle.upload.specs.View.{view}
use Rattle.upload.specs.Sessions.{IsOpenAt}
use Rattle.upload.specs.Standing.{HasCounts}
use Rattle.upload.specs.Adding.{AddsBytes, AddsIfReady, IsOpenFor}
use Rattle.upload.specs.NoSession.{IsReadyFor}
use Rattle.upload.specs.declared.sessions.Upload.{Upload}
use Rattle.upload.proofs.Ends.{off_stops, only_off}
use Rattle.upload.proofs.StandingLaws.{one_count, open_counts}
use Rattle.upload.proofs.Writing.{behind_erased}

-- The trailer and the units that bytes complete are erased: the upload is ready for these bytes.
pub ready_for : (map : SectorMap) (chip : Chip) (image written n units k : ℕ) (upload : Upload)
    → HasCounts map image written upload → fields_at map chip image Secondary ≡ erased_fields → units ≡ 8 * k
    → length upload.held.items + n < units + 8
    → IsErased chip (start_of map (Slot image Secondary) + written) units → IsReadyFor map image upload n chip
ready_for map chip image written n units k upload counts blank whole most erased = record {
  written = written;
  counts = counts;
  trailer = blank;
  erased = λ j few. erased_narrower chip (start_of map (Slot image Secondary) + written) units
      (start_of map (Slot image Secondary) + written) (8 * j) erased (omega arith) (omega (arith, few, most, whole));
}

-- The units that bytes complete are erased if the upload is ready for these bytes.
pub ready_erased : (map : SectorMap) (chip : Chip) (image written n units k : ℕ) (upload : Upload)
    → HasCounts map image written upload → units ≡ 8 * k → units ≤ length upload.held.items + n
    → IsReadyFor map image upload n chip → IsErased chip (start_of map (Slot image Secondary) + written) units
ready_erased map chip image written n units k upload counts whole least ready =
    subst (λ u. IsErased chip (start_of map (Slot image Secondary) + written) u) (sym whole)
    (subst (λ w. IsErased chip (start_of map (Slot image Secondary) + w) (8 * k))
    (one_count map image ready.written written upload ready.counts counts)
    (ready.erased k (omega (arith, least, whole))))

-- An upload that is ready for bytes is open for them, if its size allows them.
pub ready_open : (map : SectorMap) (chip : Chip) (image n : ℕ) (upload : Upload) → IsLaidOut map chip
    → upload.received + n ≤ upload.size → IsReadyFor map image upload n chip → IsOpenFor map image upload n chip
ready_open map chip image n upload laid fits ready = record {
  laid_out = laid;
  written = ready.written;
  counts = ready.counts;
  fits = fits;
  erased = ready.erased;
}

-- An upload that matches the flash is ready for the bytes that its size allows.
pub matched_ready : (map : SectorMap) (chip : Chip) (image n : ℕ) (upload : Upload) → IsLaidOut map chip
    → upload.received + n ≤ upload.size → IsOpenAt (view map chip) image upload → IsReadyFor map image upload n chip
matched_ready map chip image n upload laid fits (front, at) =
    let counts = open_counts map chip image upload front laid at in
    record {
      written = length front;
      counts = counts;
      trailer = at.trailer;
      erased = λ k few. behind_erased map chip image (length front) (8 * k) front laid refl at.slot
          (omega (arith, counts.count, counts.room, fits, few));
    }

-- The units lie in the slot.
pub units_inside : (map : SectorMap) (image written n units : ℕ) (upload : Upload)
    → HasCounts map image written upload → upload.received + n ≤ upload.size
    → units ≤ length upload.held.items + n → written + units ≤ length_of map (Slot image Secondary)
units_inside map image written n units upload counts fits least =
    omega (arith, counts.count, counts.room, fits, least)

few_enough : (n : ℕ) → 8 ≤ n → n < 8 → ⊥
few_enough n enough few = omega (arith, enough, few)

-- An upload that is open for bytes received them.
pub added_ready : (map : SectorMap) (image : ℕ) (before after : Upload) (bytes : List ℕ) (old mid new : Chip) → mid ≡ old
    → IsReadyFor map image before (length bytes) old → 8 ≤ length before.held.items + length bytes
    → AddsBytes map image before after bytes mid new {T = Unit} (Ok tt)
    → AddsIfReady map image before after bytes old new (Ok true)
added_ready map image before after bytes old mid new same ready enough added =
    let adds = subst (λ chip. AddsBytes map image before after bytes chip new {T = Unit} (Ok tt)) same added in
    record {
      outside = adds.outside;
      range = adds.range;
      front = inr (ready.counts.there, ready.trailer);
      ok = λ yes. adds.ok;
      refused = λ no. absurd (true≢false no);
      matched = λ stands. refl;
      unready = λ on some never. absurd (never ready);
      only = λ no. absurd (true≢false no);
      erases = adds.erases;
      held = λ few. absurd (few_enough (length before.held.items + length bytes) enough few);
      off = λ off written counts some. absurd (true≢false (sym (adds.on some) ∙ off));
      journal = adds.journal;
      ends = ends_well true old new adds.ends.uncut adds.ends.asleep;
    }

-- The flash stopped a call that adds bytes to an upload which is open for them.
pub stopped_ready : (map : SectorMap) (image : ℕ) (before after : Upload) (bytes : List ℕ) (error : FlashError)
    (old mid new : Chip) → mid ≡ old
    → IsReadyFor map image before (length bytes) old → 8 ≤ length before.held.items + length bytes
    → AddsBytes map image before after bytes mid new {T = Unit} (Err error)
    → AddsIfReady map image before after bytes old new (Err error)
stopped_ready map image before after bytes error old mid new same ready enough added =
    let adds = subst (λ chip. AddsBytes map image before after bytes chip new {T = Unit} (Err error)) same added in
    record {
      outside = adds.outside;
      range = adds.range;
      front = inr (ready.counts.there, ready.trailer);
      ok = tt;
      refused = tt;
      matched = tt;
      unready = λ on some never. absurd (never ready);
      only = tt;
      erases = tt;
      held = λ few. absurd (few_enough (length before.held.items + length bytes) enough few);
      off = λ off written counts some. ap (λ e. Err e) (off_stops error old new adds.ends off);
      journal = adds.journal;
      ends = ends_passed (Err error) error old new refl adds.ends;
    }

-- The flash was off when a call that adds bytes checked the upload.
pub unread_ready : (map : SectorMap) (image : ℕ) (before : Upload) (bytes : List ℕ) (error : FlashError) (old mid : Chip)
    → mid ≡ old → Ends {T = Bool} (Err error) old mid → 8 ≤ length before.held.items + length bytes
    → AddsIfReady map image before before bytes old mid (Err error)
unread_ready map image before bytes error old mid same ends enough =
    let off : error ≡ Off = only_off error old mid same ends in
    subst (λ chip. AddsIfReady map image before before bytes old chip (Err error)) (sym same) (record {
      outside = keeps_refl _ _ _;
      range = same_outside_refl _ _ _;
      front = inl refl;
      ok = tt;
      refused = tt;
      matched = tt;
      unready = λ on some never. absurd (true≢false (sym on ∙ ends.off (ap (λ e. Err e) off)));
      only = tt;
      erases = tt;
      held = λ few. absurd (few_enough (length before.held.items + length bytes) enough few);
      off = λ dark written counts some. ap (λ e. Err e) off;
      journal = omega arith;
      ends = ends_passed (Err error) error old old refl (subst (λ chip. Ends {T = Bool} (Err error) old chip) same ends);
    })
