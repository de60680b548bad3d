-- Laws of a call over a flash with a journal: what the caller finds in the journal, and why the call is cut.
use Rattle.std.proofs.Common.{◌≡◌, ℕ, false, ◌+◌, ◌≤◌, List, length, drop, take, sym, ◌∙◌, ap, subst, arith, ⊎_elim}
use Rattle.flash_model.specs.Chip.{Chip, Fixed}
use Rattle.sector_map.specs.declared.layout.SectorMap.{SectorMap}
use Rattle.machine.specs.Steps.{cut_of}
use Rattle.machine.specs.declared.reply.Reply.{Reply}
use Rattle.slice_flash.specs.Recording.{IsKept, Recording}
use Rattle.slice_flash.specs.Overlay.{replayed}
use Rattle.slice_flash.specs.OverlayFlash.{ShowsJournal}
use Rattle.slice_flash.specs.Steps.{IsRecordedBy, IsTooShort, fixed_over}
use Rattle.c_interface.specs.DeviceCall.{DeviceCall}
use Rattle.c_interface.specs.DeviceCall.{Accept, Piece, Finish, Withdraw, Confirm, Boot}
use Rattle.c_interface.specs.Calls.{IsJournaled}
use Rattle.boot_core.specs.Journal.{GetsFurther}
use Rattle.c_interface.specs.Recording.{IsCutIfShort, IsEnough, IsJournalOf}
use Rattle.c_interface.proofs.Asked.{cut_or_not}

-- ---- the journal

-- What a flash over bytes that are only read has after its writes, by the names of its caller.
pub shown : (r : Recording) (old after : List ℕ) (writes name : ℕ) (before : List ℕ) (journal_name : ℕ)
    → r.chip.fixed ≡ fixed_over old name before journal_name → r.journal ≡ after → writes ≡ r.chip.writes
    → ShowsJournal r → r.chip.bytes ≡ replayed old after writes
shown r old after writes name before journal_name fixed holds counted shows =
    shows ∙ ap (λ (f : Fixed). replayed f.first r.journal r.chip.writes) fixed
    ∙ ap (λ (l : List ℕ). replayed old l r.chip.writes) holds ∙ ap (λ n. replayed old after n) (sym counted)

module _ (r : Recording) (size : ℕ) (old new before after : List ℕ) (writes used name journal_name : ℕ) (kept : IsKept r)
    (sized : r.chip.sector_size ≡ size) (fixed : r.chip.fixed ≡ fixed_over old name before journal_name)
    (has : r.chip.bytes ≡ new) (holds : r.journal ≡ after) (counted : writes ≡ r.chip.writes) (uses : used ≡ r.used) where
  recorded_here : ∥ IsRecordedBy size old new (take used after) writes ∥₁
  recorded_here =
      subst (λ n. ∥ IsRecordedBy size old new (take used after) n ∥₁) (sym counted)
      (subst (λ u. ∥ IsRecordedBy size old new (take u after) r.chip.writes ∥₁) (sym uses)
      (subst (λ (l : List ℕ). ∥ IsRecordedBy size old new (take r.used l) r.chip.writes ∥₁) holds
      (subst (λ (l : List ℕ). ∥ IsRecordedBy size old l (take r.used r.journal) r.chip.writes ∥₁) has
      (subst (λ (f : Fixed). ∥ IsRecordedBy size f.first r.chip.bytes (take r.used r.journal) r.chip.writes ∥₁) fixed
      (subst (λ s. ∥ IsRecordedBy s r.chip.fixed.first r.chip.bytes (take r.used r.journal) r.chip.writes ∥₁) sized
      kept.recorded)))))

  long_as : length r.journal ≡ length before
  long_as = kept.size ∙ ap (λ (f : Fixed). length f.journal_first) fixed

  pub journal_of : IsJournalOf size old new before after writes used
  journal_of = record {
    recorded = recorded_here;
    fits = omega (arith, kept.fits, uses, ap (λ (l : List ℕ). length l) holds);
    long = sym (ap (λ (l : List ℕ). length l) holds) ∙ long_as;
    rest = ap (λ u. drop u after) uses ∙ ap (λ (l : List ℕ). drop r.used l) (sym holds) ∙ kept.rest
        ∙ ap (λ (f : Fixed). drop r.used f.journal_first) fixed ∙ ap (λ u. drop u before) (sym uses);
  }

  full_here : ∥ IsTooShort r.chip.sector_size r.chip.bytes (length r.journal) r.used ∥₁
      → ∥ IsTooShort size new (length before) used ∥₁
  full_here full =
      subst (λ u. ∥ IsTooShort size new (length before) u ∥₁) (sym uses)
      (subst (λ n. ∥ IsTooShort size new n r.used ∥₁) long_as
      (subst (λ (l : List ℕ). ∥ IsTooShort size l (length r.journal) r.used ∥₁) has
      (subst (λ s. ∥ IsTooShort s r.chip.bytes (length r.journal) r.used ∥₁) sized full)))

  -- A call on a flash that was just made is cut only if the journal is too short.
  pub cut_if_short : (first : Chip) (reply : Reply) → first.journaled ≡ 0 → first.cuts ≡ 0 → r.chip.faults ≡ r.chip.cuts
      → r.chip.cuts ≡ first.cuts + cut_of reply → (cut_of reply ≡ 1 → r.chip.is_on ≡ false)
      → IsCutIfShort size new (length before) used first r.chip reply
  cut_if_short first reply unasked uncut faults counts dark = record {
    unasked = unasked;
    full = λ one. full_here (kept.off (dark one));
    short = λ one. omega (arith, long_as, kept.short (omega (arith, one, faults, counts)));
    enough = λ none. omega (arith, long_as, kept.fits, kept.all (omega (arith, none, faults, counts, uncut)));
  }

-- The same with the new bytes by another name.
pub cut_over : (size : ℕ) (bytes new : List ℕ) (room used : ℕ) (first last : Chip) (reply : Reply) → bytes ≡ new
    → IsCutIfShort size bytes room used first last reply → IsCutIfShort size new room used first last reply
cut_over size bytes new room used first last reply same =
    subst (λ (l : List ℕ). IsCutIfShort size l room used first last reply) same

-- ---- a journal that is long enough

uncut_by : (reply : Reply) (bound room size used : ℕ) (new : List ℕ) (first last : Chip)
    → IsCutIfShort size new room used first last reply
    → last.journaled ≤ first.journaled + bound → bound ≤ room → cut_of reply ≡ 0
uncut_by reply bound room size used new first last cut most fits = ⊎_elim
    (λ (none : cut_of reply ≡ 0). none)
    (λ (one : cut_of reply ≡ 1). absurd (omega (arith, cut.short one, cut.unasked, most, fits)))
    (cut_or_not reply)

pub enough_for : (map : SectorMap) (call : DeviceCall) (room size used : ℕ) (new : List ℕ) (first last : Chip) (reply : Reply)
    → IsCutIfShort size new room used first last reply → IsJournaled map call first last
    → IsEnough map call room first last reply
enough_for map (Accept manifest) room size used new first last reply cut most =
    uncut_by reply _ room size used new first last cut most
enough_for map (Piece image more) room size used new first last reply cut most =
    uncut_by reply _ room size used new first last cut most
enough_for map (Finish image) room size used new first last reply cut most =
    uncut_by reply _ room size used new first last cut most
enough_for map (Withdraw image) room size used new first last reply cut most =
    uncut_by reply _ room size used new first last cut most
enough_for map (Confirm image) room size used new first last reply cut most =
    uncut_by reply _ room size used new first last cut most
enough_for map Boot room size used new first last reply cut most = λ roomy one state stood. ⊎_elim
    (λ (few : last.journaled ≤ first.journaled + room). absurd (omega (arith, cut.short one, cut.unasked, few)))
    (λ (further : GetsFurther map state first last). further) (most state stood room roomy)

pub enough_to_provision : (reply : Reply) (bound room size used : ℕ) (new : List ℕ) (first last : Chip)
    → IsCutIfShort size new room used first last reply
    → last.journaled ≤ first.journaled + bound → bound ≤ room → cut_of reply ≡ 0
enough_to_provision = uncut_by
