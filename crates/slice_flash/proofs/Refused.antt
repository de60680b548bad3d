-- Lemmas about the trait of a flash that several flashes share: what a program asks for, and what a
-- write leaves that changes no byte.
use Rattle.std.proofs.Common.{◌≡◌, ℕ, ◌+◌, ◌%◌, ◌≤◌, false, List, length, slice_index, Err, refl, ap}
use Rattle.flash_model.specs.declared.error.FlashError.{FlashError}
use Rattle.flash_model.specs.declared.error.FlashError.TheVariants.{Off}
use Rattle.flash_model.specs.Calls.{CanProgram, Programs}
use Rattle.flash_model.specs.Chip.{Chip, Ends, IsErased, SameOutside, size_of}

-- What the trait asks of a program, in one record.
pub can_program : (at n : ℕ) (chip : Chip) → at + n ≤ size_of chip → IsErased chip at n → at % 8 ≡ 0
    → n % 8 ≡ 0 → 8 ≤ n → CanProgram at n chip
can_program at n chip inside erased place units some = record {
  inside = inside;
  erased = erased;
  place = place;
  units = units;
  some = some;
}

-- A write that changes at most the power, the counts of cuts and faults, and what was asked of a
-- journal.
abbrev pub IsRefused : Chip → Chip → Type 0
IsRefused old new = new ≡ record old {
  is_on = new.is_on;
  cuts = new.cuts;
  faults = new.faults;
  journaled = new.journaled;
}

same_outside : (at n : ℕ) (old new : Chip) → IsRefused old new → SameOutside at n old new
same_outside at n old new same = record {
  sector_size = ap (λ (c : Chip). c.sector_size) same;
  sectors = ap (λ (c : Chip). c.sectors) same;
  fixed = ap (λ (c : Chip). c.fixed) same;
  size = ap (λ (c : Chip). length c.bytes) same;
  before = λ k low. ap (λ (c : Chip). slice_index c.bytes k) same;
  after = λ k high. ap (λ (c : Chip). slice_index c.bytes k) same;
}

-- A flash that is off refuses a call.
pub ends_off : {T : Type 0} (chip : Chip) → chip.is_on ≡ false → Ends {T = T} (Err Off) chip chip
ends_off chip off = record {
  asleep = λ asleep. refl;
  uncut = tt;
  cut = λ is. cc;
  off = λ is. off;
}

-- A program that is refused.
pub fails_program : (at : ℕ) (bytes : List ℕ) (error : FlashError) (old new : Chip) → IsRefused old new
    → new.journaled ≤ old.journaled + (12 + length bytes) → Ends {T = Unit {0}} (Err error) old new
    → Programs at bytes old new {T = Unit {0}} (Err error)
fails_program at bytes error old new same journal ends = record {
  outside = same_outside at (length bytes) old new same;
  ok = tt;
  on = tt;
  erases = ap (λ (c : Chip). c.erases) same;
  journal = journal;
  ends = ends;
}
