-- What calls ask a journal for, in steps.
use Rattle.std.proofs.Common.{◌≡◌, ℕ, ◌+◌, ◌*◌, ◌<◌, ◌≤◌, arith}
use Rattle.std.proofs.Math.Nat.{mul-le-mul_left}
use Rattle.flash_model.specs.Chip.{Chip}
use Rattle.sector_map.specs.declared.layout.SectorMap.{SectorMap}
use Rattle.swap_scratch.specs.Steps.{AsksForSteps, journal_of_step}

mul_more : (j n : ℕ) → j * (n + 1) ≡ j * n + j
mul_more j n = grind arith

more : (j old now new a b c : ℕ) → now + j * a ≤ old + j * b → new ≤ now + j → b ≤ c → new + j * a ≤ old + j * (c + 1)
more j old now new a b c asked one le = omega (arith, asked, one, mul-le-mul_left j le, mul_more j c)

next : (j old now new a b c : ℕ) → now + j * a ≤ old + j * b → new ≤ now + j → b < c → new + j * a ≤ old + j * c
next j old now new a b c asked one lt =
    let le : b + 1 ≤ c = omega (arith, lt) in
    omega (arith, asked, one, mul-le-mul_left j le, mul_more j b)

wider : (j old new a b : ℕ) → new + j * a ≤ old + j * b → new + j * a ≤ old + j * (b + 1)
wider j old new a b asked = omega (arith, asked, mul_more j b)

joined : (j old now new a b c : ℕ) → now + j * a ≤ old + j * b → new + j * b ≤ now + j * c → new + j * a ≤ old + j * c
joined j old now new a b c first second = omega (arith, first, second)

shifted : (j old new a b c d : ℕ) → new + j * a ≤ old + j * b → d + a ≡ c + b → new + j * c ≤ old + j * d
shifted j old new a b c d asked same =
    let left : j * (d + a) ≡ j * d + j * a = grind arith in
    let right : j * (c + b) ≡ j * c + j * b = grind arith in
    let both : j * (d + a) ≡ j * (c + b) = grind (arith, same) in
    omega (arith, asked, left, right, both)

-- A call that does nothing asks for nothing.
pub asks_none : (map : SectorMap) (old : Chip) (n : ℕ) → AsksForSteps map n n old old
asks_none map old n = record { most = grind arith }

-- A step was taken, and need not be counted.
pub asks_more : (map : SectorMap) (old now new : Chip) (a b c : ℕ) → AsksForSteps map a b old now
    → new.journaled ≤ now.journaled + journal_of_step map → b ≤ c → AsksForSteps map a (c + 1) old new
asks_more map old now new a b c asked one le = record {
  most = more _ old.journaled now.journaled new.journaled a b c asked.most one le;
}

-- A step was taken, and is counted.
pub asks_next : (map : SectorMap) (old now new : Chip) (a b c : ℕ) → AsksForSteps map a b old now
    → new.journaled ≤ now.journaled + journal_of_step map → b < c → AsksForSteps map a c old new
asks_next map old now new a b c asked one lt = record {
  most = next _ old.journaled now.journaled new.journaled a b c asked.most one lt;
}

pub asks_wider : (map : SectorMap) (old new : Chip) (a b : ℕ) → AsksForSteps map a b old new
    → AsksForSteps map a (b + 1) old new
asks_wider map old new a b asked = record { most = wider _ old.journaled new.journaled a b asked.most }

pub asks_trans : (map : SectorMap) (old now new : Chip) (a b c : ℕ) → AsksForSteps map a b old now
    → AsksForSteps map b c now new → AsksForSteps map a c old new
asks_trans map old now new a b c first second = record {
  most = joined _ old.journaled now.journaled new.journaled a b c first.most second.most;
}

-- The same number of steps lies between two other counts.
pub asks_shifted : (map : SectorMap) (old new : Chip) (a b c d : ℕ) → AsksForSteps map a b old new
    → d + a ≡ c + b → AsksForSteps map c d old new
asks_shifted map old new a b c d asked same = record {
  most = shifted _ old.journaled new.journaled a b c d asked.most same;
}
