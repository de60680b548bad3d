-- Bytes have one result: a description, or the first check that fails.
use Rattle.std.proofs.Common.{◌≡◌, Bool, true, false, List, ℕ, Result, Ok, Err, ap}
use Rattle.std.specs.Prelude.{IfErr, IfOk}
use Rattle.image_reading.specs.declared.desc.Desc.{Desc}
use Rattle.image_reading.specs.declared.error.ImageError.{ImageError}
use Rattle.image_reading.specs.declared.error.SlotError.{SlotError}
use Rattle.image_reading.specs.declared.error.SlotError.TheVariants.{Image, Flash, NoMemory}
use Rattle.image_reading.specs.Fault.{IsFirstFault, IsFrontFault}
use Rattle.image_reading.specs.Image.{BeginsIntact, IsIntact}
use Rattle.image_reading.specs.Slot.{IsSlotFault}
use Rattle.image_reading.proofs.Descriptions.{front-unique, front_has_no_fault, intact-unique, intact_has_no_fault}
use Rattle.image_reading.proofs.FirstFaults.{first_fault-unique}

-- There is at most one description, at most one fault, and not both.
pub record IsAnswered (Intact : Desc → Type 0) (Fails : ImageError → Type 0) : Type 0 where
  pub description : (first second : Desc) → Intact first → Intact second → first ≡ second
  pub fault : (first second : ImageError) → Fails first → Fails second → first ≡ second
  pub apart : (description : Desc) (fault : ImageError) → Intact description → Fails fault → ⊥

-- This holds for complete bytes.
pub whole_answered : (bytes : List ℕ) → IsAnswered (IsIntact bytes) (IsFirstFault bytes)
whole_answered bytes = record {
  description = intact-unique bytes;
  fault = first_fault-unique bytes;
  apart = intact_has_no_fault bytes;
}

-- This holds for the image at the beginning of bytes.
pub front_answered : (bytes : List ℕ) → IsAnswered (BeginsIntact bytes) (IsFrontFault bytes)
front_answered bytes = record {
  description = front-unique bytes;
  fault = λ first second a b. first_fault-unique bytes first second a.0 b.0;
  apart = front_has_no_fault bytes;
}

-- If bytes in memory have a description or a fault, it is the result.
pub only_description : (Intact : Desc → Type 0) (Fails : ImageError → Type 0) (result : Result Desc ImageError)
    → IsAnswered Intact Fails → IfOk result Intact → IfErr result Fails
    → (description : Desc) → Intact description → result ≡ Ok description
only_description Intact Fails (Ok found) one described failed description intact =
    ap Ok (one.description found description described intact)
only_description Intact Fails (Err fault) one described failed description intact =
    absurd (one.apart description fault intact failed)

pub only_fault : (Intact : Desc → Type 0) (Fails : ImageError → Type 0) (result : Result Desc ImageError)
    → IsAnswered Intact Fails → IfOk result Intact → IfErr result Fails
    → (fault : ImageError) → Fails fault → result ≡ Err fault
only_fault Intact Fails (Ok found) one described failed fault fails =
    absurd (one.apart found fault described fails)
only_fault Intact Fails (Err first) one described failed fault fails = ap Err (one.fault first fault failed fails)

not_off : (was_on : Bool) → was_on ≡ true → was_on ≡ false → ⊥
not_off was_on on off = cc

-- If bytes in a flash that is on have a description or a fault, it is the result.
pub record IsOnlyInSlot (Intact : Desc → Type 0) (Fails : ImageError → Type 0) (was_on : Bool)
    (result : Result Desc SlotError) : Type 0 where
  pub only : was_on ≡ true → (description : Desc) → Intact description → result ≡ Ok description
  pub refused : was_on ≡ true → (fault : ImageError) → Fails fault → result ≡ Err (Image fault)

only_in_slot : (Intact : Desc → Type 0) (Fails : ImageError → Type 0) (was_on : Bool) (result : Result Desc SlotError)
    → IsAnswered Intact Fails → IfOk result Intact → IfErr result (IsSlotFault was_on Fails)
    → IsOnlyInSlot Intact Fails was_on result
only_in_slot Intact Fails was_on (Ok found) one described failed = record {
  only = λ on description intact. ap Ok (one.description found description described intact);
  refused = λ on fault fails. absurd (one.apart found fault described fails);
}
only_in_slot Intact Fails was_on (Err (Image first)) one described failed = record {
  only = λ on description intact. absurd (one.apart description first intact failed.1);
  refused = λ on fault fails. ap (λ (e : ImageError). Err (Image e)) (one.fault first fault failed.1 fails);
}
only_in_slot Intact Fails was_on (Err (Flash error)) one described failed = record {
  only = λ on description intact. absurd (not_off was_on on failed.0);
  refused = λ on fault fails. absurd (not_off was_on on failed.0);
}
only_in_slot Intact Fails was_on (Err NoMemory) one described failed = absurd failed

-- This holds for the image at the beginning of a slot.
pub only_front_in_slot : (bytes : List ℕ) (was_on : Bool) (result : Result Desc SlotError)
    → IfOk result (BeginsIntact bytes) → IfErr result (IsSlotFault was_on (IsFrontFault bytes))
    → IsOnlyInSlot (BeginsIntact bytes) (IsFrontFault bytes) was_on result
only_front_in_slot bytes was_on result described failed =
    only_in_slot (BeginsIntact bytes) (IsFrontFault bytes) was_on result (front_answered bytes) described failed

-- This holds for a file in a slot.
pub only_file_in_slot : (bytes : List ℕ) (was_on : Bool) (result : Result Desc SlotError)
    → IfOk result (IsIntact bytes) → IfErr result (IsSlotFault was_on (IsFirstFault bytes))
    → IsOnlyInSlot (IsIntact bytes) (IsFirstFault bytes) was_on result
only_file_in_slot bytes was_on result described failed =
    only_in_slot (IsIntact bytes) (IsFirstFault bytes) was_on result (whole_answered bytes) described failed

-- An error of a call that fills a place is the same error of a call that returns the description.
pub same_error : (first second : SlotError) → ◌≡◌ {A = Result Desc SlotError} (Err first) (Err second)
    → ◌≡◌ {A = Result Unit SlotError} (Err first) (Err second)
same_error first second e = cc

pub ok_no_error : (description : Desc) (fault : SlotError)
    → ◌≡◌ {A = Result Desc SlotError} (Ok description) (Err fault) → ⊥
ok_no_error description fault e = cc
