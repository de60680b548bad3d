-- Which files may be replaced, from what was read of them.
use Rattle.std.proofs.Common.{◌≡◌, ◌⊎◌, ℕ, Bool, List, [], ◌∷◌, None, Option, Some, inl, inr, length, subst, sym}
use Rattle.std.specs.Prelude.{Err, IfOk, Ok, Result, is_ok, true}
use Rattle.std.specs.Io.KnownBytes.{Keeps}
use Rattle.image_reading.specs.Image.{IsIntact}
use Rattle.image_reading.specs.declared.desc.Desc.{Desc}
use Rattle.image_reading.specs.declared.error.ImageError.{ImageError}
use Rattle.command_line.specs.declared.orders.NewFile.{NewFile}
use Rattle.host.specs.declared.answer.Answer.{Answer}
use Rattle.host.specs.declared.answer.Answer.TheVariants.{Done, Refused, Cut}
use Rattle.host.specs.Input.{FileBytes, IsKnownAs, KeepsFiles}
use Rattle.creating.specs.NewFileEnd.{HoldsImage, IsImage, MayReplace, Replaces}

-- A file whose bytes are described as an image is one.
pub HoldsImage-described : (known : Option (List ℕ)) (bytes : List ℕ) (described : Result Desc ImageError)
    → IsKnownAs known bytes → IfOk described (IsIntact bytes) → is_ok described ≡ true → HoldsImage known
HoldsImage-described None bytes described same intact good = tt
HoldsImage-described (Some held) bytes (Ok description) same intact good =
    inr (subst IsImage same (record { description = description; intact = intact }))
HoldsImage-described (Some held) bytes (Err fault) same intact good = absurd (cc good)

empty_known : (held bytes : List ℕ) → length bytes ≡ 0 → bytes ≡ held → held ≡ []
empty_known held [] none same = sym same
empty_known held (byte ∷ bytes) none same = absurd (cc none)

-- A file of which no byte is read is empty.
pub HoldsImage-empty : (known : Option (List ℕ)) (bytes : List ℕ) → length bytes ≡ 0 → IsKnownAs known bytes
    → HoldsImage known
HoldsImage-empty None bytes none same = tt
HoldsImage-empty (Some held) bytes none same = inl (empty_known held bytes none same)

may_replace_before : (forced : Bool) (old new : Option (List ℕ)) → Keeps old new → MayReplace forced new
    → MayReplace forced old
may_replace_before forced None new kept may = inr tt
may_replace_before forced (Some xs) None kept may = absurd kept
may_replace_before forced (Some xs) (Some ys) kept (inl is) = inl is
may_replace_before forced (Some xs) (Some ys) kept (inr holds) =
    inr (subst (λ held. (held ≡ []) ⊎ IsImage held) kept holds)

-- A file that may be replaced after all files were kept could be replaced before.
pub Replaces-before : (answer : Answer) (file : NewFile) (old new : FileBytes) → KeepsFiles old new
    → Replaces answer file new → Replaces answer file old
Replaces-before Done file old new kept may =
    may_replace_before file.is_forced (old file.name.now) (new file.name.now) (kept file.name.now) may
Replaces-before Refused file old new kept may = tt
Replaces-before Cut file old new kept may = tt
