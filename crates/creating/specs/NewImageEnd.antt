-- The result of `make-image`.
use Rattle.std.specs.Prelude.{◌≡◌, ℕ, List, [], ◌∷◌, ◌++◌, Option, codes, map, unwrap_or}
use Rattle.std.specs.Borrow.{Bor}
use Rattle.std.specs.Io.KnownBytes.{Appends}
use Rattle.std.specs.List.{AllZip}
use Rattle.version_order.specs.declared.dependency.Dependency.{Dependency}
use Rattle.tlv.specs.Codes.{make_code_of, make_name_of}
use Rattle.image_reading.specs.Image.{IsIntact, image_bytes}
use Rattle.tlv.specs.Making.{IsMakeFault, description_of, image_of}
use Rattle.tlv.specs.declared.make.error.MakeError.{MakeError}
use Rattle.tlv.specs.declared.make.spec.ImageSpec.{ImageSpec}
use Rattle.device_texts.specs.AnswerText.{refused_text}
use Rattle.command_line.specs.declared.orders.NewImage.{NewImage}
use Rattle.host.specs.declared.answer.Answer.{Answer}
use Rattle.host.specs.declared.answer.Answer.TheVariants.{Done, Refused, Cut}
use Rattle.host.specs.declared.source.Source.{Source}
use Rattle.host.specs.Input.{FileBytes, Gives, IsKnownAs}

-- A group has these alternatives.
abbrev pub AreAlternatives : List Dependency → Bor (List Dependency) → Type 0
AreAlternatives alternatives group = group.now ≡ alternatives

-- The values of the arguments, with this body. If they aren't given, the header has 32 bytes, and
-- the load address and the flags are 0.
pub record IsAskedImage (asked : NewImage) (content : List ℕ) (spec : ImageSpec) : Type 0 where
  pub load_address : spec.load_address ≡ unwrap_or asked.load_address 0
  pub header_size : spec.header_size ≡ unwrap_or asked.header_size 32
  pub flags : spec.flags ≡ unwrap_or asked.flags 0
  pub version : spec.version ≡ asked.version
  pub counter : spec.counter ≡ asked.counter
  pub dependencies : spec.dependencies.now ≡ asked.dependencies.items
  pub groups : AllZip AreAlternatives (map (λ group. group.items) asked.groups.items)
      spec.groups.now
  pub body : spec.body.now ≡ content

-- These bytes are the image of the arguments' values, with this body. The image is intact, and its
-- description is that of the values.
pub record IsImageFor (asked : NewImage) (body bytes : List ℕ) : Type 0 where
  pub spec : ImageSpec
  pub values : IsAskedImage asked body spec
  pub made : bytes ≡ image_bytes (image_of spec)
  pub intact : IsIntact bytes (description_of spec)

-- This is the first check that the arguments' values fail, with this body.
pub record RefusesImage (asked : NewImage) (body : List ℕ) (fault : MakeError) : Type 0 where
  pub spec : ImageSpec
  pub values : IsAskedImage asked body spec
  pub first : IsMakeFault spec fault

-- The answer of a command that is done.
abbrev pub done_text : List ℕ
done_text = codes "done" ++ 10 ∷ []

-- The line of the first check that fails: its number and its name.
abbrev pub fault_text : MakeError → List ℕ
fault_text fault = refused_text (make_code_of fault) (make_name_of fault)

-- The answer for an image with this body, what its file is known to hold after it, and the text
-- that a writer took.
abbrev pub AnswersMade : Answer → NewImage → List ℕ → Option (List ℕ)
    → Option (List ℕ) → Option (List ℕ) → Type 0
AnswersMade Done asked body held old new =
    (bytes : List ℕ) × IsImageFor asked body bytes × IsKnownAs held bytes
    × Appends old new done_text
AnswersMade Refused asked body held old new =
    (fault : MakeError) × RefusesImage asked body fault × Appends old new (fault_text fault)
AnswersMade Cut asked body held old new = ⊥

-- `make-image` read a body, and this is the answer for the image with that body.
abbrev pub AnswersNewImage : Answer → Source → NewImage → Option (List ℕ) → FileBytes
    → Option (List ℕ) → Option (List ℕ) → Option (List ℕ) → Type 0
AnswersNewImage answer source asked input files held old new =
    (body : List ℕ) × Gives source input files body
    × AnswersMade answer asked body held old new
