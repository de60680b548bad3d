-- Images at the start of a slot.
use Rattle.std.proofs.Common.{◌≡◌, ℕ, List, [], ◌∷◌, ◌++◌, true, refl, sym, ◌∙◌, ap, subst, append_assoc}
use Rattle.trailer.specs.Standing.{first_is_set}
use Rattle.image_reading.specs.declared.desc.Desc.{Desc}
use Rattle.image_reading.specs.Image.{BeginsWithImage, Image, IsIntact, image_bytes}
use Rattle.image_reading.proofs.ImageLaws.{image-unique}
use Rattle.common.specs.Bytes.{Starts}

-- An image at the start of a prefix is at the start of the complete bytes.
front_image : (whole bytes : List ℕ) (image : Image) (starts : Starts whole bytes) → BeginsWithImage bytes image []
    → BeginsWithImage whole image starts.0
front_image whole bytes image starts begins = record {
  formed = begins.formed;
  parts = starts.1 ∙ ap (λ l. l ++ starts.0) begins.parts ∙ append_assoc (image_bytes image) [] starts.0;
}

-- A slot begins with at most one image.
pub same_front : (whole first second : List ℕ) (a b : Desc) → Starts whole first → Starts whole second
    → IsIntact first a → IsIntact second b → first ≡ second
same_front whole first second a b one two x y =
    let same = (image-unique whole x.0 y.0 one.0 two.0 (front_image whole first x.0 one x.1)
    (front_image whole second y.0 two y.1)).0 in
    x.1.parts ∙ ap (λ image. image_bytes image ++ []) same ∙ sym y.1.parts

-- An image begins with the magic number, so the first unit of its slot is set.
set_of : (whole rest : List ℕ) → whole ≡ 0x3d ∷ rest → first_is_set whole ≡ true
set_of whole rest is = subst (λ l. first_is_set l ≡ true) (sym is) refl

pub image_is_set : (whole bytes : List ℕ) (description : Desc) → Starts whole bytes → IsIntact bytes description
    → first_is_set whole ≡ true
image_is_set whole bytes description starts intact =
    set_of whole _ ((front_image whole bytes intact.0 starts intact.1).parts ∙ refl)
