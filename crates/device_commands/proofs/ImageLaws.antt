-- Image files that are read in turn and put onto the bytes of a new flash.
use Rattle.std.proofs.Common.{◌≡◌, ◌⊎◌, ℕ, zero, suc, ◌+◌, ◌*◌, ◌<◌, ◌≤◌, List, [], ◌∷◌, ◌++◌, Option, Some, length, get_or, take, inl, inr, refl, ap, sym, ◌∙◌, subst, ⊎_elim, append_assoc, length-append, replicate, unwrap_or, arith, IfSome}
use Rattle.std.specs.List.{AllZip, slice_get}
use Rattle.std.specs.Borrow.{Bor}
use Rattle.std.proofs.lemmas.List.{get_or_default}
use Rattle.std.proofs.lemmas.Option.{none-some, slice_get-get_or}
use Rattle.common.proofs.Mapped.{AllZip-more}
use Rattle.flash_model.specs.Torn.{replaced}
use Rattle.flash_model.proofs.TornBytes.{length-replaced}
use Rattle.sector_map.specs.declared.layout.SectorMap.{SectorMap}
use Rattle.sector_map.specs.declared.layout.Side.TheVariants.{Primary}
use Rattle.sector_map.specs.Map.{IsMap, first_of, length_of, sectors_of, slot_sectors, start_of}
use Rattle.sector_map.specs.Part.{Slot}
use Rattle.sector_map.proofs.Products.{mul_le}
use Rattle.sector_map.proofs.Places.{before_within}
use Rattle.host.specs.declared.source.Source.{Source}
use Rattle.device_texts.specs.FlashOf.{IsFlashOf}
use Rattle.host.specs.Input.{FileBytes, Gives, IsNamed, KeepsFiles, KeepsOthers}
use Rattle.host.specs.Inputs.{GiveEach, names_of}
use Rattle.device_commands.specs.ProvisionEnd.{new_flash, with_files}
use Rattle.host.proofs.InputLaws.{GiveEach-read, KeepsFiles-itself, KeepsFiles-twice}

-- A primary slot lies in the flash.
pub slot_within : (map : SectorMap) (image : ℕ) → IsMap map → image < map.images
    → start_of map (Slot image Primary) + length_of map (Slot image Primary) ≤ sectors_of map * map.sector_size
slot_within map image fits there =
    let first = first_of map (Slot image Primary) in
    let below : first + slot_sectors map image ≤ sectors_of map = omega (arith, before_within map image fits there) in
    grind (arith, mul_le (first + slot_sectors map image) (sectors_of map) map.sector_size below)

-- One more file is put last, in the next slot.
with_files-push : (map : SectorMap) (first : ℕ) (files : List (List ℕ)) (file bytes : List ℕ)
    → with_files map first (files ++ file ∷ []) bytes
    ≡ replaced (start_of map (Slot (first + length files) Primary)) file (with_files map first files bytes)
with_files-push map first [] file bytes =
    let same : first ≡ first + 0 = omega arith in
    ap (λ n. replaced (start_of map (Slot n Primary)) file bytes) same
with_files-push map first (next ∷ files) file bytes =
    let put = replaced (start_of map (Slot first Primary)) next bytes in
    let count : first + 1 + length files ≡ first + suc (length files) = omega arith in
    with_files-push map (first + 1) files file put
    ∙ ap (λ n. replaced (start_of map (Slot n Primary)) file (with_files map (first + 1) files put)) count

-- An element of a list that is longer by one is the last, or one of the list.
slice_get-push : {X : Type 0} (xs : List X) (last x : X) (i : ℕ) → slice_get (xs ++ last ∷ []) i ≡ Some x
    → (slice_get xs i ≡ Some x) ⊎ ((i ≡ length xs) × (x ≡ last))
slice_get-push [] last x zero is = inr (refl, sym (ap (λ o. unwrap_or o last) is))
slice_get-push [] last x (suc i) is = absurd (none-some x is)
slice_get-push (y ∷ xs) last x zero is = inl is
slice_get-push (y ∷ xs) last x (suc i) is = ⊎_elim
    (λ (one : slice_get xs i ≡ Some x). inl one)
    (λ (new : (i ≡ length xs) × (x ≡ last)). inr (ap (λ n. suc n) new.0, new.1))
    (slice_get-push xs last x i is)

-- The first `count` files were read and put onto a new flash. The host is now at this state.
pub record AreRead (map : SectorMap) (names : List (Bor (List ℕ))) (count : ℕ)
    (old_input : Option (List ℕ)) (old_file : FileBytes) (input : Option (List ℕ)) (file : FileBytes)
    (bytes : List ℕ) : Type 0 where
  pub sources : List Source
  pub contents : List (List ℕ)
  pub named : AllZip IsNamed (names_of (take count names)) sources
  pub given : (rest : List Source) (more : List (List ℕ)) → GiveEach rest input file more
      → GiveEach (sources ++ rest) old_input old_file (contents ++ more)
  pub counted : length contents ≡ count
  pub fit : (i : ℕ) (content : List ℕ) → slice_get contents i ≡ Some content
      → length content ≤ length_of map (Slot i Primary)
  pub put : bytes ≡ new_flash map contents
  pub whole : IsFlashOf map bytes
  pub kept : KeepsFiles old_file file

-- No file was read.
pub AreRead-none : (map : SectorMap) (names : List (Bor (List ℕ))) (input : Option (List ℕ))
    (file : FileBytes) (bytes : List ℕ) → bytes ≡ new_flash map [] → IsFlashOf map bytes
    → AreRead map names 0 input file input file bytes
AreRead-none map names input file bytes put whole = record {
  sources = [];
  contents = [];
  named = tt;
  given = λ rest more given. given;
  counted = refl;
  fit = λ i content is. absurd (none-some content is);
  put = put;
  whole = whole;
  kept = KeepsFiles-itself file;
}

-- The next argument names the next source.
named_more : (names : List (Bor (List ℕ))) (count : ℕ) (sources : List Source) (source : Source)
    → count < length names → IfSome (slice_get names count) (λ name. IsNamed name.now source)
    → AllZip IsNamed (names_of (take count names)) sources
    → AllZip IsNamed (names_of (take (count + 1) names)) (sources ++ source ∷ [])
named_more [] count sources source within named before = absurd (omega arith)
named_more (name ∷ names) count sources source within named before =
    let next = get_or (name ∷ names) count name in
    let found = slice_get-get_or (name ∷ names) count name within in
    AllZip-more IsNamed (λ word. word.now) (name ∷ names) sources count next source within
    (get_or_default (name ∷ names) count name next within) before
    (subst (λ some. IfSome some (λ word. IsNamed word.now source)) found named)

-- One more file was read and put at the front of its slot.
pub AreRead-more : (map : SectorMap) (names : List (Bor (List ℕ))) (count : ℕ)
    (old_input : Option (List ℕ)) (old_file : FileBytes) (input : Option (List ℕ)) (file : FileBytes)
    (new_input : Option (List ℕ)) (new_file : FileBytes) (bytes new_bytes : List ℕ)
    (source : Source) (content : List ℕ)
    → IsMap map → count < map.images → count < length names
    → IfSome (slice_get names count) (λ name. IsNamed name.now source) → Gives source input file content
    → KeepsOthers source input file new_input new_file → KeepsFiles file new_file
    → length content ≤ length_of map (Slot count Primary)
    → new_bytes ≡ replaced (start_of map (Slot count Primary)) content bytes
    → AreRead map names count old_input old_file input file bytes
    → AreRead map names (count + 1) old_input old_file new_input new_file new_bytes
AreRead-more map names count old_input old_file input file new_input new_file bytes new_bytes source content
    fits there within named gives keeps files_kept short put before =
    let sources = before.sources in
    let contents = before.contents in
    let inside : start_of map (Slot count Primary) + length content ≤ length bytes =
    omega (arith, slot_within map count fits there, before.whole) in
    let place : count ≡ 0 + length contents = omega (arith, before.counted) in
    record {
      sources = sources ++ source ∷ [];
      contents = contents ++ content ∷ [];
      named = named_more names count sources source within named before.named;
      given = λ rest more given. simp append_assoc (before.given (source ∷ rest) (content ∷ more)
          (GiveEach-read source rest input new_input file new_file content more gives keeps given));
      counted = rw (length-append, before.counted) refl;
      fit = λ i one at. ⊎_elim
          (λ (old : slice_get contents i ≡ Some one). before.fit i one old)
          (λ (new : (i ≡ length contents) × (one ≡ content)). rw (new.0, new.1, before.counted) short)
          (slice_get-push contents content one i at);
      put = put ∙ ap (λ all. replaced (start_of map (Slot count Primary)) content all) before.put
          ∙ ap (λ n. replaced (start_of map (Slot n Primary)) content (new_flash map contents)) place
          ∙ sym (with_files-push map 0 contents content (replicate (sectors_of map * map.sector_size) 0xff));
      whole = ap (λ all. length all) put ∙ length-replaced (start_of map (Slot count Primary)) content bytes inside
          ∙ before.whole;
      kept = KeepsFiles-twice old_file file new_file before.kept files_kept;
    }
