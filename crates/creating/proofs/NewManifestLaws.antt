-- Files that are read one by one, and the components that admit them.
use Rattle.std.proofs.Common.{◌≡◌, ℕ, ◌+◌, ◌<◌, ◌≤◌, ◌&&◌, Bor, List, [], ◌∷◌, ◌++◌, Option, Some, None, add-one, append_assoc, ap, arith, get_or, length, map, refl, subst, sym, take, ◌∙◌, true, false, Bool}
use lib.Dec.{eqb}
use lib.Pointwise.{pointwise}
use mathlib.Core.Bool.{beq}
use Rattle.std.proofs.lemmas.Bool.{and_parts, eqb-true, false≢true}
use Rattle.std.proofs.lemmas.List.{append-nil, get_or_default, map-append, take_all}
use Rattle.std.specs.Cmp.{booleans_Decides}
use Rattle.std.specs.Cmp.Lexicographic.{same_text}
use Rattle.std.specs.Option.{option_eq}
use Rattle.std.specs.List.{AllZip}
use Rattle.std.specs.Prelude.{Any}
use Rattle.std.proofs.Math.Seq.{take-suc}
use Rattle.common.proofs.Mapped.{AllZip-push}
use Rattle.flash_model.specs.Chip.{Chip}
use Rattle.manifest.specs.declared.manifest.Component.{Component}
use Rattle.sector_map.specs.declared.layout.SectorMap.{SectorMap}
use Rattle.device_texts.specs.FlashOf.{IsFlashOf, flash_of}
use Rattle.command_line.specs.declared.orders.NewComponent.{NewComponent}
use Rattle.command_line.specs.declared.orders.NewManifest.{NewManifest}
use Rattle.host.specs.declared.source.Source.{Source}
use Rattle.host.specs.Input.{FileBytes, Gives, IsNamed, KeepsOthers}
use Rattle.host.specs.Inputs.{GiveEach}
use Rattle.host.proofs.InputLaws.{GiveEach-one, GiveEach-read}
use Rattle.creating.specs.NewManifestEnd.{IsAskedFor, LetsCome, file_names}
use Rattle.creating.specs.NewManifestSteps.{ArePrecursors, FindsNone, FindsPrecursors, IsOfKind, ReadsComponent, ReadsComponents, ReadsPrecursors, precursors_of}
use Rattle.creating.specs.declared.precursors.Precursors.{Precursors}
use Rattle.creating.specs.declared.precursors.Precursors.TheVariants.{Are, DamagedAt}

-- Precursors that compare as equal are equal.
same_precursor : (x y : Option (List ℕ)) → option_eq (pointwise eqb) x y ≡ true → x ≡ y
same_precursor None None same = refl
same_precursor None (Some y) same = absurd (false≢true same)
same_precursor (Some x) None same = absurd (false≢true same)
same_precursor (Some x) (Some y) same = ap Some (same_text x y (sym same))

-- The result of comparing two components.
abbrev are_same : Component → Component → Bool
are_same x y =
    eqb x.image y.image && (beq x.permanent y.permanent && (eqb x.size y.size
    && (pointwise eqb x.digest y.digest && option_eq (pointwise eqb) x.precursor y.precursor)))

component_of : ℕ → Bool → ℕ → List ℕ → Option (List ℕ) → Component
component_of image permanent size digest precursor =
    record { image = image; permanent = permanent; size = size; digest = digest; precursor = precursor }

same_component : (x y : Component) → are_same x y ≡ true → x ≡ y
unfolding component_of
same_component x y same =
    let first = and_parts _ _ same in
    let second = and_parts _ _ first.1 in
    let third = and_parts _ _ second.1 in
    let fourth = and_parts _ _ third.1 in
    ap (λ i. component_of i x.permanent x.size x.digest x.precursor) (eqb-true x.image y.image first.0)
    ∙ ap (λ p. component_of y.image p x.size x.digest x.precursor) ((booleans_Decides x.permanent y.permanent).0 second.0)
    ∙ ap (λ n. component_of y.image y.permanent n x.digest x.precursor) (eqb-true x.size y.size third.0)
    ∙ ap (λ d. component_of y.image y.permanent y.size d x.precursor) (same_text x.digest y.digest (sym fourth.0))
    ∙ ap (λ o. component_of y.image y.permanent y.size y.digest o) (same_precursor x.precursor y.precursor fourth.1)

-- Components that compare as equal are equal.
pub same_components : (xs ys : List Component) → pointwise are_same xs ys ≡ true → xs ≡ ys
same_components [] [] same = refl
same_components [] (y ∷ ys) same = absurd (false≢true same)
same_components (x ∷ xs) [] same = absurd (false≢true same)
same_components (x ∷ xs) (y ∷ ys) same =
    let both = and_parts _ _ same in
    ap (λ z. z ∷ xs) (same_component x y both.0) ∙ ap (λ zs. y ∷ zs) (same_components xs ys both.1)

-- A component of no file, as a default.
pub nothing : NewComponent
nothing = record { image = 0; permanent = false; file = record { ref_ptr = (0, 0); now = [] } }

-- The relation holds at one more place.
pub zip_more : {A B : Type 0} (R : A → B → Type 0) (xs : List A) (ys : List B) (place : ℕ) (d : A) (y : B)
    → place < length xs → AllZip R (take place xs) ys → R (get_or xs place d) y
    → AllZip R (take (place + 1) xs) (ys ++ y ∷ [])
zip_more R xs ys place d y within each holds =
    rw (add-one, take-suc xs place d within) (AllZip-push R (take place xs) ys (get_or xs place d) y each holds)

-- The file at a place is for its image.
pub any_at : (asked : List NewComponent) (place : ℕ) (d : NewComponent) → place < length asked
    → Any (λ component. component.image ≡ (get_or asked place d).image) asked
any_at asked place d within =
    (place, get_or asked place d, within, sym (get_or_default asked place d (get_or asked place d) within), refl)

-- If no flash is given, none was read.
pub none_read : (map : SectorMap) (asked : NewManifest) (input : Option (List ℕ)) (files : FileBytes)
    (found : Precursors) → asked.precursor ≡ None → FindsNone asked.components.items found
    → ReadsPrecursors map asked input files input files found
none_read map asked input files (Are running) lacks none = record {
  flash = None;
  sources = [];
  contents = [];
  named = rw lacks tt;
  before = λ rest more given. given;
  is_flash = tt;
  are = none;
}
none_read map asked input files (DamagedAt image) lacks none = absurd none

-- If a flash is given, it was read.
pub flash_read : (map : SectorMap) (asked : NewManifest) (name : Bor (List ℕ)) (source : Source) (bytes : List ℕ)
    (input : Option (List ℕ)) (files : FileBytes) (new_input : Option (List ℕ)) (new_files : FileBytes)
    (found : Precursors) → asked.precursor ≡ Some name → IsNamed name.now source
    → Gives source input files bytes → KeepsOthers source input files new_input new_files
    → IsFlashOf map bytes → FindsPrecursors map (flash_of map bytes) asked.components.items found
    → ReadsPrecursors map asked input files new_input new_files found
flash_read map asked name source bytes input files new_input new_files (Are running) some named gives kept whole finds =
    record {
      flash = Some (flash_of map bytes);
      sources = source ∷ [];
      contents = bytes ∷ [];
      named = rw some (named, tt);
      before = λ rest more given. GiveEach-read source rest input new_input files new_files bytes more gives kept given;
      is_flash = (whole, refl);
      are = finds;
    }
flash_read map asked name source bytes input files new_input new_files (DamagedAt image) some named gives kept whole finds =
    record {
      sources = source ∷ [];
      bytes = bytes;
      named = rw some (named, tt);
      given = GiveEach-one source input files bytes gives;
      is_flash = whole;
      asked_for = finds.0;
      damaged = finds.1;
    }

-- The first `count` files were read, and these components admit them. The host is now at this
-- state.
pub record AreRead (asked : List NewComponent) (follow : List (Option (List ℕ))) (count : ℕ)
    (old_input : Option (List ℕ)) (old_files : FileBytes) (input : Option (List ℕ))
    (files : FileBytes) (components : List Component) : Type 0 where
  pub sources : List Source
  pub contents : List (List ℕ)
  pub named : AllZip IsNamed (file_names (take count asked)) sources
  pub given : (rest : List Source) (more : List (List ℕ)) → GiveEach rest input files more
      → GiveEach (sources ++ rest) old_input old_files (contents ++ more)
  pub kinds : AllZip IsOfKind (take count asked) components
  pub precursors : precursors_of components ≡ take count follow
  pub come : AllZip LetsCome contents components

-- No file was read.
pub AreRead-none : (asked : List NewComponent) (follow : List (Option (List ℕ)))
    (input : Option (List ℕ)) (files : FileBytes)
    → AreRead asked follow 0 input files input files []
AreRead-none asked follow input files = record {
  sources = [];
  contents = [];
  named = tt;
  given = λ rest more given. given;
  kinds = tt;
  precursors = refl;
  come = tt;
}

-- One more file was read.
pub AreRead-more : (asked : List NewComponent) (follow : List (Option (List ℕ))) (count : ℕ)
    (old_input : Option (List ℕ)) (old_files : FileBytes) (input : Option (List ℕ))
    (files : FileBytes) (new_input : Option (List ℕ)) (new_files : FileBytes)
    (components : List Component) (one : NewComponent) (digest : Option (List ℕ)) (component : Component)
    → count < length asked → count < length follow
    → one ≡ get_or asked count one → digest ≡ get_or follow count digest
    → ReadsComponent one digest input files new_input new_files component
    → AreRead asked follow count old_input old_files input files components
    → AreRead asked follow (count + 1) old_input old_files new_input new_files (components ++ component ∷ [])
AreRead-more asked follow count old_input old_files input files new_input new_files components one digest component
    within inside is_one is_digest reads before =
    let source = reads.source in
    let content = reads.content in
    let next : take (count + 1) asked ≡ take count asked ++ one ∷ [] =
    rw (add-one, take-suc asked count one within, ← is_one) refl in
    let later : take (count + 1) follow ≡ take count follow ++ digest ∷ [] =
    rw (add-one, take-suc follow count digest inside, ← is_digest) refl in
    record {
      sources = before.sources ++ source ∷ [];
      contents = before.contents ++ content ∷ [];
      named = rw (next, map-append) (AllZip-push IsNamed (file_names (take count asked)) before.sources one.file.now source
          before.named reads.named);
      given = λ rest more given. simp append_assoc (before.given (source ∷ rest) (content ∷ more)
          (GiveEach-read source rest input new_input files new_files content more reads.given reads.kept given));
      kinds = rw next (AllZip-push IsOfKind (take count asked) components one component before.kinds reads.kind);
      precursors = rw (later, map-append, before.precursors, reads.precursor) refl;
      come = AllZip-push LetsCome before.contents components content component before.come reads.come;
    }

-- All files were read.
pub AreRead-all : (asked : List NewComponent) (follow : List (Option (List ℕ))) (count : ℕ)
    (old_input : Option (List ℕ)) (old_files : FileBytes) (input : Option (List ℕ))
    (files : FileBytes) (components : List Component)
    → length asked ≤ count → length follow ≡ length asked
    → AreRead asked follow count old_input old_files input files components
    → ReadsComponents asked follow old_input old_files components
AreRead-all asked follow count old_input old_files input files components all same read =
    let whole : take count asked ≡ asked = take_all count asked all in
    let each : take count follow ≡ follow = take_all count follow (omega (arith, all, same)) in
    record {
      sources = read.sources;
      contents = read.contents;
      named = subst (λ some. AllZip IsNamed (file_names some) read.sources) whole read.named;
      given = simp append-nil at (read.given [] [] tt);
      kinds = subst (λ some. AllZip IsOfKind some components) whole read.kinds;
      precursors = read.precursors ∙ each;
      come = read.come;
    }

-- If each component has the image and the kind of the arguments, and the precursor that runs, it is
-- the one of the arguments.
pub asked_for : (map : SectorMap) (flash : Option Chip) (asked : List NewComponent) (components : List Component)
    → AllZip IsOfKind asked components → ArePrecursors map flash asked (precursors_of components)
    → AllZip (IsAskedFor map flash) asked components
asked_for map flash [] [] kinds are = tt
asked_for map flash [] (y ∷ components) kinds are = absurd kinds
asked_for map flash (x ∷ asked) [] kinds are = absurd kinds
asked_for map flash (x ∷ asked) (y ∷ components) kinds are = (
  record { image = kinds.0.0; permanent = kinds.0.1; precursor = are.0 },
  asked_for map flash asked components kinds.1 are.1,
)
