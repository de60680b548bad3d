-- The meaning of an order, according to the matches that `clap` returns for the arguments.
use Rattle.std.specs.Prelude.{◌≡◌, ℕ, ◌==◌, ◌^◌, ◌<◌, ◌≤◌, Bool, false, true, IsSomeAnd, List, [], ◌∷◌, ◌++◌, Option, Some, None, codes, if◌then◌else◌, length, map, nat_lt, option_and_then, option_map, option_to_list, unwrap_or}
use Rattle.std.specs.Borrow.{Bor}
use Rattle.std.specs.List.{AllZip, after_first, before_first, position_or_len, slice_split}
use Rattle.std.specs.Option.{option_map_or}
use Rattle.std.specs.Str.{bytes_eq}
use Rattle.clap.specs.Words.{Row, Text, all_of, fault_of, first_of, subcommand_of}
use Rattle.clap.specs.declared.error.kind.ErrorKind.{ErrorKind}
use Rattle.common.specs.Ascii.{number_below, number_of}
use Rattle.common.specs.Limits.{MOST_IMAGES, MOST_TRIAL_BOOTS}
use Rattle.sector_map.specs.declared.layout.Side.{Side}
use Rattle.sector_map.specs.declared.layout.Side.TheVariants.{Primary, Secondary}
use Rattle.version_order.specs.declared.dependency.Dependency.{Dependency}
use Rattle.version_order.specs.declared.version.Version.{Version}
use Rattle.version_order.specs.VersionText.{version_of}
use Rattle.command_line.specs.Commands.{bootswap, name_for}
use Rattle.command_line.specs.DeviceOrders as of_device
use Rattle.command_line.specs.ReadOrders as of_reading
use Rattle.command_line.specs.declared.device_orders.DeviceOrder.{DeviceOrder}
use Rattle.command_line.specs.declared.commands.Subcommand.{Subcommand}
use Rattle.command_line.specs.declared.commands.Subcommand.TheVariants as sub
use Rattle.command_line.specs.Given.{IsNamed, is_given, is_standard_input, misuse_kind, standard_inputs}
use Rattle.command_line.specs.Needs.{AreNeeds, IsBracketed, IsNeed}
use Rattle.command_line.specs.Sizes.{size_of}
use Rattle.command_line.specs.declared.orders.NewDevice.{NewDevice}
use Rattle.command_line.specs.declared.orders.NewComponent.{NewComponent}
use Rattle.command_line.specs.declared.orders.NewFile.{NewFile}
use Rattle.command_line.specs.declared.orders.NewImage.{NewImage}
use Rattle.command_line.specs.declared.orders.NewManifest.{NewManifest}
use Rattle.command_line.specs.declared.orders.Order.{Order}
use Rattle.command_line.specs.declared.orders.PlanOrder.{PlanOrder}
use Rattle.command_line.specs.declared.orders.PlanOrder.TheVariants.{Fleet, Merge}
use Rattle.command_line.specs.declared.orders.RequestedFile.{RequestedFile}
use Rattle.command_line.specs.declared.orders.SweepChoices.{SweepChoices}
use Rattle.command_line.specs.declared.orders.SweepPart.{SweepPart}
use Rattle.command_line.specs.declared.orders.Order.TheVariants.{Read, Plan, MakeDevice, MakeImage, MakeManifest, Device, Extract, Sweep, MergeSweeps}
use Rattle.command_line.specs.declared.read_orders.ReadOrder.{ReadOrder}

-- The subcommand of any order.
abbrev pub subcommand_for : Order → Subcommand
subcommand_for (Read order) = of_reading.subcommand_for order
subcommand_for (Plan order) = sub.Plan
subcommand_for (MakeDevice device) = sub.MakeDevice
subcommand_for (MakeImage image body values) = sub.MakeImage
subcommand_for (MakeManifest device manifest) = sub.MakeManifest
subcommand_for (Device order) = of_device.subcommand_for order
subcommand_for (Extract device flash image side out) = sub.Extract
subcommand_for (Sweep device script images choices) = sub.Sweep
subcommand_for (MergeSweeps outputs picture forced) = sub.Sweep

-- A word is this number: it has only digits, and is below 2 ^ 32.
abbrev pub IsNumber : Text → ℕ → Type 0
IsNumber word number = number_of word ≡ Some number

-- The number that the matches have for an argument.
abbrev pub number_at : Text → List Row → Option ℕ
number_at argument rows = option_and_then number_of (first_of argument rows)

-- The size or address that the matches have for an argument.
abbrev pub size_at : Text → List Row → Option ℕ
size_at argument rows = option_and_then size_of (first_of argument rows)

-- The words of a text that are separated by commas.
abbrev pub words_of : Text → List Text
words_of text = slice_split (λ byte. byte == 44) text

-- The number of boots of a trial that the matches have, if they have one.
abbrev pub HasTrialBoots : List Row → Option ℕ → Type 0
HasTrialBoots rows None = first_of (codes "trial-boots") rows ≡ None
HasTrialBoots rows (Some boots) =
    (number_at (codes "trial-boots") rows ≡ Some boots) × (1 ≤ boots)
    × (boots ≤ MOST_TRIAL_BOOTS)

-- The matches of `make-device` describe this device.
pub record SaysDevice (rows : List Row) (device : NewDevice) : Type 0 where
  pub sector_size : size_at (codes "sector") rows ≡ Some device.sector_size
  pub sectors : IsSomeAnd (first_of (codes "slots") rows)
      (λ text. AllZip IsNumber (words_of text) device.sectors.items)
  pub vendor : IsNamed rows (codes "vendor") device.vendor.now
  pub class : IsNamed rows (codes "class") device.class.now
  pub trial_boots : HasTrialBoots rows device.trial_boots

-- The number below a limit that the matches have for an argument, if they have one.
abbrev pub HasNumber : Text → ℕ → List Row → Option ℕ → Type 0
HasNumber argument limit rows None = first_of argument rows ≡ None
HasNumber argument limit rows (Some number) =
    (number_at argument rows ≡ Some number) × (number < limit)

-- The size or address below a limit that the matches have for an argument, if they have one.
abbrev pub HasSize : Text → ℕ → List Row → Option ℕ → Type 0
HasSize argument limit rows None = first_of argument rows ≡ None
HasSize argument limit rows (Some size) =
    (size_at argument rows ≡ Some size) × (size < limit)

-- The version that the matches have.
abbrev pub version_at : List Row → Option Version
version_at rows = option_and_then version_of (first_of (codes "version") rows)

-- All that the matches have for an argument.
abbrev pub texts_at : Text → List Row → List Text
texts_at argument rows = unwrap_or (all_of argument rows) []

-- The matches of `make-image` name these dependencies: those of `--needs`, then those in brackets.
pub record SaysDependencies (rows : List Row) (dependencies : List Dependency) : Type 0 where
  pub needs : List Dependency
  pub bracketed : List Dependency
  pub are_needs : AllZip IsNeed (texts_at (codes "needs") rows) needs
  pub are_bracketed : AllZip IsBracketed (texts_at (codes "dependencies") rows) bracketed
  pub all : dependencies ≡ needs ++ bracketed

-- The matches of `make-image` describe this image.
pub record SaysImage (rows : List Row) (image : NewImage) : Type 0 where
  pub version : version_at rows ≡ Some image.version
  pub counter : HasNumber (codes "counter") (2 ^ 32) rows image.counter
  pub dependencies : SaysDependencies rows image.dependencies.items
  pub groups : AllZip (λ text group. AreNeeds text group.items)
      (texts_at (codes "needs-one") rows) image.groups.items
  pub header_size : HasSize (codes "header-size") (2 ^ 16) rows image.header_size
  pub load_address : HasSize (codes "load-address") (2 ^ 32) rows image.load_address
  pub flags : HasSize (codes "flags") (2 ^ 32) rows image.flags

-- `=`, which separates the number of an image from the name of a file.
abbrev pub is_equals_sign : ℕ → Bool
is_equals_sign byte = byte == 61

-- A value names this file and its image, as a permanent one or for a test: the number of the image,
-- `=`, and the name of the file, which is all that follows the first `=`.
pub record IsComponent (kind : Bool) (word : Text) (component : NewComponent) : Type 0 where
  pub parted : position_or_len is_equals_sign word < length word
  pub image : number_below 256 (before_first is_equals_sign word) ≡ Some component.image
  pub file : component.file.now ≡ after_first is_equals_sign word
  pub permanent : component.permanent ≡ kind

-- Values name these files, one each.
abbrev pub AreComponents : Bool → List Text → List NewComponent → Type 0
AreComponents kind words components = AllZip (IsComponent kind) words components

-- The matches of `make-manifest` name these files: one to eight, those for a test before the
-- permanent ones.
pub record SaysComponents (rows : List Row) (components : List NewComponent) : Type 0 where
  pub tests : List NewComponent
  pub permanent : List NewComponent
  pub are_tests : AreComponents false (texts_at (codes "test") rows) tests
  pub are_permanent : AreComponents true (texts_at (codes "permanent") rows) permanent
  pub all : components ≡ tests ++ permanent
  pub some : 0 < length components
  pub most : length components ≤ MOST_IMAGES

-- The matches of `make-manifest` describe this manifest.
pub record SaysManifest (rows : List Row) (manifest : NewManifest) : Type 0 where
  pub sequence : number_at (codes "sequence") rows ≡ Some manifest.sequence
  pub precursor : option_map (λ flash. flash.now) manifest.precursor
      ≡ first_of (codes "precursor") rows
  pub components : SaysComponents rows manifest.components.items
  pub strict : manifest.is_strict ≡ is_given (codes "strict") rows

-- `/`, which separates the number of a part from the number of parts.
abbrev pub is_slash : ℕ → Bool
is_slash byte = byte == 47

-- A value names this part of a sweep: its number, `/`, and the number of parts.
pub record IsSweepPart (word : Text) (part : SweepPart) : Type 0 where
  pub parted : position_or_len is_slash word < length word
  pub number : IsNumber (before_first is_slash word) part.number
  pub parts : IsNumber (after_first is_slash word) part.parts
  pub first : 1 ≤ part.number
  pub last : part.number ≤ part.parts

-- The part of a sweep that the matches have, if they have one.
abbrev pub HasSweepPart : List Row → Option SweepPart → Type 0
HasSweepPart rows None = first_of (codes "part") rows ≡ None
HasSweepPart rows (Some part) =
    IsSomeAnd (first_of (codes "part") rows) (λ word. IsSweepPart word part)

-- The picture that the matches have, if they have one.
abbrev pub HasPicture : List Row → Option (Bor Text) → Type 0
HasPicture rows picture = option_map (λ file. file.now) picture ≡ first_of (codes "svg") rows

-- The matches have these options of a sweep.
pub record SaysSweep (rows : List Row) (choices : SweepChoices) : Type 0 where
  pub twice : choices.is_twice ≡ is_given (codes "twice") rows
  pub sample : HasNumber (codes "sample") (2 ^ 32) rows choices.sample
  pub seed : HasNumber (codes "seed") (2 ^ 32) rows choices.seed
  pub part : HasSweepPart rows choices.part
  pub picture : HasPicture rows choices.picture
  pub forced : choices.is_forced ≡ is_given (codes "force") rows

-- The matches name the files of a sweep: the device file, the script, and at least one image.
pub record NamesSweep (rows : List Row) (device script : Text) (images : List Text) : Type 0 where
  pub files : all_of (codes "FILE") rows ≡ Some (device ∷ script ∷ images)
  pub some : 0 < length images
  pub swept : is_given (codes "merge") rows ≡ false

-- The matches name outputs of sweeps that are to be merged. They have no option of a sweep but the
-- picture.
pub record NamesOutputs (rows : List Row) (outputs : List Text) : Type 0 where
  pub files : all_of (codes "FILE") rows ≡ Some outputs
  pub merged : is_given (codes "merge") rows ≡ true
  pub once : is_given (codes "twice") rows ≡ false
  pub no_sample : first_of (codes "sample") rows ≡ None
  pub no_seed : first_of (codes "seed") rows ≡ None
  pub no_part : first_of (codes "part") rows ≡ None

-- A value names this file and the image that it is requested as: the number of the image, below 8,
-- `=`, and the name of the file, which is all that follows the first `=`, and isn't `-`.
pub record IsRequestedFile (word : Text) (requested : RequestedFile) : Type 0 where
  pub parted : position_or_len is_equals_sign word < length word
  pub image : number_below 256 (before_first is_equals_sign word) ≡ Some requested.image
  pub there : requested.image < 8
  pub file : requested.file.now ≡ after_first is_equals_sign word
  pub plain : is_standard_input requested.file ≡ false

-- The matches name one fleet, and these images that are requested.
pub record SaysFleet (rows : List Row) (fleet : Text) (requests : List RequestedFile) (is_summary : Bool) : Type 0 where
  pub one : all_of (codes "FLEET") rows ≡ Some (fleet ∷ [])
  pub requests_are : AllZip IsRequestedFile (texts_at (codes "request") rows) requests
  pub summary : is_summary ≡ is_given (codes "summary") rows
  pub plan : is_given (codes "merge") rows ≡ false

-- The matches name these summaries to add, and nothing that a plan would need.
pub record SaysMerge (rows : List Row) (summaries : List Text) : Type 0 where
  pub all : all_of (codes "FLEET") rows ≡ Some summaries
  pub merge : is_given (codes "merge") rows ≡ true
  pub requests : texts_at (codes "request") rows ≡ []
  pub summary : is_given (codes "summary") rows ≡ false

-- The matches of `plan` give this order.
abbrev pub SaysPlan : List Row → PlanOrder → Type 0
SaysPlan rows (Fleet fleet requests is_summary) =
    SaysFleet rows fleet.now requests.items is_summary
SaysPlan rows (Merge summaries) = SaysMerge rows (map (λ name. name.now) summaries.items)

-- The matches describe this image file that is to be made.
pub record IsNewFile (rows : List Row) (file : NewFile) : Type 0 where
  pub name : IsNamed rows (codes "OUT") file.name.now
  pub forced : file.is_forced ≡ is_given (codes "force") rows

-- The number of an image that the matches have.
abbrev pub image_at : List Row → Option ℕ
image_at rows = option_and_then (number_below 256) (first_of (codes "IMAGE") rows)

-- The side of a slot that a value names.
abbrev pub side_of : Text → Option Side
side_of word =
    if bytes_eq word (codes "primary") then Some Primary
    else (if bytes_eq word (codes "secondary") then Some Secondary else None)

-- The side of a slot that the matches have.
abbrev pub side_at : List Row → Option Side
side_at rows = option_and_then side_of (first_of (codes "SIDE") rows)

-- The names and options of any order are those that the matches of its subcommand have.
abbrev pub HasNames : List Row → Order → Type 0
HasNames rows (Read order) = of_reading.HasNames rows order
HasNames rows (Plan order) = SaysPlan rows order
HasNames rows (MakeDevice device) = SaysDevice rows device
HasNames rows (MakeImage image body values) =
    IsNewFile rows image × IsNamed rows (codes "BODY") body.now
    × SaysImage rows values
HasNames rows (MakeManifest device manifest) =
    IsNamed rows (codes "DEVICE") device.now × SaysManifest rows manifest
HasNames rows (Device order) = of_device.HasNames rows order
HasNames rows (Extract device flash image side out) =
    IsNamed rows (codes "DEVICE") device.now × IsNamed rows (codes "FLASH") flash.now
    × (image_at rows ≡ Some image) × (side_at rows ≡ Some side)
    × IsNewFile rows out
HasNames rows (Sweep device script images choices) =
    NamesSweep rows device.now script.now (map (λ image. image.now) images.items)
    × SaysSweep rows choices
HasNames rows (MergeSweeps outputs picture forced) =
    NamesOutputs rows (map (λ output. output.now) outputs.items) × HasPicture rows picture
    × (forced ≡ is_given (codes "force") rows)

-- A subcommand with these matches gives this order.
abbrev pub Asks : Text → List Row → Order → Type 0
Asks command rows order = (command ≡ name_for (subcommand_for order)) × HasNames rows order

-- A subcommand with these matches gives this order to read.
abbrev pub AsksToRead : Text → List Row → ReadOrder → Type 0
AsksToRead command rows order = Asks command rows (Read order)

-- A subcommand with these matches gives this order to a device.
abbrev pub AsksDevice : Text → List Row → DeviceOrder → Type 0
AsksDevice command rows order = Asks command rows (Device order)

-- The named subcommand with its matches gives this order.
abbrev pub IsOrderOf : Option (Text × List Row) → Order → Type 0
IsOrderOf None order = ⊥
IsOrderOf (Some named) order = Asks named.0 named.1 order

-- The arguments give this order: they name its subcommand, and have its names and options.
abbrev pub IsOrder : List Text → Order → Type 0
IsOrder words = IsOrderOf (subcommand_of bootswap words)

-- The names of the files that a manifest is made of: a flash if there is one, and then the files of
-- its components.
abbrev pub files_of : NewManifest → List (Bor Text)
files_of manifest =
    option_to_list manifest.precursor ++ map (λ component. component.file) manifest.components.items

-- The names of the fleet or of the summaries. The files of images aren't standard input.
abbrev pub names_to_plan : PlanOrder → List (Bor Text)
names_to_plan (Fleet fleet requests is_summary) = fleet ∷ []
names_to_plan (Merge summaries) = summaries.items

-- All the names of any order.
abbrev pub names_of : Order → List (Bor Text)
names_of (Read order) = of_reading.names_of order
names_of (Plan order) = names_to_plan order
names_of (MakeDevice device) = []
names_of (MakeImage image body values) = image.name ∷ body ∷ []
names_of (MakeManifest device manifest) = device ∷ files_of manifest
names_of (Device order) = of_device.names_of order
names_of (Extract device flash image side out) = device ∷ flash ∷ out.name ∷ []
names_of (Sweep device script images choices) = device ∷ script ∷ images.items
names_of (MergeSweeps outputs picture forced) = outputs.items

-- Whether the file that an order writes is standard input.
abbrev pub writes_to_standard_input : Order → Bool
writes_to_standard_input (MakeImage image body values) = is_standard_input image.name
writes_to_standard_input (Device order) = of_device.writes_to_standard_input order
writes_to_standard_input (Extract device flash image side out) = is_standard_input out.name
writes_to_standard_input (Sweep device script images choices) =
    option_map_or is_standard_input choices.picture false
writes_to_standard_input (MergeSweeps outputs picture forced) =
    option_map_or is_standard_input picture false
writes_to_standard_input _ = false

-- The fault of an order that misuses standard input.
abbrev pub misuse_of : Order → Option ErrorKind
misuse_of order =
    misuse_kind (writes_to_standard_input order) (nat_lt 1 (standard_inputs (names_of order)))

-- The arguments give this order: `clap` accepts them, they describe it, and it doesn't misuse
-- standard input.
pub record GiveOrder (words : List Text) (order : Order) : Type 0 where
  pub taken : fault_of bootswap words ≡ []
  pub asks : IsOrder words order
  pub sound : misuse_of order ≡ None
