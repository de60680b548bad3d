-- Lemmas by which a planner goes on from the lines and bytes that it has read.
use Rattle.std.proofs.Common.{◌≡◌, ◌≢◌, ℕ, List, [], ◌∷◌, ◌++◌, map, refl, sym, ap, ◌∙◌, subst, append_assoc, Option}
use Rattle.std.proofs.KnownBytes.{Appends-nil, Appends-trans}
use Rattle.std.proofs.lemmas.Bool.{ne_eqb}
use Rattle.std.proofs.lemmas.Grind.{flat_map-append}
use Rattle.std.proofs.lemmas.List.{append-nil}
use Rattle.std.proofs.lemmas.List.Concat.{flat_map-cons}
use Rattle.std.specs.Io.KnownBytes.{Appends}
use Rattle.std.specs.List.{AllByRecursion, flat_map}
use Rattle.reports.specs.declared.table.Entry.{Entry}
use Rattle.common.proofs.LinesLaws.{lines_of-text_of_lines}
use Rattle.common.proofs.Lists.{AllByRecursion-append}
use Rattle.common.specs.Ascii.{LacksByte}
use Rattle.common.specs.Lines.{lines_of, text_of_lines}
use Rattle.inspecting.specs.Fleet.{IsDevice, device_lines}
use Rattle.inspecting.specs.Plan.{Planned, planned_text}
use Rattle.inspecting.specs.Planning.{Advances, IsReadAs, Stands, planned_lines, told_text}
use Rattle.inspecting.specs.declared.fleet.planner.Planner.{Planner}
use Rattle.inspecting.specs.declared.fleet.telling.Telling.{Telling}
use Rattle.inspecting.specs.declared.fleet.telling.Telling.TheVariants as tell

-- More bytes of a line are read.
pub IsReadAs-part : (bytes : List ℕ) (lines : List (List ℕ)) (prefix part : List ℕ)
    → IsReadAs bytes lines prefix → LacksByte 10 part → IsReadAs (bytes ++ part) lines (prefix ++ part)
IsReadAs-part bytes lines prefix part was lacks = record {
  split = λ rest. ap lines_of (append_assoc bytes part rest) ∙ was.split (part ++ rest)
      ∙ ap (λ t. lines ++ lines_of t) (sym (append_assoc prefix part rest));
  plain = AllByRecursion-append (λ b. b ≢ 10) prefix part was.plain lacks;
}

-- The line feed of a line.
lines_of-feed : (line rest : List ℕ) → LacksByte 10 line → lines_of (line ++ 10 ∷ rest) ≡ line ∷ lines_of rest
lines_of-feed line rest lacks =
    let one : text_of_lines (line ∷ []) ++ rest ≡ line ++ 10 ∷ rest =
    ap (λ t. t ++ rest) (flat_map-cons (λ l. l ++ 10 ∷ []) line []) ∙ simp (append_assoc, append-nil) in
    ap lines_of (sym one) ∙ lines_of-text_of_lines (line ∷ []) rest (lacks, tt)

-- Its line feed ends the line, whatever follows.
pub IsReadAs-feed : (bytes : List ℕ) (lines : List (List ℕ)) (prefix rest : List ℕ)
    → IsReadAs bytes lines prefix → lines_of (bytes ++ 10 ∷ rest) ≡ lines ++ prefix ∷ lines_of rest
IsReadAs-feed bytes lines prefix rest was =
    was.split (10 ∷ rest) ∙ ap (λ ls. lines ++ ls) (lines_of-feed prefix rest was.plain)

-- A line is complete.
pub IsReadAs-line : (bytes : List ℕ) (lines : List (List ℕ)) (prefix : List ℕ)
    → IsReadAs bytes lines prefix → IsReadAs (bytes ++ 10 ∷ []) (lines ++ prefix ∷ []) []
IsReadAs-line bytes lines prefix was = record {
  split = λ rest. ap lines_of (append_assoc bytes (10 ∷ []) rest) ∙ IsReadAs-feed bytes lines prefix rest was ∙ sym (append_assoc lines (prefix ∷ []) (lines_of rest));
  plain = tt;
}

lines_of-only : (b : ℕ) (bs : List ℕ) → LacksByte 10 (b ∷ bs) → lines_of (b ∷ bs) ≡ (b ∷ bs) ∷ []
lines_of-only b [] lacks = rw (ne_eqb b 10 lacks.0) refl
lines_of-only b (c ∷ cs) lacks = rw (ne_eqb b 10 lacks.0, lines_of-only c cs lacks.1) refl

-- A text ends in the middle of a line, or after a line feed.
pub lines_of-last : (line : List ℕ) → LacksByte 10 line → line ≢ [] → lines_of line ≡ line ∷ []
lines_of-last [] lacks some = absurd (some refl)
lines_of-last (b ∷ bs) lacks some = lines_of-only b bs lacks

pub IsReadAs-end : (bytes : List ℕ) (lines : List (List ℕ)) (prefix : List ℕ)
    → IsReadAs bytes lines prefix → prefix ≡ [] → lines_of bytes ≡ lines
IsReadAs-end bytes lines prefix was none =
    ap lines_of (sym (append-nil bytes)) ∙ was.split [] ∙ ap (λ t. lines ++ lines_of (t ++ [])) none ∙ append-nil lines

pub IsReadAs-unended : (bytes : List ℕ) (lines : List (List ℕ)) (prefix : List ℕ)
    → IsReadAs bytes lines prefix → prefix ≢ [] → lines_of bytes ≡ lines ++ prefix ∷ []
IsReadAs-unended bytes lines prefix was some =
    ap lines_of (sym (append-nil bytes)) ∙ was.split []
    ∙ ap (λ t. lines ++ lines_of t) (append-nil prefix) ∙ ap (λ ls. lines ++ ls) (lines_of-last prefix was.plain some)

-- The lines of the devices with a result are those of these devices.
pub planned_lines-are : (plan : List Planned) → planned_lines plan ≡ flat_map device_lines (map (λ planned. planned.device) plan)
planned_lines-are [] = refl
planned_lines-are (planned ∷ plan) =
    flat_map-cons (λ (p : Planned). device_lines p.device) planned plan ∙ ap (λ ls. device_lines planned.device ++ ls) (planned_lines-are plan)
    ∙ sym (flat_map-cons device_lines planned.device (map (λ p. p.device) plan))

pub AllByRecursion-map_devices : (plan : List Planned) → AllByRecursion (λ planned. IsDevice planned.device) plan → AllByRecursion IsDevice (map (λ planned. planned.device) plan)
AllByRecursion-map_devices [] all = tt
AllByRecursion-map_devices (planned ∷ plan) all = (all.0, AllByRecursion-map_devices plan all.1)

-- What is written of devices, and then of more.
pub told-append : (telling : Telling) (first second : List Planned) → told_text telling (first ++ second) ≡ told_text telling first ++ told_text telling second
told-append (tell.Devices form) first second = flat_map-append (planned_text form) first second
told-append (tell.Summary form) first second = refl

pub told-both : (telling : Telling) (a b c : Option (List ℕ)) (first second : List Planned)
    → Appends a b (told_text telling first) → Appends b c (told_text telling second) → Appends a c (told_text telling (first ++ second))
told-both telling a b c first second one two =
    subst (Appends a c) (sym (told-append telling first second)) (Appends-trans a b c _ _ one two)

pub told-none : (telling : Telling) (known : Option (List ℕ)) → Appends known known (told_text telling [])
told-none (tell.Devices form) known = Appends-nil known
told-none (tell.Summary form) known = Appends-nil known

-- A planner that reads nothing.
pub Advances-nil : (entries : List (Option Entry)) (planner : Planner) (known : Option (List ℕ)) → Advances entries planner planner [] known known
Advances-nil entries planner known telling read plan stands = record {
  more = [];
  stands = rw (append-nil read, append-nil plan) stands;
  written = told-none telling known;
}

-- A planner that reads bytes, and then more.
pub Advances-trans : (entries : List (Option Entry)) (first second third : Planner) (some others : List ℕ) (a b c : Option (List ℕ))
    → Advances entries first second some a b → Advances entries second third others b c → Advances entries first third (some ++ others) a c
Advances-trans entries first second third some others a b c one two telling read plan stands =
    let mid = one telling read plan stands in
    let end = two telling (read ++ some) (plan ++ mid.more) mid.stands in
    record {
      more = mid.more ++ end.more;
      stands = subst (λ bytes. Stands entries telling third bytes (plan ++ (mid.more ++ end.more))) (append_assoc read some others)
          (subst (λ all. Stands entries telling third ((read ++ some) ++ others) all) (append_assoc plan mid.more end.more) end.stands);
      written = told-both telling a b c mid.more end.more mid.written end.written;
    }

-- A planner that reads bytes and writes nothing.
pub Advances-quiet : {entries : List (Option Entry)} {old new : Planner} (bytes : List ℕ) (known : Option (List ℕ))
    → ((telling : Telling) (read : List ℕ) (plan : List Planned) → Stands entries telling old read plan → Stands entries telling new (read ++ bytes) plan)
    → Advances entries old new bytes known known
Advances-quiet bytes known goes telling read plan stands = record {
  more = [];
  stands = subst (Stands _ telling _ (read ++ bytes)) (sym (append-nil plan)) (goes telling read plan stands);
  written = told-none telling known;
}
