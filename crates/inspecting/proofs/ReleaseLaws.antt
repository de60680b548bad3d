-- The requests of a release, file by file.
use Rattle.std.proofs.Common.{◌≡◌, ◌≢◌, ◌∙◌, ◌<◌, ◌+◌, ℕ, zero, suc, List, [], ◌∷◌, ◌++◌, get_or, length, Option, Some, None, refl, subst, sym, take}
use Rattle.std.proofs.lemmas.List.{take_more}
use Rattle.std.specs.Prelude.{IfSome, slice_get}
use Rattle.std.specs.List.{AllByRecursion}
use Rattle.std.specs.Io.KnownBytes.{Keeps}
use Rattle.reports.specs.declared.table.Entry.{Entry}
use Rattle.command_line.specs.declared.orders.RequestedFile.{RequestedFile}
use Rattle.host.specs.Input.{FileBytes, KeepsFiles}
use Rattle.host.proofs.InputLaws.{IsKnownAs-kept}
use Rattle.inspecting.specs.Release.{IsEntryOfFile, IsNotAsked, IsRelease, IsRequestedIn, PutsRequest, none_of_eight}

-- Without files there is no request.
none_at : (entries : List (Option Entry)) → AllByRecursion (λ entry. entry ≡ None) entries → (image : ℕ)
    → IfSome (slice_get entries image) (λ entry. entry ≡ None)
none_at [] all image = tt
none_at (entry ∷ entries) all zero = all.0
none_at (entry ∷ entries) all (suc image) = none_at entries all.1 image

pub IsRelease-none : (file : FileBytes) → IsRelease file [] none_of_eight
IsRelease-none file = record {
  as_many = refl;
  each = tt;
  others = λ image asked. none_at none_of_eight (refl, (refl, (refl, (refl, (refl, (refl, (refl, (refl, tt)))))))) image;
}

-- A file that was read later held the same before.
pub IsEntryOfFile-kept : (old new : FileBytes) (name : List ℕ) (entry : Entry) → KeepsFiles old new
    → IsEntryOfFile new name entry → IsEntryOfFile old name entry
IsEntryOfFile-kept old new name entry kept of_file = record {
  bytes = of_file.bytes;
  known = IsKnownAs-kept (old name) (new name) of_file.bytes (kept name) of_file.known;
  description = of_file.description;
  intact = of_file.intact;
  is = of_file.is;
}

-- A request stays where another one is put.
IsRequestedIn-kept : (file : FileBytes) (image : ℕ) (entry : Entry) (old new : List (Option Entry))
    (requested : RequestedFile) → PutsRequest image entry old new → IsRequestedIn file old requested
    → IsRequestedIn file new requested
IsRequestedIn-kept file image entry old new requested puts is = record {
  entry = is.entry;
  of_file = is.of_file;
  there = puts.others requested.image (λ same. absurd (cc (same, is.there, puts.was))) ∙ is.there;
}

each_more : (file : FileBytes) (files : List RequestedFile) (requested : RequestedFile) (entry : Entry)
    (old new : List (Option Entry)) → PutsRequest requested.image entry old new
    → IsEntryOfFile file requested.file.now entry → AllByRecursion (IsRequestedIn file old) files
    → AllByRecursion (IsRequestedIn file new) (files ++ requested ∷ [])
each_more file [] requested entry old new puts of_file each =
    (record { entry = entry; of_file = of_file; there = puts.there }, tt)
each_more file (first ∷ files) requested entry old new puts of_file each = (
  IsRequestedIn-kept file requested.image entry old new first puts each.0,
  each_more file files requested entry old new puts of_file each.1,
)

not_asked_before : (files : List RequestedFile) (requested : RequestedFile) (image : ℕ)
    → IsNotAsked image (files ++ requested ∷ []) → IsNotAsked image files × (requested.image ≢ image)
not_asked_before [] requested image asked = (tt, asked.0)
not_asked_before (first ∷ files) requested image asked =
    let rest = not_asked_before files requested image asked.1 in ((asked.0, rest.0), rest.1)

-- One more file is requested.
more : (file : FileBytes) (files : List RequestedFile) (requested : RequestedFile) (entry : Entry)
    (old new : List (Option Entry)) → PutsRequest requested.image entry old new
    → IsEntryOfFile file requested.file.now entry → IsRelease file files old
    → IsRelease file (files ++ requested ∷ []) new
more file files requested entry old new puts of_file release = record {
  as_many = puts.as_many ∙ release.as_many;
  each = each_more file files requested entry old new puts of_file release.each;
  others = λ image asked.
      let before = not_asked_before files requested image asked in
      subst (λ found. IfSome found (λ one. one ≡ None)) (sym (puts.others image (λ same. before.1 (sym same))))
      (release.others image before.0);
}

pub IsRelease-more : (file : FileBytes) (files : List RequestedFile) (place : ℕ) (requested : RequestedFile)
    (entry : Entry) (old new : List (Option Entry)) → place < length files → requested ≡ get_or files place requested
    → PutsRequest requested.image entry old new → IsEntryOfFile file requested.file.now entry
    → IsRelease file (take place files) old → IsRelease file (take (place + 1) files) new
IsRelease-more file files place requested entry old new within is puts of_file release =
    rw (take_more files place requested within, ← is)
    (more file (take place files) requested entry old new puts of_file release)
