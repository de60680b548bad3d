use Rattle.std.proofs.Common.{◌≡◌, ℕ, ◌+◌, Some, None, take, ap, subst, ◌∙◌, arith}
use Rattle.common.proofs.Results.{IfErr-passed}
use Rattle.image_reading.specs.Area.{protected_magic, unprotected_magic}
use Rattle.image_reading.specs.Fault.{IsArea, IsAreaFault, entries_at}
use Rattle.image_reading.proofs.Areas.{protected_place, unprotected_place}
use Rattle.image_reading.specs.Front.{IsProtected}
use Rattle.image_reading.specs.Span.{bytes_of}
use Rattle.image_reading.proofs.Fronts.{found_passes, front_in_header, front_in_protected, front_in_unprotected, is_front}
use Rattle.image_reading.proofs.Spans.{IsBytes-bytes_of}
use Rattle.image_reading.proofs.front.Front.read.Goals as goal

pub returns-in_err-header-clause-fault : goal.returns-in_err-header-clause-fault
returns-in_err-header-clause-fault g c =
    let bytes = bytes_of (g.M.Medium.chip c.args.medium.now) c.args.bytes in
    IfErr-passed _ _ _ c.from_residual.ensures.1 (front_in_header bytes _ c.in_err-header.ensures.fault)

pub returns-in_err-protected-clause-fault : goal.returns-in_err-protected-clause-fault
returns-in_err-protected-clause-fault g c =
    let bytes = bytes_of (g.M.Medium.chip c.args.medium.now) c.args.bytes in
    let header = c.in_ok-header.header in
    let fault = c.in_err-protected.field-0.0 in
    let at : c.from.result + header.body_size ≡ protected_place header = omega (arith, c.from.ensures) in
    let size = Some header.protected_size in
    let own = rw c.header.ensures.same at c.in_err-protected.ensures.fault in
    let failed = subst (λ (place : ℕ). IsAreaFault bytes place protected_magic size fault) at own in
    IfErr-passed _ _ _ c.from_residual-in_err-protected.ensures.1
    (front_in_protected bytes header fault c.in_ok-header.ensures.read c.in_err-protected.ensures.some failed)

pub returns-in_err-unprotected-clause-fault : goal.returns-in_err-unprotected-clause-fault
returns-in_err-unprotected-clause-fault g c =
    let chip = g.M.Medium.chip c.args.medium.now in
    let bytes = bytes_of chip c.args.bytes in
    let header = c.in_ok-header.header in
    let fault = c.in_err-unprotected.field-0.0 in
    let at : c.from.result + header.body_size + c.from-2.result ≡ unprotected_place header =
    omega (arith, c.from.ensures, c.from-2.ensures) in
    let own = rw (c.protected_area.ensures.same, c.header.ensures.same) at c.in_err-unprotected.ensures.fault in
    let failed = subst (λ (place : ℕ). IsAreaFault bytes place unprotected_magic None fault) at own in
    let before : c.from.result + header.body_size ≡ protected_place header = omega (arith, c.from.ensures) in
    let entries = bytes_of chip c.in_ok-protected.protected.entries in
    let found = rw c.header.ensures.same at c.in_ok-protected.ensures.found in
    let protected = subst (λ (place : ℕ). IsProtected bytes place header.protected_size entries) before found in
    let passes = found_passes bytes entries header protected in
    IfErr-passed _ _ _ c.from_residual-in_err-unprotected.ensures.1
    (front_in_unprotected bytes header fault c.in_ok-header.ensures.read passes failed)

pub returns-clause-found : goal.returns-clause-found
returns-clause-found g c =
    let chip = g.M.Medium.chip c.args.medium.now in
    let bytes = bytes_of chip c.args.bytes in
    let header = c.in_ok-header.header in
    let begins = c.in_ok-header.ensures.read in
    let before : c.from.result + header.body_size ≡ protected_place header = omega (arith, c.from.ensures) in
    let at : c.from.result + header.body_size + c.from-2.result ≡ unprotected_place header =
    omega (arith, c.from.ensures, c.from-2.ensures) in
    let first = bytes_of chip c.in_ok-protected.protected.entries in
    let found = rw c.header.ensures.same at c.in_ok-protected.ensures.found in
    let protected = subst (λ (place : ℕ). IsProtected bytes place header.protected_size first) before found in
    let last = c.in_ok-unprotected.ensures in
    let passes = rw (c.protected_area.ensures.same, c.header.ensures.same) at last.found in
    let area = subst (λ (place : ℕ). IsArea bytes place unprotected_magic None) at passes in
    let own = bytes_of chip c.in_ok-unprotected.unprotected.entries in
    let read = rw (c.protected_area.ensures.same, c.header.ensures.same) at last.entries in
    let entries = subst (λ (place : ℕ). own ≡ entries_at bytes place) at read in
    let can = rw (c.protected_area.ensures.same, c.header.ensures.same) at last.readable in
    let fits = IsBytes-bytes_of chip c.args.bytes (g.met.M.Medium.bytes c.args.medium.now) in
    is_front chip bytes _ fits begins.0 begins.1 protected area entries
    (c.first.ensures.bytes chip ∙ ap (λ (n : ℕ). take n bytes) at) (omega (arith, at, can.whole))

pub returns-clause-gathered : goal.returns-clause-gathered
returns-clause-gathered g c = record {
  hashed = c.first.ensures.readable (g.M.Medium.chip c.args.medium.now) c.requires;
  protected = rw c.header.ensures.same at c.in_ok-protected.ensures.gathered;
  unprotected = rw (c.protected_area.ensures.same, c.header.ensures.same) at c.in_ok-unprotected.ensures.gathered;
}
