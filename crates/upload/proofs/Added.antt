-- An open upload after bytes were added to it.
use Rattle.std.proofs.Common.{◌≡◌, ℕ, ◌+◌, ◌*◌, ◌<◌, ◌≤◌, ◌++◌, List, length, refl, sym, ◌∙◌, ap, arith, append_assoc, length-append}
use Rattle.sector_map.specs.declared.layout.Side.TheVariants.{Secondary}
use Rattle.sector_map.specs.Part.{Slot, only}
use Rattle.common.specs.declared.kind.Kind.{Kind}
use Rattle.upload.specs.View.{View, KeepsView}
use Rattle.machine.specs.Device.{Session}
use Rattle.upload.specs.Sessions.{IsWritten, session_of}
use Rattle.upload.specs.Piece.{TakesMore}
use Rattle.machine.specs.Piece.{appended}
use Rattle.upload.specs.declared.sessions.Upload.{Upload}

abbrev session_made : ℕ → List ℕ → Kind → List ℕ → Session
session_made s d k r = record { size = s; digest = d; kind = k; received = r }

pub session_eq : (a b : Session) → a.size ≡ b.size → a.digest ≡ b.digest → a.kind ≡ b.kind
    → a.received ≡ b.received → a ≡ b
session_eq a b size digest kind received =
    ap (λ s. session_made s a.digest a.kind a.received) size
    ∙ ap (λ d. session_made b.size d a.kind a.received) digest
    ∙ ap (λ k. session_made b.size b.digest k a.received) kind
    ∙ ap (λ r. session_made b.size b.digest b.kind r) received

-- An upload that differs in the received and the held bytes only.
pub record IsHeld (old new : Upload) (count : ℕ) (bytes : List ℕ) : Type 0 where
  pub size : new.size ≡ old.size
  pub digest : new.digest ≡ old.digest
  pub kind : new.kind ≡ old.kind
  pub received : new.received ≡ old.received + count
  pub held : new.held.items ≡ bytes

pub held_back : (i : ℕ) (w : View) (u v : Upload) (bytes : List ℕ)
    → IsHeld u v (length bytes) (u.held.items ++ bytes) → length u.held.items + length bytes < 8
    → u.received + length bytes ≤ u.size
    → TakesMore w w i u v bytes
held_back i w u v bytes now few fits written was =
    let long : length v.held.items ≡ length u.held.items + length bytes = ap length now.held ∙ length-append u.held.items bytes in (
      written,
      record {
        there = was.there;
        units = was.units;
        slot = was.slot;
        trailer = was.trailer;
        few = omega (arith, long);
        count = omega (arith, long, now.received, was.count);
        fits = omega (arith, now.received, now.size, fits);
        room = omega (arith, now.size, was.room);
      },
      session_eq (session_of v written) (appended (session_of u written) bytes) now.size now.digest now.kind
          (ap (λ l. written ++ l) now.held ∙ sym (append_assoc written u.held.items bytes)),
    )

pub added : (i : ℕ) (old mid new : View) (u v : Upload) (bytes first units last : List ℕ)
    → IsHeld u v (length bytes) last → bytes ≡ first ++ (units ++ last)
    → length u.held.items + length first ≡ 8 → ((k : ℕ) × (length units ≡ 8 * k)) → length last < 8
    → u.received + length bytes ≤ u.size
    → KeepsView (only (Slot i Secondary)) old mid → KeepsView (only (Slot i Secondary)) mid new
    → length (mid.slot i Secondary) ≡ length (old.slot i Secondary)
    → length (new.slot i Secondary) ≡ length (mid.slot i Secondary)
    → (at after : ℕ) → at + length u.held.items ≡ u.received → after ≡ at + 8
    → ((front : List ℕ) → length front ≡ at → IsWritten (old.slot i Secondary) front
    → IsWritten (mid.slot i Secondary) (front ++ (u.held.items ++ first)))
    → ((front : List ℕ) → length front ≡ after → IsWritten (mid.slot i Secondary) front
    → IsWritten (new.slot i Secondary) (front ++ units))
    → TakesMore old new i u v bytes
added i old mid new u v bytes first units last now parts whole count few fits keeps keeps' long long' at after start next step step' written was =
    let n1 : length (u.held.items ++ first) ≡ 8 = length-append u.held.items first ∙ whole in
    let n2 : length (written ++ (u.held.items ++ first)) ≡ length written + 8 = length-append written
    (u.held.items ++ first) ∙ ap (λ n. length written + n) n1 in
    let n3 : length ((written ++
    (u.held.items ++ first)) ++ units) ≡ length written + 8 + length units = length-append
    (written ++ (u.held.items ++ first)) units ∙ ap (λ n. n + length units) n2 in
    let n4 : length bytes ≡ length first +
    (length units + length last) = ap length parts ∙ length-append first (units ++ last) ∙ ap
    (λ n. length first + n) (length-append units last) in
    let n5 : length v.held.items ≡ length last = ap length now.held in
    let one = step written (omega (arith, was.count, start)) was.slot in
    let two = step' (written ++ (u.held.items ++ first)) (omega (arith, was.count, start, next, n2)) one in (
      (written ++ (u.held.items ++ first)) ++ units,
      record {
        there = omega (arith, was.there, keeps.images, keeps'.images);
        units = (was.units.0 + 1 + count.0, omega (arith, n3, was.units.1, count.1));
        slot = two;
        trailer = keeps'.trailers i Secondary refl ∙ keeps.trailers i Secondary refl ∙ was.trailer;
        few = omega (arith, n5, few);
        count = omega (arith, now.received, was.count, n3, n4, n5, whole);
        fits = omega (arith, now.received, now.size, fits);
        room = omega (arith, now.size, was.room, long, long');
      },
      session_eq (session_of v ((written ++ (u.held.items ++ first)) ++ units))
          (appended (session_of u written) bytes) now.size now.digest now.kind
          (ap (λ l. ((written ++ (u.held.items ++ first)) ++ units) ++ l) now.held
          ∙ append_assoc (written ++ (u.held.items ++ first)) units last
          ∙ append_assoc written (u.held.items ++ first) (units ++ last)
          ∙ ap (λ l. written ++ l) (append_assoc u.held.items first (units ++ last))
          ∙ ap (λ l. written ++ (u.held.items ++ l)) (sym parts)
          ∙ sym (append_assoc written u.held.items bytes)),
    )
