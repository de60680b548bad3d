use Rattle.std.proofs.Common.{◌+◌, ◌≤◌, inl, inr, length, refl, sym, subst, ◌∙◌, arith}
use Rattle.std.proofs.lemmas.Bool.{true≢false}
use Rattle.image_reading.specs.Fault.{IsTotal, total_at}
use Rattle.image_reading.specs.Span.{bytes_of}
use Rattle.image_reading.proofs.Areas.{AreaRead, area_read, head_read, magic_read}
use Rattle.image_reading.proofs.front.area_entries.Given as given
use Rattle.image_reading.proofs.front.area_entries.Goals as goal

-- What was read of the area.
read_area : (g : given.Over) (c : goal.After-first g)
    → AreaRead (bytes_of (g.M.Medium.chip c.args.medium.now) c.args.bytes) c.args.place c.head-own_magic.result.0
    c.from-total.result (bytes_of (g.M.Medium.chip c.args.medium.now) c.first.result)
read_area g c =
    let chip = g.M.Medium.chip c.args.medium.now in
    area_read (bytes_of chip c.args.bytes) (bytes_of chip c.after-area.result) (bytes_of chip c.after.result)
    (bytes_of chip c.first.result) c.args.place c.head-own_magic.result.0 c.head-own_magic.result.1
    c.from-total.result (c.after-area.ensures.bytes chip) c.head-own_magic.ensures.first
    c.head-own_magic.ensures.second c.from-total.ensures (c.after.ensures.bytes chip)
    (c.first.ensures.bytes chip)

pub returns-clause-found : goal.returns-clause-found
returns-clause-found g c =
    let read = read_area g c in
    let allowed : IsTotal c.args.expected c.from-total.result =
    subst (IsTotal c.args.expected) (sym c.from-total.ensures) (c.is_total.ensures.0 c.if-not-is_total.false) in
    let total = subst (IsTotal c.args.expected) (sym read.total_is) allowed in
    (((omega arith, read.magic_is ∙ c.if-own_magic-magic.false), total), omega (arith, read.total_is))

pub returns-clause-entries : goal.returns-clause-entries
returns-clause-entries g c = (read_area g c).entries_are

pub returns-then-bytes-place-clause-fault : goal.returns-then-bytes-place-clause-fault
returns-then-bytes-place-clause-fault g c =
    inl (λ head. omega (arith, head, c.requires.readable.whole, c.if-bytes-place.true), refl)

pub returns-then-own_magic-magic-clause-fault : goal.returns-then-own_magic-magic-clause-fault
returns-then-own_magic-magic-clause-fault g c =
    let chip = g.M.Medium.chip c.args.medium.now in
    let magic_is =
    magic_read (bytes_of chip c.args.bytes) (bytes_of chip c.after-area.result) c.args.place
    c.head-own_magic.result.0 (c.after-area.ensures.bytes chip) c.head-own_magic.ensures.first in
    inr (
      omega (arith, c.requires.readable.whole, c.if-bytes-place.false),
      inl (λ is. c.if-own_magic-magic.true (sym magic_is ∙ is), refl),
    )

pub returns-then-not-is_total-clause-fault : goal.returns-then-not-is_total-clause-fault
returns-then-not-is_total-clause-fault g c =
    let (magic_is, total_is) =
    head_read _ _ c.args.place _ _ (c.after-area.ensures.bytes (g.M.Medium.chip c.args.medium.now))
    c.head-own_magic.ensures.first c.head-own_magic.ensures.second in
    let bad : IsTotal c.args.expected (total_at (bytes_of (g.M.Medium.chip c.args.medium.now) c.args.bytes) c.args.place)
    → ⊥ = λ allowed.
    true≢false (sym (c.is_total.ensures.1 (subst (IsTotal c.args.expected) total_is allowed))
    ∙ c.if-not-is_total.true) in
    inr (
      omega (arith, c.requires.readable.whole, c.if-bytes-place.false),
      inr (magic_is ∙ c.if-own_magic-magic.false, inl (bad, refl)),
    )

pub returns-then-area-total-clause-fault : goal.returns-then-area-total-clause-fault
returns-then-area-total-clause-fault g c =
    let (magic_is, total_is) =
    head_read _ _ c.args.place _ _ (c.after-area.ensures.bytes (g.M.Medium.chip c.args.medium.now))
    c.head-own_magic.ensures.first c.head-own_magic.ensures.second in
    let allowed = subst (IsTotal c.args.expected) (sym total_is) (c.is_total.ensures.0 c.if-not-is_total.false) in
    let bytes = bytes_of (g.M.Medium.chip c.args.medium.now) c.args.bytes in
    let short : c.args.place + total_at bytes c.args.place ≤ length bytes → ⊥ = λ within. omega (
      arith,
      within,
      c.requires.readable.whole,
      total_is,
      c.from-total.ensures,
      c.if-area-total.true,
      c.after-area.ensures.len,
    ) in
    inr (
      omega (arith, c.requires.readable.whole, c.if-bytes-place.false),
      inr (magic_is ∙ c.if-own_magic-magic.false, inr (allowed, inl (short, refl))),
    )
