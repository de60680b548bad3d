use Rattle.std.proofs.Common.{◌≡◌, ◌+◌, ◌-◌, ℕ, length, drop, max, length-drop, replicate, slice_range, sym, ◌∙◌, ap, arith}
use Rattle.std.proofs.lemmas.List.{length-take}
use Rattle.slice_flash.specs.Overlay.{place_at, done_at}
use Rattle.slice_flash.proofs.Parts.{done_erase, done_program, entry_end, entry_inside, part_apart, part_back, range_of_blank}
use Rattle.slice_flash.proofs.overlay.perform_at.Goals as goal
use Rattle.slice_flash.proofs.overlay.perform_at.Goals.{then-from-to, else-from-to}

pub returns-after-from-to-clause-bytes : goal.returns-after-from-to-clause-bytes
returns-after-from-to-clause-bytes c = λ bytes size part is.
    let journal = c.args.journal.now in let start = c.args.start in
    let from = c.max-from.result in let to = c.min-to.result in
    let begins : from ≡ max (place_at journal start) c.args.at = c.max-from.ensures ∙ ap (λ p. max p c.args.at) c.number_at-place.ensures in
    let ends = entry_end c.args.size c.args.at c.number_at-place.result c.number_at-n.result to (length c.args.out.now) journal start
    c.requires.entry c.number_at-place.ensures c.number_at-n.ensures c.min-to.ensures in
    elim c.if-from-to.branch [
      | then-from-to w ↦ w.out-is ∙
          part_back c.args.size c.args.at from to (to - c.args.at - (from - c.args.at)) bytes c.args.out.now w.copy_from_slice.new.self
          (slice_range journal (start + 12) (start + 12 + c.number_at-n.result)) journal start c.requires.entry size part is begins ends
          w.if-from-to.true (omega (arith, begins, ends, w.if-from-to.true))
          (ap (λ n. slice_range journal (start + 12) (start + 12 + n)) c.number_at-n.ensures
          ∙ sym (done_program journal start (sym c.number_at-kind.ensures ∙ c.if-kind-eq0.true)))
          (w.copy_from_slice.ensures.after ∙ ap (λ p. slice_range (slice_range journal (start + 12) (start + 12 + c.number_at-n.result))
          (from - p) (to - p)) c.number_at-place.ensures)
      | else-from-to w ↦ w.out-is ∙
          part_apart (place_at journal start) c.args.at from to (done_at journal start) bytes c.args.out.now
          (entry_inside c.args.size journal start bytes c.requires.entry size) (omega (arith, part, size)) is begins ends
          (omega (arith, w.if-from-to.false))
    ]

pub returns-then-from-to-2-clause-bytes : goal.returns-then-from-to-2-clause-bytes
returns-then-from-to-2-clause-bytes c = λ bytes size part is.
    let journal = c.args.journal.now in let start = c.args.start in
    let from = c.max-from.result in let to = c.min-to.result in
    let begins : from ≡ max (place_at journal start) c.args.at = c.max-from.ensures ∙ ap (λ p. max p c.args.at) c.number_at-place.ensures in
    let ends = entry_end c.args.size c.args.at c.number_at-place.result c.number_at-n.result to (length c.args.out.now) journal start
    c.requires.entry c.number_at-place.ensures c.number_at-n.ensures c.min-to.ensures in
    let place = c.number_at-place.result in let n = c.number_at-n.result in
    let filled : c.blank.new.bytes ≡ replicate (to - place - (from - place)) 255 =
    c.blank.ensures ∙ ap (λ m. replicate {A = ℕ} m 255)
    (length-take (to - c.args.at - (from - c.args.at)) (drop (from - c.args.at) c.args.out.now)
    ∙ omega (arith, length-drop (from - c.args.at) c.args.out.now, c.max-from.ensures, c.min-to.ensures, c.if-from-to-2.true)) in
    part_back c.args.size c.args.at from to (to - c.args.at - (from - c.args.at)) bytes c.args.out.now c.blank.new.bytes
    (replicate n 255) journal start c.requires.entry size part is begins ends c.if-from-to-2.true
    (omega (arith, begins, ends, c.if-from-to-2.true))
    (ap (λ m. replicate {A = ℕ} m 255) c.number_at-n.ensures
    ∙ sym (done_erase journal start (λ none. c.if-kind-eq0.false (c.number_at-kind.ensures ∙ none))))
    (filled ∙ range_of_blank n (from - place) (to - place) (omega (arith, c.min-to.ensures))
    ∙ ap (λ p. slice_range (replicate {A = ℕ} n 255) (from - p) (to - p)) c.number_at-place.ensures)

pub returns-else-from-to-2-clause-bytes : goal.returns-else-from-to-2-clause-bytes
returns-else-from-to-2-clause-bytes c = λ bytes size part is.
    let journal = c.args.journal.now in let start = c.args.start in
    part_apart (place_at journal start) c.args.at c.max-from.result c.min-to.result (done_at journal start) bytes c.args.out.now
    (entry_inside c.args.size journal start bytes c.requires.entry size) (omega (arith, part, size)) is
    (c.max-from.ensures ∙ ap (λ p. max p c.args.at) c.number_at-place.ensures)
    (entry_end c.args.size c.args.at c.number_at-place.result c.number_at-n.result c.min-to.result (length c.args.out.now) journal start
    c.requires.entry c.number_at-place.ensures c.number_at-n.ensures c.min-to.ensures)
    (omega (arith, c.if-from-to-2.false))
