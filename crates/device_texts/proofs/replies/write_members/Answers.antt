use Rattle.std.proofs.Common.{◌≡◌, ◌∙◌, ◌+◌, ◌∷◌, ◌++◌, [], ℕ, true, false, ap, append-nil, arith, decimal, if◌then◌else◌, rules, sym}
use Rattle.std.specs.List.{flat_map, range_with_len}
use Rattle.std.proofs.Output.{has_written_append, has_written_of_eq}
use Rattle.common.specs.Masks.{is_member}
use Rattle.device_texts.specs.ReplyText.{member_text, set_text}
use Rattle.device_texts.proofs.TextLaws.{flat_map-range_more}
use Rattle.device_texts.proofs.replies.write_members.Goals as goal
use Rattle.device_texts.proofs.replies.write_members.Goals.{then-is_member+in_ok-write, else-is_member}

-- The images up to n, if n is in the set.
member_more : (set n : ℕ) → is_member set n ≡ true
    → flat_map (member_text set) (range_with_len 0 n) ++ 32 ∷ decimal n
    ≡ flat_map (member_text set) (range_with_len 0 (n + 1))
member_more set n is = sym (flat_map-range_more (member_text set) n
    ∙ ap (λ some. flat_map (member_text set) (range_with_len 0 n) ++ (if some then 32 ∷ decimal n else [])) is)

member_none : (set n : ℕ) → is_member set n ≡ false
    → flat_map (member_text set) (range_with_len 0 n) ≡ flat_map (member_text set) (range_with_len 0 (n + 1))
member_none set n is = sym (flat_map-range_more (member_text set) n
    ∙ ap (λ some. flat_map (member_text set) (range_with_len 0 n) ++ (if some then 32 ∷ decimal n else [])) is
    ∙ append-nil _)

-- If the image is in the set, it is written too.
pub loop-image-preserved : goal.loop-image-preserved
loop-image-preserved g c =
    let member = c.is_member.ensures in
    elim c.if-is_member.branch [
      | then-is_member+in_ok-write w ↦ λ plain. rw w.f-is
          (has_written_of_eq _ _ _ _ _ (member_more _ _ (sym member ∙ w.if-is_member.true))
          (has_written_append _ _ _ _ _ _ (c.loop-image.invariant plain) (search rules)))
      | else-is_member w ↦ λ plain. rw w.f-is
          (has_written_of_eq _ _ _ _ _ (member_none _ _ (sym member ∙ w.if-is_member.false))
          (c.loop-image.invariant plain))
    ]

-- All images are written.
pub returns : goal.returns
unfolding set_text
returns g c = λ plain _.
    let all : c.loop-image.image-counter ≡ 8 = omega arith in
    rw all at (c.loop-image.invariant plain)
