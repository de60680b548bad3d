use Rattle.std.specs.Fmt.{IsPlainFormatter, HasWritten}
use Rattle.std.specs.List.{flat_map, range_with_len}
use Rattle.device_texts.specs.ReplyText.{member_text}
use Rattle.device_texts.proofs.replies.write_members.Given as goal

-- The images so far are written.
abbrev pub invariant-loop-image : goal.invariant-loop-image
invariant-loop-image g l =
    IsPlainFormatter l.initial.f → HasWritten g.W.Write.write_str_gives l.initial.f
    (flat_map (member_text l.set) (range_with_len 0 l.image-counter)) l.f
