-- The text of the state of a device.
use Rattle.std.specs.Prelude.{ℕ, ◌==◌, List, [], ◌∷◌, ◌++◌, codes, decimal, if◌then◌else◌}
use Rattle.std.specs.List.{flat_map}
use Rattle.common.specs.Lines.{◌␣◌}
use Rattle.trailer.specs.declared.kinds.SwapType.{SwapType}
use Rattle.trailer.specs.declared.kinds.SwapType.TheVariants.{Test, Perm, Revert, None}
use Rattle.set_log.specs.declared.state.RecordKind.{RecordKind}
use Rattle.set_log.specs.declared.state.RecordKind.TheVariants.{Steady, Swap, Settle, Trial, Back, BackSettle}
use Rattle.device_texts.specs.AnswerText.{line_text}
use Rattle.device_texts.specs.ReplyText.{set_text}
use Rattle.inspecting.specs.declared.flash_state.FlashState.{FlashState}
use Rattle.inspecting.specs.declared.flash_state.ImageFloor.{ImageFloor}
use Rattle.inspecting.specs.declared.flash_state.ImageSwap.{ImageSwap}

-- The word for what a device is doing.
abbrev pub kind_text : RecordKind → List ℕ
kind_text Steady = codes "steady"
kind_text Swap = codes "swap"
kind_text Settle = codes "settle"
kind_text Trial = codes "trial"
kind_text Back = codes "back"
kind_text BackSettle = codes "back-settle"

-- The images of a set, each after a space, or `-` for none.
abbrev pub images_text : ℕ → List ℕ
images_text set = if set == 0 then codes " -" else set_text set

-- The line with the number of boots that a trial has left, if it is at least 1.
abbrev pub left_text : ℕ → List ℕ
left_text left = if left == 0 then [] else line_text (codes "left") (decimal left)

-- The word for what a pair of trailers asks of the next boot.
abbrev pub swap_type_text : SwapType → List ℕ
swap_type_text Test = codes "test"
swap_type_text Perm = codes "perm"
swap_type_text Revert = codes "revert"
swap_type_text None = codes "none"

-- The line with the least security counter that an image may have.
abbrev pub floor_line : ImageFloor → List ℕ
floor_line it = line_text (codes "floor") (decimal it.image ␣ decimal it.floor)

-- The line with what the trailers of an image ask of the next boot.
abbrev pub swap_line : ImageSwap → List ℕ
swap_line it = line_text (codes "swap") (decimal it.image ␣ swap_type_text it.swap_type)

-- The text of a device's state, and of what the trailers of each image ask of the next boot.
abbrev pub state_text : FlashState → List ℕ
state_text found =
    line_text (codes "state") (kind_text found.state.kind)
    ++ ((codes "set" ++ (images_text found.state.mask ++ 10 ∷ []))
    ++ (left_text found.state.left
    ++ (line_text (codes "sequence") (decimal found.state.sequence)
    ++ (flat_map floor_line found.floors.items ++ flat_map swap_line found.swaps.items))))
