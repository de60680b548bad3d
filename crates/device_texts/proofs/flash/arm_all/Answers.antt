use Rattle.std.proofs.Common.{◌≡◌, ◌∙◌, ap, arith}
use Rattle.flash_model.specs.Chip.{Chip}
use Rattle.flash_model.specs.Memory.{chip_of, with_armed}
use Rattle.device_texts.proofs.ArmedLaws.{armed-more}
use Rattle.device_texts.proofs.flash.arm_all.Goals as goal

-- One more write is armed, since the flash took none yet.
pub loop-cut-preserved : goal.loop-cut-preserved
loop-cut-preserved g c =
    let before = c.loop-cut.invariant in
    let none : (chip_of c.loop-cut.flash).writes ≡ 0 = ap (λ (chip : Chip). chip.writes) before.0 ∙ c.requires in
    let armed = c.in_ok-arm.ensures.armed (λ some. omega (arith, none, some)) in (
      c.arm.ensures.chip ∙ ap (λ (chip : Chip). with_armed chip (chip_of c.arm.new.self).fixed.armed) before.0,
      armed-more _ _ _ c.loop-cut.yielded c.in-Some.cut c.from.result c.from.ensures armed before.1,
    )
