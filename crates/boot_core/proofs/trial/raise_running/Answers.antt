use Rattle.std.proofs.Common.{arith, ◌≡◌, ◌≢◌, ◌∙◌, ◌+◌, ◌<◌, length, slice_index, length-set, get_or-set_other, set, sym, subst}
use Rattle.machine.specs.States.{IsRaised}
use Rattle.flash_contents.specs.Reading.{IsFloorOf}
use Rattle.flash_contents.proofs.Trying.{raised_more}
use Rattle.boot_core.proofs.Fronts.{running_front}
use Rattle.boot_core.proofs.Passed.{here_ends}
use Rattle.boot_core.proofs.trial.raise_running.Goals as goal

pub loop-image-preserved : goal.loop-image-preserved
loop-image-preserved g c =
    let kept = c.loop-image.invariant in
    let image = c.loop-image.image in
    let before = c.loop-image.raised in
    let floors = c.args.floors.now in
    let floor = c.in_ok-floor.floor in
    let place = c.from-in-loop-image.result in
    let at : place ≡ image = omega arith in
    let read : c.from.result ≡ image = omega arith in
    let lt : image < c.args.map.now.images = omega arith in
    let few : image < length before = omega (arith, lt, kept.few, kept.size) in
    record {
      few = kept.few;
      size = length-set before place floor ∙ kept.size;
      same = c.floor_of.ensures.same ∙ kept.same;
      raises = λ s runs same.
          let front = running_front c.args.map.now _ _ s image kept.same runs lt in
          let new = subst (λ k. IsFloorOf (s.running image) (slice_index floors k) floor) read
          (c.in_ok-floor.ensures.ok (s.running image) front) in
          subst (λ k. IsRaised (image + 1) s.running s.floors (set before k floor)) (sym at)
          (raised_more s image floor floors before few same (kept.raises s runs same) new);
      rest = λ i le.
          let away : i ≢ place = omega (arith, le, lt, at) in
          get_or-set_other before place i floor 0 away ∙ kept.rest i le;
    }

pub returns : goal.returns
returns g c =
    let all : c.loop-image.image ≡ c.args.map.now.images = omega arith in
    record {
      same = c.loop-image.invariant.same;
      ok = λ s runs same. subst (λ n. IsRaised n s.running s.floors c.loop-image.raised) (all ∙ runs.images)
          (c.loop-image.invariant.raises s runs same);
      rest = c.loop-image.invariant.rest;
      ends = rw c.loop-image.invariant.same here_ends;
    }
