use Rattle.std.proofs.Common.{◌∙◌, arith}
use Rattle.std.proofs.lemmas.List.{length_push}
use Rattle.common.proofs.Items.{AllByRecursion-push}
use Rattle.image_reading.specs.Fields.{FitsDependency}
use Rattle.image_reading.specs.Span.{bytes_of}
use Rattle.image_reading.proofs.GroupLaws.{alternative_bad, alternative_more}
use Rattle.image_reading.proofs.groups.GroupSpelled.at.Goals as goal

pub returns-in_err-alternative-clause-none : goal.returns-in_err-alternative-clause-none
returns-in_err-alternative-clause-none g c =
    let chip = g.M.Medium.chip c.args.medium.now in
    let so_far = c.loop-rest.invariant in
    let none = rw so_far.same at c.in_err-alternative.ensures.none in
    rw c.from_residual.ensures (alternative_bad (bytes_of chip c.args.value) (bytes_of chip c.loop-rest.rest)
    (bytes_of chip c.first.result) c.loop-rest.alternatives.items so_far.spelled
    (omega (arith, c.loop-rest-test.true, so_far.readable.whole)) (c.first.ensures.bytes chip) none)

pub loop-rest-preserved : goal.loop-rest-preserved
loop-rest-preserved g c =
    let chip = g.M.Medium.chip c.args.medium.now in
    let so_far = c.loop-rest.invariant in
    let items = c.loop-rest.alternatives.items in
    let alternative = c.in_ok-alternative.alternative in
    let fits = c.in_ok-alternative.ensures.fits in
    let spelled = rw so_far.same at c.in_ok-alternative.ensures.spelled in
    let more =
    alternative_more (bytes_of chip c.args.value) (bytes_of chip c.loop-rest.rest) (bytes_of chip c.first.result)
    (bytes_of chip c.after-rest.result) items alternative so_far.spelled (c.first.ensures.bytes chip)
    (c.after-rest.ensures.bytes chip) spelled in
    record {
      same = c.at.ensures.same ∙ so_far.same;
      readable = c.after-rest.ensures.readable chip so_far.readable;
      fit = rw c.push.ensures.items (AllByRecursion-push FitsDependency items alternative so_far.fit fits);
      spelled = rw c.push.ensures.items more;
      count = rw c.push.ensures.items
          (omega (arith, so_far.count, c.after-rest.ensures.len, length_push items alternative));
    }
