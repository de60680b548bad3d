use Rattle.std.proofs.Common.{refl, rules, ◌∙◌}
use Rattle.sweep.proofs.ScenarioLaws.{versions_more}
use Rattle.sweep.proofs.running.running_versions.Goals as goal

-- The version of one more image is read.
pub loop-image-preserved : goal.loop-image-preserved
loop-image-preserved g c =
    let before = c.loop-image.invariant in
    let ok = rw c.in-Ok-Some.field-0-is at rw c.in-Ok-Some.is at c.read_slot.ensures.ok in
    record {
      few = search rules;
      same = c.read_slot.ensures.same ∙ before.same;
      laid_out = search rules;
      on = search rules;
      images = search rules;
      count = search rules;
      found = rw c.push.ensures.items (versions_more c.args.map.now _ c.loop-image.image c.loop-image.versions.items _
          before.found (record { entry = c.in-Ok-Some.entry; same = refl; read = rw before.same at ok }));
    }
