use Rattle.std.proofs.Common.{◌≡◌, ◌<◌, ℕ, Some, false}
use Rattle.upload.specs.Sessions.{IsOpenAt, upload_at}
use Rattle.upload.specs.Standing.{IsFirstOpen}
use Rattle.upload.specs.View.{view}
use Rattle.upload.specs.declared.sessions.Upload.{Upload}
use Rattle.upload.proofs.standing.all_stand.Given as goal

abbrev pub invariant-loop-image : goal.invariant-loop-image
invariant-loop-image g l = record {
  same : g.F.Flash.chip l.flash ≡ g.F.Flash.chip l.initial.flash;
  each : (i : ℕ) (u : Upload) → i < l.image → upload_at l.sessions i ≡ Some u
      → IsOpenAt (view l.map (g.F.Flash.chip l.initial.flash)) i u;
  asked : (g.F.Flash.chip l.initial.flash).is_on ≡ false → (i : ℕ) (u : Upload) → i < l.image
      → IsFirstOpen l.map l.sessions i u → ⊥;
}
