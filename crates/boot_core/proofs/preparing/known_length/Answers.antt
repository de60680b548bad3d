use Rattle.std.proofs.Common.{rules, arith, ◌≡◌, ℕ, subst, sym}
use Rattle.upload.proofs.Ends.{err_passed}
use Rattle.boot_core.specs.Preparing.{IsSizeIn, IsUsedIn}
use Rattle.boot_core.proofs.Described.{described_fits, described_size, held_begins, slot_small}
use Rattle.boot_core.proofs.Passed.{err_ends, here_ends}
use Rattle.boot_core.proofs.preparing.known_length.Goals as goal

pub overflow_cast-result : goal.overflow_cast-result
overflow_cast-result g c =
    let begun = held_begins _ c.requires.held in
    let fits = described_fits c.args.map.now (g.F.Flash.chip c.args.flash.now) c.args.image c.args.side
    begun.0 c.requires.there.laid_out begun.1 in
    let small = slot_small c.args.map.now c.args.image c.requires.there.laid_out.is_map in
    let is : c.in_ok-length.length ≡ begun.0.length = c.in_ok-length.ensures.length begun.0 begun.1 in
    omega (arith, fits, small, is)

pub returns : goal.returns
returns g c =
    let begun = held_begins _ c.requires.held in
    let is : c.in_ok-length.length ≡ begun.0.length = c.in_ok-length.ensures.length begun.0 begun.1 in
    record {
      same = c.image_length.ensures.same;
      ok = subst (λ (n : ℕ). IsSizeIn c.args.map.now c.args.image (IsUsedIn c.args.map.now c.args.image c.args.side)
          (g.F.Flash.chip c.args.flash.now) n) (sym is)
          (described_size c.args.map.now (g.F.Flash.chip c.args.flash.now) c.args.image c.args.side begun.0
          c.requires.there.laid_out begun.1 (search rules));
      ends = rw c.image_length.ensures.same here_ends;
    }
