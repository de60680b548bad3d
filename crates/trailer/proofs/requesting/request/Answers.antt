use Rattle.std.proofs.Common.{◌≡◌, ◌⊎◌, ◌∙◌, ⊎_elim, ap, arith, false, inl, inr}
use Rattle.std.proofs.lemmas.Result.{on_ok_weaker}
use Rattle.flash_model.proofs.Ending.{at_error, ends_passed, ends_then}
use Rattle.flash_model.proofs.Frame.{same_outside_trans, same_outside_wider}
use Rattle.sector_map.specs.declared.layout.Side.TheVariants.{Secondary}
use Rattle.sector_map.proofs.Parts.{keeps_trans, laid_out_kept}
use Rattle.common.specs.declared.kind.Kind.{Kind}
use Rattle.trailer.specs.declared.kinds.Magic.TheVariants.{Good}
use Rattle.trailer.specs.Fields.{Fields, erased_fields}
use Rattle.trailer.specs.Standing.{is_good, is_permanent, requested_fields}
use Rattle.trailer.proofs.FieldUnits.{either_magic, erased_magic}
use Rattle.trailer.proofs.FieldWritten.{writes_magic}
use Rattle.trailer.proofs.Gone.{stands_or_none}
use Rattle.trailer.proofs.Marks.{ok_beside_magic}
use Rattle.trailer.proofs.FailedCalls.{refuses_failed}
use Rattle.trailer.proofs.requesting.request.Goals as goal

-- A request is complete if its magic is good. Otherwise its magic isn't good.
whole_or_not_good : (kind : Kind) (mid new : Fields) → mid ≡ record erased_fields { image_ok = is_permanent kind }
    → new ≡ record mid { magic = new.magic } → (new ≡ requested_fields kind) ⊎ (is_good new.magic ≡ false)
whole_or_not_good kind mid new marked own = ⊎_elim
    (λ (good : new ≡ record mid { magic = Good }).
    inl (good ∙ ap (λ (f : Fields). record f { magic = Good }) marked))
    (λ (bad : is_good new.magic ≡ false). inr bad)
    (either_magic mid new own)

whole_once_good : (kind : Kind) (mid new : Fields) → mid ≡ record erased_fields { image_ok = is_permanent kind }
    → new ≡ record mid { magic = new.magic } → new.magic ≡ Good → new ≡ requested_fields kind
whole_once_good kind mid new marked own good = own ∙ ap (λ m. record mid { magic = m }) good
    ∙ ap (λ (f : Fields). record f { magic = Good }) marked

pub write_units-requires-clause-erased : goal.write_units-requires-clause-erased
write_units-requires-clause-erased g c =
    erased_magic c.args.map.now _ c.args.image Secondary (ap (λ (f : Fields). f.magic) c.mark_kind.ensures.own)

pub returns-in_err-mark_kind : goal.returns-in_err-mark_kind
returns-in_err-mark_kind g c =
    let bad = ap (λ (f : Fields). is_good f.magic) c.mark_kind.ensures.own in
    record {
      outside = c.mark_kind.ensures.outside;
      units = same_outside_wider _ 8 _ 24 _ _ c.mark_kind.ensures.unit (omega arith) (omega arith);
      either = inr bad;
      stands = stands_or_none c.args.map.now _ c.args.image c.args.kind (inr bad);
      ok = at_error _ _ c.from_residual.ensures.0;
      flag = at_error _ _ c.from_residual.ensures.0;
      erases = at_error _ _ c.from_residual.ensures.0;
      journal = omega (arith, c.mark_kind.ensures.journal);
      off = refuses_failed _ _ _ c.from_residual.ensures.0
          (ends_passed _ _ _ _ c.from_residual.ensures.1 c.in_err-mark_kind.ensures.ends);
      ends = ends_passed _ _ _ _ c.from_residual.ensures.1 c.in_err-mark_kind.ensures.ends;
    }

pub returns : goal.returns
returns g c =
    let good = writes_magic c.args.map.now c.args.image Secondary _ _ _ (record {
      laid_out = laid_out_kept _ _ _ _ c.requires.image.laid_out c.mark_kind.ensures.outside;
      there = c.requires.image.there;
    }) c.write_units.ensures in
    let either = whole_or_not_good c.args.kind _ _ c.in_ok-mark_kind.ensures.ok good.own in
    record {
      outside = keeps_trans _ _ _ _ _ c.mark_kind.ensures.outside good.outside;
      units = same_outside_trans _ 24 _ _ _
          (same_outside_wider _ 8 _ 24 _ _ c.mark_kind.ensures.unit (omega arith) (omega arith))
          (same_outside_wider _ 16 _ 24 _ _ good.unit (omega arith) (omega arith));
      either = either;
      stands = stands_or_none c.args.map.now _ c.args.image c.args.kind either;
      ok = on_ok_weaker c.write_units.result
          (λ is. whole_once_good c.args.kind _ _ c.in_ok-mark_kind.ensures.ok good.own is)
          good.ok;
      flag = on_ok_weaker c.write_units.result (λ is. λ permanent.
          ok_beside_magic c.args.map.now c.args.image Secondary c.requires.image.laid_out.is_map
          c.requires.image.there _ _ good.unit ∙ c.in_ok-mark_kind.ensures.flag permanent)
          good.ok;
      erases = on_ok_weaker c.write_units.result (λ none. none ∙ c.in_ok-mark_kind.ensures.erases) good.erases;
      journal = omega (arith, c.mark_kind.ensures.journal, good.journal);
      off = λ off. good.off (c.in_ok-mark_kind.ensures.ends.uncut.on ∙ off);
      ends = ends_then _ _ _ _ _ c.in_ok-mark_kind.ensures.ends good.ends;
    }
