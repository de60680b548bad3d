use Rattle.std.proofs.Common.{◌∙◌, ap, arith, inr, refl}
use Rattle.std.proofs.lemmas.Result.{on_ok_weaker}
use Rattle.trailer.proofs.Withdrawal.{none_after_front, none_after_trailer, front_after_trailer, erases_of, first_gone, unset_kept}
use Rattle.trailer.proofs.Withdrawal.{front_idle, nothing_left, rest_of_trailer, rest_trans}
use Rattle.sector_map.specs.declared.layout.Side.TheVariants.{Secondary}
use Rattle.sector_map.specs.Part.{Slot}
use Rattle.flash_model.proofs.Ending.{at_error, ends_passed, ends_then}
use Rattle.trailer.specs.Standing.{first_is_set, incoming_slot}
use Rattle.trailer.proofs.Gone.{gone_without_front}
use Rattle.trailer.proofs.FailedCalls.{at_any, refuses_failed, refuses_first}
use Rattle.trailer.proofs.Withdrawal.{incoming_then_trailer, slot_or_none, trailer_of_withdrawal, trailer_then_slot}
use Rattle.trailer.proofs.withdrawing.withdraw.Goals as goal

pub returns-in_err-take_back : goal.returns-in_err-take_back
returns-in_err-take_back g c =
    let rest = rest_of_trailer c.args.map.now _ _ c.args.image c.take_back.ensures.outside in
    let slot = c.take_back.ensures.outside.parts (Slot c.args.image Secondary) refl in
    let e = c.from_residual.ensures.0 in
    record {
      outside = trailer_of_withdrawal c.args.map.now _ _ c.args.image c.take_back.ensures.outside;
      rest = rest;
      idle = λ front erased. c.take_back.ensures.idle (gone_without_front c.args.map.now _ c.args.image front);
      either = slot_or_none c.args.map.now _ _ c.args.image slot c.take_back.ensures.either;
      ok = at_error _ _ e;
      bytes = at_error _ _ e;
      front = at_error _ _ e;
      first = at_error _ _ e;
      unset = λ unset. slot;
      erases = at_error _ _ e;
      journal = omega (arith, c.take_back.ensures.journal);
      journal_unset = λ front. omega (
        arith,
        ap (λ chip. chip.journaled)
            (c.take_back.ensures.idle (gone_without_front c.args.map.now _ c.args.image front)),
      );
      off = refuses_failed _ _ _ e (ends_passed _ _ _ _ c.from_residual.ensures.1 c.in_err-take_back.ensures.ends);
      ends = ends_passed _ _ _ _ c.from_residual.ensures.1 c.in_err-take_back.ensures.ends;
    }

pub returns-in_err-erase_front : goal.returns-in_err-erase_front
returns-in_err-erase_front g c =
    let rest = rest_trans c.args.map.now c.args.image Secondary _ _ _
    (rest_of_trailer c.args.map.now _ _ c.args.image c.take_back.ensures.outside) c.erase_front.ensures.rest in
    let unset = unset_kept c.args.map.now _ _ _ c.args.image c.take_back.ensures.outside c.erase_front.ensures.idle in
    let none = none_after_front c.args.map.now _ _ c.args.image c.in_ok-take_back.ensures.ok
    c.erase_front.ensures.outside c.erase_front.ensures.idle in
    let e = c.from_residual-in_err-erase_front.ensures.0 in
    record {
      outside = trailer_then_slot c.args.map.now _ _ _ c.args.image c.take_back.ensures.outside
          c.erase_front.ensures.outside;
      rest = rest;
      idle = λ front erased.
          front_idle c.args.map.now _ _ _ c.args.image c.take_back.ensures.idle c.erase_front.ensures.idle front;
      either = inr none;
      ok = at_error _ _ e;
      bytes = at_error _ _ e;
      front = at_error _ _ e;
      first = at_error _ _ e;
      unset = unset;
      erases = at_error _ _ e;
      journal = omega (arith, c.take_back.ensures.journal, c.erase_front.ensures.journal);
      journal_unset = λ front. omega (
        arith,
        ap (λ chip. chip.journaled)
            (front_idle c.args.map.now _ _ _ c.args.image c.take_back.ensures.idle c.erase_front.ensures.idle front),
      );
      off = refuses_first _ _ _ c.in_ok-take_back.ensures.off;
      ends = ends_then _ _ _ _ _ c.in_ok-take_back.ensures.ends
          (ends_passed _ _ _ _ c.from_residual-in_err-erase_front.ensures.1 c.in_err-erase_front.ensures.ends);
    }

pub returns : goal.returns
returns g c =
    let front = rest_trans c.args.map.now c.args.image Secondary _ _ _
    (rest_of_trailer c.args.map.now _ _ c.args.image c.take_back.ensures.outside) c.erase_front.ensures.rest in
    record {
      outside = incoming_then_trailer c.args.map.now _ _ _ c.args.image
          (trailer_then_slot c.args.map.now _ _ _ c.args.image c.take_back.ensures.outside
          c.erase_front.ensures.outside) c.clear.ensures.outside;
      rest = rest_trans c.args.map.now c.args.image Secondary _ _ _ front
          (rest_of_trailer c.args.map.now _ _ c.args.image c.clear.ensures.outside);
      idle = nothing_left c.args.map.now (g.F.Flash.chip c.args.flash.now) (g.F.Flash.chip c.take_back.new.flash)
          (g.F.Flash.chip c.erase_front.new.flash) (g.F.Flash.chip c.clear.new.flash) c.args.image
          c.take_back.ensures.idle c.erase_front.ensures.idle c.clear.ensures.idle;
      either = inr (none_after_trailer c.args.map.now _ _ c.args.image c.in_ok-erase_front.ensures.ok
          c.clear.ensures.outside);
      ok = c.clear.ensures.ok;
      bytes = c.clear.ensures.bytes;
      front = at_any _ _ (front_after_trailer c.args.map.now _ _ c.args.image c.in_ok-erase_front.ensures.ok
          c.clear.ensures.outside);
      first = at_any _ _ (first_gone c.args.map.now _ _ _ _ c.args.image c.take_back.ensures.outside
          c.clear.ensures.outside c.in_ok-erase_front.ensures.first);
      unset = λ unset. c.clear.ensures.outside.parts (Slot c.args.image Secondary) refl
          ∙ unset_kept c.args.map.now _ _ _ c.args.image c.take_back.ensures.outside c.erase_front.ensures.idle unset;
      erases = on_ok_weaker c.clear.result (λ erases.
          erases_of c.args.map.now (g.F.Flash.chip c.args.flash.now) (g.F.Flash.chip c.take_back.new.flash)
          (g.F.Flash.chip c.erase_front.new.flash) (g.F.Flash.chip c.clear.new.flash) c.args.image
          c.take_back.ensures.outside c.erase_front.ensures.outside c.in_ok-take_back.ensures.erased
          c.in_ok-take_back.ensures.erases c.in_ok-erase_front.ensures.erases erases)
          c.clear.ensures.erases;
      journal = omega (arith, c.take_back.ensures.journal, c.erase_front.ensures.journal, c.clear.ensures.journal);
      journal_unset = λ front. omega (
        arith,
        c.clear.ensures.journal,
        ap (λ chip. chip.journaled)
            (front_idle c.args.map.now _ _ _ c.args.image c.take_back.ensures.idle c.erase_front.ensures.idle front),
      );
      off = refuses_first _ _ _ c.in_ok-take_back.ensures.off;
      ends = ends_then _ _ _ _ _ c.in_ok-take_back.ensures.ends
          (ends_then _ _ _ _ _ c.in_ok-erase_front.ensures.ends c.clear.ensures.ends);
    }
