use Rattle.std.proofs.Common.{◌≡◌, ◌∙◌, arith, false, sym}
use Rattle.std.proofs.lemmas.Bool.{false≢true}
use Rattle.std.proofs.lemmas.Result.{on_ok_weaker}
use Rattle.set_log.proofs.Turns.{register_none}
use Rattle.set_log.proofs.Moves.{place_torn, place_put, erases_free, erases_full}
use Rattle.set_log.specs.Log.{log_bytes, log_of}
use Rattle.set_log.specs.Ring.{has_room}
use Rattle.set_log.specs.Written.{IsFirstFree}
use Rattle.set_log.proofs.Placing.{put_within, put_written, not_full, no_place, next_beside, next_moved}
use Rattle.flash_model.proofs.Ending.{ends_then}
use Rattle.set_log.proofs.writing.append_record.Goals as goal

pub returns-in_default : goal.returns-in_default
returns-in_default g c =
    absurd (c.requires.has_record (register_none _ _ (rw c.in_default.is at c.in_ok-active.ensures.ok)))

pub returns-in-Some-2 : goal.returns-in-Some-2
returns-in-Some-2 g c =
    let map = c.args.map.now in
    let mid = g.F.Flash.chip c.free_place.new.flash in
    let same = c.free_place.ensures.same ∙ c.find_active.ensures.same in
    let active = rw c.in-Some.is at c.in_ok-active.ensures.ok in
    let first : IsFirstFree map.sector_size (log_of map mid) c.in-Some.active c.in-Some-2.place =
    rw c.free_place.ensures.same (rw c.in-Some-2.is at c.in_ok-place.ensures.ok) in
    let full_never = not_full map _ _ mid same c.in-Some.active c.in-Some-2.place active first in
    record {
      outside = rw same at c.write_record.ensures.outside;
      either = place_torn map c.in-Some.active c.in-Some-2.place _ _ _ _ same c.requires.laid_out.is_map active
          first.free c.write_record.ensures.within c.write_record.ensures.either;
      ok = on_ok_weaker c.write_record.result (λ put.
          place_put map c.in-Some.active c.in-Some-2.place _ _ _ _ same c.requires.laid_out.is_map active
          first.free c.write_record.ensures.within put)
          c.write_record.ensures.ok;
      put = record {
        within = put_within map _ _ _ same c.in-Some.active c.in-Some-2.place active first
            c.write_record.ensures.within;
        written = on_ok_weaker c.write_record.result
            (put_written map _ _ _ same c.in-Some.active c.in-Some-2.place active first c.args.body.now)
            c.write_record.ensures.written;
        beside = λ sector is full. absurd (full_never full);
        moved = on_ok_weaker c.write_record.result (λ _. λ sector is full. absurd (full_never full))
            c.write_record.ensures.ok;
      };
      erases = on_ok_weaker c.write_record.result (λ _.
          erases_free map c.in-Some.active c.in-Some-2.place _ _ _ same active first.free
          c.write_record.ensures.erases)
          c.write_record.ensures.ok;
      journal = omega (arith, rw same at c.write_record.ensures.journal);
      off = λ off. absurd (false≢true (sym off ∙ c.in_ok-active.ensures.on));
      ends = ends_then _ _ _ _ _ c.in_ok-active.ensures.ends
          (ends_then _ _ _ _ _ c.in_ok-place.ensures.ends c.write_record.ensures.ends);
    }

pub returns-in-None : goal.returns-in-None
returns-in-None g c =
    let map = c.args.map.now in
    let mid = g.F.Flash.chip c.free_place.new.flash in
    let same = c.free_place.ensures.same ∙ c.find_active.ensures.same in
    let active = rw c.in-Some.is at c.in_ok-active.ensures.ok in
    let full : has_room map.sector_size (log_bytes map mid) c.in-Some.active ≡ false =
    rw c.free_place.ensures.same (rw c.in-None.is at c.in_ok-place.ensures.ok) in
    let never = no_place map _ _ mid same c.in-Some.active active full in
    record {
      outside = rw same at c.move_on.ensures.outside;
      either = rw same at c.move_on.ensures.either;
      ok = c.move_on.ensures.ok;
      put = record {
        within = λ sector place is first. absurd (never sector place is first);
        written = on_ok_weaker c.move_on.result (λ _. λ sector place is first. absurd (never sector place is first))
            c.move_on.ensures.ok;
        beside = λ sector is _. next_beside map _ _ _ same c.in-Some.active active c.move_on.ensures.beside sector is;
        moved = on_ok_weaker c.move_on.result
            (λ moved. λ sector is _. next_moved map _ _ _ same c.in-Some.active active c.args.body.now moved sector is)
            c.move_on.ensures.moved;
      };
      erases = on_ok_weaker c.move_on.result (λ one.
          erases_full map c.in-Some.active _ _ _ _ c.find_active.ensures.same c.free_place.ensures.same active
          (rw c.in-None.is at c.in_ok-place.ensures.ok) one)
          c.move_on.ensures.erases;
      journal = rw same at c.move_on.ensures.journal;
      off = λ off. absurd (false≢true (sym off ∙ c.in_ok-active.ensures.on));
      ends = ends_then _ _ _ _ _ c.in_ok-active.ensures.ends
          (ends_then _ _ _ _ _ c.in_ok-place.ensures.ends c.move_on.ensures.ends);
    }
