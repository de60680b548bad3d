use Rattle.std.proofs.Common.{◌≡◌, ◌∙◌, ◌+◌, None, refl, sym, true≢false}
use Rattle.std.proofs.lemmas.Result.{IfOk-weaker}
use Rattle.set_log.specs.Log.{state_of}
use Rattle.flash_contents.proofs.Stepping.{sound_answers, stands_some}
use Rattle.boot_core.proofs.Wears.{worn_read}
use Rattle.boot_core.proofs.Stops.{no_log_stopped, read_again, read_idle, read_over, read_stopped, stood_none}
use Rattle.boot_core.proofs.OnMap.{layout_same}
use Rattle.boot_core.proofs.Passed.{here_ends}
use Rattle.decision.specs.Places.{read_as}
use Rattle.boot_core.specs.Places.{reply_in}
use Rattle.boot_core.proofs.Asking.{read_asks}
use Rattle.boot_core.proofs.boots.boot.Goals as goal

pub returns-in-Ok : goal.returns-in-Ok
returns-in-Ok g c =
    let map = c.args.map.now in
    let found = c.in-Ok.ensures.answers in
    let booted = rw c.read_state.ensures.same at c.boot_from.ensures in
    record {
      layout = booted.boot.layout;
      stands = booted.boot.stands;
      ok = IfOk-weaker (read_as (reply_in c.boot_from.new.table c.boot_from.new.report) c.boot_from.result) _ _ (λ reply gives. gives.ok) booted.boot.done;
      answers = IfOk-weaker (read_as (reply_in c.boot_from.new.table c.boot_from.new.report) c.boot_from.result) _ _ (λ reply gives. λ s stands sound.
          sound_answers map (c.args.left + 1) (g.F.Flash.chip c.boot_from.new.flash) s reply sound (gives.ok s stands))
          booted.boot.done;
      empty = λ none. absurd (stood_none map _ _ found.0 none);
      refused = λ none. absurd (stood_none map _ _ found.0 none);
      erases = IfOk-weaker (read_as (reply_in c.boot_from.new.table c.boot_from.new.report) c.boot_from.result) _ _ (λ reply gives. λ state s stood stands.
          worn_read map _ _ _ state reply found.0 stood gives.erases s stands) booted.boot.done;
      stops = IfOk-weaker (read_as (reply_in c.boot_from.new.table c.boot_from.new.report) c.boot_from.result) _ _ (λ reply stops. λ state finding permanent stood is.
          read_stopped map _ _ _ state finding found.0 stood (stops finding permanent is)) booted.stops;
      idle = read_idle map _ _ _ (read_as (reply_in c.boot_from.new.table c.boot_from.new.report) c.boot_from.result) found.0 booted.idle;
      over = read_over map _ _ _ (read_as (reply_in c.boot_from.new.table c.boot_from.new.report) c.boot_from.result) found.0 booted.over;
      again = read_again map _ _ _ (read_as (reply_in c.boot_from.new.table c.boot_from.new.report) c.boot_from.result)
          found.0 booted.again;
      journal = λ state stood. read_asks map _ _ _ state found.0 stood booted.journal;
      starts = IfOk-weaker (read_as (reply_in c.boot_from.new.table c.boot_from.new.report) c.boot_from.result) _ _
          (λ reply gives. gives.starts) booted.boot.done;
      off = λ off. absurd (true≢false (sym found.1 ∙ off));
      told = IfOk-weaker (read_as (reply_in c.boot_from.new.table c.boot_from.new.report) c.boot_from.result) _ _ (λ reply gives. gives.told) booted.boot.done;
      ends = booted.boot.ends;
    }

pub returns-in-Err-NoLog : goal.returns-in-Err-NoLog
returns-in-Err-NoLog g c =
    let none : state_of c.args.map.now (g.F.Flash.chip c.args.flash.now) ≡ None =
    (rw c.in-Err-NoLog.field-0-is at c.in-Err-NoLog.ensures.answers).0 in
    record {
      layout = layout_same c.requires.laid_out c.read_state.ensures.same;
      stands = λ s stands. absurd (stands_some c.args.map.now _ s stands none);
      ok = λ s stands. absurd (stands_some c.args.map.now _ s stands none);
      answers = λ s stands. absurd (stands_some c.args.map.now _ s stands none);
      empty = λ none. c.read_state.ensures.same;
      refused = λ none. refl;
      erases = λ state s stood stands. absurd (stands_some c.args.map.now _ s stands none);
      stops = λ state finding permanent stood is.
          no_log_stopped c.args.map.now state _ _ finding permanent is;
      idle = λ state stood. absurd (stood_none c.args.map.now _ state stood none);
      over = λ state stood. absurd (stood_none c.args.map.now _ state stood none);
      again = λ state set more stood. absurd (stood_none c.args.map.now _ state stood none);
      journal = λ state stood. absurd (stood_none c.args.map.now _ state stood none);
      starts = tt;
      off = λ off. absurd (true≢false (sym (rw c.in-Err-NoLog.field-0-is at c.in-Err-NoLog.ensures.answers).1 ∙ off));
      told = tt;
      ends = rw c.read_state.ensures.same here_ends;
    }
