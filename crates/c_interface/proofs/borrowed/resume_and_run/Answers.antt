use Rattle.std.proofs.Common.{◌≡◌, ◌+◌, refl, sym, subst}
use Rattle.flash_model.specs.Chip.{Chip}
use Rattle.upload.specs.Sessions.{AllOpenAt}
use Rattle.upload.specs.View.{view}
use Rattle.machine.specs.Steps.{cut_of}
use Rattle.boot_core.specs.Device.{seen}
use Rattle.c_interface.specs.Calls.{IsJournaled, MakesCall}
use Rattle.c_interface.proofs.Asked.{dark_after}
use Rattle.c_interface.proofs.Counting.{cuts_of}
use Rattle.c_interface.proofs.StepLaws.{saved_opens, steps_on}
use Rattle.c_interface.proofs.borrowed.resume_and_run.Goals as goal

pub make-requires-clause-opens : goal.make-requires-clause-opens
make-requires-clause-opens g c other =
    subst (λ (chip : Chip). AllOpenAt (view c.args.checked.now.map chip) c.restore-is_booted.new.uploads.sessions)
    (sym c.restore-is_booted.ensures.same)
    (saved_opens (g.C.Call.call c.args.call.now) c.args.checked.now.map c.args.saved.now
    (seen (g.F.Flash.chip c.args.flash.now) c.restore-is_booted.new.uploads.sessions c.restore-is_booted.result)
    (c.restore-is_booted.ensures.restored (g.C.Call.call c.args.call.now) (sym c.is_piece.ensures)) other)

pub returns-clause-cuts : goal.returns-clause-cuts
returns-clause-cuts g c =
    let checked = c.args.checked.now in
    let behind = g.F.Flash.chip c.make.new.flash in
    subst (λ (chip : Chip). behind.cuts ≡ chip.cuts + cut_of (g.C.Answer.Answer.reply c.make.new.answer)) c.restore-is_booted.ensures.same
    (cuts_of checked.map checked.identity checked.boots (g.C.Call.call c.args.call.now)
    (seen (g.F.Flash.chip c.restore-is_booted.new.flash) c.restore-is_booted.new.uploads.sessions c.restore-is_booted.result)
    (seen behind c.make.new.uploads.sessions c.make.new.is_booted) (g.C.Answer.Answer.reply c.make.new.answer)
    c.make.ensures.is)

pub returns-clause-steps : goal.returns-clause-steps
returns-clause-steps g c =
    let checked = c.args.checked.now in
    let before = g.F.Flash.chip c.args.flash.now in
    let behind = g.F.Flash.chip c.make.new.flash in
    steps_on checked (g.C.Call.call c.args.call.now) before.bytes behind.bytes c.args.saved.now c.save.new.saved before behind
    c.restore-is_booted.new.uploads.sessions c.make.new.uploads.sessions c.restore-is_booted.result
    c.make.new.is_booted (g.C.Answer.Answer.reply c.make.new.answer)
    (record { laid_out = c.requires.laid_out; has = refl; on = c.requires.on })
    (c.restore-is_booted.ensures.restored (g.C.Call.call c.args.call.now) (sym c.is_piece.ensures))
    (subst (λ (chip : Chip). MakesCall checked.map checked.identity checked.boots (g.C.Call.call c.args.call.now)
    (seen chip c.restore-is_booted.new.uploads.sessions c.restore-is_booted.result)
    (seen behind c.make.new.uploads.sessions c.make.new.is_booted) (g.C.Answer.Answer.reply c.make.new.answer))
    c.restore-is_booted.ensures.same c.make.ensures)
    refl c.save.ensures

pub returns-clause-journal : goal.returns-clause-journal
returns-clause-journal g c =
    subst (λ (chip : Chip). IsJournaled c.args.checked.now.map (g.C.Call.call c.args.call.now) chip
    (g.F.Flash.chip c.make.new.flash)) c.restore-is_booted.ensures.same c.make.ensures.journal

pub returns-clause-dark : goal.returns-clause-dark
returns-clause-dark g c =
    let checked = c.args.checked.now in
    dark_after checked.map checked.identity checked.boots (g.C.Call.call c.args.call.now)
    (seen (g.F.Flash.chip c.restore-is_booted.new.flash) c.restore-is_booted.new.uploads.sessions c.restore-is_booted.result)
    (seen (g.F.Flash.chip c.make.new.flash) c.make.new.uploads.sessions c.make.new.is_booted)
    (g.C.Answer.Answer.reply c.make.new.answer) c.make.ensures.is
