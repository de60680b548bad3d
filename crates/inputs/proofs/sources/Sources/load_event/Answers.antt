use Rattle.std.proofs.Common.{refl, subst, sym}
use Rattle.common.proofs.Results.{IfErr-passed}
use Rattle.inputs.proofs.ScriptFaultLaws.{NamesLine-faults}
use Rattle.machine.specs.declared.event.Event.TheVariants as event
use Rattle.machine.specs.Event.{event_map}
use Rattle.device_texts.specs.Said.{said_file}
use Rattle.inputs.specs.Loading.{Loads}
use Rattle.inputs.specs.Script.{Comes}
use Rattle.inputs.proofs.ScriptLaws.{Loads-accept, Loads-piece}
use Rattle.inputs.proofs.sources.Sources.load_event.Goals as goal

-- The event is a manifest.
pub returns-in_ok-text-in-Accept-clause-loaded : goal.returns-in_ok-text-in-Accept-clause-loaded
returns-in_ok-text-in-Accept-clause-loaded g c =
    let buffered = c.args.self.now.buffered.now in
    let files = g.H.Host.file c.args.self.now.host.now in
    let text = c.in_ok-text-in-Accept.text.items in
    subst (λ one. Loads buffered files (λ known after. Comes (event_map said_file one) known (event.Accept text) after))
    (sym c.in-Accept.is)
    (Loads-accept buffered files (said_file c.in-Accept.file) text c.in_ok-text-in-Accept.ensures.loaded)

-- The event is a piece.
pub returns-in_ok-piece-in-Piece-clause-loaded : goal.returns-in_ok-piece-in-Piece-clause-loaded
returns-in_ok-piece-in-Piece-clause-loaded g c =
    let buffered = c.args.self.now.buffered.now in
    let files = g.H.Host.file c.args.self.now.host.now in
    let piece = c.in_ok-piece-in-Piece.piece.items in
    let image = c.in-Piece.image in
    subst (λ one. Loads buffered files (λ known after. Comes (event_map said_file one) known (event.Piece image piece) after))
    (sym c.in-Piece.is)
    (Loads-piece buffered files image (said_file c.in-Piece.file) piece c.in_ok-piece-in-Piece.ensures.loaded)

-- The file of a line isn't as it was.
pub returns-in_err-text-in-Accept-clause-wrong : goal.returns-in_err-text-in-Accept-clause-wrong
returns-in_err-text-in-Accept-clause-wrong g c =
    IfErr-passed _ _ _ c.from_residual.ensures.1
    (NamesLine-faults _ c.args.number _ _
    (λ why is. (said_file c.in-Accept.file, rw c.in-Accept.is refl, is)) c.in_err-text-in-Accept.ensures.wrong)

pub returns-in_err-piece-in-Piece-clause-wrong : goal.returns-in_err-piece-in-Piece-clause-wrong
returns-in_err-piece-in-Piece-clause-wrong g c =
    IfErr-passed _ _ _ c.from_residual-in_err-piece-in-Piece.ensures.1
    (NamesLine-faults _ c.args.number _ _
    (λ why is. (said_file c.in-Piece.file, rw c.in-Piece.is refl, is)) c.in_err-piece-in-Piece.ensures.wrong)
