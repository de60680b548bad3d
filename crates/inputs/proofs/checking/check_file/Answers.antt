use Rattle.std.proofs.Common.{inl, refl}
use Rattle.std.proofs.lemmas.Result.{on_ok_weaker}
use Rattle.device_texts.specs.Said.{said_file}
use Rattle.inputs.specs.Script.{known_at}
use Rattle.inputs.proofs.ScriptLaws.{KeepsBuffered-file, KeepsBuffered-input}
use Rattle.inputs.proofs.ScriptFaultLaws.{MayName-file, MayName-input}
use Rattle.inputs.proofs.checking.check_file.Goals as goal

-- The bytes were read from standard input, and they are buffered.
pub returns-in_ok-bytes-in-StandardInput-clause-buffered : goal.returns-in_ok-bytes-in-StandardInput-clause-buffered
returns-in_ok-bytes-in-StandardInput-clause-buffered g c =
    let named = rw c.in-StandardInput.is at c.named.ensures in
    let read = c.in_ok-bytes-in-StandardInput.ensures in
    on_ok_weaker c.add_input.result
    (λ pushed. KeepsBuffered-input _ _ _ _ _ _ _ (g.H.Host.file c.args.host.now) pushed named read.first read.read read.piece)
    c.add_input.ensures.added

-- The bytes were read from a file that can't be read again, and they are buffered.
pub returns-else-can_be_read_again-clause-buffered : goal.returns-else-can_be_read_again-clause-buffered
returns-else-can_be_read_again-clause-buffered g c =
    on_ok_weaker c.add_input-in-File.result
    (λ pushed. KeepsBuffered-file _ _ _ _ _ _ pushed c.in_ok-bytes-in-File.ensures.read)
    c.add_input-in-File.ensures.added

-- The buffered bytes are those that the line names.
pub returns-in_ok-bytes-in-StandardInput-clause-again : goal.returns-in_ok-bytes-in-StandardInput-clause-again
returns-in_ok-bytes-in-StandardInput-clause-again g c =
    on_ok_weaker c.add_input.result (λ pushed. inl (_, refl, pushed)) c.add_input.ensures.added

pub returns-else-can_be_read_again-clause-again : goal.returns-else-can_be_read_again-clause-again
returns-else-can_be_read_again-clause-again g c =
    on_ok_weaker c.add_input-in-File.result (λ pushed. inl (_, refl, pushed)) c.add_input-in-File.ensures.added

-- The line may name standard input, whose bytes were read.
pub returns-in_ok-bytes-in-StandardInput-clause-right : goal.returns-in_ok-bytes-in-StandardInput-clause-right
returns-in_ok-bytes-in-StandardInput-clause-right g c =
    let named = rw c.in-StandardInput.is at c.named.ensures in
    let read = c.in_ok-bytes-in-StandardInput.ensures in
    on_ok_weaker c.add_input.result
    (λ pushed. MayName-input _ (known_at (g.H.Host.input c.args.host.now) (g.H.Host.file c.args.host.now))
    (said_file c.args.file) _ named read.first read.piece)
    c.add_input.ensures.added

-- The line may name a file, whose bytes were read.
pub returns-then-can_be_read_again-clause-right : goal.returns-then-can_be_read_again-clause-right
returns-then-can_be_read_again-clause-right g c =
    let named = rw c.in-File.is at c.named.ensures in
    MayName-file _ (known_at (g.H.Host.input c.args.host.now) (g.H.Host.file c.args.host.now)) (said_file c.args.file)
    _ named.0 c.in_ok-bytes-in-File.ensures.read

pub returns-else-can_be_read_again-clause-right : goal.returns-else-can_be_read_again-clause-right
returns-else-can_be_read_again-clause-right g c =
    let named = rw c.in-File.is at c.named.ensures in
    on_ok_weaker c.add_input-in-File.result
    (λ pushed. MayName-file _ (known_at (g.H.Host.input c.args.host.now) (g.H.Host.file c.args.host.now))
    (said_file c.args.file) _ named.0 c.in_ok-bytes-in-File.ensures.read)
    c.add_input-in-File.ensures.added
