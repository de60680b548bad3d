use Rattle.std.proofs.Common.{◌≡◌, false, length}
use Rattle.std.specs.Io.KnownBytes.{Keeps}
use Rattle.host.specs.Input.{KeepsFiles}
use Rattle.device_texts.specs.FlashOf.{armed_in}
use Rattle.inputs.specs.Loading.{AreBuffered}
use Rattle.inputs.specs.Script.{known_at}
use Rattle.inputs.proofs.ScriptFaultLaws.{AreChecked}
use Rattle.inputs.proofs.ScriptLaws.{CutSoFar}
use Rattle.inputs.proofs.checking.check_script.Given as goal

-- The lines so far can be run. The cuts so far are those of the checked lines. The named bytes that can't be read again are
-- buffered, as of the host at the start. The host's files are unchanged. So is its input, unless a
-- line named it. The host opened no more files.
abbrev pub invariant-loop-lines : goal.invariant-loop-lines
invariant-loop-lines g l = record {
  checked : AreChecked l.text l.fn.is_input_read (known_at (g.H.Host.input l.fn.host) (g.H.Host.file l.fn.host))
      l.lines l.checked.is_input_read;
  cuts : CutSoFar l.text l.lines.rest.now (armed_in l.checked.cuts.items);
  buffered : AreBuffered l.checked.buffered.items (g.H.Host.input l.fn.host) (g.H.Host.file l.fn.host);
  files : KeepsFiles (g.H.Host.file l.fn.host) (g.H.Host.file l.host);
  opened : g.H.Host.opened l.host ≡ g.H.Host.opened l.fn.host;
  input : l.checked.is_input_read ≡ false → Keeps (g.H.Host.input l.fn.host) (g.H.Host.input l.host);
}

abbrev pub decreases-loop-lines : goal.decreases-loop-lines
decreases-loop-lines g l = length l.lines.rest.now
