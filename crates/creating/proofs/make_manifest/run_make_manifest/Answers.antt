use Rattle.std.proofs.Common.{inl, inr, refl, rules}
use Rattle.host.proofs.InputLaws.{KeepsFiles-twice}
use Rattle.creating.proofs.NewManifestEnds.{asked_refused, no_notes, precursor_count, running_refused, some_notes, written}
use Rattle.creating.proofs.make_manifest.run_make_manifest.Goals as goal

-- The arguments were refused.
pub returns-in-Some-fault_in-clause-answers : goal.returns-in-Some-fault_in-clause-answers
returns-in-Some-fault_in-clause-answers g c =
    let read = rw c.in-Some.is at c.in_ok-of_device.ensures.read in
    inr (inl (asked_refused c.args.device c.args.asked.now _ _ _ _ _ c.in-Some.of_device c.in-Some-fault_in.fault _ read.0 read.1
    c.deref.ensures.value (rw c.in-Some-fault_in.is at c.fault_in.ensures.fault) c.in_ok-refuse.ensures))

-- There is one precursor for each file.
pub write_manifest-requires-clause-same : goal.write_manifest-requires-clause-same
write_manifest-requires-clause-same g c =
    let flash = rw c.in-Are.is at c.in_ok-running.ensures.read in
    precursor_count c.in-Some.of_device.map flash.flash c.args.asked.now.components.items c.in-Are.running.digests.items flash.are

-- The manifest was written.
pub returns-else-asked-clause-answers : goal.returns-else-asked-clause-answers
returns-else-asked-clause-answers g c =
    let read = rw c.in-Some.is at c.in_ok-of_device.ensures.read in
    let flash = rw c.in-Are.is at c.in_ok-running.ensures.read in
    written c.args.device c.args.asked.now _ _ _ _ _ _ _ _ _ c.in-Some.of_device c.in-Are.running.digests.items _ read.0 read.1
    c.in_ok-of_device.ensures.others flash refl c.in_ok-is_quiet-in-Are.ensures.written

-- The manifest and a note were written, and `--strict` is given.
pub returns-then-not-is_quiet-clause-answers : goal.returns-then-not-is_quiet-clause-answers
returns-then-not-is_quiet-clause-answers g c =
    let read = rw c.in-Some.is at c.in_ok-of_device.ensures.read in
    let flash = rw c.in-Are.is at c.in_ok-running.ensures.read in
    inr (inr (inr (
      search rules,
      written c.args.device c.args.asked.now _ _ _ _ _ _ _ _ _ c.in-Some.of_device c.in-Are.running.digests.items _ read.0 read.1
          c.in_ok-of_device.ensures.others flash refl c.in_ok-is_quiet-in-Are.ensures.written,
    )))

-- A running image isn't intact.
pub returns-in_ok-refuse_running-in-DamagedAt-clause-answers : goal.returns-in_ok-refuse_running-in-DamagedAt-clause-answers
returns-in_ok-refuse_running-in-DamagedAt-clause-answers g c =
    let read = rw c.in-Some.is at c.in_ok-of_device.ensures.read in
    let damaged = rw c.in-DamagedAt.is at c.in_ok-running.ensures.read in
    inr (inr (inl (running_refused c.args.device c.args.asked.now _ _ _ _ _ _ _ c.in-Some.of_device c.in-DamagedAt.image read.0 read.1
    c.in_ok-of_device.ensures.others damaged c.in_ok-refuse_running-in-DamagedAt.ensures)))

-- The arguments, or a running image, were refused. So no note was written.
pub returns-in-Some-fault_in-clause-noted : goal.returns-in-Some-fault_in-clause-noted
returns-in-Some-fault_in-clause-noted g c =
    let read = rw c.in-Some.is at c.in_ok-of_device.ensures.read in
    inr (inl (asked_refused c.args.device c.args.asked.now _ _ _ _ _ c.in-Some.of_device c.in-Some-fault_in.fault _ read.0 read.1
    c.deref.ensures.value (rw c.in-Some-fault_in.is at c.fault_in.ensures.fault) c.in_ok-refuse.ensures))

pub returns-in_ok-refuse_running-in-DamagedAt-clause-noted : goal.returns-in_ok-refuse_running-in-DamagedAt-clause-noted
returns-in_ok-refuse_running-in-DamagedAt-clause-noted g c =
    let read = rw c.in-Some.is at c.in_ok-of_device.ensures.read in
    let damaged = rw c.in-DamagedAt.is at c.in_ok-running.ensures.read in
    inr (inr (inl (running_refused c.args.device c.args.asked.now _ _ _ _ _ _ _ c.in-Some.of_device c.in-DamagedAt.image read.0 read.1
    c.in_ok-of_device.ensures.others damaged c.in_ok-refuse_running-in-DamagedAt.ensures)))

-- With `--strict` there was no note.
pub returns-else-asked-clause-noted : goal.returns-else-asked-clause-noted
returns-else-asked-clause-noted g c = λ strict.
    elim c.else-asked.either [
      | inl both ↦ no_notes c.in_ok-is_quiet-in-Are.is_quiet _ _ c.in_ok-is_quiet-in-Are.ensures.noted both.1
      | inr lax ↦ absurd (cc (strict, lax))
    ]

-- There was a note.
pub returns-then-not-is_quiet-clause-noted : goal.returns-then-not-is_quiet-clause-noted
returns-then-not-is_quiet-clause-noted g c =
    inr (inr (inr (some_notes c.in_ok-is_quiet-in-Are.is_quiet _ _ c.in_ok-is_quiet-in-Are.ensures.noted
    c.if-not-is_quiet.true)))

-- No file changed, whatever was read.
pub returns-in_err-is_quiet-in-Are-clause-files : goal.returns-in_err-is_quiet-in-Are-clause-files
returns-in_err-is_quiet-in-Are-clause-files g c =
    KeepsFiles-twice _ _ _ c.in_ok-of_device.ensures.files
    (KeepsFiles-twice _ _ _ c.in_ok-running.ensures.files c.in_err-is_quiet-in-Are.ensures.files)

pub returns-else-asked-clause-files : goal.returns-else-asked-clause-files
returns-else-asked-clause-files g c =
    KeepsFiles-twice _ _ _ c.in_ok-of_device.ensures.files
    (KeepsFiles-twice _ _ _ c.in_ok-running.ensures.files c.in_ok-is_quiet-in-Are.ensures.files)

pub returns-then-not-is_quiet-clause-files : goal.returns-then-not-is_quiet-clause-files
returns-then-not-is_quiet-clause-files g c =
    KeepsFiles-twice _ _ _ c.in_ok-of_device.ensures.files
    (KeepsFiles-twice _ _ _ c.in_ok-running.ensures.files c.in_ok-is_quiet-in-Are.ensures.files)

pub returns-in_err-refuse_running-in-DamagedAt-clause-files : goal.returns-in_err-refuse_running-in-DamagedAt-clause-files
returns-in_err-refuse_running-in-DamagedAt-clause-files g c =
    KeepsFiles-twice _ _ _ c.in_ok-of_device.ensures.files c.in_ok-running.ensures.files

pub returns-in_ok-refuse_running-in-DamagedAt-clause-files : goal.returns-in_ok-refuse_running-in-DamagedAt-clause-files
returns-in_ok-refuse_running-in-DamagedAt-clause-files g c =
    KeepsFiles-twice _ _ _ c.in_ok-of_device.ensures.files c.in_ok-running.ensures.files
