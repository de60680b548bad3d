use Rattle.std.proofs.Common.{arith, length, ap, true≢false, refl, sym, inl, ◌∙◌}
use Rattle.std.proofs.lemmas.Bool.{false≢true}
use Rattle.flash_model.proofs.Ending.{no_error}
use Rattle.flash_model.proofs.Frame.{same_outside_refl}
use Rattle.sector_map.proofs.Parts.{keeps_refl}
use Rattle.upload.specs.declared.sessions.Upload.{Upload}
use Rattle.upload.proofs.Added.{held_back}
use Rattle.upload.proofs.Ends.{err_passed, reads_well}
use Rattle.upload.proofs.Ready.{added_ready, matched_ready, ready_open, stopped_ready, unread_ready}
use Rattle.upload.proofs.adding.add_bytes.Goals as goal

pub returns-then-len-bytes-lt-UNIT : goal.returns-then-len-bytes-lt-UNIT
returns-then-len-bytes-lt-UNIT g c =
    let rest = c.hold.ensures.rest in
    record {
      outside = keeps_refl _ _ _;
      range = same_outside_refl _ _ _;
      front = inl refl;
      ok = λ yes. held_back c.args.image _ c.args.upload.now c.hold.new.upload c.args.bytes.now (record {
        size = ap (λ (v : Upload). v.size) rest;
        digest = ap (λ (v : Upload). v.digest) rest;
        kind = ap (λ (v : Upload). v.kind) rest;
        received = ap (λ (v : Upload). v.received) rest;
        held = c.hold.ensures.held;
      }) (omega (arith, c.len.ensures.value, c.if-len-bytes-lt-UNIT.true)) c.requires.fits;
      refused = λ no. absurd (true≢false no);
      matched = λ stands. refl;
      unready = λ on enough never. absurd (
          let few = c.if-len-bytes-lt-UNIT.true in omega (arith, c.len.ensures.value, few, enough));
      only = λ no. absurd (true≢false no);
      erases = refl;
      held = λ few. (refl, refl);
      off = λ off written counts enough. absurd (
          let few = c.if-len-bytes-lt-UNIT.true in omega (arith, c.len.ensures.value, few, enough));
      journal = omega arith;
      ends = reads_well _ _ _ refl;
    }

pub returns-then-not-is_ready : goal.returns-then-not-is_ready
returns-then-not-is_ready g c = rw c.is_ready.ensures.same (record {
  outside = keeps_refl _ _ _;
  range = same_outside_refl _ _ _;
  front = inl refl;
  ok = λ yes. absurd (false≢true yes);
  refused = λ no. (refl, refl);
  matched = λ stands. absurd (false≢true (sym c.if-not-is_ready.true ∙ c.in_ok-is_ready.ensures.ok.1
      (matched_ready c.args.map.now _ c.args.image (length c.args.bytes.now) c.args.upload.now c.requires.laid_out
      c.requires.fits stands)));
  unready = λ on enough never. refl;
  only = λ no. (
    let enough = c.if-len-bytes-lt-UNIT.false in omega (arith, c.len.ensures.value, enough),
    λ ready. false≢true (sym c.if-not-is_ready.true ∙ c.in_ok-is_ready.ensures.ok.1 ready),
  );
  erases = refl;
  held = λ few. absurd (let enough = c.if-len-bytes-lt-UNIT.false in omega (arith, c.len.ensures.value, few, enough));
  off = λ off written counts enough. absurd (no_error _ _ (c.in_ok-is_ready.ensures.off off written counts));
  journal = omega arith;
  ends = reads_well _ _ _ refl;
})

pub returns-in_err-is_ready : goal.returns-in_err-is_ready
returns-in_err-is_ready g c = rw (err_passed _ c.in_err-is_ready.field-0.0 c.from_residual.ensures.1)
    (unread_ready c.args.map.now c.args.image c.args.upload.now c.args.bytes.now c.in_err-is_ready.field-0.0 _ _
    c.is_ready.ensures.same c.in_err-is_ready.ensures.ends
    (let enough = c.if-len-bytes-lt-UNIT.false in omega (arith, c.len.ensures.value, enough)))

pub write_units-requires-clause-room : goal.write_units-requires-clause-room
write_units-requires-clause-room g c = rw c.is_ready.ensures.same (ready_open c.args.map.now _ c.args.image
    (length c.args.bytes.now) c.args.upload.now c.requires.laid_out c.requires.fits
    (c.in_ok-is_ready.ensures.ok.0 c.if-not-is_ready.false))

pub returns : goal.returns
returns g c =
    let ready = c.in_ok-is_ready.ensures.ok.0 c.if-not-is_ready.false in
    added_ready c.args.map.now c.args.image c.args.upload.now c.write_units.new.upload c.args.bytes.now _ _ _
    c.is_ready.ensures.same ready (omega (arith, c.len.ensures.value, c.if-len-bytes-lt-UNIT.false))
    c.in_ok-write_units.ensures

pub returns-in_err-write_units : goal.returns-in_err-write_units
returns-in_err-write_units g c =
    let ready = c.in_ok-is_ready.ensures.ok.0 c.if-not-is_ready.false in
    rw (err_passed _ c.in_err-write_units.field-0.0 c.from_residual-in_err-write_units.ensures.1)
    (stopped_ready c.args.map.now c.args.image c.args.upload.now c.write_units.new.upload c.args.bytes.now
    c.in_err-write_units.field-0.0 _ _ _ c.is_ready.ensures.same ready
    (omega (arith, c.len.ensures.value, c.if-len-bytes-lt-UNIT.false)) c.in_err-write_units.ensures)
