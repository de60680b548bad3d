use Rattle.std.proofs.Common.{rules, Some, None, sym, ◌∙◌}
use Rattle.std.proofs.lemmas.Bool.{false≢true}
use Rattle.set_log.proofs.LastRecord.{said, state_fits, state_within}
use Rattle.set_log.proofs.log.read_state.Goals as goal

pub returns-in_err-body : goal.returns-in_err-body
returns-in_err-body g c = record {
  same = search rules;
  answers = search rules;
  table = state_fits c.args.map.now _;
  within = state_within c.args.map.now _;
  off = search rules;
  erases = search rules;
}

pub returns-in_default : goal.returns-in_default
returns-in_default g c = record {
  same = search rules;
  answers = (
    said c.args.map.now (g.F.Flash.chip c.args.flash.now) None (sym c.in_ok-body.ensures.ok ∙ c.in_default.is),
    c.in_ok-body.ensures.on,
  );
  table = state_fits c.args.map.now _;
  within = state_within c.args.map.now _;
  off = λ off. absurd (false≢true (sym off ∙ c.in_ok-body.ensures.on));
  erases = search rules;
}

pub returns-in-Some-from_bytes : goal.returns-in-Some-from_bytes
returns-in-Some-from_bytes g c = record {
  same = search rules;
  answers = (
    said c.args.map.now (g.F.Flash.chip c.args.flash.now) (Some c.in-Some.body) (sym c.in_ok-body.ensures.ok ∙ c.in-Some.is)
        ∙ sym c.from_bytes.ensures ∙ c.in-Some-from_bytes.is,
    c.in_ok-body.ensures.on,
  );
  table = state_fits c.args.map.now _;
  within = state_within c.args.map.now _;
  off = λ off. absurd (false≢true (sym off ∙ c.in_ok-body.ensures.on));
  erases = search rules;
}

pub returns-in-None : goal.returns-in-None
returns-in-None g c = record {
  same = search rules;
  answers = (
    said c.args.map.now (g.F.Flash.chip c.args.flash.now) (Some c.in-Some.body) (sym c.in_ok-body.ensures.ok ∙ c.in-Some.is)
        ∙ sym c.from_bytes.ensures ∙ c.in-None.is,
    c.in_ok-body.ensures.on,
  );
  table = state_fits c.args.map.now _;
  within = state_within c.args.map.now _;
  off = λ off. absurd (false≢true (sym off ∙ c.in_ok-body.ensures.on));
  erases = search rules;
}
