use Rattle.std.proofs.Common.{◌≡◌, ◌≤◌, [], length, take, refl, sym, subst, inl, inr, arith}
use Rattle.boot_core.specs.Answers.{reply_of_result}
use Rattle.flash_model.specs.Chip.{Fixed}
use Rattle.c_interface.specs.Cuts.{asked_by}
use Rattle.c_interface.specs.Numbers.{MOST_CUTS}
use Rattle.c_interface.specs.Provisioning.{ProvisionsOn, Replied, NotCalled}
use Rattle.slice_flash.specs.Rows.{fixed_by}
use Rattle.c_interface.proofs.Asked.{same_asked}
use Rattle.c_interface.proofs.Lifecycle.{first_in}
use Rattle.c_interface.proofs.provisioning.bootswap_simulate_provision.Goals as goal

pub returns-in-Err-clause-all : goal.returns-in-Err-clause-all
returns-in-Err-clause-all c = NotCalled (inl c.in-Err.ensures.refused) refl c.put_no_result.ensures

pub returns-then-cuts-gt-MOST_CUTS-clause-all : goal.returns-then-cuts-gt-MOST_CUTS-clause-all
returns-then-cuts-gt-MOST_CUTS-clause-all c = NotCalled (inr (record {
  number_is = refl;
  many = omega (arith, c.if-cuts-gt-MOST_CUTS.true);
  checked = c.in-Ok.checked;
  is_checked = c.in-Ok.ensures.checked;
})) refl c.put_no_result-then-cuts-gt-MOST_CUTS.ensures

pub returns-clause-all : goal.returns-clause-all
returns-clause-all c =
    let few : length c.args.cuts.now ≤ MOST_CUTS = omega (arith, c.if-cuts-gt-MOST_CUTS.false) in
    let asked = fixed_by (take (length c.args.cuts.now) c.table_of-table.result) [] 0 in
    let same : asked ≡ asked_by c.args.cuts.now =
    same_asked c.args.cuts.now c.table_of-table.result c.table_of-table.ensures
    (omega (arith, c.if-cuts-gt-MOST_CUTS.false, c.table_of-table.type_inv)) in
    Replied c.in-Ok.checked (reply_of_result c.provision_on-writes.new.given) c.in-Ok.ensures.checked few
    (subst (λ (these : Fixed). ProvisionsOn c.in-Ok.checked.map these c.args.flash.now c.provision_on-writes.new.bytes
    (reply_of_result c.provision_on-writes.new.given) c.report.new.call_result.writes) same
    (subst (λ n. ProvisionsOn c.in-Ok.checked.map asked c.args.flash.now c.provision_on-writes.new.bytes
    (reply_of_result c.provision_on-writes.new.given) n) (sym c.report.ensures.writes) c.provision_on-writes.ensures))
    c.report.ensures.fields c.report.ensures.journal c.report.ensures.number

pub returns-in-Err-clause-first : goal.returns-in-Err-clause-first
returns-in-Err-clause-first c = first_in c.args.setup.now c.args.cuts.now _ _ _ _ (returns-in-Err-clause-all c)

pub returns-then-cuts-gt-MOST_CUTS-clause-first : goal.returns-then-cuts-gt-MOST_CUTS-clause-first
returns-then-cuts-gt-MOST_CUTS-clause-first c = first_in c.args.setup.now c.args.cuts.now _ _ _ _ (returns-then-cuts-gt-MOST_CUTS-clause-all c)

pub returns-clause-first : goal.returns-clause-first
returns-clause-first c = first_in c.args.setup.now c.args.cuts.now _ _ _ _ (returns-clause-all c)
