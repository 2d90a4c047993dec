use Rattle.om_circuits.proofs.InstanceLaws.{axioms_met, first_nested_violated, first_blocked_violated}
use Rattle.om_circuits.proofs.InstanceLaws.{first_zero_violated, first_negative_violated}
use Rattle.om_circuits.proofs.acceptance.first_violated.Goals as goal

pub returns-in-Some-first_nested-clause-first : goal.returns-in-Some-first_nested-clause-first
returns-in-Some-first_nested-clause-first g c =
    first_nested_violated c.args.members.now c.in-Some-first_nested.i c.in-Some-first_nested.j c.in_default.ensures.none
    c.in_default-first_without_negative.ensures.none c.in-Some-first_nested.ensures.first

pub returns-in_err-i-clause-none : goal.returns-in_err-i-clause-none
returns-in_err-i-clause-none g c = rw c.from_residual.ensures
    (axioms_met c.args.members.now c.args.elements c.requires.lengths c.in_default.ensures.none
    c.in_default-first_without_negative.ensures.none c.in_default-first_nested.ensures.none c.in_err-i.ensures.none)

pub returns-clause-first : goal.returns-clause-first
returns-clause-first g c = first_blocked_violated c.args.members.now c.args.elements c.requires.lengths c.in_ok-i.i
    c.in_ok-i.j c.in_ok-i.e c.in_default.ensures.none c.in_default-first_without_negative.ensures.none
    c.in_default-first_nested.ensures.none c.in_ok-i.ensures.first

pub returns-in-Some : goal.returns-in-Some
returns-in-Some g c = record {
  none = tt;
  first = first_zero_violated c.args.members.now c.in-Some.i c.in-Some.ensures.first;
}

pub returns-in-Some-first_without_negative : goal.returns-in-Some-first_without_negative
returns-in-Some-first_without_negative g c = record {
  none = tt;
  first = first_negative_violated c.args.members.now c.in-Some-first_without_negative.i c.in_default.ensures.none
      c.in-Some-first_without_negative.ensures.first;
}
