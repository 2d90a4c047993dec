use Rattle.std.proofs.lemmas.Bool.{iff_false}
use Rattle.om_covectors.proofs.InstanceLaws.{no_zero_violated, first_negative_violated}
use Rattle.om_covectors.proofs.InstanceLaws.{axioms_met, first_uncomposed_violated, first_blocked_violated}
use Rattle.om_covectors.proofs.acceptance.first_violated.Goals as goal

pub returns-in-Some-first_uncomposed-clause-first : goal.returns-in-Some-first_uncomposed-clause-first
returns-in-Some-first_uncomposed-clause-first g c =
    first_uncomposed_violated c.args.members.now c.in-Some-first_uncomposed.i c.in-Some-first_uncomposed.j
    (c.has_zero.ensures.0 c.if-not-has_zero.false) c.in_default.ensures.none c.in-Some-first_uncomposed.ensures.first

pub returns-in_err-i-clause-none : goal.returns-in_err-i-clause-none
returns-in_err-i-clause-none g c = rw c.from_residual.ensures
    (axioms_met c.args.members.now c.args.elements c.requires.lengths (c.has_zero.ensures.0 c.if-not-has_zero.false)
    c.in_default.ensures.none c.in_default-first_uncomposed.ensures.none c.in_err-i.ensures.none)

pub returns-clause-first : goal.returns-clause-first
returns-clause-first g c = first_blocked_violated c.args.members.now c.args.elements c.requires.lengths c.in_ok-i.i
    c.in_ok-i.j c.in_ok-i.e (c.has_zero.ensures.0 c.if-not-has_zero.false) c.in_default.ensures.none
    c.in_default-first_uncomposed.ensures.none c.in_ok-i.ensures.first

pub returns-then-not-has_zero : goal.returns-then-not-has_zero
returns-then-not-has_zero g c = record {
  none = tt;
  first = no_zero_violated c.args.members.now (iff_false c.has_zero.ensures c.if-not-has_zero.true);
}

pub returns-in-Some : goal.returns-in-Some
returns-in-Some g c = record {
  none = tt;
  first = first_negative_violated c.args.members.now c.in-Some.i (c.has_zero.ensures.0 c.if-not-has_zero.false)
      c.in-Some.ensures.first;
}
