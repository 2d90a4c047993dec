use Rattle.std.proofs.Common.{◌≡◌, false, true, subst}
use Rattle.om_circuits.specs.Axioms.{MeetsCircuitAxioms}
use Rattle.om_circuits.specs.Instances.{IsFirstViolated}
use Rattle.om_circuits.proofs.InstanceLaws.{violated_breaks}
use Rattle.om_circuits.proofs.acceptance.check.Goals as goal

pub returns-in-Some-clause-accepted : goal.returns-in-Some-clause-accepted
returns-in-Some-clause-accepted g c = (
  λ e. let d : false ≡ true = e in cc d,
  λ ax. absurd
      (violated_breaks c.args.list c.in-Some.why
      (subst (λ m. IsFirstViolated m c.in-Some.why) c.as_slice.ensures c.in-Some.ensures.first).violated ax),
)

pub lawful-requires : goal.lawful-requires
lawful-requires g c = record {
  low = c.requires.low;
  high = c.requires.high;
  lengths = c.requires.lengths;
  distinct = c.requires.distinct;
  few = c.requires.few;
  axioms = subst MeetsCircuitAxioms c.as_slice.ensures c.in-None.ensures.none;
}

pub returns-in-Some-clause-first : goal.returns-in-Some-clause-first
returns-in-Some-clause-first g c =
    subst (λ m. IsFirstViolated m c.in-Some.why) c.as_slice.ensures c.in-Some.ensures.first
