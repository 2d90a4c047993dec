use Rattle.std.proofs.Common.{refl, sym, subst}
use Rattle.std.proofs.lemmas.Bool.{false≢true}
use Rattle.om_members.specs.Listings.{HaveLength, AreDistinct}
use Rattle.om_covectors.specs.Axioms.{MeetsCovectorAxioms}
use Rattle.om_convert.proofs.reading.read_covectors.Goals as goal

pub are_covectors_of_proposal-requires-clause-lengths : goal.are_covectors_of_proposal-requires-clause-lengths
are_covectors_of_proposal-requires-clause-lengths g c κs within =
    subst (HaveLength c.args.elements) (sym c.as_slice.ensures) c.requires.lengths

pub are_covectors_of_proposal-requires-clause-distinct : goal.are_covectors_of_proposal-requires-clause-distinct
are_covectors_of_proposal-requires-clause-distinct g c κs within =
    subst AreDistinct (sym c.as_slice.ensures) c.requires.distinct

pub lawful-requires : goal.lawful-requires
lawful-requires g c =
    record {
      low = c.requires.low;
      high = c.requires.high;
      lengths = c.requires.lengths;
      distinct = c.requires.distinct;
      few = c.requires.few;
      axioms = subst MeetsCovectorAxioms c.as_slice.ensures (c.in-Ok-true.ensures c.in-Ok-true.field-0-test);
    }

pub returns-in-Ok-true-clause-accepted : goal.returns-in-Ok-true-clause-accepted
returns-in-Ok-true-clause-accepted g c =
    subst MeetsCovectorAxioms c.as_slice.ensures (c.in-Ok-true.ensures c.in-Ok-true.field-0-test)

pub returns-in-Ok-clause-accepted : goal.returns-in-Ok-clause-accepted
returns-in-Ok-clause-accepted g c = c.in-Ok.ensures.accepted.0 refl

pub returns-in-Err-clause-refused : goal.returns-in-Err-clause-refused
returns-in-Err-clause-refused g c =
    record {
      unchanged = c.in-Err.ensures.unchanged;
      first = c.in-Err.ensures.first;
      violated = λ m. false≢true (c.in-Err.ensures.accepted.1 m);
    }
