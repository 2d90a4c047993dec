use Rattle.std.proofs.Common.{sym, subst}
use Rattle.std.specs.List.{Contains}
use Rattle.om_denotation.specs.Listings.{AreAllOf}
use Rattle.om_denotation.specs.Operations.{IsZeroWithout}
use Rattle.om_minors.proofs.CovectorMinors.{zero_members, zero_lengths, zero_axioms, zero_contraction}
use Rattle.om_minors.proofs.covectors.contract_covectors.Goals as goal

pub lawful-requires-clause-lengths : goal.lawful-requires-clause-lengths
lawful-requires-clause-lengths c =
    zero_lengths c.args.c.now c.elements-elements.ensures.lawful c.args.e c.elements-elements.result c.requires.low
    c.requires.high c.elements-elements.ensures.value c.if-elements-eq1.false c.members.result.now c.in_ok-list.list
    c.members.ensures.value c.in_ok-list.ensures.members

pub lawful-requires-clause-axioms : goal.lawful-requires-clause-axioms
lawful-requires-clause-axioms c =
    zero_axioms c.args.c.now c.elements-elements.ensures.lawful c.args.e c.elements-elements.result c.requires.low
    c.requires.high c.elements-elements.ensures.value c.if-elements-eq1.false c.members.result.now c.in_ok-list.list
    c.members.ensures.value c.in_ok-list.ensures.members

pub returns-clause-members : goal.returns-clause-members
returns-clause-members c =
    subst (AreAllOf (IsZeroWithout c.args.c.now.elements c.args.e (Contains c.args.c.now.members)))
    (sym c.lawful.ensures.members)
    (zero_members c.args.c.now c.elements-elements.ensures.lawful c.args.e c.elements-elements.result c.requires.low
    c.requires.high c.elements-elements.ensures.value c.if-elements-eq1.false c.members.result.now c.in_ok-list.list
    c.members.ensures.value c.in_ok-list.ensures.members)

pub returns-clause-contraction : goal.returns-clause-contraction
returns-clause-contraction c =
    zero_contraction c.args.c.now c.elements-elements.ensures.lawful c.args.e c.elements-elements.result c.requires.low
    c.requires.high c.elements-elements.ensures.value c.if-elements-eq1.false c.members.result.now c.in_ok-list.list
    c.members.ensures.value c.in_ok-list.ensures.members
    c.lawful.result c.lawful.ensures.elements c.lawful.ensures.members
