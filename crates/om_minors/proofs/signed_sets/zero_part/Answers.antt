use Rattle.std.proofs.Common.{sym, subst}
use Rattle.std.specs.List.{Contains}
use Rattle.om_denotation.specs.Listings.{AreAllOf}
use Rattle.om_denotation.specs.Operations.{IsZeroWithout}
use Rattle.om_minors.proofs.SetMinors.{zero_members, zero_lengths, zero_axioms}
use Rattle.om_minors.proofs.signed_sets.zero_part.Goals as goal

pub lawful-requires-clause-lengths : goal.lawful-requires-clause-lengths
lawful-requires-clause-lengths c =
    zero_lengths c.args.set.now c.elements-elements.ensures.lawful c.args.e c.elements-elements.result
    c.requires.several c.requires.low c.requires.high c.elements-elements.ensures.value c.members.result.now
    c.members.ensures.value c.in_ok-list.list c.in_ok-list.ensures.members

pub lawful-requires-clause-axioms : goal.lawful-requires-clause-axioms
lawful-requires-clause-axioms c =
    zero_axioms c.args.set.now c.elements-elements.ensures.lawful c.args.e c.elements-elements.result c.requires.several
    c.requires.low c.requires.high c.elements-elements.ensures.value c.members.result.now c.members.ensures.value
    c.in_ok-list.list c.in_ok-list.ensures.members

pub returns-clause-members : goal.returns-clause-members
returns-clause-members c =
    subst (AreAllOf (IsZeroWithout c.args.set.now.elements c.args.e (Contains c.args.set.now.members)))
    (sym c.lawful.ensures.members)
    (zero_members c.args.set.now c.elements-elements.ensures.lawful c.args.e c.elements-elements.result
    c.requires.several c.requires.low c.requires.high c.elements-elements.ensures.value c.members.result.now
    c.members.ensures.value c.in_ok-list.list c.in_ok-list.ensures.members)
