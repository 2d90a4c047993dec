use Rattle.std.proofs.Common.{sym, subst, ap, arith, length}
use Rattle.std.specs.List.{Contains}
use Rattle.om_members.specs.Listings.{AreDistinct}
use Rattle.om_signs.specs.declared.limits.TheConstants.{MAX_MEMBERS}
use Rattle.om_denotation.specs.Compositions.{IsOfLeastSupport}
use Rattle.om_denotation.specs.Listings.{AreAllOf}
use Rattle.om_denotation.specs.Operations.{IsWithout}
use Rattle.om_minors.specs.Dropped.{IsDropped}
use Rattle.om_minors.proofs.SetMinors.{least_members, least_lengths, least_axioms, least_distinct, least_few}
use Rattle.om_minors.proofs.signed_sets.least_part.Goals as goal

pub lawful-requires-clause-lengths : goal.lawful-requires-clause-lengths
lawful-requires-clause-lengths c =
    least_lengths c.args.set.now c.elements-elements.ensures.lawful c.args.e c.elements-elements.result
    c.requires.several c.requires.low c.requires.high c.elements-elements.ensures.value c.members.result.now
    c.members.ensures.value c.as_slice.result.now c.in_ok-list.list
    (subst (AreAllOf (IsDropped c.args.e c.members.result.now)) (sym c.as_slice.ensures)
    c.in_ok-without.ensures.members) c.in_ok-list.ensures

pub lawful-requires-clause-distinct : goal.lawful-requires-clause-distinct
lawful-requires-clause-distinct c =
    least_distinct c.args.set.now c.elements-elements.ensures.lawful c.args.e c.elements-elements.result
    c.requires.several c.requires.low c.requires.high c.elements-elements.ensures.value c.members.result.now
    c.members.ensures.value c.as_slice.result.now c.in_ok-list.list
    (subst (AreAllOf (IsDropped c.args.e c.members.result.now)) (sym c.as_slice.ensures)
    c.in_ok-without.ensures.members) c.in_ok-list.ensures
    (subst AreDistinct (sym c.as_slice.ensures) c.in_ok-without.ensures.distinct)

pub lawful-requires-clause-few : goal.lawful-requires-clause-few
lawful-requires-clause-few c =
    let most = c.elements-elements.ensures.lawful.few in
    let few = c.in_ok-without.ensures.few in
    let same = ap length c.as_slice.ensures in
    let all = ap length c.members.ensures.value in
    least_few c.args.set.now c.elements-elements.ensures.lawful c.args.e c.elements-elements.result c.requires.several
    c.requires.low c.requires.high c.elements-elements.ensures.value c.members.result.now c.members.ensures.value
    c.as_slice.result.now c.in_ok-list.list
    (subst (AreAllOf (IsDropped c.args.e c.members.result.now)) (sym c.as_slice.ensures)
    c.in_ok-without.ensures.members) c.in_ok-list.ensures
    MAX_MEMBERS (omega (arith, most, few, same, all))

pub lawful-requires-clause-axioms : goal.lawful-requires-clause-axioms
lawful-requires-clause-axioms c =
    least_axioms c.args.set.now c.elements-elements.ensures.lawful c.args.e c.elements-elements.result
    c.requires.several c.requires.low c.requires.high c.elements-elements.ensures.value c.members.result.now
    c.members.ensures.value c.as_slice.result.now c.in_ok-list.list
    (subst (AreAllOf (IsDropped c.args.e c.members.result.now)) (sym c.as_slice.ensures)
    c.in_ok-without.ensures.members) c.in_ok-list.ensures

pub returns-clause-members : goal.returns-clause-members
returns-clause-members c =
    subst (AreAllOf (IsOfLeastSupport (IsWithout c.args.set.now.elements c.args.e (Contains c.args.set.now.members))))
    (sym c.lawful.ensures.members)
    (least_members c.args.set.now c.elements-elements.ensures.lawful c.args.e c.elements-elements.result
    c.requires.several c.requires.low c.requires.high c.elements-elements.ensures.value c.members.result.now
    c.members.ensures.value c.as_slice.result.now c.in_ok-list.list
    (subst (AreAllOf (IsDropped c.args.e c.members.result.now)) (sym c.as_slice.ensures)
    c.in_ok-without.ensures.members) c.in_ok-list.ensures)

pub returns-clause-no_more : goal.returns-clause-no_more
returns-clause-no_more c =
    let few = c.in_ok-without.ensures.few in
    let same = ap length c.as_slice.ensures in
    let all = ap length c.members.ensures.value in
    let made = ap length c.lawful.ensures.members in
    let fewer = least_few c.args.set.now c.elements-elements.ensures.lawful c.args.e c.elements-elements.result
    c.requires.several c.requires.low c.requires.high c.elements-elements.ensures.value c.members.result.now
    c.members.ensures.value c.as_slice.result.now c.in_ok-list.list
    (subst (AreAllOf (IsDropped c.args.e c.members.result.now)) (sym c.as_slice.ensures)
    c.in_ok-without.ensures.members) c.in_ok-list.ensures
    (length c.args.set.now.members) (omega (arith, few, same, all)) in
    omega (arith, made, fewer)
