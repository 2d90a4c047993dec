use Rattle.std.proofs.Common.{sym, ◌∙◌, subst}
use Rattle.om_denotation.specs.Circuits.{IsCocircuitOfChirotope}
use Rattle.om_denotation.specs.Listings.{AreAllOf}
use Rattle.om_denotation.proofs.OnlyLaws.{only_cocircuits}
use Rattle.om_convert.specs.Gathering.{IsMemberSet}
use Rattle.om_convert.proofs.CountingLaws.{listed_within}
use Rattle.om_convert.proofs.ChirotopeLaws.{cocircuit_lengths, cocircuits_lawful, same_as_cocircuits}
use Rattle.om_convert.proofs.chirotopes.chirotope_to_cocircuits.Goals as goal

pub lawful-requires-clause-low : goal.lawful-requires-clause-low
lawful-requires-clause-low c = c.elements.ensures.low

pub lawful-requires-clause-high : goal.lawful-requires-clause-high
lawful-requires-clause-high c = c.elements.ensures.high

pub lawful-requires-clause-lengths : goal.lawful-requires-clause-lengths
lawful-requires-clause-lengths c =
    let all = subst (AreAllOf (IsCocircuitOfChirotope c.args.chi.now)) (sym c.in_ok-cocircuits.ensures.value)
    c.in_ok-gathered.ensures.members in
    λ k d l. cocircuit_lengths c.args.chi.now c.all_cocircuits.ensures.lawful c.in_ok-cocircuits.cocircuits all k d l
    ∙ sym c.elements.ensures.value

pub lawful-requires-clause-distinct : goal.lawful-requires-clause-distinct
lawful-requires-clause-distinct c =
    (subst IsMemberSet (sym c.in_ok-cocircuits.ensures.value) c.in_ok-cocircuits.ensures.lawful).distinct

pub lawful-requires-clause-few : goal.lawful-requires-clause-few
lawful-requires-clause-few c =
    (subst IsMemberSet (sym c.in_ok-cocircuits.ensures.value) c.in_ok-cocircuits.ensures.lawful).few

pub lawful-requires-clause-axioms : goal.lawful-requires-clause-axioms
lawful-requires-clause-axioms c =
    let all = subst (AreAllOf (IsCocircuitOfChirotope c.args.chi.now)) (sym c.in_ok-cocircuits.ensures.value)
    c.in_ok-gathered.ensures.members in
    cocircuits_lawful c.args.chi.now c.all_cocircuits.ensures.lawful c.in_ok-cocircuits.cocircuits all

pub returns-clause-members : goal.returns-clause-members
returns-clause-members c = subst (AreAllOf (IsCocircuitOfChirotope c.args.chi.now))
    (sym (c.lawful.ensures.members ∙ c.in_ok-cocircuits.ensures.value)) c.in_ok-gathered.ensures.members

pub returns-clause-same : goal.returns-clause-same
returns-clause-same c =
    let all = subst (AreAllOf (IsCocircuitOfChirotope c.args.chi.now)) (sym c.in_ok-cocircuits.ensures.value)
    c.in_ok-gathered.ensures.members in
    same_as_cocircuits c.args.chi.now c.all_cocircuits.ensures.lawful c.in_ok-cocircuits.cocircuits all c.lawful.result
    (c.lawful.ensures.elements ∙ c.elements.ensures.value) c.lawful.ensures.members

pub returns-clause-few : goal.returns-clause-few
returns-clause-few c = listed_within (IsCocircuitOfChirotope c.args.chi.now) c.in_ok-gathered.gathered
    c.in_ok-gathered.ensures.members c.in_ok-cocircuits.ensures.lawful.few

pub returns-clause-unique : goal.returns-clause-unique
returns-clause-unique c =
    let all = subst (AreAllOf (IsCocircuitOfChirotope c.args.chi.now)) (sym c.in_ok-cocircuits.ensures.value)
    c.in_ok-gathered.ensures.members in
    only_cocircuits c.lawful.result c.args.chi.now.elements c.in_ok-cocircuits.cocircuits
    (c.lawful.ensures.elements ∙ c.elements.ensures.value) c.lawful.ensures.members
    (cocircuit_lengths c.args.chi.now c.all_cocircuits.ensures.lawful c.in_ok-cocircuits.cocircuits all)
    (cocircuits_lawful c.args.chi.now c.all_cocircuits.ensures.lawful c.in_ok-cocircuits.cocircuits all)
