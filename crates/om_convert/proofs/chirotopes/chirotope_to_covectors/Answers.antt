use Rattle.std.proofs.Common.{sym, ◌∙◌, subst}
use Rattle.om_denotation.specs.Covectors.{IsCovectorOfChirotope}
use Rattle.om_denotation.specs.Listings.{AreAllOf}
use Rattle.om_denotation.proofs.OnlyLaws.{only_covectors}
use Rattle.om_convert.specs.Gathering.{IsMemberSet}
use Rattle.om_convert.proofs.CountingLaws.{listed_within}
use Rattle.om_convert.proofs.ChirotopeLaws.{covector_lengths, covectors_lawful, same_as_covectors}
use Rattle.om_convert.proofs.chirotopes.chirotope_to_covectors.Goals as goal

pub lawful-requires-clause-low : goal.lawful-requires-clause-low
lawful-requires-clause-low c = c.elements.ensures.low

pub lawful-requires-clause-high : goal.lawful-requires-clause-high
lawful-requires-clause-high c = c.elements.ensures.high

pub lawful-requires-clause-lengths : goal.lawful-requires-clause-lengths
lawful-requires-clause-lengths c =
    let all = subst (AreAllOf (IsCovectorOfChirotope c.args.chi.now)) (sym c.in_ok-covectors.ensures.value)
    c.in_ok-gathered.ensures.members in
    λ k d l. covector_lengths c.args.chi.now c.in_ok-covectors.covectors all k d l ∙ sym c.elements.ensures.value

pub lawful-requires-clause-distinct : goal.lawful-requires-clause-distinct
lawful-requires-clause-distinct c =
    (subst IsMemberSet (sym c.in_ok-covectors.ensures.value) c.in_ok-covectors.ensures.lawful).distinct

pub lawful-requires-clause-few : goal.lawful-requires-clause-few
lawful-requires-clause-few c =
    (subst IsMemberSet (sym c.in_ok-covectors.ensures.value) c.in_ok-covectors.ensures.lawful).few

pub lawful-requires-clause-axioms : goal.lawful-requires-clause-axioms
lawful-requires-clause-axioms c =
    let all = subst (AreAllOf (IsCovectorOfChirotope c.args.chi.now)) (sym c.in_ok-covectors.ensures.value)
    c.in_ok-gathered.ensures.members in
    covectors_lawful c.args.chi.now c.in_ok-covectors.covectors all c.all_covectors.ensures.lawful

pub returns-clause-members : goal.returns-clause-members
returns-clause-members c = subst (AreAllOf (IsCovectorOfChirotope c.args.chi.now))
    (sym (c.lawful.ensures.members ∙ c.in_ok-covectors.ensures.value)) c.in_ok-gathered.ensures.members

pub returns-clause-same : goal.returns-clause-same
returns-clause-same c =
    let all = subst (AreAllOf (IsCovectorOfChirotope c.args.chi.now)) (sym c.in_ok-covectors.ensures.value)
    c.in_ok-gathered.ensures.members in
    same_as_covectors c.args.chi.now c.in_ok-covectors.covectors all c.lawful.result
    (c.lawful.ensures.elements ∙ c.elements.ensures.value) c.lawful.ensures.members

pub returns-clause-few : goal.returns-clause-few
returns-clause-few c = listed_within (IsCovectorOfChirotope c.args.chi.now) c.in_ok-gathered.gathered
    c.in_ok-gathered.ensures.members c.in_ok-covectors.ensures.lawful.few

pub returns-clause-unique : goal.returns-clause-unique
returns-clause-unique c =
    let all = subst (AreAllOf (IsCovectorOfChirotope c.args.chi.now)) (sym c.in_ok-covectors.ensures.value)
    c.in_ok-gathered.ensures.members in
    only_covectors c.lawful.result c.args.chi.now.elements c.in_ok-covectors.covectors
    (c.lawful.ensures.elements ∙ c.elements.ensures.value) c.lawful.ensures.members
    (covector_lengths c.args.chi.now c.in_ok-covectors.covectors all)
