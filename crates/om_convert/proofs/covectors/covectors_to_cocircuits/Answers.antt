use Rattle.std.proofs.Common.{◌≡◌, length, sym, subst, ◌∙◌, arith}
use Rattle.om_members.specs.Listings.{HaveLength}
use Rattle.om_covectors.specs.Minimality.{IsMinimal}
use Rattle.om_denotation.proofs.SelectionLaws.{those_all, those_few, those_distinct}
use Rattle.om_denotation.proofs.OnlyLaws.{only_cocircuits}
use Rattle.om_denotation.proofs.CocircuitLaws.{minimal_axioms, same_covectors}
use Rattle.om_convert.proofs.covectors.covectors_to_cocircuits.Goals as goal

pub lawful-requires-clause-lengths : goal.lawful-requires-clause-lengths
lawful-requires-clause-lengths c =
    let s = c.elements-elements.ensures.lawful in
    subst (λ n. HaveLength n c.in_ok-minimal.minimal) (sym c.elements-elements.ensures.value)
    (those_all (IsMinimal c.args.c.now.members) (λ X. length X ≡ c.args.c.now.elements) c.args.c.now.members
    c.in_ok-minimal.minimal c.in_ok-minimal.ensures s.lengths)

pub lawful-requires-clause-distinct : goal.lawful-requires-clause-distinct
lawful-requires-clause-distinct c =
    those_distinct (IsMinimal c.args.c.now.members) c.args.c.now.members c.in_ok-minimal.minimal c.in_ok-minimal.ensures
    c.elements-elements.ensures.lawful.distinct

pub lawful-requires-clause-few : goal.lawful-requires-clause-few
lawful-requires-clause-few c =
    let l = c.elements-elements.ensures.lawful.few in
    let k = those_few (IsMinimal c.args.c.now.members) c.args.c.now.members c.in_ok-minimal.minimal
    c.in_ok-minimal.ensures in
    omega (arith, l, k)

pub lawful-requires-clause-axioms : goal.lawful-requires-clause-axioms
lawful-requires-clause-axioms c =
    let s = c.elements-elements.ensures.lawful in
    minimal_axioms c.args.c.now.elements c.args.c.now.members s.lengths s.axioms c.in_ok-minimal.minimal
    c.in_ok-minimal.ensures

pub returns-clause-same : goal.returns-clause-same
returns-clause-same c =
    let s = c.elements-elements.ensures.lawful in
    same_covectors c.args.c.now.elements c.args.c.now.members s.lengths s.axioms c.in_ok-minimal.minimal
    c.in_ok-minimal.ensures c.lawful.result (c.lawful.ensures.elements ∙ c.elements-elements.ensures.value)
    c.lawful.ensures.members

pub returns-clause-unique : goal.returns-clause-unique
returns-clause-unique c =
    let s = c.elements-elements.ensures.lawful in
    only_cocircuits c.lawful.result c.args.c.now.elements c.in_ok-minimal.minimal
    (c.lawful.ensures.elements ∙ c.elements-elements.ensures.value) c.lawful.ensures.members
    (those_all (IsMinimal c.args.c.now.members) (λ X. length X ≡ c.args.c.now.elements) c.args.c.now.members
    c.in_ok-minimal.minimal c.in_ok-minimal.ensures s.lengths)
    (minimal_axioms c.args.c.now.elements c.args.c.now.members s.lengths s.axioms c.in_ok-minimal.minimal
    c.in_ok-minimal.ensures)
