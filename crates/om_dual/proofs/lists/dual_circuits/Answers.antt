use Rattle.std.proofs.Common.{◌∙◌, refl, sym, subst}
use Rattle.om_denotation.specs.Covectors.{IsCovectorOfCircuits, IsCovectorOfCocircuits}
use Rattle.om_denotation.specs.Operations.{IsDual}
use Rattle.om_denotation.specs.Only.{AreOnlyCocircuits}
use Rattle.om_denotation.proofs.OnlyLaws.{only_cocircuits}
use Rattle.om_denotation.proofs.DualLists.{dual_of_circuits, same_listing}
use Rattle.om_dual.proofs.lists.dual_circuits.Goals as goal

pub returns-clause-members : goal.returns-clause-members
returns-clause-members c =
    same_listing c.lawful.result c.args.c.0 (c.lawful.ensures.elements ∙ c.elements-elements.ensures.value)
    (c.lawful.ensures.members ∙ c.into_list.ensures.value)

pub returns-clause-dual : goal.returns-clause-dual
returns-clause-dual c =
    let set = c.elements-elements.ensures.lawful in
    subst (λ d. IsDual c.args.c.0.elements (IsCovectorOfCircuits c.args.c.0) (IsCovectorOfCocircuits d))
    (sym (returns-clause-members c)) (dual_of_circuits c.args.c.0 set.lengths set.axioms)

pub returns-clause-unique : goal.returns-clause-unique
returns-clause-unique c =
    let set = c.elements-elements.ensures.lawful in
    subst AreOnlyCocircuits (sym (returns-clause-members c))
    (only_cocircuits c.args.c.0 c.args.c.0.elements c.args.c.0.members refl refl set.lengths set.axioms)
