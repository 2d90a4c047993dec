use Rattle.std.proofs.Common.{◌∙◌, refl, sym, subst}
use Rattle.om_denotation.specs.Covectors.{IsCovectorOfCocircuits, IsCovectorOfCircuits}
use Rattle.om_denotation.specs.Operations.{IsDual}
use Rattle.om_denotation.specs.Only.{AreOnlyCircuits}
use Rattle.om_denotation.proofs.OnlyLaws.{only_circuits}
use Rattle.om_denotation.proofs.DualLists.{dual_of_cocircuits, same_listing}
use Rattle.om_dual.proofs.lists.dual_cocircuits.Goals as goal

pub returns-clause-members : goal.returns-clause-members
returns-clause-members c =
    same_listing c.lawful.result c.args.c.0 (c.lawful.ensures.elements ∙ c.elements-elements.ensures.value)
    (c.lawful.ensures.members ∙ c.into_list.ensures.value)

pub returns-clause-dual : goal.returns-clause-dual
returns-clause-dual c =
    let set = c.elements-elements.ensures.lawful in
    subst (λ d. IsDual c.args.c.0.elements (IsCovectorOfCocircuits c.args.c.0) (IsCovectorOfCircuits d))
    (sym (returns-clause-members c)) (dual_of_cocircuits c.args.c.0 set.lengths set.axioms)

pub returns-clause-unique : goal.returns-clause-unique
returns-clause-unique c =
    let set = c.elements-elements.ensures.lawful in
    subst AreOnlyCircuits (sym (returns-clause-members c))
    (only_circuits c.args.c.0 c.args.c.0.elements c.args.c.0.members refl refl set.lengths set.axioms)
