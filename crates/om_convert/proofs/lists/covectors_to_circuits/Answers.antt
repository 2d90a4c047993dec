use Rattle.std.proofs.lemmas.Result.{err_from_is_err_and}
use Rattle.om_denotation.specs.Covectors.{IsCovectorOfChirotope, IsCovectorOfCircuits}
use Rattle.std.proofs.Common.{subst}
use Rattle.om_chirotope.specs.Chirotope.{IsChirotope}
use Rattle.om_denotation.specs.Circuits.{IsCircuitOfChirotope}
use Rattle.om_denotation.specs.Compositions.{IsOfLeastSupport}
use Rattle.om_denotation.specs.Vectors.{IsVectorOf}
use Rattle.std.specs.List.{Contains}
use Rattle.om_denotation.proofs.DualLists.{circuits_of}
use Rattle.om_convert.proofs.SameFamilies.{joined, all_same, within_same, cause_same}
use Rattle.om_convert.proofs.WidthLaws.{list_of_width, list_of_cause}
use Rattle.om_convert.proofs.lists.covectors_to_circuits.Goals as goal

pub returns-clause-members : goal.returns-clause-members
returns-clause-members c = all_same (IsCircuitOfChirotope c.in_ok-chi.chi)
    (IsOfLeastSupport (IsVectorOf c.args.c.now.elements (Contains c.args.c.now.members)))
    (circuits_of c.args.c.now.elements (Contains c.args.c.now.members) c.in_ok-chi.chi
    (subst IsChirotope c.chi.view_is c.chi.invariant.axioms) c.in_ok-chi.ensures.elements c.in_ok-chi.ensures.same)
    c.in_ok-circuits.circuits.0.members c.in_ok-circuits.ensures.members

pub returns-clause-few : goal.returns-clause-few
returns-clause-few c = within_same (IsCircuitOfChirotope c.in_ok-chi.chi)
    (IsOfLeastSupport (IsVectorOf c.args.c.now.elements (Contains c.args.c.now.members)))
    (circuits_of c.args.c.now.elements (Contains c.args.c.now.members) c.in_ok-chi.chi
    (subst IsChirotope c.chi.view_is c.chi.invariant.axioms) c.in_ok-chi.ensures.elements c.in_ok-chi.ensures.same)
    c.in_ok-circuits.ensures.few

pub returns-in_err-circuits-clause-refused : goal.returns-in_err-circuits-clause-refused
returns-in_err-circuits-clause-refused c =
    let p = err_from_is_err_and c.from_residual-in_err-circuits.result c.from_residual-in_err-circuits.ensures.1 in
    rw (p.1, p.2)
    (list_of_cause c.args.c.now.elements (Contains c.args.c.now.members)
    (IsOfLeastSupport (IsVectorOf c.args.c.now.elements (Contains c.args.c.now.members))) c.in_ok-chi.ensures.narrow
    c.in_err-circuits.field-0.0
    (cause_same (IsCircuitOfChirotope c.in_ok-chi.chi)
    (IsOfLeastSupport (IsVectorOf c.args.c.now.elements (Contains c.args.c.now.members)))
    (circuits_of c.args.c.now.elements (Contains c.args.c.now.members) c.in_ok-chi.chi
    (subst IsChirotope c.chi.view_is c.chi.invariant.axioms) c.in_ok-chi.ensures.elements c.in_ok-chi.ensures.same)
    c.in_err-circuits.field-0.0 c.in_err-circuits.ensures.many))

pub returns-in_err-chi-clause-refused : goal.returns-in_err-chi-clause-refused
returns-in_err-chi-clause-refused c =
    let p = err_from_is_err_and c.from_residual.result c.from_residual.ensures.1 in
    rw (p.1, p.2)
    (list_of_width c.args.c.now.elements (Contains c.args.c.now.members)
    (IsOfLeastSupport (IsVectorOf c.args.c.now.elements (Contains c.args.c.now.members))) c.in_err-chi.field-0.0
    c.in_err-chi.ensures.refused)

pub returns-clause-same : goal.returns-clause-same
returns-clause-same c = joined c.args.c.now.elements c.in_ok-chi.chi.elements (Contains c.args.c.now.members)
    (IsCovectorOfChirotope c.in_ok-chi.chi) (IsCovectorOfCircuits c.in_ok-circuits.circuits.0)
    c.in_ok-chi.ensures.elements c.in_ok-chi.ensures.same c.in_ok-circuits.ensures.same
