use Rattle.std.proofs.lemmas.Result.{err_from_is_err_and}
use Rattle.std.specs.List.{Contains}
use Rattle.om_denotation.specs.Covectors.{IsCovectorOfChirotope, IsCovectorOfCovectors}
use Rattle.om_denotation.specs.Vectors.{IsVectorOf}
use Rattle.om_convert.proofs.SameFamilies.{all_same, within_same, cause_same}
use Rattle.om_convert.proofs.WidthLaws.{list_of_width, list_of_cause}
use Rattle.om_dual.proofs.VectorLaws.{vectors_both, dual_of_vectors}
use Rattle.om_dual.proofs.lists.dual_covectors.Goals as goal

pub returns-clause-members : goal.returns-clause-members
returns-clause-members c = all_same (IsCovectorOfChirotope c.in_ok-turned.turned)
    (IsVectorOf c.args.c.now.elements (Contains c.args.c.now.members))
    (vectors_both c.args.c.now.elements (Contains c.args.c.now.members) c.in_ok-chi.chi c.in_ok-turned.turned
    c.in_ok-chi.ensures.elements c.in_ok-turned.ensures.elements c.in_ok-chi.ensures.same c.in_ok-turned.ensures.dual)
    c.in_ok-covectors.covectors.members c.in_ok-covectors.ensures.members

pub returns-clause-dual : goal.returns-clause-dual
returns-clause-dual c = dual_of_vectors c.args.c.now.elements (Contains c.args.c.now.members) c.in_ok-chi.chi
    c.in_ok-turned.turned c.in_ok-chi.ensures.elements c.in_ok-turned.ensures.elements c.in_ok-chi.ensures.same
    c.in_ok-turned.ensures.dual (IsCovectorOfCovectors c.in_ok-covectors.covectors) c.in_ok-covectors.ensures.same

pub returns-clause-few : goal.returns-clause-few
returns-clause-few c = within_same (IsCovectorOfChirotope c.in_ok-turned.turned)
    (IsVectorOf c.args.c.now.elements (Contains c.args.c.now.members))
    (vectors_both c.args.c.now.elements (Contains c.args.c.now.members) c.in_ok-chi.chi c.in_ok-turned.turned
    c.in_ok-chi.ensures.elements c.in_ok-turned.ensures.elements c.in_ok-chi.ensures.same c.in_ok-turned.ensures.dual)
    c.in_ok-covectors.ensures.few

pub returns-in_err-covectors-clause-refused : goal.returns-in_err-covectors-clause-refused
returns-in_err-covectors-clause-refused c =
    let p = err_from_is_err_and c.from_residual-in_err-covectors.result c.from_residual-in_err-covectors.ensures.1 in
    rw (p.1, p.2)
    (list_of_cause c.args.c.now.elements (Contains c.args.c.now.members)
    (IsVectorOf c.args.c.now.elements (Contains c.args.c.now.members)) c.in_ok-chi.ensures.narrow
    c.in_err-covectors.field-0.0
    (cause_same (IsCovectorOfChirotope c.in_ok-turned.turned)
    (IsVectorOf c.args.c.now.elements (Contains c.args.c.now.members))
    (vectors_both c.args.c.now.elements (Contains c.args.c.now.members) c.in_ok-chi.chi c.in_ok-turned.turned
    c.in_ok-chi.ensures.elements c.in_ok-turned.ensures.elements c.in_ok-chi.ensures.same
    c.in_ok-turned.ensures.dual) c.in_err-covectors.field-0.0 c.in_err-covectors.ensures.many))

pub returns-in_err-chi-clause-refused : goal.returns-in_err-chi-clause-refused
returns-in_err-chi-clause-refused c =
    let p = err_from_is_err_and c.from_residual.result c.from_residual.ensures.1 in
    rw (p.1, p.2)
    (list_of_width c.args.c.now.elements (Contains c.args.c.now.members)
    (IsVectorOf c.args.c.now.elements (Contains c.args.c.now.members)) c.in_err-chi.field-0.0
    c.in_err-chi.ensures.refused)
