use Rattle.std.specs.List.{Contains}
use Rattle.std.proofs.Common.{sym, subst}
use Rattle.std.proofs.lemmas.Result.{IfOk-from_err, err_from_is_err_and}
use Rattle.om_denotation.specs.Covectors.{IsCovectorOfChirotope, IsCovectorOfCocircuits}
use Rattle.om_convert.specs.Limits.{HasFewValuesFor, IsWidthCause}
use Rattle.om_convert.proofs.SameFamilies.{joined, covectors_listed}
use Rattle.om_convert.proofs.WidthLaws.{narrow_by_width, width_cause, rank_of_same}
use Rattle.om_convert.proofs.list_chirotopes.covectors_to_chirotope.Goals as goal

pub returns-in_err-test_width-clause-refused : goal.returns-in_err-test_width-clause-refused
returns-in_err-test_width-clause-refused c =
    let p = err_from_is_err_and c.from_residual.result c.from_residual.ensures.1 in
    rw (p.1, p.2)
    (width_cause c.args.c.now.elements (Contains c.args.c.now.members) c.rank_covectors-rank.result
    c.rank_covectors-rank.ensures.rank c.elements.result c.elements.ensures.value c.in_err-test_width.field-0.0
    c.in_err-test_width.ensures.wide)

pub chirotope_of_cocircuits-requires : goal.chirotope_of_cocircuits-requires
chirotope_of_cocircuits-requires c =
    rank_of_same c.args.c.now.elements c.in_ok-cocircuits.cocircuits.0.elements (Contains c.args.c.now.members)
    (IsCovectorOfCocircuits c.in_ok-cocircuits.cocircuits.0) c.rank_covectors-rank.result
    c.in_ok-cocircuits.ensures.elements c.in_ok-cocircuits.ensures.same c.rank_covectors-rank.ensures.rank

pub returns-in_err-cocircuits-clause-narrow : goal.returns-in_err-cocircuits-clause-narrow
returns-in_err-cocircuits-clause-narrow c = IfOk-from_err c.from_residual-in_err-cocircuits.result
    (λ _. HasFewValuesFor c.args.c.now.elements (Contains c.args.c.now.members))
    c.from_residual-in_err-cocircuits.ensures.0

pub returns-in_err-chi-clause-narrow : goal.returns-in_err-chi-clause-narrow
returns-in_err-chi-clause-narrow c = IfOk-from_err c.from_residual-in_err-chi.result
    (λ _. HasFewValuesFor c.args.c.now.elements (Contains c.args.c.now.members)) c.from_residual-in_err-chi.ensures.0

pub returns-in_err-chi-clause-refused : goal.returns-in_err-chi-clause-refused
returns-in_err-chi-clause-refused c =
    let p = err_from_is_err_and c.from_residual-in_err-chi.result c.from_residual-in_err-chi.ensures.1 in
    rw (p.1, p.2)
    (narrow_by_width c.args.c.now.elements (Contains c.args.c.now.members) c.rank_covectors-rank.result
    c.rank_covectors-rank.ensures.rank c.elements.result c.elements.ensures.value c.in_ok-test_width.ensures.narrow)

pub returns-clause-unique : goal.returns-clause-unique
returns-clause-unique c = c.in_ok-chi.ensures.unique

pub returns-clause-covectors : goal.returns-clause-covectors
returns-clause-covectors c =
    covectors_listed c.args.c.now c.in_ok-chi.chi c.in_ok-cocircuits.cocircuits.0.elements
    (IsCovectorOfCocircuits c.in_ok-cocircuits.cocircuits.0) c.elements.ensures.lawful.lengths
    c.in_ok-cocircuits.ensures.elements c.in_ok-chi.ensures.elements c.in_ok-cocircuits.ensures.same
    c.in_ok-chi.ensures.same

pub returns-clause-same : goal.returns-clause-same
returns-clause-same c = joined c.args.c.now.elements c.in_ok-cocircuits.cocircuits.0.elements
    (Contains c.args.c.now.members) (IsCovectorOfCocircuits c.in_ok-cocircuits.cocircuits.0)
    (IsCovectorOfChirotope c.in_ok-chi.chi)
    c.in_ok-cocircuits.ensures.elements c.in_ok-cocircuits.ensures.same c.in_ok-chi.ensures.same

pub returns-clause-narrow : goal.returns-clause-narrow
returns-clause-narrow c =
    narrow_by_width c.args.c.now.elements (Contains c.args.c.now.members) c.rank_covectors-rank.result
    c.rank_covectors-rank.ensures.rank c.elements.result c.elements.ensures.value c.in_ok-test_width.ensures.narrow

pub returns-in_err-cocircuits-clause-refused : goal.returns-in_err-cocircuits-clause-refused
returns-in_err-cocircuits-clause-refused c =
    let p = err_from_is_err_and c.from_residual-in_err-cocircuits.result c.from_residual-in_err-cocircuits.ensures.1 in
    rw (p.1, p.2)
    (subst (IsWidthCause c.args.c.now.elements (Contains c.args.c.now.members))
    (sym c.in_err-cocircuits.ensures.memory)
    (narrow_by_width c.args.c.now.elements (Contains c.args.c.now.members) c.rank_covectors-rank.result
    c.rank_covectors-rank.ensures.rank c.elements.result c.elements.ensures.value c.in_ok-test_width.ensures.narrow))
