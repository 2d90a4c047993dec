use Rattle.std.proofs.lemmas.Result.{IfOk-from_err, err_from_is_err_and}
use Rattle.om_denotation.specs.Covectors.{IsCovectorOfCocircuits}
use Rattle.om_convert.specs.Limits.{HasFewValuesFor}
use Rattle.om_convert.proofs.WidthLaws.{narrow_by_width, width_cause}
use Rattle.om_convert.proofs.list_chirotopes.cocircuits_to_chirotope.Goals as goal

pub returns-in_err-test_width-clause-refused : goal.returns-in_err-test_width-clause-refused
returns-in_err-test_width-clause-refused c =
    let p = err_from_is_err_and c.from_residual.result c.from_residual.ensures.1 in
    rw (p.1, p.2)
    (width_cause c.args.c.now.0.elements (IsCovectorOfCocircuits c.args.c.now.0) c.rank_cocircuits-rank.result
    c.rank_cocircuits-rank.ensures.rank c.elements.result c.elements.ensures.value c.in_err-test_width.field-0.0
    c.in_err-test_width.ensures.wide)

pub returns-in_err-chirotope_of_cocircuits-clause-narrow : goal.returns-in_err-chirotope_of_cocircuits-clause-narrow
returns-in_err-chirotope_of_cocircuits-clause-narrow c =
    IfOk-from_err c.from_residual-in_err-chirotope_of_cocircuits.result
    (λ _. HasFewValuesFor c.args.c.now.0.elements (IsCovectorOfCocircuits c.args.c.now.0))
    c.from_residual-in_err-chirotope_of_cocircuits.ensures.0

pub returns-in_err-chirotope_of_cocircuits-clause-refused : goal.returns-in_err-chirotope_of_cocircuits-clause-refused
returns-in_err-chirotope_of_cocircuits-clause-refused c =
    let p = err_from_is_err_and c.from_residual-in_err-chirotope_of_cocircuits.result
    c.from_residual-in_err-chirotope_of_cocircuits.ensures.1 in
    rw (p.1, p.2)
    (narrow_by_width c.args.c.now.0.elements (IsCovectorOfCocircuits c.args.c.now.0) c.rank_cocircuits-rank.result
    c.rank_cocircuits-rank.ensures.rank c.elements.result c.elements.ensures.value c.in_ok-test_width.ensures.narrow)

pub returns-clause-same : goal.returns-clause-same
returns-clause-same c = c.in_ok-chirotope_of_cocircuits.ensures.same

pub returns-clause-unique : goal.returns-clause-unique
returns-clause-unique c = c.in_ok-chirotope_of_cocircuits.ensures.unique

pub returns-clause-narrow : goal.returns-clause-narrow
returns-clause-narrow c =
    narrow_by_width c.args.c.now.0.elements (IsCovectorOfCocircuits c.args.c.now.0) c.rank_cocircuits-rank.result
    c.rank_cocircuits-rank.ensures.rank c.elements.result c.elements.ensures.value c.in_ok-test_width.ensures.narrow
