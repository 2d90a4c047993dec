use Rattle.std.proofs.Common.{◌≤◌}
use Rattle.om_signs.specs.declared.limits.TheConstants.{MAX_ELEMENTS}
use Rattle.om_decide.specs.Verdicts.{realizable}
use Rattle.om_decide.proofs.VerdictLaws.{verdict_shown}
use Rattle.om_decide.proofs.VerdictForms.{verdict_form, verdict_within}
use Rattle.om_decide.proofs.deciding.decide.Goals as goal

pub returns-in-Ok-clause-verdict : goal.returns-in-Ok-clause-verdict
returns-in-Ok-clause-verdict c = realizable c.in-Ok.word c.in-Ok.ensures.found

pub returns-in-Ok-clause-form : goal.returns-in-Ok-clause-form
returns-in-Ok-clause-form c =
    let small : c.args.chi.now.elements ≤ MAX_ELEMENTS = c.rank.ensures.few in
    verdict_form c.args.chi.now small c.args.budgets c.requires _ (realizable c.in-Ok.word c.in-Ok.ensures.found)

pub returns-in-Ok-clause-shown : goal.returns-in-Ok-clause-shown
returns-in-Ok-clause-shown c =
    verdict_shown c.args.chi.now c.args.budgets _ (realizable c.in-Ok.word c.in-Ok.ensures.found)

pub returns-in-Ok-clause-limits : goal.returns-in-Ok-clause-limits
returns-in-Ok-clause-limits c =
    let small : c.args.chi.now.elements ≤ MAX_ELEMENTS = c.rank.ensures.few in
    verdict_within c.args.chi.now small c.args.budgets _ (realizable c.in-Ok.word c.in-Ok.ensures.found)

pub returns-in_ok-by_tableau-in-Err-clause-shown : goal.returns-in_ok-by_tableau-in-Err-clause-shown
returns-in_ok-by_tableau-in-Err-clause-shown c =
    verdict_shown c.args.chi.now c.args.budgets c.in_ok-by_tableau-in-Err.field-0 c.in_ok-by_tableau-in-Err.ensures

pub returns-in_ok-by_tableau-in-Err-clause-limits : goal.returns-in_ok-by_tableau-in-Err-clause-limits
returns-in_ok-by_tableau-in-Err-clause-limits c =
    let small : c.args.chi.now.elements ≤ MAX_ELEMENTS = c.rank.ensures.few in
    verdict_within c.args.chi.now small c.args.budgets c.in_ok-by_tableau-in-Err.field-0
    c.in_ok-by_tableau-in-Err.ensures

pub returns-in_ok-by_tableau-in-Err-clause-form : goal.returns-in_ok-by_tableau-in-Err-clause-form
returns-in_ok-by_tableau-in-Err-clause-form c =
    let small : c.args.chi.now.elements ≤ MAX_ELEMENTS = c.rank.ensures.few in
    verdict_form c.args.chi.now small c.args.budgets c.requires c.in_ok-by_tableau-in-Err.field-0
    c.in_ok-by_tableau-in-Err.ensures

pub returns-in-Ok-clause-exactly_found : goal.returns-in-Ok-clause-exactly_found
returns-in-Ok-clause-exactly_found c = λ vs found. let e = c.in-Ok.ensures.exactly_found vs found in cc

pub returns-in_err-by_tableau-in-Err-clause-exactly_found : goal.returns-in_err-by_tableau-in-Err-clause-exactly_found
returns-in_err-by_tableau-in-Err-clause-exactly_found c =
    λ vs found. let e = c.in-Err.ensures.exactly_found vs found in cc

pub returns-in_ok-by_tableau-in-Err-clause-exactly_found : goal.returns-in_ok-by_tableau-in-Err-clause-exactly_found
returns-in_ok-by_tableau-in-Err-clause-exactly_found c =
    λ vs found. let e = c.in-Err.ensures.exactly_found vs found in cc
