use Rattle.std.proofs.lemmas.Result.{err_from_is_err_and}
use Rattle.std.proofs.Common.{◌∙◌}
use Rattle.om_denotation.specs.Covectors.{IsCovectorOfChirotope, IsCovectorOfCocircuits, IsCovectorOfCovectors}
use Rattle.om_convert.proofs.SameFamilies.{joined, all_same, within_same, cause_same, equal_families}
use Rattle.om_convert.proofs.WidthLaws.{list_of_width, list_of_cause}
use Rattle.om_convert.proofs.lists.cocircuits_to_covectors.Goals as goal

pub returns-clause-members : goal.returns-clause-members
returns-clause-members c = all_same (IsCovectorOfChirotope c.in_ok-chi.chi) (IsCovectorOfCocircuits c.args.c.now.0)
    (equal_families c.args.c.now.0.elements (IsCovectorOfCocircuits c.args.c.now.0)
    (IsCovectorOfChirotope c.in_ok-chi.chi) (λ X x. x.size) (λ X x. x.size ∙ c.in_ok-chi.ensures.elements)
    c.in_ok-chi.ensures.same)
    c.in_ok-covectors.covectors.members c.in_ok-covectors.ensures.members

pub returns-clause-few : goal.returns-clause-few
returns-clause-few c = within_same (IsCovectorOfChirotope c.in_ok-chi.chi) (IsCovectorOfCocircuits c.args.c.now.0)
    (equal_families c.args.c.now.0.elements (IsCovectorOfCocircuits c.args.c.now.0)
    (IsCovectorOfChirotope c.in_ok-chi.chi) (λ X x. x.size) (λ X x. x.size ∙ c.in_ok-chi.ensures.elements)
    c.in_ok-chi.ensures.same)
    c.in_ok-covectors.ensures.few

pub returns-in_err-covectors-clause-refused : goal.returns-in_err-covectors-clause-refused
returns-in_err-covectors-clause-refused c =
    let p = err_from_is_err_and c.from_residual-in_err-covectors.result c.from_residual-in_err-covectors.ensures.1 in
    rw (p.1, p.2)
    (list_of_cause c.args.c.now.0.elements (IsCovectorOfCocircuits c.args.c.now.0)
    (IsCovectorOfCocircuits c.args.c.now.0) c.in_ok-chi.ensures.narrow c.in_err-covectors.field-0.0
    (cause_same (IsCovectorOfChirotope c.in_ok-chi.chi) (IsCovectorOfCocircuits c.args.c.now.0)
    (equal_families c.args.c.now.0.elements (IsCovectorOfCocircuits c.args.c.now.0)
    (IsCovectorOfChirotope c.in_ok-chi.chi) (λ X x. x.size) (λ X x. x.size ∙ c.in_ok-chi.ensures.elements)
    c.in_ok-chi.ensures.same)
    c.in_err-covectors.field-0.0 c.in_err-covectors.ensures.many))

pub returns-in_err-chi-clause-refused : goal.returns-in_err-chi-clause-refused
returns-in_err-chi-clause-refused c =
    let p = err_from_is_err_and c.from_residual.result c.from_residual.ensures.1 in
    rw (p.1, p.2)
    (list_of_width c.args.c.now.0.elements (IsCovectorOfCocircuits c.args.c.now.0)
    (IsCovectorOfCocircuits c.args.c.now.0) c.in_err-chi.field-0.0 c.in_err-chi.ensures.refused)

pub returns-clause-same : goal.returns-clause-same
returns-clause-same c = joined c.args.c.now.0.elements c.in_ok-chi.chi.elements (IsCovectorOfCocircuits c.args.c.now.0)
    (IsCovectorOfChirotope c.in_ok-chi.chi) (IsCovectorOfCovectors c.in_ok-covectors.covectors)
    c.in_ok-chi.ensures.elements c.in_ok-chi.ensures.same c.in_ok-covectors.ensures.same
