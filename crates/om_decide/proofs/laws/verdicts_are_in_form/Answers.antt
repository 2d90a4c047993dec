use Rattle.om_decide.proofs.VerdictForms.{verdict_form}
use Rattle.om_decide.proofs.laws.verdicts_are_in_form.Goals as goal

pub returns : goal.returns
returns c = λ m b v small budgets h. verdict_form m small b budgets v h
