use Rattle.om_matroid.proofs.RankLaws.{some_basis}
use Rattle.om_matroid.proofs.laws.empty_set_is_independent.Goals as goal

pub returns : goal.returns
returns c = λ m axioms. let b = some_basis m axioms in (b.0, b.1, λ e k. absurd k)
