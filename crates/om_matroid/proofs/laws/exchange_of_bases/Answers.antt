use Rattle.om_matroid.proofs.ExchangeLaws.{symmetric_exchange}
use Rattle.om_matroid.proofs.laws.exchange_of_bases.Goals as goal

pub returns-clause-one : goal.returns-clause-one
returns-clause-one c = λ m axioms b d e first second inside outside. let s =
    symmetric_exchange m axioms b d e first second inside outside in (s.0, s.1)

pub returns-clause-symmetric : goal.returns-clause-symmetric
returns-clause-symmetric c =
    λ m axioms b d e first second inside outside. symmetric_exchange m axioms b d e first second inside outside
