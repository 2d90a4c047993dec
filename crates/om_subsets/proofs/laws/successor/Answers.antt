use Rattle.om_subsets.proofs.Statements.{next_place}
use Rattle.om_subsets.proofs.laws.successor.Goals as goal

pub returns-clause-later : goal.returns-clause-later
returns-clause-later c = λ n xs ys hx hy l r. (next_place n xs ys hx hy l r).0

pub returns-clause-next : goal.returns-clause-next
returns-clause-next c = λ n xs ys zs hx hy hz l lz r. (next_place n xs ys hx hy l r).1 zs hz lz
