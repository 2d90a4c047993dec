use Rattle.om_denotation.proofs.FamilyPaintings.{painting_one, painting_both}
use Rattle.om_oriented.proofs.laws.painting.Goals as goal

pub returns-clause-one : goal.returns-clause-one
returns-clause-one c = λ m chirotope colour e low high coloured. painting_one m chirotope colour e (low, high) coloured

pub returns-clause-only : goal.returns-clause-only
returns-clause-only c = λ m chirotope colour e low high coloured X Y x y. painting_both m chirotope colour e (low, high)
    coloured X Y x y
