use Rattle.om_symmetry.proofs.Images.{acted_value}
use Rattle.om_symmetry.proofs.laws.values_of_an_image.Goals as goal

pub returns : goal.returns
returns c = λ m w t p h. acted_value m w p t h
