-- Lists of lists of signs as finite families of functions.
--
-- Reference: Björner, Las Vergnas, Sturmfels, White and Ziegler, Oriented Matroids, chapters 3 and 4.
use Rattle.std.specs.Prelude.{List, map}
use Rattle.om_signs.specs.declared.sign.Sign.{Sign}
use Rattle.om_laws.specs.Vectors.{SignVector}
use Rattle.om_laws.specs.Bridge.{as_function}

-- the function of each member
abbrev pub as_functions : List (List Sign) → List SignVector
as_functions members = map as_function members
