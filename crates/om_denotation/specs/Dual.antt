-- The dual of a map.
--
-- Reference: Björner, Las Vergnas, Sturmfels, White and Ziegler, Oriented Matroids, chapter 3.
use Rattle.std.specs.Prelude.{◌-◌}
use Rattle.om_laws.specs.Dual.{dual_on_increasing}
use Rattle.om_chirotope.specs.Map.{SignMap, chi_of}
use Rattle.om_denotation.specs.Maps.{map_by}

-- each increasing list has the sign of its complement, times the sign of the permutation that lists it and then its
-- complement
abbrev pub dual_of : SignMap → SignMap
dual_of m = map_by (m.elements - m.rank) m.elements (dual_on_increasing m.elements (chi_of m))
