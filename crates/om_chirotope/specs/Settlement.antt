-- What is known about a map before its pairs are scanned.
use Rattle.std.specs.Prelude.{◌≡◌, ◌≤◌, ◌<◌, ◌+◌, ◌-◌, ◌*◌, ◌^◌, min, List}
use Rattle.om_signs.specs.declared.sign.Sign.{Sign}
use Rattle.om_signs.specs.declared.limits.TheConstants.{MAX_ELEMENTS}
use Rattle.om_subsets.specs.Subsets.{choose}
use Rattle.om_chirotope.specs.declared.marking.TheConstants.{WORDS}
use Rattle.om_chirotope.specs.declared.scan.Settled.{Settled}
use Rattle.om_chirotope.specs.declared.scan.Settled.TheVariants.{Orthogonal, Violated, Open}
use Rattle.om_chirotope.specs.Map.{SignMap, cocircuit_vectors}
use Rattle.om_chirotope.specs.Chirotope.{HasOrthogonalPairs, IsFirstViolated}

-- a map that is given the three-term test: it is on at most MAX_ELEMENTS elements, and there are more pairs of a set S
-- and a set A than sets of elements, or than words for the marks of these sets
pub record IsGivenTest (m : SignMap) : Type 0 where
  pub few : m.elements ≤ MAX_ELEMENTS
  pub many : min (2 ^ m.elements) WORDS < choose m.elements (m.rank + 1) * choose m.elements (m.rank - 1)

-- if the map is given the test, some pair is violated
abbrev pub IsUnsettled : SignMap → Type 0
IsUnsettled m = IsGivenTest m → HasOrthogonalPairs m → ⊥

-- what an answer says about a map, and about the table of the vectors U
abbrev pub IsSettled : SignMap → List (List Sign) → Settled → Type 0
IsSettled m table Orthogonal = HasOrthogonalPairs m
IsSettled m table (Violated s a) = IsFirstViolated m s a
IsSettled m table Open = (table ≡ cocircuit_vectors m) × IsUnsettled m
