-- The rank of the oriented matroid that a family of covectors determines, whatever the number of values of its
-- chirotope.
--
-- Reference: Björner, Las Vergnas, Sturmfels, White and Ziegler, Oriented Matroids, chapter 3.
use Rattle.std.specs.Prelude.{ℕ, ◌≡◌, List}
use Rattle.om_signs.specs.declared.sign.Sign.{Sign}
use Rattle.om_signs.specs.declared.sign.Sign.TheVariants.{Plus}
use Rattle.om_chirotope.specs.Map.{SignMap, IsLedBy}
use Rattle.om_chirotope.specs.Chirotope.{IsChirotope}
use Rattle.om_denotation.specs.Covectors.{IsCovectorOfChirotope}
use Rattle.om_denotation.specs.Denotation.{DenoteTheSame}

-- each chirotope on n elements with these covectors has this rank, and there is one whose first nonzero sign is
-- plus
pub record IsRankFor (n : ℕ) (P : List Sign → Type 0) (rank : ℕ) : Type 0 where
  pub each : (m : SignMap) → IsChirotope m → m.elements ≡ n → DenoteTheSame n P (IsCovectorOfChirotope m)
      → rank ≡ m.rank
  pub map : SignMap
  pub axioms : IsChirotope map
  pub elements : map.elements ≡ n
  pub same : DenoteTheSame n P (IsCovectorOfChirotope map)
  pub normal : IsLedBy Plus map.signs
