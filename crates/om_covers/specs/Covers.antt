-- The extensions by which a complete list on n elements leads to one on n + 1.
--
-- Reference: Björner, Las Vergnas, Sturmfels, White and Ziegler, Oriented Matroids, chapter 7.
use Rattle.std.specs.Prelude.{ℕ, ◌≡◌, ◌≢◌, ◌+◌, ◌<◌, List, [], ◌∷◌, All}
use Rattle.std.specs.List.{Contains}
use Rattle.om_signs.specs.declared.sign.Sign.{Sign}
use Rattle.om_signs.specs.declared.sign.Sign.TheVariants.{Minus, Zero, Plus}
use Rattle.om_signs.specs.SignVec.{at}
use Rattle.om_laws.specs.Sorting.{IsElement}
use Rattle.om_chirotope.specs.Map.{SignMap, IsLedBy}
use Rattle.om_localize.specs.Circles.{IsZeroOn, signs_on_circle}
use Rattle.om_localize.specs.Extensions.{IsExtension, signature_of, IsSignature}
use Rattle.om_symmetry.specs.declared.signed_element.SignedElement.{SignedElement}
use Rattle.om_symmetry.specs.Permutations.{IsSignedPermutation, acted, AreIsomorphic}
use Rattle.om_covers.specs.Growing.{grown}

-- the first i signs are zero
abbrev pub AreZeroBelow : List Sign → ℕ → Type 0
AreZeroBelow signs i = (j : ℕ) → j < i → at signs j ≡ Zero

-- a signature of which the first nonzero sign is minus, and that isn't zero at all pairs with some element
pub record IsSimpleHalf (n : ℕ) (signs : List Sign) : Type 0 where
  pub led : IsLedBy Minus signs
  pub apart : (f : ℕ) → IsElement n f → IsZeroOn (signs_on_circle n signs f) → ⊥

-- a signature without zero that begins with minus
pub record IsUniformHalf (signs : List Sign) : Type 0 where
  pub led : IsLedBy Minus signs
  pub nonzero : All (λ s. s ≢ Zero) signs

-- an extension of a member of the list by a signature of which T holds, up to isomorphism
pub record IsGrown (T : List Sign → Type 0) (n : ℕ) (classes : List SignMap) (d : SignMap) : Type 0 where
  pub member : SignMap
  pub extension : SignMap
  pub listed : Contains classes member
  pub extends : IsExtension member extension
  pub tried : T (signature_of n extension)
  pub isomorphic : AreIsomorphic extension d

-- each extension of a member of the first list by a signature of which T holds is isomorphic to a member of the next
-- list, and each member of the next list to such an extension
pub record IsCover (T : List Sign → Type 0) (n : ℕ) (classes next : List SignMap) : Type 0 where
  pub taken : (c y : SignMap) → Contains classes c → IsExtension c y → T (signature_of n y) → (d : SignMap)
      × Contains next d × AreIsomorphic y d
  pub met : (d : SignMap) → Contains next d → IsGrown T n classes d

-- a member of a list and a signature of it of which T holds, whose map some signed permutation takes to d
pub record IsReached (T : List Sign → Type 0) (n : ℕ) (classes : List SignMap) (d : SignMap) : Type 0 where
  pub member : SignMap
  pub signs : List Sign
  pub listed : Contains classes member
  pub signature : IsSignature member signs
  pub tried : T signs
  pub by : List SignedElement
  pub permutation : IsSignedPermutation (n + 1) by
  pub image : acted by (grown member signs) ≡ d

-- A cover as it is found: for each member of the first list and each signature of it of which T holds, some signed
-- permutation takes the map that they make to a member of the next list, and each member of the next list is reached.
pub record IsCoverByLines (T : List Sign → Type 0) (n : ℕ) (classes next : List SignMap) : Type 0 where
  pub taken : (c : SignMap) (signs : List Sign) → Contains classes c → IsSignature c signs → T signs
      → (w : List SignedElement) × IsSignedPermutation (n + 1) w × Contains next (acted w (grown c signs))
  pub met : (d : SignMap) → Contains next d → IsReached T n classes d

-- the map of rank 3 on three elements with the sign plus
abbrev pub triangle : SignMap
triangle = record { rank = 3; elements = 3; signs = Plus ∷ [] }
