-- The first entries of signed permutations, and the signs of images that depend on them alone.
use Rattle.std.specs.Prelude.{ℕ, ◌≡◌, ◌≤◌, List, length, map, take}
use Rattle.std.specs.declared.cmp.Ordering.TheVariants.{Less}
use Rattle.om_signs.specs.declared.sign.Sign.{Sign}
use Rattle.om_signs.specs.Order.{lexicographic}
use Rattle.om_subsets.specs.Reverse.{revlex_subsets}
use Rattle.om_laws.specs.Members.{IsDistinct}
use Rattle.om_laws.specs.Sorting.{IsElement, Each}
use Rattle.om_chirotope.specs.Map.{SignMap, chi_of, value_of}
use Rattle.om_symmetry.specs.declared.signed_element.SignedElement.{SignedElement}
use Rattle.om_symmetry.specs.Permutations.{IsSignedPermutation, elements_of, acted, image_value}
use Rattle.om_least.specs.Least.{IsBefore}

-- some distinct elements of 1 to n, each negated or not
pub record IsBeginning (n : ℕ) (w : List SignedElement) : Type 0 where
  pub within : Each (IsElement n) (elements_of w)
  pub distinct : IsDistinct (elements_of w)

-- the signs of a map at the sets of the elements 1 to k, in reverse lexicographic order
abbrev pub first_signs : SignMap → ℕ → List Sign
first_signs m k = map (chi_of m) (revlex_subsets k m.rank)

-- the signs of an image at the sets of its first elements, of which w says what they are
abbrev pub first_image_signs : SignMap → List SignedElement → List Sign
first_image_signs m w = map (image_value w (value_of m)) (revlex_subsets (length w) m.rank)

-- no image under a signed permutation that begins with w comes before the map
abbrev pub IsLeastBehind : SignMap → List SignedElement → Type 0
IsLeastBehind m w = (v : List SignedElement) → IsSignedPermutation m.elements v → take (length w) v ≡ w
    → IsBefore (acted v m) m → ⊥

-- the images under the signed permutations that begin with w come before the map: their first signs do
pub record BeginsBefore (m : SignMap) (w : List SignedElement) : Type 0 where
  pub begun : IsBeginning m.elements w
  pub few : length w ≤ m.elements
  pub before : lexicographic (first_image_signs m w) (first_signs m (length w)) ≡ Less
