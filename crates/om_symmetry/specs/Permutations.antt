-- Signed permutations of the elements 1 to n, and the images of maps under them: relabellings and reorientations.
--
-- Reference: Björner, Las Vergnas, Sturmfels, White and Ziegler, Oriented Matroids, chapters 3 and 7; Finschi and
-- Fukuda, Generation of oriented matroids, Discrete and Computational Geometry 27 (2002).
use Rattle.std.specs.Prelude.{ℕ, zero, suc, ◌≡◌, ◌+◌, List, [], ◌∷◌, ◌++◌, map, length, get_or, cond, not, Bool}
use Rattle.std.specs.Prelude.{true, false}
use Rattle.om_signs.specs.declared.sign.Sign.{Sign}
use Rattle.om_signs.specs.declared.sign.Sign.TheVariants.{Minus, Plus}
use Rattle.om_laws.specs.Members.{IsDistinct}
use Rattle.om_laws.specs.Sorting.{IsTuple}
use Rattle.om_laws.specs.Chirotope.{elements_to}
use Rattle.om_laws.specs.Reorientation.{reoriented}
use Rattle.om_chirotope.specs.Map.{SignMap, value_of}
use Rattle.om_denotation.specs.Maps.{map_by}
use Rattle.om_symmetry.specs.declared.signed_element.SignedElement.{SignedElement}

-- the elements of a list of signed elements, in its order
abbrev pub elements_of : List SignedElement → List ℕ
elements_of w = map (λ a. a.element) w

-- a signed permutation of 1 to n: n distinct elements of 1 to n, each negated or not
pub record IsSignedPermutation (n : ℕ) (w : List SignedElement) : Type 0 where
  pub tuple : IsTuple n n (elements_of w)
  pub distinct : IsDistinct (elements_of w)

-- what stands off a list: element 0, which isn't negated
abbrev pub no_element : SignedElement
no_element = record { element = 0; negated = false }

-- the signed element at a place, counted from 1
abbrev pub signed_at : List SignedElement → ℕ → SignedElement
signed_at w zero = no_element
signed_at w (suc i) = get_or w i no_element

-- the old element that the new element i is; 0 if there is no new element i
abbrev pub element_at : List SignedElement → ℕ → ℕ
element_at w i = (signed_at w i).element

-- the new element i is the negative of the old one
abbrev pub is_negated_at : List SignedElement → ℕ → Bool
is_negated_at w i = (signed_at w i).negated

-- the relabelling of a map: the value of a tuple is that of the tuple of the old elements
abbrev pub relabelled : (ℕ → ℕ) → (List ℕ → Sign) → List ℕ → Sign
relabelled rename chi t = chi (map rename t)

-- the image of a map on tuples: its relabelling, reoriented
abbrev pub image_value : List SignedElement → (List ℕ → Sign) → List ℕ → Sign
image_value w chi = reoriented (is_negated_at w) (relabelled (element_at w) chi)

-- the image of a map under a signed permutation: the new element i is the old element at place i, or its negative
abbrev pub acted : List SignedElement → SignMap → SignMap
acted w m = map_by m.rank m.elements (image_value w (value_of m))

-- minus for a negative, and else plus
abbrev pub sign_of : SignedElement → Sign
sign_of a = cond a.negated Minus Plus

-- the signed element, negated once more or not
abbrev pub negated_if : Bool → SignedElement → SignedElement
negated_if b a = record { element = a.element; negated = cond b (not a.negated) a.negated }

-- the product of two signed permutations: first w, and then v
abbrev pub followed_by : List SignedElement → List SignedElement → List SignedElement
followed_by w v = map (λ b. negated_if b.negated (signed_at w b.element)) v

-- each of 1 to n stays in its place, and those of a set are negated: the reorientation of the set
abbrev pub negated_on : ℕ → (ℕ → Bool) → List SignedElement
negated_on n set = map (λ i. record { element = i; negated = set i }) (elements_to n)

-- none is negated
abbrev pub identity : ℕ → List SignedElement
identity n = negated_on n (λ i. false)

-- all are negated
abbrev pub all_negated : ℕ → List SignedElement
all_negated n = negated_on n (λ i. true)

-- each is the inverse of the other
pub record AreInverse (w v : List SignedElement) : Type 0 where
  pub then_back : followed_by w v ≡ identity (length w)
  pub back_then : followed_by v w ≡ identity (length w)

-- the lift to one more element, which stays
abbrev pub lifted : List SignedElement → List SignedElement
lifted w = w ++ (record { element = length w + 1; negated = false }) ∷ []

-- k is the image of m under some signed permutation: they are of one isomorphism class
abbrev pub AreIsomorphic : SignMap → SignMap → Type 0
AreIsomorphic m k = (w : List SignedElement) × IsSignedPermutation m.elements w × (acted w m ≡ k)
