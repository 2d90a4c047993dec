-- The three-term test of a map: some value isn't zero, bases have exchange, and the three-term relations hold.
--
-- Reference: Björner, Las Vergnas, Sturmfels, White and Ziegler, Oriented Matroids, chapter 3.
use Rattle.std.specs.Prelude.{ℕ, ◌≡◌, ◌≢◌, ◌+◌, ◌≤◌, List, [], ◌∷◌, ◌++◌, length}
use Rattle.om_signs.specs.declared.sign.Sign.TheVariants.{Zero}
use Rattle.om_signs.specs.Sign.{opposite, product}
use Rattle.om_subsets.specs.Subsets.{IsSubsetFrom, IsMember, with_element, without_element}
use Rattle.om_laws.specs.ThreeTerm.{AreBalanced}
use Rattle.om_chirotope.specs.Map.{SignMap, IsMap, value_of}
use Rattle.om_chirotope.specs.Chirotope.{HasNonzeroValue}

-- a basis: an increasing list of as many elements as the rank, with a nonzero value
pub record IsBasis (m : SignMap) (b : List ℕ) : Type 0 where
  pub list : IsSubsetFrom 1 m.elements b
  pub size : length b ≡ m.rank
  pub nonzero : value_of m b ≢ Zero

-- exchange of bases: an element e of a basis B that isn't in a basis C can be exchanged for some element f of C
-- that isn't in B
abbrev pub HasExchange : SignMap → Type 0
HasExchange m = (b c : List ℕ) (e : ℕ) → IsBasis m b → IsBasis m c → IsMember e b → (IsMember e c → ⊥) → (f : ℕ)
    × IsMember f c × (IsMember f b → ⊥) × IsBasis m (with_element f (without_element e b))

-- an increasing list A of one element less than the rank, and an element e that makes a basis with it
pub record IsBasisWith (m : SignMap) (a : List ℕ) (e : ℕ) : Type 0 where
  pub list : IsSubsetFrom 1 m.elements a
  pub size : length a + 1 ≡ m.rank
  pub low : 1 ≤ e
  pub high : e ≤ m.elements
  pub nonzero : value_of m (a ++ e ∷ []) ≢ Zero

-- exchange in its form for lists: if A makes a basis with some element, it makes one with some element of each
-- basis C
abbrev pub HasListExchange : SignMap → Type 0
HasListExchange m = (a c : List ℕ) (e : ℕ) → IsBasisWith m a e → IsBasis m c → (f : ℕ) × IsMember f c
    × (value_of m (a ++ f ∷ []) ≢ Zero)

-- an increasing list P of two elements less than the rank, and four increasing elements off it
pub record IsFrame (m : SignMap) (p : List ℕ) (a b c d : ℕ) : Type 0 where
  pub list : IsSubsetFrom 1 m.elements p
  pub size : length p + 2 ≡ m.rank
  pub four : IsSubsetFrom 1 m.elements (a ∷ b ∷ c ∷ d ∷ [])
  pub a_off : IsMember a p → ⊥
  pub b_off : IsMember b p → ⊥
  pub c_off : IsMember c p → ⊥
  pub d_off : IsMember d p → ⊥

-- The three-term relations. Take values of P with two of the elements a, b, c and d. Three products of them are all
-- zero, or include a plus and a minus: ab times cd, the negative of ac times bd, and ad times bc. In ranks 0 and 1
-- there is no P.
abbrev pub HasThreeTermRelations : SignMap → Type 0
HasThreeTermRelations m = (p : List ℕ) (a b c d : ℕ) → IsFrame m p a b c d
    → AreBalanced
    (product (value_of m (p ++ a ∷ b ∷ [])) (value_of m (p ++ c ∷ d ∷ [])))
    (opposite (product (value_of m (p ++ a ∷ c ∷ [])) (value_of m (p ++ b ∷ d ∷ []))))
    (product (value_of m (p ++ a ∷ d ∷ [])) (value_of m (p ++ b ∷ c ∷ [])))

-- a map that passes the three-term test
pub record MeetsThreeTermTest (m : SignMap) : Type 0 where
  pub whole : IsMap m
  pub nonzero : HasNonzeroValue m
  pub exchange : HasExchange m
  pub relations : HasThreeTermRelations m
