-- The three-term relations of a map.
--
-- Reference: Björner, Las Vergnas, Sturmfels, White and Ziegler, Oriented Matroids, chapter 3.
use Rattle.std.specs.Prelude.{ℕ, List, [], ◌∷◌, ◌++◌}
use Rattle.om_signs.specs.declared.sign.Sign.{Sign}
use Rattle.om_signs.specs.declared.sign.Sign.TheVariants.{Minus, Zero, Plus}
use Rattle.om_signs.specs.Sign.{opposite, product}
use Rattle.om_laws.specs.Members.{IsMember}
use Rattle.om_laws.specs.Sorting.{IsIncreasing}

-- three signs that are all zero, or include a plus and a minus
abbrev pub AreBalanced : Sign → Sign → Sign → Type 0
AreBalanced Plus Minus s = Unit {0}
AreBalanced Plus s Minus = Unit {0}
AreBalanced Minus Plus s = Unit {0}
AreBalanced Minus s Plus = Unit {0}
AreBalanced Zero Plus Minus = Unit {0}
AreBalanced Zero Minus Plus = Unit {0}
AreBalanced Zero Zero Zero = Unit {0}
AreBalanced a b c = ⊥

-- The three-term relations of all tuples p and elements a, b, c, d. Three products of values of p with two of these
-- are balanced: ab times cd, the negative of ac times bd, and ad times bc.
abbrev pub HasThreeTermRelations : (List ℕ → Sign) → Type 0
HasThreeTermRelations chi = (p : List ℕ) (a b c d : ℕ)
    → AreBalanced (product (chi (p ++ a ∷ b ∷ [])) (chi (p ++ c ∷ d ∷ [])))
    (opposite (product (chi (p ++ a ∷ c ∷ [])) (chi (p ++ b ∷ d ∷ []))))
    (product (chi (p ++ a ∷ d ∷ [])) (chi (p ++ b ∷ c ∷ [])))

-- the three-term relations of an increasing tuple p and four increasing elements off it
abbrev pub HasIncreasingThreeTermRelations : (List ℕ → Sign) → Type 0
HasIncreasingThreeTermRelations chi = (p : List ℕ) (a b c d : ℕ) → IsIncreasing p → IsIncreasing (a ∷ b ∷ c ∷ d ∷ [])
    → (IsMember a p → ⊥) → (IsMember b p → ⊥) → (IsMember c p → ⊥) → (IsMember d p → ⊥)
    → AreBalanced (product (chi (p ++ a ∷ b ∷ [])) (chi (p ++ c ∷ d ∷ [])))
    (opposite (product (chi (p ++ a ∷ c ∷ [])) (chi (p ++ b ∷ d ∷ []))))
    (product (chi (p ++ a ∷ d ∷ [])) (chi (p ++ b ∷ c ∷ [])))
