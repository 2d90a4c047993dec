-- What fails in a map that doesn't pass the three-term test, and what fails first.
--
-- Reference: Björner, Las Vergnas, Sturmfels, White and Ziegler, Oriented Matroids, chapter 3.
use Rattle.std.specs.Prelude.{ℕ, ◌≡◌, ◌<◌, List, [], ◌∷◌, ◌++◌}
use Rattle.om_signs.specs.Sign.{opposite, product}
use Rattle.om_subsets.specs.Subsets.{IsMember, with_element, without_element}
use Rattle.om_subsets.specs.Lists.{IsBefore}
use Rattle.om_subsets.specs.Members.{Chosen}
use Rattle.om_laws.specs.ThreeTerm.{AreBalanced}
use Rattle.om_chirotope.specs.Map.{SignMap, value_of}
use Rattle.om_chirotope.specs.ThreeTerm.{IsBasis, IsFrame}

-- e can be exchanged for some element f of C that isn't in B
abbrev pub IsExchanged : SignMap → List ℕ → List ℕ → ℕ → Type 0
IsExchanged m b c e = (f : ℕ) × IsMember f c × (IsMember f b → ⊥) × IsBasis m (with_element f (without_element e b))

-- a violated exchange: an element e of a basis B that isn't in a basis C and can be exchanged for no element of C
pub record IsUnexchanged (m : SignMap) (b c : List ℕ) (e : ℕ) : Type 0 where
  pub first : IsBasis m b
  pub second : IsBasis m c
  pub inside : IsMember e b
  pub outside : IsMember e c → ⊥
  pub violated : IsExchanged m b c e → ⊥

-- the first violated exchange of a basis B, by C in lexicographic order and then by e
pub record IsFirstUnexchangedOf (m : SignMap) (b : List ℕ) (c : Chosen) (e : ℕ) : Type 0 where
  pub c_n : c.n ≡ m.elements
  pub violated : IsUnexchanged m b c.elements e
  pub earlier_c : (d : List ℕ) (x : ℕ) → IsBefore d c.elements → IsUnexchanged m b d x → ⊥
  pub earlier_e : (x : ℕ) → x < e → IsUnexchanged m b c.elements x → ⊥

-- the first violated exchange, by B and then by C in lexicographic order, and then by e
pub record IsFirstUnexchanged (m : SignMap) (b c : Chosen) (e : ℕ) : Type 0 where
  pub b_n : b.n ≡ m.elements
  pub first : IsFirstUnexchangedOf m b.elements c e
  pub earlier_b : (t d : List ℕ) (x : ℕ) → IsBefore t b.elements → IsUnexchanged m t d x → ⊥

-- The three-term relation of P with a, b, c and d. Take values of P with two of these. Three products of them are
-- all zero, or include a plus and a minus: ab times cd, the negative of ac times bd, and ad times bc.
abbrev pub HasRelation : SignMap → List ℕ → ℕ → ℕ → ℕ → ℕ → Type 0
HasRelation m p a b c d = AreBalanced
    (product (value_of m (p ++ a ∷ b ∷ [])) (value_of m (p ++ c ∷ d ∷ [])))
    (opposite (product (value_of m (p ++ a ∷ c ∷ [])) (value_of m (p ++ b ∷ d ∷ []))))
    (product (value_of m (p ++ a ∷ d ∷ [])) (value_of m (p ++ b ∷ c ∷ [])))

-- a violated relation: of an increasing list P of two elements less than the rank, and of four increasing elements
-- off P
pub record IsUnbalanced (m : SignMap) (p : List ℕ) (a b c d : ℕ) : Type 0 where
  pub frame : IsFrame m p a b c d
  pub violated : HasRelation m p a b c d → ⊥

-- a violated relation, with the four elements as a list Q
abbrev pub IsUnbalancedList : SignMap → List ℕ → List ℕ → Type 0
IsUnbalancedList m p q = (a b c d : ℕ) × (q ≡ a ∷ b ∷ c ∷ d ∷ []) × IsUnbalanced m p a b c d

-- the first violated relation of a list P, by Q in lexicographic order
pub record IsFirstUnbalancedOf (m : SignMap) (p : List ℕ) (q : Chosen) : Type 0 where
  pub q_n : q.n ≡ m.elements
  pub violated : IsUnbalancedList m p q.elements
  pub earlier_q : (t : List ℕ) → IsBefore t q.elements → IsUnbalancedList m p t → ⊥

-- the first violated relation, by P and then by Q in lexicographic order
pub record IsFirstUnbalanced (m : SignMap) (p q : Chosen) : Type 0 where
  pub p_n : p.n ≡ m.elements
  pub first : IsFirstUnbalancedOf m p.elements q
  pub earlier_p : (s t : List ℕ) → IsBefore s p.elements → IsUnbalancedList m s t → ⊥
