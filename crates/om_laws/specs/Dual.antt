-- The dual of a map: the value of the complement, times the sign of a permutation.
--
-- Reference: Björner, Las Vergnas, Sturmfels, White and Ziegler, Oriented Matroids, chapter 3.
use Rattle.std.specs.Prelude.{ℕ, List, [], ◌∷◌, ◌++◌, cond, nat_eq, Bool, true, false}
use Rattle.om_signs.specs.declared.sign.Sign.{Sign}
use Rattle.om_signs.specs.declared.sign.Sign.TheVariants.{Zero}
use Rattle.om_signs.specs.Sign.{product}
use Rattle.om_laws.specs.Tuples.{sort_sign}
use Rattle.om_laws.specs.Chirotope.{elements_to}

-- the test of IsMember
abbrev pub is_member : ℕ → List ℕ → Bool
is_member e [] = false
is_member e (x ∷ xs) = cond (nat_eq e x) true (is_member e xs)

-- the test of AreAmong
abbrev pub are_members : List ℕ → List ℕ → Bool
are_members E [] = true
are_members E (x ∷ xs) = cond (is_member x E) (are_members E xs) false

-- the elements off a list, in the order of the elements
abbrev pub complement : List ℕ → List ℕ → List ℕ
complement [] a = []
complement (e ∷ E) a = cond (is_member e a) (complement E a) (e ∷ complement E a)

-- the value of the complement, times the sign of the permutation that sorts the tuple followed by its complement;
-- zero if some entry is no element
abbrev pub dual_map : List ℕ → (List ℕ → Sign) → List ℕ → Sign
dual_map E chi a = cond (are_members E a) (product (sort_sign (a ++ complement E a)) (chi (complement E a))) Zero

-- the dual of a map on the elements 1 to n, as it is given on increasing lists
abbrev pub dual_on_increasing : ℕ → (List ℕ → Sign) → List ℕ → Sign
dual_on_increasing n f a = product (sort_sign (a ++ complement (elements_to n) a)) (f (complement (elements_to n) a))
