-- Maps on tuples of elements, and the value on any tuple, for a map that is given on increasing lists.
--
-- Reference: Björner, Las Vergnas, Sturmfels, White and Ziegler, Oriented Matroids, chapter 3.
use Rattle.std.specs.Prelude.{ℕ, ◌≡◌, List, [], ◌∷◌, ◌++◌, cond, nat_lt}
use Rattle.om_signs.specs.declared.sign.Sign.{Sign}
use Rattle.om_signs.specs.declared.sign.Sign.TheVariants.{Minus, Zero, Plus}
use Rattle.om_signs.specs.Sign.{opposite, product}

-- a map whose value is negated if two neighbours are exchanged
abbrev pub IsAlternating : (List ℕ → Sign) → Type 0
IsAlternating chi = (x y : ℕ) (cs bs : List ℕ) → chi (cs ++ y ∷ x ∷ bs) ≡ opposite (chi (cs ++ x ∷ y ∷ bs))

-- plus if x is below y, zero if they are equal, and minus otherwise
abbrev pub order_sign : ℕ → ℕ → Sign
order_sign x y = cond (nat_lt x y) Plus (cond (nat_lt y x) Minus Zero)

-- the product of the order signs of x and each entry of the list
abbrev pub before_sign : ℕ → List ℕ → Sign
before_sign x [] = Plus
before_sign x (y ∷ ys) = product (order_sign x y) (before_sign x ys)

-- the sign of the permutation that sorts a tuple, and zero at a repeat
abbrev pub sort_sign : List ℕ → Sign
sort_sign [] = Plus
sort_sign (x ∷ xs) = product (before_sign x xs) (sort_sign xs)

-- the list with x put before the first entry that is greater
abbrev pub insert : ℕ → List ℕ → List ℕ
insert x [] = x ∷ []
insert x (y ∷ ys) = cond (nat_lt x y) (x ∷ y ∷ ys) (y ∷ insert x ys)

-- the entries of a list in increasing order
abbrev pub sorted : List ℕ → List ℕ
sorted [] = []
sorted (x ∷ xs) = insert x (sorted xs)

-- the value on any tuple, for a map that is given on increasing lists
abbrev pub value : (List ℕ → Sign) → List ℕ → Sign
value f t = product (sort_sign t) (f (sorted t))
