-- The terms of the three-term relation [abc][ade] - [abd][ace] + [abe][acd] = 0, which vectors of rank 3 meet, as
-- signs.
--
-- Reference: Björner, Las Vergnas, Sturmfels, White and Ziegler, Oriented Matroids, chapter 8.
use Rattle.std.specs.Prelude.{ℕ, ◌+◌, ◌-◌, [], ◌∷◌, cond, nat_eq}
use Rattle.om_signs.specs.declared.sign.Sign.{Sign}
use Rattle.om_signs.specs.declared.sign.Sign.TheVariants.{Minus, Zero, Plus}
use Rattle.om_signs.specs.Sign.{opposite, product}
use Rattle.om_chirotope.specs.Map.{SignMap, value_of}
use Rattle.om_grassmann.specs.declared.statement.Statement.{Statement}
use Rattle.om_grassmann.specs.declared.terms.Terms.{Terms}

-- the bracket [xyz]: the value of the tuple x, y, z in this order
unfoldable pub bracket : SignMap → ℕ → ℕ → ℕ → Sign
bracket m x y z = value_of m (x ∷ y ∷ z ∷ [])

-- [abc][ade]
abbrev pub first_term : SignMap → Statement → Sign
first_term m st = product (bracket m st.a st.b st.c) (bracket m st.a st.d st.e)

-- -[abd][ace]
abbrev pub second_term : SignMap → Statement → Sign
second_term m st = opposite (product (bracket m st.a st.b st.d) (bracket m st.a st.c st.e))

-- [abe][acd]
abbrev pub third_term : SignMap → Statement → Sign
third_term m st = product (bracket m st.a st.b st.e) (bracket m st.a st.c st.d)

-- x for the number 1, y for 2, and z for 3
abbrev pub pick : {A : Type 0} → ℕ → A → A → A → A
pick i x y z = cond (nat_eq i 1) x (cond (nat_eq i 2) y z)

-- the term with the number 1, 2 or 3
abbrev pub term : SignMap → Statement → ℕ → Sign
term m st i = pick i (first_term m st) (second_term m st) (third_term m st)

-- the term with the number 1, 2 or 3 among three terms
abbrev pub term_of : Terms → ℕ → Sign
term_of terms i = pick i terms.first terms.second terms.third

-- the third of the numbers 1, 2, 3, given two of them
abbrev pub third : ℕ → ℕ → ℕ
third i j = 6 - (i + j)

-- Plus for the small term of a statement, and minus for the big one. For the third term plus if the statement is
-- strict, and else zero.
abbrev pub told : Statement → ℕ → Sign
told st i = cond (nat_eq i st.small) Plus (cond (nat_eq i st.big) Minus (cond st.strict Plus Zero))
