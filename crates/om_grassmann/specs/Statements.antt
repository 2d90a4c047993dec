-- Which three-term statements hold for all vectors with the signs of a map.
--
-- Reference: Bokowski and Richter-Gebert, On the finding of final polynomials, 1990.
use Rattle.std.specs.Prelude.{ℕ, ◌≡◌, ◌≢◌, ◌<◌, ◌≤◌, Bool, cond}
use Rattle.om_signs.specs.declared.sign.Sign.{Sign}
use Rattle.om_signs.specs.declared.sign.Sign.TheVariants.{Zero}
use Rattle.om_signs.specs.Sign.{opposite}
use Rattle.om_chirotope.specs.Map.{SignMap}
use Rattle.om_grassmann.specs.declared.statement.Statement.{Statement}
use Rattle.om_grassmann.specs.Terms.{term, third}

-- an element of 1 to n
pub record IsElement (n e : ℕ) : Type 0 where
  pub low : 1 ≤ e
  pub high : e ≤ n

-- a isn't one of the other four
pub record IsApart (st : Statement) : Type 0 where
  pub b : st.a ≢ st.b
  pub c : st.a ≢ st.c
  pub d : st.a ≢ st.d
  pub e : st.a ≢ st.e

-- a to e are distinct elements of 1 to n, and b, c, d, e are increasing
pub record IsPlaced (n : ℕ) (st : Statement) : Type 0 where
  pub a : IsElement n st.a
  pub b : 1 ≤ st.b
  pub b_c : st.b < st.c
  pub c_d : st.c < st.d
  pub d_e : st.d < st.e
  pub e : st.e ≤ n
  pub apart : IsApart st

-- two different ones of the numbers 1, 2, 3
pub record AreTwo (i j : ℕ) : Type 0 where
  pub first : IsElement 3 i
  pub second : IsElement 3 j
  pub differ : i ≢ j

-- The small term isn't zero, and the big term has the other sign. The third term has the sign of the small term in
-- a strict statement, and is zero in an equation.
pub record HasSigns (strict : Bool) (small third big : Sign) : Type 0 where
  pub nonzero : small ≢ Zero
  pub opposed : big ≡ opposite small
  pub rest : third ≡ cond strict small Zero

-- A statement that the three-term relations of a map of rank 3 give. It says |small term| < |big term| if it is
-- strict, and |small term| = |big term| if it is an equation.
pub record IsLawful (m : SignMap) (st : Statement) : Type 0 where
  pub rank : m.rank ≡ 3
  pub placed : IsPlaced m.elements st
  pub two : AreTwo st.small st.big
  pub signs : HasSigns st.strict (term m st st.small) (term m st (third st.small st.big)) (term m st st.big)

-- the statement with its two sides exchanged
abbrev pub exchanged : Statement → Statement
exchanged st = record st { small = st.big; big = st.small }
