-- The brackets of a lawful statement.
--
-- Main results: nonzero_brackets, that their values aren't zero, and four_brackets, that they differ.
use Rattle.std.specs.Prelude.{ℕ, ◌≡◌, ◌≢◌, ◌<◌, [], ◌∷◌}
use Rattle.std.proofs.Common.{refl, sym, ◌∙◌, ap, subst, arith, inl, inr}
use Rattle.std.proofs.lemmas.Bool.{cases_eq}
use Rattle.om_signs.specs.declared.sign.Sign.TheVariants.{Zero}
use Rattle.om_signs.specs.Sign.{product}
use Rattle.om_signs.proofs.SignLaws.{product-zero, left_factor_nonzero, right_factor_nonzero, nonzero_from_opposite}
use Rattle.om_signs.proofs.SignLaws.{zero_from_opposite}
use Rattle.om_laws.specs.Tuples.{sort_sign}
use Rattle.om_chirotope.specs.Map.{SignMap, chi_of}
use Rattle.om_chirotope.proofs.InOrder.{value_in_order}
use Rattle.om_grassmann.specs.declared.statement.Statement.{Statement}
use Rattle.om_grassmann.specs.Terms.{bracket, term}
use Rattle.om_grassmann.specs.Statements.{IsElement, IsPlaced, AreTwo, IsLawful}
use Rattle.om_grassmann.specs.Sides.{triple, IsNonzeroTriple, HasNonzeroBrackets, HasFourBrackets, first_bracket}
use Rattle.om_grassmann.specs.Sides.{second_bracket}
use Rattle.om_grassmann.proofs.Triples.{IsThree, triple-subset, length-triple, apart_in_middle, apart_at_end}

-- ---- the values

nonzero_sign : (m : SignMap) (x y z : ℕ) → bracket m x y z ≢ Zero → chi_of m (triple x y z) ≢ Zero
unfolding bracket triple
nonzero_sign m x y z n =
    λ q. n (ap (product (sort_sign (x ∷ y ∷ z ∷ []))) q ∙ product-zero (sort_sign (x ∷ y ∷ z ∷ [])))

nonzero_triple : (m : SignMap) (x y z : ℕ) → IsElement m.elements x → IsElement m.elements y → IsElement m.elements z
    → IsThree x y z → bracket m x y z ≢ Zero → IsNonzeroTriple m (triple x y z)
nonzero_triple m x y z hx hy hz d n =
    let inside = triple-subset m.elements x y z hx hy hz d in
    record {
      increasing = inside;
      size = length-triple x y z d.first d.second d.third;
      nonzero = λ q. nonzero_sign m x y z n (sym (value_in_order 1 m.elements (chi_of m) (triple x y z) inside) ∙ q);
      sign = nonzero_sign m x y z n;
    }

-- what holds at 1, 2 and 3 holds of each number from 1 to 3
by_three : (P : ℕ → Type 0) → P 1 → P 2 → P 3 → (i : ℕ) → IsElement 3 i → P i
by_three P one two three i h = elim (cases_eq i 1) [
  | inl q ↦ subst P (sym q) one
  | inr n ↦ elim (cases_eq i 2) [
    | inl q ↦ subst P (sym q) two
    | inr k ↦ let q : i ≡ 3 = omega arith in subst P (sym q) three
  ]
]

pub nonzero_brackets : (m : SignMap) (st : Statement) (i : ℕ) → IsPlaced m.elements st → IsElement 3 i
    → term m st i ≢ Zero → HasNonzeroBrackets m st i
nonzero_brackets m st i p e = by_three (λ j. term m st j ≢ Zero → HasNonzeroBrackets m st j) one two three i e
  where
    b : IsElement m.elements st.b
    b = record { low = omega arith; high = omega arith }

    c : IsElement m.elements st.c
    c = record { low = omega arith; high = omega arith }

    d : IsElement m.elements st.d
    d = record { low = omega arith; high = omega arith }

    e' : IsElement m.elements st.e
    e' = record { low = omega arith; high = omega arith }

    with_a : (x y : ℕ) → IsElement m.elements x → IsElement m.elements y → st.a ≢ x → st.a ≢ y → x < y
        → bracket m st.a x y ≢ Zero → IsNonzeroTriple m (triple st.a x y)
    with_a x y hx hy ax ay xy n =
        nonzero_triple m st.a x y p.a hx hy (record { first = ax; second = ay; third = omega arith }) n

    one : term m st 1 ≢ Zero → HasNonzeroBrackets m st 1
    one n = record {
      first = with_a st.b st.c b c p.apart.b p.apart.c (omega arith)
          (left_factor_nonzero (bracket m st.a st.b st.c) (bracket m st.a st.d st.e) n);
      second = with_a st.d st.e d e' p.apart.d p.apart.e (omega arith)
          (right_factor_nonzero (bracket m st.a st.b st.c) (bracket m st.a st.d st.e) n);
    }

    two : term m st 2 ≢ Zero → HasNonzeroBrackets m st 2
    two n = record {
      first = with_a st.b st.d b d p.apart.b p.apart.d (omega arith)
          (left_factor_nonzero (bracket m st.a st.b st.d) (bracket m st.a st.c st.e)
          (nonzero_from_opposite (product (bracket m st.a st.b st.d) (bracket m st.a st.c st.e)) n));
      second = with_a st.c st.e c e' p.apart.c p.apart.e (omega arith)
          (right_factor_nonzero (bracket m st.a st.b st.d) (bracket m st.a st.c st.e)
          (nonzero_from_opposite (product (bracket m st.a st.b st.d) (bracket m st.a st.c st.e)) n));
    }

    three : term m st 3 ≢ Zero → HasNonzeroBrackets m st 3
    three n = record {
      first = with_a st.b st.e b e' p.apart.b p.apart.e (omega arith)
          (left_factor_nonzero (bracket m st.a st.b st.e) (bracket m st.a st.c st.d) n);
      second = with_a st.c st.d c d p.apart.c p.apart.d (omega arith)
          (right_factor_nonzero (bracket m st.a st.b st.e) (bracket m st.a st.c st.d) n);
    }

-- ---- the lists

-- the brackets of two terms are four different lists
record HasFour (st : Statement) (i j : ℕ) : Type 0 where
  i_i : first_bracket st i ≢ second_bracket st i
  first_first : first_bracket st i ≢ first_bracket st j
  first_second : first_bracket st i ≢ second_bracket st j
  second_first : second_bracket st i ≢ first_bracket st j
  second_second : second_bracket st i ≢ second_bracket st j
  j_j : first_bracket st j ≢ second_bracket st j

exchanged : (st : Statement) (i j : ℕ) → HasFour st i j → HasFour st j i
exchanged st i j h = record {
  i_i = h.j_j;
  first_first = λ q. h.first_first (sym q);
  first_second = λ q. h.second_first (sym q);
  second_first = λ q. h.first_second (sym q);
  second_second = λ q. h.second_second (sym q);
  j_j = h.i_i;
}

four : (n : ℕ) (st : Statement) → IsPlaced n st → (i j : ℕ) → AreTwo i j → HasFour st i j
four n st p i j t = by_three (λ k. k ≢ j → HasFour st k j) (one j t.second) (two j t.second) (three j t.second) i
    t.first t.differ
  where
    three_with : (x y : ℕ) → st.a ≢ x → st.a ≢ y → x < y → IsThree st.a x y
    three_with x y ax ay xy = record { first = ax; second = ay; third = omega arith }

    bc : IsThree st.a st.b st.c
    bc = three_with st.b st.c p.apart.b p.apart.c (omega arith)

    de : IsThree st.a st.d st.e
    de = three_with st.d st.e p.apart.d p.apart.e (omega arith)

    bd : IsThree st.a st.b st.d
    bd = three_with st.b st.d p.apart.b p.apart.d (omega arith)

    ce : IsThree st.a st.c st.e
    ce = three_with st.c st.e p.apart.c p.apart.e (omega arith)

    be : IsThree st.a st.b st.e
    be = three_with st.b st.e p.apart.b p.apart.e (omega arith)

    cd : IsThree st.a st.c st.d
    cd = three_with st.c st.d p.apart.c p.apart.d (omega arith)

    -- b stands in the first bracket of each term and in no second one
    b_tells : (y u v : ℕ) → IsThree st.a st.b y → IsThree st.a u v → st.b < u → st.b < v
        → triple st.a st.b y ≢ triple st.a u v
    b_tells y u v d f bu bv = apart_in_middle st.a st.b y u v d f (omega arith) (omega arith)

    b_tells_back : (y u v : ℕ) → IsThree st.a st.b y → IsThree st.a u v → st.b < u → st.b < v
        → triple st.a u v ≢ triple st.a st.b y
    b_tells_back y u v d f bu bv = λ q. b_tells y u v d f bu bv (sym q)

    one_two : HasFour st 1 2
    one_two = record {
      i_i = b_tells st.c st.d st.e bc de (omega arith) (omega arith);
      first_first = apart_at_end st.a st.b st.c st.b st.d bc bd (omega arith) (omega arith);
      first_second = b_tells st.c st.c st.e bc ce (omega arith) (omega arith);
      second_first = b_tells_back st.d st.d st.e bd de (omega arith) (omega arith);
      second_second = apart_in_middle st.a st.d st.e st.c st.e de ce (omega arith) (omega arith);
      j_j = b_tells st.d st.c st.e bd ce (omega arith) (omega arith);
    }

    one_three : HasFour st 1 3
    one_three = record {
      i_i = b_tells st.c st.d st.e bc de (omega arith) (omega arith);
      first_first = apart_at_end st.a st.b st.c st.b st.e bc be (omega arith) (omega arith);
      first_second = b_tells st.c st.c st.d bc cd (omega arith) (omega arith);
      second_first = b_tells_back st.e st.d st.e be de (omega arith) (omega arith);
      second_second = apart_at_end st.a st.d st.e st.c st.d de cd (omega arith) (omega arith);
      j_j = b_tells st.e st.c st.d be cd (omega arith) (omega arith);
    }

    two_three : HasFour st 2 3
    two_three = record {
      i_i = b_tells st.d st.c st.e bd ce (omega arith) (omega arith);
      first_first = apart_at_end st.a st.b st.d st.b st.e bd be (omega arith) (omega arith);
      first_second = b_tells st.d st.c st.d bd cd (omega arith) (omega arith);
      second_first = b_tells_back st.e st.c st.e be ce (omega arith) (omega arith);
      second_second = apart_at_end st.a st.c st.e st.c st.d ce cd (omega arith) (omega arith);
      j_j = b_tells st.e st.c st.d be cd (omega arith) (omega arith);
    }

    one : (k : ℕ) → IsElement 3 k → 1 ≢ k → HasFour st 1 k
    one k h = by_three (λ l. 1 ≢ l → HasFour st 1 l) (λ r. absurd (r refl)) (λ r. one_two) (λ r. one_three) k h

    two : (k : ℕ) → IsElement 3 k → 2 ≢ k → HasFour st 2 k
    two k h = by_three (λ l. 2 ≢ l → HasFour st 2 l) (λ r. exchanged st 1 2 one_two) (λ r. absurd (r refl))
        (λ r. two_three) k h

    three : (k : ℕ) → IsElement 3 k → 3 ≢ k → HasFour st 3 k
    three k h = by_three (λ l. 3 ≢ l → HasFour st 3 l) (λ r. exchanged st 1 3 one_three)
        (λ r. exchanged st 2 3 two_three) (λ r. absurd (r refl)) k h

pub four_brackets : (m : SignMap) (st : Statement) → IsLawful m st → HasFourBrackets st
four_brackets m st h =
    let f = four m.elements st h.placed st.small st.big h.two in
    record {
      small = f.i_i;
      first_first = f.first_first;
      first_second = f.first_second;
      second_first = f.second_first;
      second_second = f.second_second;
      big = f.j_j;
    }

-- the brackets of both sides of a lawful statement are nonzero
pub nonzero_sides : (m : SignMap) (st : Statement) → IsLawful m st → HasNonzeroBrackets m st st.small
    × HasNonzeroBrackets m st st.big
nonzero_sides m st h =
    let n : term m st st.big ≢ Zero =
    (λ q. h.signs.nonzero (zero_from_opposite (term m st st.small) (sym h.signs.opposed ∙ q))) in (
      nonzero_brackets m st st.small h.placed h.two.first h.signs.nonzero,
      nonzero_brackets m st st.big h.placed h.two.second n,
    )
