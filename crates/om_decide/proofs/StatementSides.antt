-- A statement of five elements with one of them named: the third number changes places with the smaller ones.
--
-- Main definitions: four, term_at, side, Signs
-- Main results: side_low, same_small, smaller_first
use Rattle.std.specs.Prelude.{ℕ, ◌≡◌, ◌≢◌, ◌<◌, ◌≤◌, ◌⊎◌, Bool, true, false, cond, nat_lt, List, [], ◌∷◌}
use Rattle.std.proofs.Common.{arith, sym, get_or, ◌∙◌, ap, subst, refl, inl, inr}
use Rattle.std.proofs.lemmas.Bool.{cases_eq, lt-ltb, le-ltb}
use Rattle.om_signs.specs.declared.sign.Sign.{Sign}
use Rattle.om_signs.specs.declared.sign.Sign.TheVariants.{Zero}
use Rattle.om_signs.specs.Sign.{opposite, product}
use Rattle.om_signs.proofs.SignLaws.{not_own_opposite, opposite-opposite, zero_from_opposite}
use Rattle.om_chirotope.specs.Map.{SignMap}
use Rattle.om_grassmann.specs.declared.statement.Statement.{Statement}
use Rattle.om_grassmann.specs.Terms.{bracket, pick, third}
use Rattle.om_grassmann.specs.Statements.{IsElement, AreTwo, HasSigns}

-- ---- numbers of statements

-- the elements b, c, d and e
abbrev pub four : Statement → List ℕ
four st = st.b ∷ st.c ∷ st.d ∷ st.e ∷ []

-- the term with the number i of three, by the elements a and b, c, d, e
abbrev pub term_at : SignMap → ℕ → List ℕ → ℕ → Sign
term_at m a xs i = pick i
    (product (bracket m a (get_or xs 0 0) (get_or xs 1 0)) (bracket m a (get_or xs 2 0) (get_or xs 3 0)))
    (opposite (product (bracket m a (get_or xs 0 0) (get_or xs 2 0)) (bracket m a (get_or xs 1 0) (get_or xs 3 0))))
    (product (bracket m a (get_or xs 0 0) (get_or xs 3 0)) (bracket m a (get_or xs 1 0) (get_or xs 2 0)))

-- 1 if i is below j, and else 0
abbrev above : ℕ → ℕ → ℕ
above i j = cond (nat_lt i j) 1 0

above_low : (i j : ℕ) → above i j ≤ 1
above_low i j = by_test (nat_lt i j)
  where
    by_test : (t : Bool) → cond t 1 0 ≤ 1
    by_test true = omega arith
    by_test false = omega arith

above_one : (i j : ℕ) → i < j → above i j ≡ 1
above_one i j l = ap (λ t. cond t 1 0) (lt-ltb i j l)

above_none : (i j : ℕ) → j ≤ i → above i j ≡ 0
above_none i j l = ap (λ t. cond t 1 0) (le-ltb i j l)

-- the number, 0 or 1, of a lawful statement among the two of its five elements: a strict one is told from the other by
-- the two terms of one sign, and an equation by the two terms that aren't zero
abbrev pub side : Bool → ℕ → ℕ → ℕ
side strict i j = cond strict (above (third i j) i) (above j i)

pub side_low : (strict : Bool) (i j : ℕ) → side strict i j ≤ 1
side_low true i j = above_low (third i j) i
side_low false i j = above_low j i

-- the third term isn't opposite to the small one
rest_not_opposed : (strict : Bool) (s t : Sign) → s ≢ Zero → t ≡ cond strict s Zero → t ≡ opposite s → ⊥
rest_not_opposed true s t n e o = not_own_opposite s n (sym e ∙ o)
rest_not_opposed false s t n e o = n (zero_from_opposite s (sym o ∙ e))

-- where the third term isn't zero the statement is strict, and where it is zero it is an equation
strict_from : (strict : Bool) (s t : Sign) → t ≡ cond strict s Zero → t ≢ Zero → strict ≡ true
strict_from true s t e n = refl
strict_from false s t e n = absurd (n e)

-- which of three numbers one of them is
one_of : (i j e : ℕ) → AreTwo i j → IsElement 3 e → (e ≡ i) ⊎ (e ≡ j) ⊎ (e ≡ third i j)
one_of i j e h g =
    let a = h.first.low in
    let b = h.first.high in
    let c = h.second.low in
    let d = h.second.high in
    let n = h.differ in
    let x = g.low in
    let y = g.high in
    elim (cases_eq e i) [
      | inl p ↦ inl p
      | inr p ↦ elim (cases_eq e j) [
        | inl q ↦ inr (inl q)
        | inr q ↦ inr (inr (omega arith))
      ]
    ]

third_left : (i j i' j' : ℕ) → AreTwo i j → i' ≡ j → j' ≡ third i j → third i' j' ≡ i
third_left i j i' j' h q p =
    let a = h.first.high in
    let b = h.second.high in
    omega (arith, a, b, q, p)

third_right : (i j k : ℕ) → AreTwo i j → k ≡ third i j → third k j ≡ i
third_right i j k h q =
    let a = h.first.high in
    let b = h.second.high in
    omega (arith, a, b, q)

module _ (f : ℕ → Sign) where
  -- the signs of the terms with two numbers, and of the third
  abbrev pub Signs : Bool → ℕ → ℕ → Type 0
  Signs strict i j = HasSigns strict (f i) (f (third i j)) (f j)

  pub same_small : (u v : Bool) (i j j' : ℕ) → AreTwo i j → AreTwo i j' → Signs u i j → Signs v i j' → j < j' → ⊥
  same_small u v i j j' h g s t l = elim (one_of i j j' h g.second) [
    | inl q ↦ g.differ (sym q)
    | inr (inl q) ↦ absurd (omega (arith, q, l))
    | inr (inr q) ↦ rest_not_opposed u (f i) (f (third i j)) s.nonzero s.rest (ap f (sym q) ∙ t.opposed)
  ]

  -- i and j change places
  turned : (u v : Bool) (i j : ℕ) → Signs u i j → Signs v j i → third i j ≡ third j i → i < j → side u i j < side v j i
  turned true v i j s t e l =
      absurd (rest_not_opposed v (f j) (f (third j i)) t.nonzero t.rest (ap f (sym e) ∙ s.rest ∙ t.opposed))
  turned false true i j s t e l =
      absurd (rest_not_opposed false (f i) (f (third i j)) s.nonzero s.rest (ap f e ∙ t.rest ∙ s.opposed))
  turned false false i j s t e l =
      let a = above_none j i (omega (arith, l)) in
      let b = above_one i j l in
      omega (arith, a, b)

  -- the third number takes the place of i
  replaced : (u v : Bool) (i j k : ℕ) → Signs u i j → Signs v k j → third i j ≡ k → third k j ≡ i → i < k
      → side u i j < side v k j
  replaced u v i j k s t ek ei l =
      let su : u ≡ true = strict_from u (f i) (f (third i j)) s.rest (λ z. t.nonzero (ap f (sym ek) ∙ z)) in
      let sv : v ≡ true = strict_from v (f k) (f (third k j)) t.rest (λ z. s.nonzero (ap f (sym ei) ∙ z)) in
      let a : side u i j ≡ 0 = ap (λ w. side w i j) su ∙ ap (λ x. above x i) ek ∙ above_none k i (omega (arith, l)) in
      let b : side v k j ≡ 1 = ap (λ w. side w k j) sv ∙ ap (λ x. above x k) ei ∙ above_one i k l in
      omega (arith, a, b)

  pub smaller_first : (u v : Bool) (i j i' j' : ℕ) → AreTwo i j → AreTwo i' j' → Signs u i j → Signs v i' j' → i < i'
      → side u i j < side v i' j'
  smaller_first u v i j i' j' h g s t l =
      let n = h.differ in
      elim (one_of i j i' h g.first) [
        | inl q ↦ absurd (omega (arith, q, l))
        | inr (inl q) ↦ elim (one_of i j j' h g.second) [
          | inl p ↦
              (let t' : Signs v j i = subst (λ x. Signs v j x) p (subst (λ x. Signs v x j') q t) in
              subst (λ x. side u i j < side v x j') (sym q)
              (subst (λ x. side u i j < side v j x) (sym p)
              (turned u v i j s t' (omega arith) (subst (λ x. i < x) q l))))
          | inr (inl p) ↦ absurd (g.differ (q ∙ sym p))
          | inr (inr p) ↦
              (let e : third i' j' ≡ i = third_left i j i' j' h q p in
              absurd (rest_not_opposed v (f i') (f (third i' j')) t.nonzero t.rest
              (ap f e ∙ sym (ap opposite (ap f q ∙ s.opposed) ∙ opposite-opposite (f i)))))
        ]
        | inr (inr q) ↦ elim (one_of i j j' h g.second) [
          | inl p ↦
              absurd (rest_not_opposed u (f i) (f (third i j)) s.nonzero s.rest
              (ap f (sym q) ∙ sym (opposite-opposite (f i')) ∙ ap opposite (sym t.opposed ∙ ap f p)))
          | inr (inl p) ↦
              (let t' : Signs v i' j = subst (λ x. Signs v i' x) p t in
              subst (λ x. side u i j < side v i' x) (sym p)
              (replaced u v i j i' s t' (sym q) (third_right i j i' h q) l))
          | inr (inr p) ↦ absurd (g.differ (q ∙ sym p))
        ]
      ]
