-- What a lawful statement says of the sizes of triple products, where vectors realize the map.
--
-- Main definitions: product_at, first_number, second_number, third_number, number, IsCompared
-- Main results: size-number, ordered_sizes
use Rattle.std.specs.Prelude.{ℕ, zero, suc, ◌≡◌, ◌≢◌, ◌*◌, ◌<◌, ◌≤◌, ℤ, pos, negsuc, ◌+ℤ◌, ◌-ℤ◌, ◌*ℤ◌, neg_ℤ}
use Rattle.std.specs.Prelude.{unsigned_abs, Bool, true, false, List, [], ◌∷◌, cond, nat_eq, nat_lt, refl, ◌⊎◌}
use Rattle.std.proofs.Common.{sym, ◌∙◌, ap, arith, inl, inr, subst}
use Rattle.std.proofs.lemmas.Int.{ints, unsigned_abs-mul}
use Rattle.om_signs.specs.declared.sign.Sign.TheVariants.{Minus, Zero, Plus}
use Rattle.om_signs.specs.Sign.{opposite, product}
use Rattle.om_signs.proofs.Rings.{sums, unsigned_abs-neg}
use Rattle.om_laws.specs.Tuples.{insert}
use Rattle.om_chirotope.specs.Map.{SignMap}
use Rattle.om_vectors.specs.WholeVectors.{WholeVector, triple_product, sign_of}
use Rattle.om_vectors.specs.Realizations.{vector_at, Realizes}
use Rattle.om_vectors.proofs.Identities.{swap_first, swap_last, three_terms}
use Rattle.om_vectors.proofs.NumberSigns.{sign-neg, sign-times}
use Rattle.om_vectors.proofs.TripleSigns.{realized_value}
use Rattle.om_grassmann.specs.declared.statement.Statement.{Statement}
use Rattle.om_grassmann.specs.Terms.{bracket, pick, term, third, first_term, second_term, third_term}
use Rattle.om_grassmann.specs.Statements.{IsElement, IsPlaced, AreTwo, HasSigns, IsLawful}
use Rattle.om_grassmann.specs.Sides.{triple}
use Rattle.om_certificate.specs.BracketSizes.{bracket_size, term_size}

-- the triple product of the vectors of three elements
abbrev pub product_at : List WholeVector → ℕ → ℕ → ℕ → ℤ
product_at vs x y z = triple_product (vector_at vs x) (vector_at vs y) (vector_at vs z)

swapped_first : (vs : List WholeVector) (x y z : ℕ) → unsigned_abs (product_at vs y x z)
    ≡ unsigned_abs (product_at vs x y z)
swapped_first vs x y z = ap unsigned_abs (swap_first (vector_at vs x) (vector_at vs y) (vector_at vs z))
    ∙ unsigned_abs-neg (product_at vs x y z)

swapped_last : (vs : List WholeVector) (x y z : ℕ) → unsigned_abs (product_at vs x z y)
    ≡ unsigned_abs (product_at vs x y z)
swapped_last vs x y z = ap unsigned_abs (swap_last (vector_at vs x) (vector_at vs y) (vector_at vs z))
    ∙ unsigned_abs-neg (product_at vs x y z)

size-insert : (vs : List WholeVector) (x y z : ℕ) → bracket_size vs (insert x (y ∷ z ∷ []))
    ≡ unsigned_abs (product_at vs x y z)
size-insert vs x y z = first (nat_lt x y) (nat_lt x z)
  where
    first : (b c : Bool) → bracket_size vs (cond b (x ∷ y ∷ z ∷ []) (y ∷ cond c (x ∷ z ∷ []) (z ∷ x ∷ [])))
        ≡ unsigned_abs (product_at vs x y z)
    first true c = refl
    first false true = swapped_first vs x y z
    first false false = swapped_last vs y x z ∙ swapped_first vs x y z

-- sorting three elements keeps the size of their triple product
size-triple : (vs : List WholeVector) (x y z : ℕ) → bracket_size vs (triple x y z) ≡ unsigned_abs (product_at vs x y z)
unfolding triple
size-triple vs x y z = rest (nat_lt y z)
  where
    rest : (b : Bool) → bracket_size vs (insert x (cond b (y ∷ z ∷ []) (z ∷ y ∷ [])))
        ≡ unsigned_abs (product_at vs x y z)
    rest true = size-insert vs x y z
    rest false = size-insert vs x z y ∙ swapped_last vs x y z

-- the three terms of a statement as numbers
abbrev pub first_number : List WholeVector → Statement → ℤ
first_number vs st = product_at vs st.a st.b st.c *ℤ product_at vs st.a st.d st.e

abbrev pub second_number : List WholeVector → Statement → ℤ
second_number vs st = neg_ℤ (product_at vs st.a st.b st.d *ℤ product_at vs st.a st.c st.e)

abbrev pub third_number : List WholeVector → Statement → ℤ
third_number vs st = product_at vs st.a st.b st.e *ℤ product_at vs st.a st.c st.d

-- the term with the number 1, 2 or 3 as a number
abbrev pub number : List WholeVector → Statement → ℕ → ℤ
number vs st i = pick i (first_number vs st) (second_number vs st) (third_number vs st)

pick-map : {A B : Type 0} (f : A → B) (i : ℕ) (x y z : A) → f (pick i x y z) ≡ pick i (f x) (f y) (f z)
pick-map f i x y z = go (nat_eq i 1) (nat_eq i 2)
  where
    go : (b c : Bool) → f (cond b x (cond c y z)) ≡ cond b (f x) (cond c (f y) (f z))
    go true c = refl
    go false true = refl
    go false false = refl

numbers_sum : (vs : List WholeVector) (st : Statement)
    → first_number vs st +ℤ second_number vs st +ℤ third_number vs st ≡ pos 0
numbers_sum vs st =
    added (product_at vs st.a st.b st.c *ℤ product_at vs st.a st.d st.e)
    (product_at vs st.a st.b st.d *ℤ product_at vs st.a st.c st.e) (third_number vs st)
    (three_terms (vector_at vs st.a) (vector_at vs st.b) (vector_at vs st.c) (vector_at vs st.d) (vector_at vs st.e))
  where
    added : (p q r : ℤ) → p -ℤ q +ℤ r ≡ pos 0 → p +ℤ neg_ℤ q +ℤ r ≡ pos 0
    added p q r h = omega sums

-- ---- signs

module _ (vs : List WholeVector) (m : SignMap) (realizes : Realizes vs m) (st : Statement)
    (placed : IsPlaced m.elements st) where
  sign-bracket : (x y z : ℕ) → IsElement m.elements x → IsElement m.elements y → IsElement m.elements z
      → sign_of (product_at vs x y z) ≡ bracket m x y z
  unfolding bracket
  sign-bracket x y z hx hy hz =
      sym (realized_value vs m realizes (x ∷ y ∷ z ∷ [])
      (record { size = refl; within = ((hx.low, hx.high), ((hy.low, hy.high), ((hz.low, hz.high), tt))) }))

  element_b : IsElement m.elements st.b
  element_b = let b = placed.b in let bc = placed.b_c in let cd = placed.c_d in let de = placed.d_e in let e =
      placed.e in record { low = b; high = omega arith }

  element_c : IsElement m.elements st.c
  element_c = let b = placed.b in let bc = placed.b_c in let cd = placed.c_d in let de = placed.d_e in let e =
      placed.e in record { low = omega arith; high = omega arith }

  element_d : IsElement m.elements st.d
  element_d = let b = placed.b in let bc = placed.b_c in let cd = placed.c_d in let de = placed.d_e in let e =
      placed.e in record { low = omega arith; high = omega arith }

  element_e : IsElement m.elements st.e
  element_e = let b = placed.b in let bc = placed.b_c in let cd = placed.c_d in let de = placed.d_e in let e =
      placed.e in record { low = omega arith; high = e }

  sign-product :
      (x y z u v : ℕ)
      → IsElement m.elements x
      → IsElement m.elements y
      → IsElement m.elements z
      → IsElement m.elements u
      → IsElement m.elements v
      → sign_of (product_at vs x y z *ℤ product_at vs x u v) ≡ product (bracket m x y z) (bracket m x u v)
  sign-product x y z u v hx hy hz hu hv =
      sign-times (product_at vs x y z) (product_at vs x u v)
      ∙ ap (λ s. product s (sign_of (product_at vs x u v))) (sign-bracket x y z hx hy hz)
      ∙ ap (product (bracket m x y z)) (sign-bracket x u v hx hu hv)

  pub sign-number : (i : ℕ) → sign_of (number vs st i) ≡ term m st i
  sign-number i =
      pick-map sign_of i (first_number vs st) (second_number vs st) (third_number vs st)
      ∙ same
    where
      same : pick i (sign_of (first_number vs st)) (sign_of (second_number vs st)) (sign_of (third_number vs st))
          ≡ pick i (first_term m st) (second_term m st) (third_term m st)
      same =
          ap (λ s. pick i s (sign_of (second_number vs st)) (sign_of (third_number vs st)))
          (sign-product st.a st.b st.c st.d st.e placed.a element_b element_c element_d element_e)
          ∙ ap (λ s. pick i (first_term m st) s (sign_of (third_number vs st)))
          (sign-neg (product_at vs st.a st.b st.d *ℤ product_at vs st.a st.c st.e)
          ∙ ap opposite (sign-product st.a st.b st.d st.c st.e placed.a element_b element_d element_c element_e))
          ∙ ap (λ s. pick i (first_term m st) (second_term m st) s)
          (sign-product st.a st.b st.e st.c st.d placed.a element_b element_e element_c element_d)

-- ---- sizes

size-product : (vs : List WholeVector) (x y z u v : ℕ)
    → unsigned_abs (product_at vs x y z *ℤ product_at vs x u v) ≡ bracket_size vs (triple x y z)
    * bracket_size vs (triple x u v)
size-product vs x y z u v =
    unsigned_abs-mul (product_at vs x y z) (product_at vs x u v)
    ∙ ap (λ k. k * unsigned_abs (product_at vs x u v)) (sym (size-triple vs x y z))
    ∙ ap (λ k. bracket_size vs (triple x y z) * k) (sym (size-triple vs x u v))

pub size-number : (vs : List WholeVector) (st : Statement) (i : ℕ) → unsigned_abs (number vs st i) ≡ term_size vs st i
size-number vs st i = go (nat_eq i 1) (nat_eq i 2)
  where
    go :
        (b c : Bool)
        → unsigned_abs (cond b (first_number vs st) (cond c (second_number vs st) (third_number vs st)))
        ≡ bracket_size vs (cond b (triple st.a st.b st.c) (cond c (triple st.a st.b st.d) (triple st.a st.b st.e)))
        * bracket_size vs (cond b (triple st.a st.d st.e) (cond c (triple st.a st.c st.e) (triple st.a st.c st.d)))
    go true c = size-product vs st.a st.b st.c st.d st.e
    go false true = unsigned_abs-neg (product_at vs st.a st.b st.d *ℤ product_at vs st.a st.c st.e)
        ∙ size-product vs st.a st.b st.d st.c st.e
    go false false = size-product vs st.a st.b st.e st.c st.d

-- ---- the order of the sizes

-- the one size is positive and at most the other, and less where the statement is strict, and equal where it isn't
pub record IsCompared (strict : Bool) (small big : ℕ) : Type 0 where
  pub positive : 0 < small
  pub at_most : small ≤ big
  pub less : strict ≡ true → small < big
  pub equal : strict ≡ false → small ≡ big

compared : (strict : Bool) (u w v : ℤ) → u +ℤ w +ℤ v ≡ pos 0 → HasSigns strict (sign_of u) (sign_of w) (sign_of v)
    → IsCompared strict (unsigned_abs u) (unsigned_abs v)
compared strict (pos zero) w v e h = absurd (h.nonzero refl)
compared strict (pos (suc k)) w (pos zero) e h = absurd (let o : Zero ≡ Minus = h.opposed in cc)
compared strict (pos (suc k)) w (pos (suc n)) e h = absurd (let o : Plus ≡ Minus = h.opposed in cc)
compared true (pos (suc k)) (pos zero) (negsuc n) e h = absurd (let o : Zero ≡ Plus = h.rest in cc)
compared true (pos (suc k)) (pos (suc j)) (negsuc n) e h =
    record {
      positive = omega arith;
      at_most = omega (arith, ints);
      less = λ s. omega (arith, ints);
      equal =
          λ s. absurd (cc);
    }
compared true (pos (suc k)) (negsuc j) (negsuc n) e h = absurd (let o : Minus ≡ Plus = h.rest in cc)
compared false (pos (suc k)) (pos zero) (negsuc n) e h =
    record {
      positive = omega arith;
      at_most = omega (arith, ints);
      less = λ s. absurd (cc);
      equal =
          λ s. omega (arith, ints);
    }
compared false (pos (suc k)) (pos (suc j)) (negsuc n) e h = absurd (let o : Plus ≡ Zero = h.rest in cc)
compared false (pos (suc k)) (negsuc j) (negsuc n) e h = absurd (let o : Minus ≡ Zero = h.rest in cc)
compared strict (negsuc k) w (pos zero) e h = absurd (let o : Zero ≡ Plus = h.opposed in cc)
compared strict (negsuc k) w (negsuc n) e h = absurd (let o : Minus ≡ Plus = h.opposed in cc)
compared true (negsuc k) (pos zero) (pos (suc n)) e h = absurd (let o : Zero ≡ Minus = h.rest in cc)
compared true (negsuc k) (pos (suc j)) (pos (suc n)) e h = absurd (let o : Plus ≡ Minus = h.rest in cc)
compared true (negsuc k) (negsuc j) (pos (suc n)) e h =
    record {
      positive = omega arith;
      at_most = omega (arith, ints);
      less = λ s. omega (arith, ints);
      equal =
          λ s. absurd (cc);
    }
compared false (negsuc k) (pos zero) (pos (suc n)) e h =
    record {
      positive = omega arith;
      at_most = omega (arith, ints);
      less = λ s. absurd (cc);
      equal =
          λ s. omega (arith, ints);
    }
compared false (negsuc k) (pos (suc j)) (pos (suc n)) e h = absurd (let o : Plus ≡ Zero = h.rest in cc)
compared false (negsuc k) (negsuc j) (pos (suc n)) e h = absurd (let o : Minus ≡ Zero = h.rest in cc)

one_of_three : (i : ℕ) → IsElement 3 i → (i ≡ 1) ⊎ ((i ≡ 2) ⊎ (i ≡ 3))
one_of_three zero h = let l = h.low in absurd (omega arith)
one_of_three (suc zero) h = inl refl
one_of_three (suc (suc zero)) h = inr (inl refl)
one_of_three (suc (suc (suc zero))) h = inr (inr refl)
one_of_three (suc (suc (suc (suc k)))) h = let l = h.high in absurd (omega arith)

-- a term, the third one and another one have sum 0
terms_sum : (x y z : ℤ) → x +ℤ y +ℤ z ≡ pos 0 → (i j : ℕ) → AreTwo i j
    → pick i x y z +ℤ pick (third i j) x y z +ℤ pick j x y z ≡ pos 0
terms_sum x y z e i j t = go i j (one_of_three i t.first) (one_of_three j t.second) t.differ
  where
    go : (i j : ℕ) → (i ≡ 1) ⊎ ((i ≡ 2) ⊎ (i ≡ 3)) → (j ≡ 1) ⊎ ((j ≡ 2) ⊎ (j ≡ 3)) → i ≢ j
        → pick i x y z +ℤ pick (third i j) x y z +ℤ pick j x y z ≡ pos 0
    go i j (inl p) (inl q) n = absurd (n (p ∙ sym q))
    go i j (inl p) (inr (inl q)) n = rw (p, q) (let f : x +ℤ z +ℤ y ≡ pos 0 = omega sums in f)
    go i j (inl p) (inr (inr q)) n = rw (p, q) e
    go i j (inr (inl p)) (inl q) n = rw (p, q) (let f : y +ℤ z +ℤ x ≡ pos 0 = omega sums in f)
    go i j (inr (inl p)) (inr (inl q)) n = absurd (n (p ∙ sym q))
    go i j (inr (inl p)) (inr (inr q)) n = rw (p, q) (let f : y +ℤ x +ℤ z ≡ pos 0 = omega sums in f)
    go i j (inr (inr p)) (inl q) n = rw (p, q) (let f : z +ℤ y +ℤ x ≡ pos 0 = omega sums in f)
    go i j (inr (inr p)) (inr (inl q)) n = rw (p, q) (let f : z +ℤ x +ℤ y ≡ pos 0 = omega sums in f)
    go i j (inr (inr p)) (inr (inr q)) n = absurd (n (p ∙ sym q))

-- the product of the sizes on the small side of a lawful statement is positive and at most that on the big side, less
-- where it is strict, and else equal
pub ordered_sizes :
    (vs : List WholeVector) (m : SignMap)
    → Realizes vs m
    → (st : Statement)
    → IsLawful m st
    → IsCompared st.strict (term_size vs st st.small) (term_size vs st st.big)
ordered_sizes vs m r st h =
    subst (λ k. IsCompared st.strict k (term_size vs st st.big)) (size-number vs st st.small)
    (subst (λ k. IsCompared st.strict (unsigned_abs (number vs st st.small)) k) (size-number vs st st.big)
    (compared st.strict (number vs st st.small) (number vs st (third st.small st.big)) (number vs st st.big)
    (terms_sum (first_number vs st) (second_number vs st) (third_number vs st) (numbers_sum vs st) st.small st.big
    h.two)
    signs))
  where
    signs : HasSigns st.strict (sign_of (number vs st st.small)) (sign_of (number vs st (third st.small st.big)))
        (sign_of (number vs st st.big))
    signs =
        subst (λ s. HasSigns st.strict s (sign_of (number vs st (third st.small st.big)))
        (sign_of (number vs st st.big))) (sym (sign-number vs m r st h.placed st.small))
        (subst (λ s. HasSigns st.strict (term m st st.small) s (sign_of (number vs st st.big)))
        (sym (sign-number vs m r st h.placed (third st.small st.big)))
        (subst (λ s. HasSigns st.strict (term m st st.small) (term m st (third st.small st.big)) s)
        (sym (sign-number vs m r st h.placed st.big)) h.signs))
