-- Relations and sign vectors with the signs of some elements turned.
--
-- Main results: signs_product_nonzero
-- Reference: Björner, Las Vergnas, Sturmfels, White and Ziegler, Oriented Matroids, chapter 3.
use Rattle.std.specs.Prelude.{ℕ, ◌≡◌, refl, ◌⊎◌, List, [], ◌∷◌, ◌++◌, cond, Bool, true, false}
use Rattle.std.proofs.Common.{arith, inl, inr, sym, ◌∙◌, ap, subst, append-nil}
use Rattle.std.proofs.lemmas.Bool.{cases_eq, eq-eqb, ne_eqb}
use Rattle.om_signs.specs.declared.sign.Sign.{Sign}
use Rattle.om_signs.specs.declared.sign.Sign.TheVariants.{Minus, Zero, Plus}
use Rattle.om_signs.specs.Sign.{opposite, product}
use Rattle.om_signs.proofs.SignLaws.{plus_nonzero, minus_nonzero, plus_or_minus, product_nonzero}
use Rattle.om_signs.proofs.SignLaws.{product-opposite_right, opposite-opposite, products, product_left_comm}
use Rattle.om_signs.proofs.SignLaws.{opposite_swap, product_twice}
use Rattle.om_laws.specs.Relations.{around, along, HasTerm, IsBalanced}
use Rattle.om_laws.specs.Reorientation.{reoriented, signs_product, turned, turning}
use Rattle.om_laws.specs.Signs.{IsNonzero}
use Rattle.om_laws.specs.Vectors.{SignVector, Orthogonal, AreEqualUpToSign}
use Rattle.om_laws.proofs.VectorLaws.{opposite_product, orthogonal_from}

pub turning_nonzero : (set : ℕ → Bool) (e : ℕ) → IsNonzero (turning set e)
turning_nonzero set e = elim (set e) as
    (λ b. IsNonzero (cond b Minus Plus)) [ true ↦ minus_nonzero | false ↦ plus_nonzero ]

-- the sign by which a reorientation turns the value of a tuple isn't zero
pub signs_product_nonzero : (set : ℕ → Bool) (t : List ℕ) → IsNonzero (signs_product (turning set) t)
signs_product_nonzero set [] = plus_nonzero
signs_product_nonzero set (x ∷ t) =
    product_nonzero (turning set x) (signs_product (turning set) t) (turning_nonzero set x)
    (signs_product_nonzero set t)

-- the product of the signs of a tuple is that of one entry times the product of the others
pub signs_product_middle : (sigma : ℕ → Sign) (cs bs : List ℕ) (x : ℕ)
    → signs_product sigma (cs ++ x ∷ bs) ≡ product (sigma x) (signs_product sigma (cs ++ bs))
signs_product_middle sigma [] bs x = refl
signs_product_middle sigma (c ∷ cs) bs x = ap (product (sigma c)) (signs_product_middle sigma cs bs x)
    ∙ product_left_comm (sigma c) (sigma x) (signs_product sigma (cs ++ bs))

-- the product of the signs of a tuple stays the same where two neighbours change places
pub signs_product_swap : (sigma : ℕ → Sign) (cs bs : List ℕ) (x y : ℕ)
    → signs_product sigma (cs ++ y ∷ x ∷ bs) ≡ signs_product sigma (cs ++ x ∷ y ∷ bs)
signs_product_swap sigma [] bs x y = product_left_comm (sigma y) (sigma x) (signs_product sigma bs)
signs_product_swap sigma (c ∷ cs) bs x y = ap (product (sigma c)) (signs_product_swap sigma cs bs x y)

signs_product_last : (sigma : ℕ → Sign) (t : List ℕ) (x : ℕ)
    → signs_product sigma (t ++ x ∷ []) ≡ product (sigma x) (signs_product sigma t)
signs_product_last sigma t x = signs_product_middle sigma t [] x
    ∙ ap (λ l. product (sigma x) (signs_product sigma l)) (append-nil t)

-- ---- terms, scaled by a sign

HasTerm_scaled : (chi psi : List ℕ → Sign) (xs : List ℕ) (u v : SignVector) (c s : Sign)
    → ((cs bs : List ℕ) (x : ℕ) → xs ≡ cs ++ x ∷ bs → product (psi (cs ++ bs)) (v x)
    ≡ product c (product (chi (cs ++ bs)) (u x))) → HasTerm chi xs u s → HasTerm psi xs v (product c s)
HasTerm_scaled chi psi [] u v c s e h = h
HasTerm_scaled chi psi (x ∷ xs) u v c s e (inl p) = inl (e [] xs x refl ∙ ap (product c) p ∙ product-opposite_right c s)
HasTerm_scaled chi psi (x ∷ xs) u v c s e (inr h) =
    inr (subst (HasTerm (λ t. psi (x ∷ t)) xs v) (product-opposite_right c s)
    (HasTerm_scaled (λ t. chi (x ∷ t)) (λ t. psi (x ∷ t)) xs u v c (opposite s)
    (λ cs bs y q. e (x ∷ cs) bs y (ap (λ k. x ∷ k) q)) h))

pub IsBalanced_scaled : (chi psi : List ℕ → Sign) (xs : List ℕ) (u v : SignVector) (c : Sign) → IsNonzero c
    → ((cs bs : List ℕ) (x : ℕ) → xs ≡ cs ++ x ∷ bs → product (psi (cs ++ bs)) (v x)
    ≡ product c (product (chi (cs ++ bs)) (u x))) → IsBalanced chi xs u → IsBalanced psi xs v
IsBalanced_scaled chi psi xs u v Minus n e (f, g) = (
  λ h. HasTerm_scaled chi psi xs u v Minus Plus e
      (g (HasTerm_scaled psi chi xs v u Minus Plus
      (λ cs bs x q. sym (ap opposite (e cs bs x q) ∙ opposite-opposite (product (chi (cs ++ bs)) (u x)))) h)),
  λ h. HasTerm_scaled chi psi xs u v Minus Minus e
      (f (HasTerm_scaled psi chi xs v u Minus Minus
      (λ cs bs x q. sym (ap opposite (e cs bs x q) ∙ opposite-opposite (product (chi (cs ++ bs)) (u x)))) h)),
)
IsBalanced_scaled chi psi xs u v Zero n e b = absurd (n refl)
IsBalanced_scaled chi psi xs u v Plus n e (f, g) = (
  λ h. HasTerm_scaled chi psi xs u v Plus Minus e
      (f (HasTerm_scaled psi chi xs v u Plus Plus (λ cs bs x q. sym (e cs bs x q)) h)),
  λ h. HasTerm_scaled chi psi xs u v Plus Plus e
      (g (HasTerm_scaled psi chi xs v u Plus Minus (λ cs bs x q. sym (e cs bs x q)) h)),
)

-- ---- reorientation

product_across : (a b c : Sign) → product (product a b) c ≡ product b (product a c)
product_across a b c = grind arith

pub along_reoriented : (set : ℕ → Bool) (chi : List ℕ → Sign) (y : List ℕ) (e : ℕ)
    → along (reoriented set chi) y e ≡ product (signs_product (turning set) y) (turned set (along chi y) e)
along_reoriented set chi y e = ap (λ k. product k (chi (y ++ e ∷ []))) (signs_product_last (turning set) y e)
    ∙ product_across (turning set e) (signs_product (turning set) y) (chi (y ++ e ∷ []))

around_scaled : (chi psi : List ℕ → Sign) (sigma : ℕ → Sign) (c : Sign) (xs : List ℕ) (e : ℕ)
    → ((x : ℕ) → IsNonzero (sigma x)) → ((t : List ℕ) → psi t ≡ product (product c (signs_product sigma t)) (chi t))
    → around psi xs e ≡ product (product c (signs_product sigma xs)) (product (sigma e) (around chi xs e))
around_scaled chi psi sigma c [] e n h = zero (product c Plus) (sigma e)
  where
    zero : (a b : Sign) → Zero ≡ product a (product b Zero)
    zero a b = grind arith
around_scaled chi psi sigma c (x ∷ xs) e n h = elim (cases_eq e x) [
  | inl q ↦
      rw (eq-eqb e x q)
      (ap opposite (h xs) ∙ here c (signs_product sigma xs) (sigma x) (sigma e) (chi xs) (ap sigma q) (n x))
  | inr ne ↦
      rw (ne_eqb e x ne)
      (ap opposite
      (around_scaled (λ t. chi (x ∷ t)) (λ t. psi (x ∷ t)) sigma (product c (sigma x)) xs e n
      (λ t. h (x ∷ t) ∙ there c (sigma x) (signs_product sigma t) (chi (x ∷ t))))
      ∙ last c (sigma x) (signs_product sigma xs) (sigma e) (around (λ t. chi (x ∷ t)) xs e))
]
  where
    here : (c p a b v : Sign) → b ≡ a → IsNonzero a → opposite (product (product c p) v)
        ≡ product (product c (product a p)) (product b (opposite v))
    here c p a b v e n = grind arith

    there : (c a p v : Sign) → product (product c (product a p)) v ≡ product (product (product c a) p) v
    there c a p v = grind arith

    last : (c a p b v : Sign) → opposite (product (product (product c a) p) (product b v))
        ≡ product (product c (product a p)) (product b (opposite v))
    last c a p b v = simp products

pub around_reoriented : (set : ℕ → Bool) (chi : List ℕ → Sign) (xs : List ℕ) (e : ℕ)
    → around (reoriented set chi) xs e ≡ product (signs_product (turning set) xs) (turned set (around chi xs) e)
around_reoriented set chi xs e =
    around_scaled chi (reoriented set chi) (turning set) Plus xs e (turning_nonzero set) (λ t. refl)

pub turned_up_to_sign : (set : ℕ → Bool) (X Y Z : SignVector) (c : Sign) → IsNonzero c
    → ((e : ℕ) → Z e ≡ product c (turned set Y e)) → AreEqualUpToSign X Y → AreEqualUpToSign (turned set X) Z
turned_up_to_sign set X Y Z c n h same = go same (plus_or_minus c n)
  where
    go : AreEqualUpToSign X Y → (c ≡ Plus) ⊎ (c ≡ Minus) → AreEqualUpToSign (turned set X) Z
    go (inl q) (inl p) =
        inl (λ e. ap (product (turning set e)) (q e) ∙ sym (h e ∙ ap (λ k. product k (turned set Y e)) p))
    go (inl q) (inr p) =
        inr (λ e. ap (product (turning set e)) (q e)
        ∙ opposite_swap (Z e) (turned set Y e) (h e ∙ ap (λ k. product k (turned set Y e)) p))
    go (inr q) (inl p) =
        inr (λ e. ap (product (turning set e)) (q e) ∙ product-opposite_right (turning set e) (Y e)
        ∙ ap opposite (sym (h e ∙ ap (λ k. product k (turned set Y e)) p)))
    go (inr q) (inr p) =
        inl (λ e. ap (product (turning set e)) (q e) ∙ product-opposite_right (turning set e) (Y e)
        ∙ sym (h e ∙ ap (λ k. product k (turned set Y e)) p))

pub turned_nonzero : (set : ℕ → Bool) (X : SignVector) (e : ℕ) → IsNonzero (X e) → IsNonzero (turned set X e)
turned_nonzero set X e n = product_nonzero (turning set e) (X e) (turning_nonzero set e) n

pub turned_twice : (set : ℕ → Bool) (X : SignVector) (e : ℕ) → turned set (turned set X) e ≡ X e
turned_twice set X e = product_twice (turning set e) (X e) (turning_nonzero set e)

pub turned_across : (set : ℕ → Bool) (X V : SignVector) → Orthogonal X (turned set V) → Orthogonal (turned set X) V
turned_across set X V o = orthogonal_from (turned set X) V (λ e s n h.
    let k = opposite_product X (turned set V) o e s n (sym (product_across (turning set e) (X e) (V e)) ∙ h) in
    (k.0, product_across (turning set k.0) (X k.0) (V k.0) ∙ k.1))
