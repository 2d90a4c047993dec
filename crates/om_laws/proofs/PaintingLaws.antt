-- The painting lemma.
--
-- Main results: for a colouring of the elements in red, green, black and white, and a red or green element, a circuit
-- or a cocircuit goes through it with the allowed signs (painting), and not both (not_both).
-- Reference: Björner, Las Vergnas, Sturmfels, White and Ziegler, Oriented Matroids, chapter 3.
use Rattle.std.specs.Prelude.{ℕ, ◌≡◌, ◌≢◌, refl, ◌⊎◌, List, [], ◌∷◌, cond, nat_eq, Bool, true, false}
use Rattle.std.proofs.Common.{inl, inr, sym, ◌∙◌}
use Rattle.std.proofs.lemmas.Bool.{cases_eq, eq-eqb, ne_eqb}
use Rattle.om_signs.specs.declared.sign.Sign.{Sign}
use Rattle.om_signs.specs.declared.sign.Sign.TheVariants.{Minus, Zero, Plus}
use Rattle.om_signs.specs.Sign.{opposite, product}
use Rattle.om_signs.proofs.SignLaws.{opposite_nonzero, opposite_zero, not_zero_and_minus, product_zero_left}
use Rattle.om_laws.specs.Colours.{CircuitMay, CocircuitMay, Colour, IsColoured, SomeCircuit, SomeCocircuit, black}
use Rattle.om_laws.specs.Colours.{green, red, white}
use Rattle.om_laws.specs.Members.{IsMember}
use Rattle.om_laws.specs.Signs.{IsNonzero}
use Rattle.om_laws.specs.Vectors.{SignVector, negated, Orthogonal}
use Rattle.om_laws.proofs.DualPairs.{IsDualPair}

abbrev pub paint : (ℕ → Colour) → ℕ → Colour → ℕ → Colour
paint c f k g = cond (nat_eq g f) k (c g)

-- a sign that a coloured element forbids
may_or_wrong : (k : Colour) (s : Sign) → IsColoured k → CircuitMay k s ⊎ ((CircuitMay k s → ⊥) × IsColoured k)
may_or_wrong red Minus i = inr (λ h. h refl, tt)
may_or_wrong red Zero i = inl (λ e. cc)
may_or_wrong red Plus i = inl (λ e. cc)
may_or_wrong green Minus i = inl (λ e. cc)
may_or_wrong green Zero i = inl (λ e. cc)
may_or_wrong green Plus i = inr (λ h. h refl, tt)
may_or_wrong black s i = absurd i
may_or_wrong white s i = absurd i

co_same_on_coloured : (k : Colour) (s : Sign) → IsColoured k → CircuitMay k s → CocircuitMay k s
co_same_on_coloured red s i h = h
co_same_on_coloured green s i h = h
co_same_on_coloured black s i h = absurd i
co_same_on_coloured white s i h = absurd i

-- the products where both are allowed
never_minus : (k : Colour) (s t : Sign) → CircuitMay k s → CocircuitMay k t → product s t ≢ Minus
never_minus red Minus t h g p = h refl
never_minus red Zero t h g p = cc
never_minus red Plus t h g p = g p
never_minus green Minus Minus h g p = cc
never_minus green Minus Zero h g p = cc
never_minus green Minus Plus h g p = g refl
never_minus green Zero t h g p = cc
never_minus green Plus t h g p = h refl
never_minus black Minus t h g p = cc (g, p)
never_minus black Zero t h g p = cc
never_minus black Plus t h g p = cc (g, p)
never_minus white s t h g p = not_zero_and_minus (product s t) (product_zero_left s t h) p

-- the product where both are wrong
both_wrong : (k : Colour) (s t : Sign) → IsColoured k → (CircuitMay k s → ⊥) → (CircuitMay k t → ⊥)
    → product s t ≢ Minus
both_wrong red Minus Minus i h g p = cc
both_wrong red Minus Zero i h g p = cc
both_wrong red Minus Plus i h g p = g (λ e. cc)
both_wrong red Zero t i h g p = cc
both_wrong red Plus t i h g p = h (λ e. cc)
both_wrong green Minus t i h g p = h (λ e. cc)
both_wrong green Zero t i h g p = cc
both_wrong green Plus Minus i h g p = g (λ e. cc)
both_wrong green Plus Zero i h g p = cc
both_wrong green Plus Plus i h g p = cc
both_wrong black s t i h g p = absurd i
both_wrong white s t i h g p = absurd i

both_right : (k : Colour) (s t : Sign) → IsColoured k → CircuitMay k s → CocircuitMay k t → IsNonzero s → IsNonzero t
    → product s t ≡ Plus
both_right red Minus t i h g a b = absurd (h refl)
both_right red Zero t i h g a b = absurd (a refl)
both_right red Plus Minus i h g a b = absurd (g refl)
both_right red Plus Zero i h g a b = absurd (b refl)
both_right red Plus Plus i h g a b = refl
both_right green Minus Minus i h g a b = refl
both_right green Minus Zero i h g a b = absurd (b refl)
both_right green Minus Plus i h g a b = absurd (g refl)
both_right green Zero t i h g a b = absurd (a refl)
both_right green Plus t i h g a b = absurd (h refl)
both_right black s t i h g a b = absurd i
both_right white s t i h g a b = absurd i

cases_coloured : (k : Colour) → IsColoured k ⊎ (IsColoured k → ⊥)
cases_coloured red = inl tt
cases_coloured green = inl tt
cases_coloured black = inr (λ h. h)
cases_coloured white = inr (λ h. h)

zero_may : (k : Colour) (s : Sign) → IsColoured k → s ≡ Zero → CircuitMay k s
zero_may red s i z = (λ e. cc (z, e))
zero_may green s i z = (λ e. cc (z, e))
zero_may black s i z = absurd i
zero_may white s i z = absurd i

may_other : (c : ℕ → Colour) (f g : ℕ) (k : Colour) (s : Sign) → g ≢ f → CircuitMay (paint c f k g) s
    → CircuitMay (c g) s
may_other c f g k s n h = rw (ne_eqb g f n) at h

co_may_other : (c : ℕ → Colour) (f g : ℕ) (k : Colour) (s : Sign) → g ≢ f → CocircuitMay (paint c f k g) s
    → CocircuitMay (c g) s
co_may_other c f g k s n h = rw (ne_eqb g f n) at h

may_same : (c : ℕ → Colour) (f : ℕ) (k : Colour) (s : Sign) → CircuitMay (paint c f k f) s → CircuitMay k s
may_same c f k s h = rw (eq-eqb f f refl) at h

co_may_same : (c : ℕ → Colour) (f : ℕ) (k : Colour) (s : Sign) → CocircuitMay (paint c f k f) s → CocircuitMay k s
co_may_same c f k s h = rw (eq-eqb f f refl) at h

-- allowed at f and elsewhere
everywhere : (c : ℕ → Colour) (f : ℕ) (x : SignVector) → CircuitMay (c f) (x f)
    → ((g : ℕ) → g ≢ f → CircuitMay (c g) (x g)) → (g : ℕ) → CircuitMay (c g) (x g)
everywhere c f x here others g = elim (cases_eq g f) [ inl q ↦ rw q here | inr n ↦ others g n ]

co_everywhere : (c : ℕ → Colour) (f : ℕ) (x : SignVector) → CocircuitMay (c f) (x f)
    → ((g : ℕ) → g ≢ f → CocircuitMay (c g) (x g)) → (g : ℕ) → CocircuitMay (c g) (x g)
co_everywhere c f x here others g = elim (cases_eq g f) [ inl q ↦ rw q here | inr n ↦ others g n ]

-- a circuit and a cocircuit that are both wrong at f, and right elsewhere, are not orthogonal
clash : (c : ℕ → Colour) (e f : ℕ) (x y : SignVector) → IsColoured (c e) → IsColoured (c f) → e ≢ f → IsNonzero (x e)
    → IsNonzero (y e) → ((g : ℕ) → g ≢ f → CircuitMay (c g) (x g)) → ((g : ℕ) → g ≢ f → CocircuitMay (c g) (y g))
    → (CircuitMay (c f) (x f) → ⊥) → (CircuitMay (c f) (y f) → ⊥) → Orthogonal x y → ⊥
clash c e f x y ie jf ne nx ny hx hy wx wy o =
    let r = o.minus (e, both_right (c e) (x e) (y e) ie (hx e ne) (hy e ne) nx ny) in
    elim (cases_eq r.0 f) [
      | inl q ↦ both_wrong (c f) (x f) (y f) jf wx wy (rw q at r.1)
      | inr n ↦ never_minus (c r.0) (x r.0) (y r.0) (hx r.0 n) (hy r.0 n) r.1
    ]

abbrev pub is_black : Colour → Bool
is_black red = false
is_black green = false
is_black black = true
is_black white = false

coloured_not_black : (k : Colour) → IsColoured k → is_black k ≡ false
coloured_not_black red i = refl
coloured_not_black green i = refl
coloured_not_black black i = absurd i
coloured_not_black white i = absurd i

-- a coloured element allows a sign or its opposite
one_sign_may : (k : Colour) (s : Sign) → IsColoured k → CircuitMay k s ⊎ CircuitMay k (opposite s)
one_sign_may red Minus i = inr (λ e. cc)
one_sign_may red Zero i = inl (λ e. cc)
one_sign_may red Plus i = inl (λ e. cc)
one_sign_may green Minus i = inl (λ e. cc)
one_sign_may green Zero i = inl (λ e. cc)
one_sign_may green Plus i = inr (λ e. cc)
one_sign_may black s i = absurd i
one_sign_may white s i = absurd i

-- black and white, by zeros
circuit_may_rest : (k : Colour) (s : Sign) → (IsColoured k → ⊥) → (is_black k ≡ false → s ≡ Zero) → CircuitMay k s
circuit_may_rest red s n z = absurd (n tt)
circuit_may_rest green s n z = absurd (n tt)
circuit_may_rest black s n z = tt
circuit_may_rest white s n z = z refl

cocircuit_may_rest : (k : Colour) (s : Sign) → (IsColoured k → ⊥) → (is_black k ≡ true → s ≡ Zero) → CocircuitMay k s
cocircuit_may_rest red s n z = absurd (n tt)
cocircuit_may_rest green s n z = absurd (n tt)
cocircuit_may_rest black s n z = z refl
cocircuit_may_rest white s n z = tt

module _ (E : List ℕ) (C D : SignVector → Type 0) (pair : IsDualPair E C D) where
  -- ---- not both

  pub not_both : (c : ℕ → Colour) (e : ℕ) → IsColoured (c e) → SomeCircuit C c e → SomeCocircuit D c e → ⊥
  not_both c e i x y =
      let m = (pair.orthogonal x.0 y.0 x.1 y.1).minus (e, both_right (c e) (x.0 e) (y.0 e) i (x.3 e) (y.3 e) x.2 y.2) in
      never_minus (c m.0) (x.0 m.0) (y.0 m.0) (x.3 m.0) (y.3 m.0) m.1

  -- ---- one coloured element

  turned_circuit : (c : ℕ → Colour) (e : ℕ) → IsColoured (c e) → ((g : ℕ) → g ≢ e → IsColoured (c g) → ⊥)
      → (X : SignVector) → C X → IsNonzero (X e) → ((g : ℕ) → g ≢ e → is_black (c g) ≡ false → X g ≡ Zero)
      → CircuitMay (c e) (X e) ⊎ CircuitMay (c e) (opposite (X e)) → SomeCircuit C c e
  turned_circuit c e i only X x n z (inl ok) =
      (X, x, n, everywhere c e X ok (λ g ne. circuit_may_rest (c g) (X g) (only g ne) (z g ne)))
  turned_circuit c e i only X x n z (inr ok) = (
    negated X,
    pair.negated_circuit X x,
    opposite_nonzero (X e) n,
    everywhere c e (negated X) ok
        (λ g ne. circuit_may_rest (c g) (opposite (X g)) (only g ne) (λ b. opposite_zero (X g) (z g ne b))),
  )

  turned_cocircuit : (c : ℕ → Colour) (e : ℕ) → IsColoured (c e) → ((g : ℕ) → g ≢ e → IsColoured (c g) → ⊥)
      → (Y : SignVector) → D Y → IsNonzero (Y e) → ((g : ℕ) → is_black (c g) ≡ true → Y g ≡ Zero)
      → CircuitMay (c e) (Y e) ⊎ CircuitMay (c e) (opposite (Y e)) → SomeCocircuit D c e
  turned_cocircuit c e i only Y y n z (inl ok) = (
    Y,
    y,
    n,
    co_everywhere c e Y (co_same_on_coloured (c e) (Y e) i ok)
        (λ g ne. cocircuit_may_rest (c g) (Y g) (only g ne) (z g)),
  )
  turned_cocircuit c e i only Y y n z (inr ok) = (
    negated Y,
    pair.negated_cocircuit Y y,
    opposite_nonzero (Y e) n,
    co_everywhere c e (negated Y) (co_same_on_coloured (c e) (opposite (Y e)) i ok)
        (λ g ne. cocircuit_may_rest (c g) (opposite (Y g)) (only g ne) (λ b. opposite_zero (Y g) (z g b))),
  )

  base : (c : ℕ → Colour) (e : ℕ) → IsMember e E → IsColoured (c e) → ((g : ℕ) → g ≢ e → IsColoured (c g) → ⊥)
      → SomeCircuit C c e ⊎ SomeCocircuit D c e
  base c e m i only = elim (pair.two_colours e m (λ g. is_black (c g)) (coloured_not_black (c e) i)) [
    | inl (X, x, n, z) ↦ inl (turned_circuit c e i only X x n z (one_sign_may (c e) (X e) i))
    | inr (Y, y, n, z) ↦ inr (turned_cocircuit c e i only Y y n z (one_sign_may (c e) (Y e) i))
  ]

  -- ---- all coloured elements, one after another

  step : (c : ℕ → Colour) (e f : ℕ) → IsColoured (c e) → IsColoured (c f) → e ≢ f → SomeCircuit C (paint c f black) e
      ⊎ SomeCocircuit D (paint c f black) e → SomeCircuit C (paint c f white) e ⊎ SomeCocircuit D (paint c f white) e
      → SomeCircuit C c e ⊎ SomeCocircuit D c e
  step c e f ie jf ne (inr (y, dy, ny, ay)) second =
      inr (
        y,
        dy,
        ny,
        co_everywhere c f y
            (co_same_on_coloured (c f) (y f) jf (zero_may (c f) (y f) jf (co_may_same c f black (y f) (ay f))))
            (λ g n. co_may_other c f g black (y g) n (ay g)),
      )
  step c e f ie jf ne (inl first) (inl (x, cx, nx, ax)) =
      inl (
        x,
        cx,
        nx,
        everywhere c f x (zero_may (c f) (x f) jf (may_same c f white (x f) (ax f)))
            (λ g n. may_other c f g white (x g) n (ax g)),
      )
  step c e f ie jf ne (inl (x, cx, nx, ax)) (inr (y, dy, ny, ay)) =
      let hx : (g : ℕ) → g ≢ f → CircuitMay (c g) (x g) = λ g n. may_other c f g black (x g) n (ax g) in
      let hy : (g : ℕ) → g ≢ f → CocircuitMay (c g) (y g) = λ g n. co_may_other c f g white (y g) n (ay g) in
      elim (may_or_wrong (c f) (x f) jf) [
        | inl r ↦ inl (x, cx, nx, everywhere c f x r hx)
        | inr wx ↦ elim (may_or_wrong (c f) (y f) jf) [
          | inl r ↦ inr (y, dy, ny, co_everywhere c f y (co_same_on_coloured (c f) (y f) jf r) hy)
          | inr wy ↦ absurd (clash c e f x y ie jf ne nx ny hx hy wx.0 wy.0 (pair.orthogonal x y cx dy))
        ]
      ]

  fewer : (c : ℕ → Colour) (e f : ℕ) (k : Colour) (fs : List ℕ) → (IsColoured k → ⊥)
      → ((g : ℕ) → g ≢ e → IsColoured (c g) → IsMember g (f ∷ fs)) → (g : ℕ) → g ≢ e → IsColoured (paint c f k g)
      → IsMember g fs
  fewer c e f k fs nk among g n i = elim (cases_eq g f) [
    | inl q ↦ absurd (nk (rw (eq-eqb g f q) at i))
    | inr m ↦ later m (among g n (rw (ne_eqb g f m) at i))
  ]
    where
      later : g ≢ f → IsMember g (f ∷ fs) → IsMember g fs
      later m (inl q) = absurd (m q)
      later m (inr q) = q

  painting_by : (fs : List ℕ) (c : ℕ → Colour) (e : ℕ) → IsMember e E → IsColoured (c e)
      → ((f : ℕ) → f ≢ e → IsColoured (c f) → IsMember f fs) → SomeCircuit C c e ⊎ SomeCocircuit D c e
  painting_by [] c e em ie among = base c e em ie (λ f n i. among f n i)
  painting_by (f ∷ fs) c e em ie among = elim (cases_eq e f) [
    | inl q ↦ painting_by fs c e em ie (λ g n i. skip_equal q g n (among g n i))
    | inr ne ↦ elim (cases_coloured (c f)) [
      | inl jf ↦ step c e f ie jf ne
          (painting_by fs (paint c f black) e em (rw (ne_eqb e f ne) ie) (fewer c e f black fs (λ h. h) among))
          (painting_by fs (paint c f white) e em (rw (ne_eqb e f ne) ie) (fewer c e f white fs (λ h. h) among))
      | inr nf ↦ painting_by fs c e em ie (λ g n i. skip_plain nf g i (among g n i))
    ]
  ]
    where
      skip_equal : e ≡ f → (g : ℕ) → g ≢ e → IsMember g (f ∷ fs) → IsMember g fs
      skip_equal q g n (inl r) = absurd (n (r ∙ sym q))
      skip_equal q g n (inr r) = r

      skip_plain : (IsColoured (c f) → ⊥) → (g : ℕ) → IsColoured (c g) → IsMember g (f ∷ fs) → IsMember g fs
      skip_plain nf g i (inl r) = absurd (nf (rw r at i))
      skip_plain nf g i (inr r) = r

  pub painting : (c : ℕ → Colour) (e : ℕ) → IsMember e E → IsColoured (c e)
      → ((f : ℕ) → IsColoured (c f) → IsMember f E) → SomeCircuit C c e ⊎ SomeCocircuit D c e
  painting c e m i within = painting_by E c e m i (λ f n j. within f j)
