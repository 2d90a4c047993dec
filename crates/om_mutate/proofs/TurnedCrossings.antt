-- The numbers of crossings where three steps come in the other order.
--
-- Main results: turned_by, lower_to_upper, upper_to_lower
-- Reference: Björner, Las Vergnas, Sturmfels, White and Ziegler, Oriented Matroids, chapter 6.
use Rattle.std.specs.Prelude.{ℕ, ◌≡◌, ◌≢◌, ◌⊎◌, ◌+◌, ◌<◌, ◌≤◌, List, [], ◌∷◌, ◌++◌, length}
use Rattle.std.proofs.Common.{refl, sym, ap, ◌∙◌, subst, inl, inr, arith, ⊎_elim}
use Rattle.std.proofs.lemmas.Bool.{cases_eq, cases_lt}
use Rattle.om_signs.specs.declared.block.Block.{Block}
use Rattle.om_signs.specs.Sign.{opposite}
use Rattle.om_laws.specs.Tuples.{order_sign}
use Rattle.om_laws.proofs.OrderSigns.{order_sign_less, order_sign_equal, order_sign_greater}
use Rattle.om_wiring.specs.Wirings.{Holds, mirror, position, crossed}
use Rattle.om_wiring.proofs.Reversals.{mirror_kept, mirror_turned}
use Rattle.om_wiring.proofs.CrossingSteps.{crossing, crossed_now, crossed_later, crossed_low, crossed_symmetric}
use Rattle.om_wiring.proofs.CrossingSteps.{AreSteps}
use Rattle.om_wiring.proofs.SweepStates.{IsOrder, next_order}
use Rattle.om_mutate.specs.Flips.{lower_first, upper_first}
use Rattle.om_mutate.proofs.ThreeWires as three
use Rattle.om_mutate.proofs.ThreeCrossings as three_crossings
use Rattle.om_mutate.proofs.ThreeWires.{among_three, three_at}

-- ---- the order after some steps

pub order_of_steps : (n : ℕ) (pos : ℕ → ℕ) (u : List Block) → AreSteps n pos u → IsOrder n pos
    → IsOrder n (λ x. position u (pos x))
order_of_steps n pos [] s o = o
order_of_steps n pos (b ∷ u) s o = order_of_steps n (λ x. mirror b (pos x)) u s.1 (next_order n pos b o s.0)

-- ---- the numbers of crossings

-- a crossing is among the first steps, or it comes after them
abbrev Prefix : List Block → List Block → List Block → ℕ → ℕ → Type 0
Prefix done X Y k j = ((crossed (done ++ X) k j ≡ crossed (done ++ Y) k j) × (crossed (done ++ X) k j ≤ length done))
    ⊎ ((crossed (done ++ X) k j ≡ length done + crossed X (position done k) (position done j))
    × (crossed (done ++ Y) k j ≡ length done + crossed Y (position done k) (position done j)))

pub crossed_prefix : (done X Y : List Block) (k j : ℕ) → Prefix done X Y k j
crossed_prefix [] X Y k j = inr (omega arith, omega arith)
crossed_prefix (b ∷ done) X Y k j =
    let size : length (b ∷ done) ≡ length done + 1 = omega arith in elim (crossing b (done ++ X) k j) [
      | inl (h, e) ↦ let f = crossed_now b (done ++ Y) k j h.0 h.1 in inl (e ∙ sym f, omega (arith, e, size))
      | inr (out, e) ↦
          let f = crossed_later b (done ++ Y) k j out in
          ⊎_elim
          (λ r. let a = r.0 in let c = r.1 in inl (omega (arith, e, f, a), omega (arith, e, c, size)))
          (λ r. let a = r.0 in let c = r.1 in inr (omega (arith, e, a, size), omega (arith, f, c, size)))
          (crossed_prefix done X Y (mirror b k) (mirror b j))
    ]

-- two positions of the three
abbrev pub Within : ℕ → ℕ → Type 0
Within p k = (p ≤ k) × (k ≤ p + 2)

-- the crossings of the three positions come in the other order, and the others at the same steps
abbrev pub IsTurned : ℕ → List Block → List Block → Type 0
IsTurned p X Y = (k j : ℕ) → k ≢ j → (crossed Y k j ≡ mirror (three_at 1) (crossed X k j))
    × (Holds (three_at 1) (crossed X k j) → Within p k × Within p j)

first_turned : mirror (three_at 1) 1 ≡ 3
first_turned = three.three_0 1

second_turned : mirror (three_at 1) 2 ≡ 2
second_turned = three.three_1 1

third_turned : mirror (three_at 1) 3 ≡ 1
third_turned = three.three_2 1

late_turned : (t : ℕ) → 4 ≤ t → mirror (three_at 1) t ≡ t
late_turned t l = three.three_other 1 t (inr (omega (arith, l)))

within_0 : (p k : ℕ) → k ≡ p → Within p k
within_0 p k e = (omega (arith, e), omega (arith, e))

within_1 : (p k : ℕ) → k ≡ p + 1 → Within p k
within_1 p k e = (omega (arith, e), omega (arith, e))

within_2 : (p k : ℕ) → k ≡ p + 2 → Within p k
within_2 p k e = (omega (arith, e), omega (arith, e))

-- by the numbers of the crossings of the three positions
module _ (p : ℕ) (X Y : List Block) (x01 x02 x12 : ℕ)
    (e01 : crossed X p (p + 1) ≡ x01) (e02 : crossed X p (p + 2) ≡ x02) (e12 : crossed X (p + 1) (p + 2) ≡ x12)
    (f01 : crossed Y p (p + 1) ≡ mirror (three_at 1) x01) (f02 : crossed Y p (p + 2) ≡ mirror (three_at 1) x02)
    (f12 : crossed Y (p + 1) (p + 2) ≡ mirror (three_at 1) x12)
    (rest : List Block)
    (offX : (k j : ℕ) → (k < p) ⊎ (p + 2 < k)
    → crossed X k j ≡ 3 + crossed rest (mirror (three_at p) k) (mirror (three_at p) j))
    (offY : (k j : ℕ) → (k < p) ⊎ (p + 2 < k)
    → crossed Y k j ≡ 3 + crossed rest (mirror (three_at p) k) (mirror (three_at p) j))
  where
    abbrev Claim : ℕ → ℕ → Type 0
    Claim k j = (crossed Y k j ≡ mirror (three_at 1) (crossed X k j))
        × (Holds (three_at 1) (crossed X k j) → Within p k × Within p j)

    flip : (k j : ℕ) → Claim k j → Claim j k
    flip k j c = (
      crossed_symmetric Y j k ∙ c.0 ∙ ap (mirror (three_at 1)) (crossed_symmetric X k j),
      λ h. let w = c.1 (subst (Holds (three_at 1)) (crossed_symmetric X j k) h) in (w.1, w.0),
    )

    off : (k j : ℕ) → (k < p) ⊎ (p + 2 < k) → Claim k j
    off k j o =
        let e = offX k j o in
        let f = offY k j o in
        let l = crossed_low rest (mirror (three_at p) k) (mirror (three_at p) j) in (
          f ∙ sym e ∙ sym (late_turned (crossed X k j) (omega (arith, e, l))),
          λ h. let g = h.1 in absurd (omega (arith, e, l, g)),
        )

    at_01 : (k j : ℕ) → k ≡ p → j ≡ p + 1 → Claim k j
    at_01 k j a b =
        subst (λ z. Claim z j) (sym a)
        (subst (λ z. Claim p z) (sym b) (
          f01 ∙ ap (mirror (three_at 1)) (sym e01),
          λ _. (within_0 p p refl, within_1 p (p + 1) refl),
        ))

    at_02 : (k j : ℕ) → k ≡ p → j ≡ p + 2 → Claim k j
    at_02 k j a b =
        subst (λ z. Claim z j) (sym a)
        (subst (λ z. Claim p z) (sym b) (
          f02 ∙ ap (mirror (three_at 1)) (sym e02),
          λ _. (within_0 p p refl, within_2 p (p + 2) refl),
        ))

    at_12 : (k j : ℕ) → k ≡ p + 1 → j ≡ p + 2 → Claim k j
    at_12 k j a b =
        subst (λ z. Claim z j) (sym a)
        (subst (λ z. Claim (p + 1) z) (sym b)
        (f12 ∙ ap (mirror (three_at 1)) (sym e12), λ _. (within_1 p (p + 1) refl, within_2 p (p + 2) refl)))

    pub turned_by : (k j : ℕ) → k ≢ j → Claim k j
    turned_by k j ne = elim (among_three p k) [
      | inr (inr (inr o)) ↦ off k j o
      | inl a ↦ elim (among_three p j) [
        | inl b ↦ absurd (ne (a ∙ sym b))
        | inr (inl b) ↦ at_01 k j a b
        | inr (inr (inl b)) ↦ at_02 k j a b
        | inr (inr (inr o)) ↦ flip j k (off j k o)
      ]
      | inr (inl a) ↦ elim (among_three p j) [
        | inl b ↦ flip j k (at_01 j k b a)
        | inr (inl b) ↦ absurd (ne (a ∙ sym b))
        | inr (inr (inl b)) ↦ at_12 k j a b
        | inr (inr (inr o)) ↦ flip j k (off j k o)
      ]
      | inr (inr (inl a)) ↦ elim (among_three p j) [
        | inl b ↦ flip j k (at_02 j k b a)
        | inr (inl b) ↦ flip j k (at_12 j k b a)
        | inr (inr (inl b)) ↦ absurd (ne (a ∙ sym b))
        | inr (inr (inr o)) ↦ flip j k (off j k o)
      ]
    ]

pub lower_to_upper : (p : ℕ) (rest : List Block) → IsTurned p (lower_first p ++ rest) (upper_first p ++ rest)
lower_to_upper p rest =
    turned_by p (lower_first p ++ rest) (upper_first p ++ rest) 1 2 3 (three_crossings.lower_01 p rest)
    (three_crossings.lower_02 p rest)
    (three_crossings.lower_12 p rest)
    (three_crossings.upper_01 p rest ∙ sym first_turned) (three_crossings.upper_02 p rest ∙ sym second_turned)
    (three_crossings.upper_12 p rest ∙ sym third_turned) rest (three_crossings.lower_off p rest)
    (three_crossings.upper_off p rest)

pub upper_to_lower : (p : ℕ) (rest : List Block) → IsTurned p (upper_first p ++ rest) (lower_first p ++ rest)
upper_to_lower p rest =
    turned_by p (upper_first p ++ rest) (lower_first p ++ rest) 3 2 1 (three_crossings.upper_01 p rest)
    (three_crossings.upper_02 p rest)
    (three_crossings.upper_12 p rest)
    (three_crossings.lower_01 p rest ∙ sym third_turned) (three_crossings.lower_02 p rest ∙ sym second_turned)
    (three_crossings.lower_12 p rest ∙ sym first_turned) rest (three_crossings.upper_off p rest)
    (three_crossings.lower_off p rest)

-- ---- a diagram with a triangle

pub holds_shift : (d t : ℕ) → Holds (three_at (d + 1)) (d + t) → Holds (three_at 1) t
holds_shift d t h = let a = h.0 in let b = h.1 in (omega (arith, a), omega (arith, b))

pub shifted : (d t : ℕ) → 1 ≤ t → mirror (three_at (d + 1)) (d + t) ≡ d + mirror (three_at 1) t
shifted d t l = elim (among_three 1 t) [
  | inl e ↦
      let a = three.three_0 (d + 1) in
      let b = first_turned in
      let q : d + t ≡ d + 1 = omega (arith, e) in
      ap (mirror (three_at (d + 1))) q ∙ a ∙ omega (arith) ∙ ap (λ k. d + k) (sym (ap (mirror (three_at 1)) e ∙ b))
  | inr (inl e) ↦
      let a = three.three_1 (d + 1) in
      let b = second_turned in
      let q : d + t ≡ d + 1 + 1 = omega (arith, e) in
      ap (mirror (three_at (d + 1))) q ∙ a ∙ omega (arith) ∙ ap (λ k. d + k) (sym (ap (mirror (three_at 1)) e ∙ b))
  | inr (inr (inl e)) ↦
      let a = three.three_2 (d + 1) in
      let b = third_turned in
      let q : d + t ≡ d + 1 + 2 = omega (arith, e) in
      ap (mirror (three_at (d + 1))) q ∙ a ∙ ap (λ k. d + k) (sym (ap (mirror (three_at 1)) e ∙ b))
  | inr (inr (inr (inl k))) ↦ absurd (omega (arith, k, l))
  | inr (inr (inr (inr k))) ↦
      let a = three.three_other (d + 1) (d + t) (inr (omega (arith, k))) in
      let b = late_turned t (omega (arith, k)) in
      a ∙ ap (λ j. d + j) (sym b)
]

pub order_turned_by : (b : Block) (u v : ℕ) → Holds b u → Holds b v
    → order_sign (mirror b u) (mirror b v) ≡ opposite (order_sign u v)
order_turned_by b u v h k = elim (cases_lt u v) [
  | inl l ↦ order_sign_greater (mirror b u) (mirror b v) (mirror_turned b u v l h k)
      ∙ sym (ap opposite (order_sign_less u v l))
  | inr g ↦ elim (cases_eq u v) [
    | inl e ↦ order_sign_equal (mirror b u) (mirror b v) (ap (mirror b) e) ∙ sym (ap opposite (order_sign_equal u v e))
    | inr ne ↦ let l : v < u = grind (arith, g, ne) in
        order_sign_less (mirror b u) (mirror b v) (mirror_turned b v u l k h)
        ∙ sym (ap opposite (order_sign_greater u v l))
  ]
]

pub order_kept_by : (b : Block) (u v : ℕ) → (Holds b u → Holds b v → ⊥)
    → order_sign (mirror b u) (mirror b v) ≡ order_sign u v
order_kept_by b u v out = elim (cases_lt u v) [
  | inl l ↦ order_sign_less (mirror b u) (mirror b v) (mirror_kept b u v l out) ∙ sym (order_sign_less u v l)
  | inr g ↦ elim (cases_eq u v) [
    | inl e ↦ order_sign_equal (mirror b u) (mirror b v) (ap (mirror b) e) ∙ sym (order_sign_equal u v e)
    | inr ne ↦ let l : v < u = grind (arith, g, ne) in
        order_sign_greater (mirror b u) (mirror b v) (mirror_kept b v u l (λ h k. out k h))
        ∙ sym (order_sign_greater u v l)
  ]
]
