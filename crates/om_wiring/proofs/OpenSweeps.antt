-- Blocks that are open one after another make a wiring diagram of the map.
--
-- Main definitions: IsSweep, IsOpenSweep
-- Main results: sweep_sign, same_open, open_steps, sweep_is_open, sweep_is_wiring
-- Reference: Björner, Las Vergnas, Sturmfels, White and Ziegler, Oriented Matroids, chapter 6.
use Rattle.std.specs.Prelude.{ℕ, ◌≡◌, ◌≢◌, ◌+◌, ◌<◌, List, [], ◌∷◌, ◌++◌}
use Rattle.std.proofs.Common.{refl, sym, ap, ◌∙◌, subst, inl, inr, arith, append_assoc}
use Rattle.std.proofs.lemmas.Bool.{cases_eq, cases_lt}
use Rattle.om_signs.specs.declared.block.Block.{Block}
use Rattle.om_signs.specs.Sign.{opposite}
use Rattle.om_laws.specs.Sorting.{IsElement}
use Rattle.om_laws.specs.Tuples.{order_sign}
use Rattle.om_laws.proofs.OrderSigns.{order_sign_less, order_sign_equal, order_sign_greater}
use Rattle.om_chirotope.specs.Map.{SignMap}
use Rattle.om_wiring.specs.Wirings.{Holds, mirror, position, crossed, IsWiring, IsReversed}
use Rattle.om_wiring.specs.Maps.{crossing_sign}
use Rattle.om_wiring.specs.Sweeps.{AreUncrossed, crossing_order, IsOpen, IsFirstOpen}
use Rattle.om_wiring.proofs.Reversals.{mirror_kept, position_last}
use Rattle.om_wiring.proofs.CrossingSteps.{crossing, crossed_low, EndsReversed, same_step, not_in_order}
use Rattle.om_wiring.proofs.CrossingOrders.{order_alternates}
use Rattle.om_wiring.proofs.SweepStates.{AreOpenSteps}

-- at each step the least open block is reversed
abbrev pub IsSweep : SignMap → List Block → Type 0
IsSweep m blocks = (done : List Block) (b : Block) (rest : List Block) → blocks ≡ done ++ b ∷ rest
    → IsFirstOpen m (position done) b

-- ---- open blocks make a diagram of the map

same_after : (u v k l : ℕ) → k ≡ 1 + u → l ≡ 1 + v → order_sign k l ≡ order_sign u v
same_after u v k l e f = elim (cases_lt u v) [
  | inl a ↦ order_sign_less k l (omega (arith, e, f, a)) ∙ sym (order_sign_less u v a)
  | inr g ↦ elim (cases_eq u v) [
    | inl q ↦ order_sign_equal k l (omega (arith, e, f, q)) ∙ sym (order_sign_equal u v q)
    | inr ne ↦ let a : v < u = grind (arith, g, ne) in order_sign_greater k l (omega (arith, e, f, a))
        ∙ sym (order_sign_greater u v a)
  ]
]

module _ (m : SignMap) where
  -- three wires in order, and blocks that are open from here on: the crossings come in the order of the map
  map_of_open : (pos : ℕ → ℕ) (bs : List Block) → AreOpenSteps m pos bs → EndsReversed m.elements pos bs → (a b c : ℕ)
      → IsElement m.elements a → IsElement m.elements b → IsElement m.elements c → a < b → b < c → pos a < pos b
      → pos b < pos c
      → order_sign (crossed bs (pos a) (pos b)) (crossed bs (pos b) (pos c)) ≡ crossing_order m b a c
  map_of_open pos [] s r a b c ia ib ic ab bc pab pbc = absurd (not_in_order m.elements pos a b r ia ib ab pab)
  map_of_open pos (d ∷ bs) s r a b c ia ib ic ab bc pab pbc =
      let ne_ba : b ≢ a = λ e. omega (arith, e, ab) in
      let ne_bc : b ≢ c = λ e. omega (arith, e, bc) in
      let ne_ac : a ≢ c = λ e. omega (arith, e, ab, bc) in elim (crossing d bs (pos a) (pos b)) [
        | inl (h, e) ↦ elim (crossing d bs (pos b) (pos c)) [
          | inl (k, f) ↦ order_sign_equal (crossed (d ∷ bs) (pos a) (pos b)) (crossed (d ∷ bs) (pos b) (pos c))
              (e ∙ sym f)
              ∙ sym (s.0.at_once b a c ib ia ic ne_ba ne_bc ne_ac h.1 h.0 k.1)
          | inr (out, f) ↦
              let l = crossed_low bs (mirror d (pos b)) (mirror d (pos c)) in
              order_sign_less (crossed (d ∷ bs) (pos a) (pos b)) (crossed (d ∷ bs) (pos b) (pos c))
              (omega (arith, e, f, l))
              ∙ sym (s.0.before b a c ib ia ic ne_ba h.1 h.0 (λ i. out h.1 i) (inl (bc, pbc)))
        ]
        | inr (out, e) ↦ elim (crossing d bs (pos b) (pos c)) [
          | inl (k, f) ↦
              let l = crossed_low bs (mirror d (pos a)) (mirror d (pos b)) in
              order_sign_greater (crossed (d ∷ bs) (pos a) (pos b)) (crossed (d ∷ bs) (pos b) (pos c))
              (omega (arith, e, f, l))
              ∙ sym (order_alternates m b c a
              ∙ ap opposite (s.0.before b c a ib ic ia ne_bc k.0 k.1 (λ i. out i k.0) (inr (ab, pab))))
          | inr (off, f) ↦
              same_after (crossed bs (mirror d (pos a)) (mirror d (pos b)))
              (crossed bs (mirror d (pos b)) (mirror d (pos c))) (crossed (d ∷ bs) (pos a) (pos b))
              (crossed (d ∷ bs) (pos b) (pos c)) e f
              ∙ map_of_open (λ x. mirror d (pos x)) bs s.1 r a b c ia ib ic ab bc
              (mirror_kept d (pos a) (pos b) pab out) (mirror_kept d (pos b) (pos c) pbc off)
        ]
      ]

  pub sweep_sign : (bs : List Block) → AreOpenSteps m (λ x. x) bs → IsReversed m.elements (position bs) → (a b c : ℕ)
      → IsElement m.elements a → IsElement m.elements b → IsElement m.elements c → a < b → b < c
      → crossing_sign bs (a ∷ b ∷ c ∷ []) ≡ crossing_order m b a c
  sweep_sign bs s r a b c ia ib ic ab bc = map_of_open (λ x. x) bs s r a b c ia ib ic ab bc ab bc

  -- each block is open at its moment
  abbrev pub IsOpenSweep : List Block → Type 0
  IsOpenSweep blocks = (done : List Block) (b : Block) (rest : List Block) → blocks ≡ done ++ b ∷ rest
      → IsOpen m (position done) b

  pub same_open : (pos other : ℕ → ℕ) (b : Block) → ((x : ℕ) → IsElement m.elements x → pos x ≡ other x)
      → IsOpen m pos b → IsOpen m other b
  same_open pos other b e o = record {
    step = same_step m.elements pos other b e o.step;
    at_once = λ x y z ix iy iz xy xz yz h k l. o.at_once x y z ix iy iz xy xz yz (back x ix h) (back y iy k)
        (back z iz l);
    before = λ x y z ix iy iz xy h k out u. o.before x y z ix iy iz xy (back x ix h) (back y iy k)
        (λ i. out (subst (Holds b) (e z iz) i)) (uncrossed x z ix iz u);
  }
    where
      back : (x : ℕ) → IsElement m.elements x → Holds b (other x) → Holds b (pos x)
      back x ix h = subst (Holds b) (sym (e x ix)) h

      uncrossed : (x z : ℕ) → IsElement m.elements x → IsElement m.elements z → AreUncrossed other x z
          → AreUncrossed pos x z
      uncrossed x z ix iz (inl u) = let h = u.1 in let f = e x ix in let g = e z iz in inl (u.0, omega (arith, h, f, g))
      uncrossed x z ix iz (inr u) = let h = u.1 in let f = e x ix in let g = e z iz in inr (u.0, omega (arith, h, f, g))

  pub same_open_steps : (pos other : ℕ → ℕ) (bs : List Block) → ((x : ℕ) → IsElement m.elements x → pos x ≡ other x)
      → AreOpenSteps m pos bs → AreOpenSteps m other bs
  same_open_steps pos other [] e s = tt
  same_open_steps pos other (b ∷ bs) e s = (
    same_open pos other b e s.0,
    same_open_steps (λ x. mirror b (pos x)) (λ x. mirror b (other x)) bs (λ x i. ap (mirror b) (e x i)) s.1,
  )

  open_steps_of : (blocks : List Block) → IsOpenSweep blocks → (done rest : List Block) → blocks ≡ done ++ rest
      → AreOpenSteps m (position done) rest
  open_steps_of blocks s done [] e = tt
  open_steps_of blocks s done (b ∷ rest) e = (
    s done b rest e,
    same_open_steps (position (done ++ b ∷ [])) (λ x. mirror b (position done x)) rest (λ x _. position_last done b x)
        (open_steps_of blocks s (done ++ b ∷ []) rest (e ∙ sym (append_assoc done (b ∷ []) rest))),
  )

  pub open_steps : (blocks : List Block) → IsOpenSweep blocks → AreOpenSteps m (λ x. x) blocks
  open_steps blocks s = open_steps_of blocks s [] blocks refl

  pub sweep_is_open : (blocks : List Block) → IsSweep m blocks → IsOpenSweep blocks
  sweep_is_open blocks s done b rest e = (s done b rest e).is_open

  pub sweep_is_wiring : (blocks : List Block) → IsSweep m blocks → IsReversed m.elements (position blocks)
      → IsWiring m.elements blocks
  sweep_is_wiring blocks s r = record { steps = λ done b rest e. (s done b rest e).is_open.step; reversed = r }
