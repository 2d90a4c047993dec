-- A wiring diagram with three steps in the other order: its map differs at one triple, that of the wires at the three
-- positions, by its sign.
--
-- Main results: other_wiring, the_order, is_triple, turned_triple
-- Reference: Björner, Las Vergnas, Sturmfels, White and Ziegler, Oriented Matroids, chapter 6.
use Rattle.std.specs.Prelude.{ℕ, ◌≡◌, ◌≢◌, ◌⊎◌, ◌+◌, ◌<◌, ◌≤◌, List, [], ◌∷◌, ◌++◌, length}
use Rattle.std.proofs.Common.{refl, sym, ap, ◌∙◌, subst, inl, inr, arith, ⊎_elim}
use Rattle.std.proofs.lemmas.Bool.{cases_eq, cases_lt}
use Rattle.std.proofs.lemmas.List.{get_or-set_other}
use Rattle.om_signs.specs.declared.sign.Sign.TheVariants.{Zero}
use Rattle.om_signs.specs.declared.block.Block.{Block}
use Rattle.om_signs.specs.Sign.{opposite}
use Rattle.om_subsets.specs.Subsets.{rank_of, IsTriple}
use Rattle.om_subsets.proofs.Order.{same_place}
use Rattle.om_laws.specs.Sorting.{IsElement}
use Rattle.om_laws.specs.Tuples.{order_sign}
use Rattle.om_laws.proofs.OrderSigns.{equal_from_order_sign}
use Rattle.om_subsets.proofs.Triples.{IsRising as IsRisingTriple, rising_within, triple_from}
use Rattle.om_chirotope.specs.Map.{SignMap, IsMap, chi_of}
use Rattle.om_wiring.specs.Wirings.{Holds, mirror, position, wire_at, crossed, IsWiring}
use Rattle.om_wiring.specs.Maps.{crossing_sign, wiring_map}
use Rattle.om_wiring.proofs.Reversals.{position_append, position-wire_at, holds_or_not}
use Rattle.om_wiring.proofs.CrossingSteps.{crossed_low, AreSteps, steps_of, steps_split, steps_join, wiring_from_steps}
use Rattle.om_wiring.proofs.ListedMaps.{listed_sign, listed_whole}
use Rattle.om_wiring.proofs.SweepLaws.{crossed_after}
use Rattle.om_wiring.proofs.SweepStates.{IsOrder, first_order}
use Rattle.om_wiring.proofs.SweepEnds.{same_map}
use Rattle.om_mutate.specs.Flips.{wires_at, HasTurnedTriple}
use Rattle.om_mutate.specs.Mutations.{flipped}
use Rattle.om_mutate.proofs.FlipLaws.{flipped_whole, flipped_sign}
use Rattle.om_mutate.proofs.ThreeWires as three
use Rattle.om_mutate.proofs.ThreeWires.{three_at, IsRising}
use Rattle.om_mutate.proofs.TurnedCrossings.{order_of_steps, crossed_prefix, Within, IsTurned, holds_shift, shifted}
use Rattle.om_mutate.proofs.TurnedCrossings.{order_turned_by, order_kept_by}

module _ (n : ℕ) (done X Y rest : List Block) (p : ℕ) (w : IsWiring n (done ++ X))
    (rising : IsRising p n (position done))
    (rest_steps : AreSteps n (λ x. mirror (three_at p) (position done x)) rest)
    (to_Y : AreSteps n (λ x. mirror (three_at p) (position done x)) rest → AreSteps n (position done) Y)
    (end_X : (k : ℕ) → position X k ≡ position rest (mirror (three_at p) k))
    (end_Y : (k : ℕ) → position Y k ≡ position rest (mirror (three_at p) k))
    (turned : IsTurned p X Y)
  where
    old_steps : AreSteps n (λ x. x) (done ++ X)
    old_steps = steps_of n (done ++ X) w [] (done ++ X) refl

    done_steps : AreSteps n (λ x. x) done
    done_steps = (steps_split n (λ x. x) done X old_steps).0

    same_end : (x : ℕ) → position (done ++ Y) x ≡ position (done ++ X) x
    same_end x = position_append done Y x ∙ end_Y (position done x)
        ∙ sym (position_append done X x ∙ end_X (position done x))

    pub other_wiring : IsWiring n (done ++ Y)
    other_wiring = wiring_from_steps n (done ++ Y) (steps_join n (λ x. x) done Y done_steps (to_Y rest_steps))
        (λ x i. ap (λ k. k + x) (same_end x) ∙ w.reversed x i)

    pub the_order : IsOrder n (position done)
    the_order = order_of_steps n (λ x. x) done done_steps (first_order n)

    abbrev turns : Block
    turns = three_at (length done + 1)

    -- the steps of the crossings, before and after
    abbrev Moved : ℕ → ℕ → Type 0
    Moved x y = (crossed (done ++ Y) x y ≡ mirror turns (crossed (done ++ X) x y))
        × (Holds turns (crossed (done ++ X) x y) → Within p (position done x) × Within p (position done y))

    moved : (x y : ℕ) → x ≢ y → Moved x y
    moved x y ne =
        let d = length done in
        ⊎_elim
        (λ r.
        let a = r.1 in (
          sym r.0 ∙ sym (three.three_other (length done + 1) (crossed (done ++ X) x y) (inl (omega (arith, a)))),
          λ h. let l = h.0 in absurd (omega (arith, a, l)),
        ))
        (λ r.
        let t = turned (position done x) (position done y) (λ e. ne (the_order.apart x y e)) in
        let u = crossed X (position done x) (position done y) in
        let low = crossed_low X (position done x) (position done y) in (
          r.1 ∙ ap (λ k. length done + k) t.0 ∙ sym (shifted (length done) u low) ∙ ap (mirror turns) (sym r.0),
          λ h. t.1 (holds_shift (length done) u (subst (Holds turns) r.0 h)),
        ))
        (crossed_prefix done X Y x y)

    -- the wires at the three positions
    low_p : 1 ≤ p
    low_p = rising.low_end

    high_p : p + 2 ≤ n
    high_p = rising.high_end

    element_0 : IsElement n (the_order.wire p)
    element_0 = let a = low_p in let b = high_p in the_order.wire_within p (a, omega (arith, b))

    element_1 : IsElement n (the_order.wire (p + 1))
    element_1 = let b = high_p in the_order.wire_within (p + 1) (omega arith, omega (arith, b))

    element_2 : IsElement n (the_order.wire (p + 2))
    element_2 = let b = high_p in the_order.wire_within (p + 2) (omega arith, b)

    less_01 : the_order.wire p < the_order.wire (p + 1)
    less_01 = rising.first (the_order.wire p) (the_order.wire (p + 1)) element_0 element_1
        (the_order.position_of_wire p) (the_order.position_of_wire (p + 1))

    less_12 : the_order.wire (p + 1) < the_order.wire (p + 2)
    less_12 = rising.second (the_order.wire (p + 1)) (the_order.wire (p + 2)) element_1 element_2
        (the_order.position_of_wire (p + 1)) (the_order.position_of_wire (p + 2))

    pub is_triple : IsTriple n (the_order.wire p ∷ the_order.wire (p + 1) ∷ the_order.wire (p + 2) ∷ [])
    is_triple =
        triple_from n (the_order.wire p) (the_order.wire (p + 1)) (the_order.wire (p + 2)) element_0.0 less_01 less_12
        element_2.1

    same_wire : (k : ℕ) → the_order.wire k ≡ wire_at done k
    same_wire k = the_order.apart (the_order.wire k) (wire_at done k)
        (the_order.position_of_wire k ∙ sym (position-wire_at done k))

    same_wires : the_order.wire p ∷ the_order.wire (p + 1) ∷ the_order.wire (p + 2) ∷ [] ≡ wires_at done p
    same_wires = λ i. same_wire p i ∷ same_wire (p + 1) i ∷ same_wire (p + 2) i ∷ []

    -- wires at the three positions stand in the order of their labels
    in_order : (a b : ℕ) → IsElement n a → IsElement n b → Within p (position done a) → Within p (position done b)
        → a < b → position done a < position done b
    in_order a b ia ib wa wb l = elim (cases_lt (position done a) (position done b)) [
      | inl k ↦ k
      | inr g ↦
          let ne : position done b ≢ position done a = λ e. (let q = the_order.apart b a e in omega (arith, q, l)) in
          let k : position done b < position done a = grind (arith, g, ne) in
          let l0 = wa.1 in
          let l1 = wb.0 in
          let falls : b < a = ⊎_elim
          (λ e. ⊎_elim
          (λ f. rising.first b a ib ia e f)
          (λ f. rising.outer b a ib ia e f)
          (upper_of (position done b) (position done a) k e l0))
          (λ e. rising.second b a ib ia e (top_of (position done b) (position done a) k e l0))
          (lower_of (position done b) (position done a) k l1 l0) in
          absurd (omega (arith, falls, l))
    ]
      where
        lower_of : (k j : ℕ) → k < j → p ≤ k → j ≤ p + 2 → (k ≡ p) ⊎ (k ≡ p + 1)
        lower_of k j l a b = elim (cases_eq k p) [ inl e ↦ inl e | inr ne ↦ inr (grind (arith, l, a, b, ne)) ]

        upper_of : (k j : ℕ) → k < j → k ≡ p → j ≤ p + 2 → (j ≡ p + 1) ⊎ (j ≡ p + 2)
        upper_of k j l e b = elim (cases_eq j (p + 1)) [ inl f ↦ inl f | inr ne ↦ inr (grind (arith, l, e, b, ne)) ]

        top_of : (k j : ℕ) → k < j → k ≡ p + 1 → j ≤ p + 2 → j ≡ p + 2
        top_of k j l e b = omega (arith, l, e, b)

    -- three wires whose crossings are turned are those at the three positions
    same_triple : (a b c : ℕ) → IsRisingTriple n a b c → Within p (position done a) → Within p (position done b)
        → Within p (position done c) → a ∷ b ∷ c ∷ [] ≡ the_order.wire p ∷ the_order.wire (p + 1)
        ∷ the_order.wire (p + 2) ∷ []
    same_triple a b c r wa wb wc =
        let v = rising_within r in
        let k = in_order a b v.0 v.1 wa wb r.first in
        let l = in_order b c v.1 v.2 wb wc r.second in
        let x = wa.0 in
        let y = wc.1 in
        let ea : position done a ≡ p = omega (arith, k, l, x, y) in
        let eb : position done b ≡ p + 1 = omega (arith, k, l, x, y) in
        let ec : position done c ≡ p + 2 = omega (arith, k, l, x, y) in
        let at : (z q : ℕ) → position done z ≡ q → z ≡ the_order.wire q =
        λ z q e. the_order.apart z (the_order.wire q) (e ∙ sym (the_order.position_of_wire q)) in
        ap (λ z. z ∷ b ∷ c ∷ []) (at a p ea) ∙ ap (λ z. the_order.wire p ∷ z ∷ c ∷ []) (at b (p + 1) eb)
        ∙ ap (λ z. the_order.wire p ∷ the_order.wire (p + 1) ∷ z ∷ []) (at c (p + 2) ec)

    -- the sign of three wires is turned, if they are at the three positions, or kept
    sign_of_three : (a b c : ℕ) → IsRisingTriple n a b c
        → ((a ∷ b ∷ c ∷ [] ≡ the_order.wire p ∷ the_order.wire (p + 1) ∷ the_order.wire (p + 2) ∷ [])
        × (crossing_sign (done ++ Y) (a ∷ b ∷ c ∷ []) ≡ opposite (crossing_sign (done ++ X) (a ∷ b ∷ c ∷ []))))
        ⊎ (crossing_sign (done ++ Y) (a ∷ b ∷ c ∷ []) ≡ crossing_sign (done ++ X) (a ∷ b ∷ c ∷ []))
    sign_of_three a b c r =
        let l1 = r.first in
        let l2 = r.second in
        let mab = moved a b (λ e. omega (arith, e, l1)) in
        let mbc = moved b c (λ e. omega (arith, e, l2)) in
        let u = crossed (done ++ X) a b in
        let v = crossed (done ++ X) b c in
        let e : order_sign (crossed (done ++ Y) a b) (crossed (done ++ Y) b c)
        ≡ order_sign (mirror turns u) (mirror turns v) = ap (λ k. order_sign k (crossed (done ++ Y) b c)) mab.0
        ∙ ap (order_sign (mirror turns u)) mbc.0 in
        elim (holds_or_not turns u) [
          | inr out ↦ inr (e ∙ order_kept_by turns u v (λ h _. out h))
          | inl h ↦ elim (holds_or_not turns v) [
            | inr out ↦ inr (e ∙ order_kept_by turns u v (λ _ k. out k))
            | inl k ↦
                let wab = mab.1 h in
                let wbc = mbc.1 k in
                inl (same_triple a b c r wab.0 wab.1 wbc.1, e ∙ order_turned_by turns u v h k)
          ]
        ]

    module _ (held_01 : Holds (three_at 1) (crossed X p (p + 1)))
        (held_12 : Holds (three_at 1) (crossed X (p + 1) (p + 2)))
        (apart : crossed X p (p + 1) ≢ crossed X (p + 1) (p + 2)) where
      cross_from : (x y k j : ℕ) → IsElement n x → IsElement n y → x < y → position done x ≡ k → position done y ≡ j
          → k < j → crossed (done ++ X) x y ≡ length done + crossed X k j
      cross_from x y k j ix iy l ex ey g =
          crossed_after n (λ z. z) done X x y old_steps ix iy l l (omega (arith, ex, ey, g))
          ∙ ap (λ z. length done + crossed X z (position done y)) ex ∙ ap (λ z. length done + crossed X k z) ey

      cross_01 : crossed (done ++ X) (the_order.wire p) (the_order.wire (p + 1)) ≡ length done + crossed X p (p + 1)
      cross_01 = cross_from (the_order.wire p) (the_order.wire (p + 1)) p (p + 1) element_0 element_1 less_01
          (the_order.position_of_wire p) (the_order.position_of_wire (p + 1)) (omega arith)

      cross_12 : crossed (done ++ X) (the_order.wire (p + 1)) (the_order.wire (p + 2)) ≡ length done
          + crossed X (p + 1) (p + 2)
      cross_12 = cross_from (the_order.wire (p + 1)) (the_order.wire (p + 2)) (p + 1) (p + 2) element_1 element_2
          less_12 (the_order.position_of_wire (p + 1)) (the_order.position_of_wire (p + 2)) (omega arith)

      turned_01 : Holds turns (crossed (done ++ X) (the_order.wire p) (the_order.wire (p + 1)))
      turned_01 = let e = cross_01 in let a = held_01.0 in let b = held_01.1 in
          (omega (arith, e, a), omega (arith, e, b))

      turned_12 : Holds turns (crossed (done ++ X) (the_order.wire (p + 1)) (the_order.wire (p + 2)))
      turned_12 = let e = cross_12 in let a = held_12.0 in let b = held_12.1 in
          (omega (arith, e, a), omega (arith, e, b))

      old_sign : crossing_sign (done ++ X) (the_order.wire p ∷ the_order.wire (p + 1) ∷ the_order.wire (p + 2) ∷ [])
          ≢ Zero
      old_sign z =
          let e = equal_from_order_sign (crossed (done ++ X) (the_order.wire p) (the_order.wire (p + 1)))
          (crossed (done ++ X) (the_order.wire (p + 1)) (the_order.wire (p + 2))) z in
          let f = cross_01 in
          let g = cross_12 in
          apart (omega (arith, e, f, g))

      new_sign : crossing_sign (done ++ Y) (the_order.wire p ∷ the_order.wire (p + 1) ∷ the_order.wire (p + 2) ∷ [])
          ≡ opposite
          (crossing_sign (done ++ X) (the_order.wire p ∷ the_order.wire (p + 1) ∷ the_order.wire (p + 2) ∷ []))
      new_sign =
          let x = the_order.wire p in
          let y = the_order.wire (p + 1) in
          let z = the_order.wire (p + 2) in
          let l1 = less_01 in
          let l2 = less_12 in
          let u = crossed (done ++ X) x y in
          let v = crossed (done ++ X) y z in
          ap (λ k. order_sign k (crossed (done ++ Y) y z)) (moved x y (λ e. omega (arith, e, l1))).0
          ∙ ap (order_sign (mirror turns u)) (moved y z (λ e. omega (arith, e, l2))).0
          ∙ order_turned_by turns u v turned_01 turned_12

      abbrev old_map : SignMap
      old_map = wiring_map n (done ++ X)

      old_whole : IsMap (wiring_map n (done ++ X))
      old_whole = let a = low_p in let b = high_p in listed_whole n (crossing_sign (done ++ X)) (omega (arith, a, b))

      old_value : (t : List ℕ) → IsTriple n t → chi_of (wiring_map n (done ++ X)) t ≡ crossing_sign (done ++ X) t
      old_value t h = listed_sign n (crossing_sign (done ++ X)) t h.list h.size

      each_sign : (a b c : ℕ) → IsRisingTriple n a b c
          → crossing_sign (done ++ Y) (a ∷ b ∷ c ∷ [])
          ≡ chi_of (flipped (wiring_map n (done ++ X))
          (the_order.wire p ∷ the_order.wire (p + 1) ∷ the_order.wire (p + 2) ∷ [])) (a ∷ b ∷ c ∷ [])
      each_sign a b c r =
          let t = the_order.wire p ∷ the_order.wire (p + 1) ∷ the_order.wire (p + 2) ∷ [] in
          let s = a ∷ b ∷ c ∷ [] in
          let is_s = triple_from n a b c r.low r.first r.second r.high in
          elim (cases_eq (rank_of n (a ∷ b ∷ c ∷ []))
          (rank_of n (the_order.wire p ∷ the_order.wire (p + 1) ∷ the_order.wire (p + 2) ∷ []))) [
            | inl e ↦
                let q : a ∷ b ∷ c ∷ [] ≡ the_order.wire p ∷ the_order.wire (p + 1) ∷ the_order.wire (p + 2) ∷ [] =
                same_place n s t is_s.list is_triple.list refl e in
                subst (λ z. crossing_sign (done ++ Y) z ≡ chi_of (flipped (wiring_map n (done ++ X)) t) z) (sym q)
                (new_sign ∙ ap opposite (sym (old_value t is_triple))
                ∙ sym (flipped_sign (wiring_map n (done ++ X)) t old_whole refl is_triple))
            | inr ne ↦
                let other : crossing_sign (done ++ Y) (a ∷ b ∷ c ∷ []) ≡ crossing_sign (done ++ X) (a ∷ b ∷ c ∷ []) =
                ⊎_elim (λ h. absurd (ne (ap (rank_of n) h.0))) (λ h. h) (sign_of_three a b c r) in
                other ∙ sym (old_value s is_s)
                ∙ sym (get_or-set_other (wiring_map n (done ++ X)).signs (rank_of n t) (rank_of n s)
                (opposite (chi_of (wiring_map n (done ++ X)) t)) Zero ne)
          ]

      pub turned_triple : HasTurnedTriple n (done ++ X) (done ++ Y) (wires_at done p)
      turned_triple = subst (HasTurnedTriple n (done ++ X) (done ++ Y)) same_wires (record {
        three = is_triple;
        nonzero = old_sign;
        turned = same_map
            (flipped (wiring_map n (done ++ X))
            (the_order.wire p ∷ the_order.wire (p + 1) ∷ the_order.wire (p + 2) ∷ [])) (crossing_sign (done ++ Y)) refl
            (flipped_whole (wiring_map n (done ++ X))
            (the_order.wire p ∷ the_order.wire (p + 1) ∷ the_order.wire (p + 2) ∷ []) old_whole refl is_triple)
            each_sign;
      })
