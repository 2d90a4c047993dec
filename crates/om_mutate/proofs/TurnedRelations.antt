-- A triple of a chirotope of rank 3 is a mutation exactly where the three-term relations that hold it stay balanced.
--
-- Main results: stays_balanced, from a mutation; mutation_if_balanced, and back; mutation_by_relations, both.
-- Reference: Björner, Las Vergnas, Sturmfels, White and Ziegler, Oriented Matroids, chapter 3.
use Rattle.std.specs.Prelude.{ℕ, ◌≡◌, ◌≢◌, ◌<◌, ◌≤◌, List, [], ◌∷◌, length}
use Rattle.std.proofs.Common.{refl, sym, ap, ◌∙◌, subst, inl, inr, arith}
use Rattle.om_signs.specs.declared.sign.Sign.{Sign}
use Rattle.om_signs.specs.declared.sign.Sign.TheVariants.{Zero}
use Rattle.om_signs.specs.Sign.{opposite, product}
use Rattle.om_signs.proofs.SignLaws.{opposite_nonzero, product-same}
use Rattle.om_subsets.specs.Subsets.{IsSubsetFrom}
use Rattle.om_subsets.proofs.Statements.{subset_is_increasing}
use Rattle.om_laws.specs.Sorting.{IsElement, IsTuple, on_tuples}
use Rattle.om_laws.specs.ThreeTerm.{AreBalanced}
use Rattle.om_laws.proofs.TupleLaws.{value_alternating}
use Rattle.om_laws.proofs.TupleSizes.{on_tuples_at, on_tuples_alternating, triple_is_tuple}
use Rattle.om_laws.proofs.BalancedSigns.{balanced_same}
use Rattle.om_subsets.proofs.Triples.{IsRising, rising_within}
use Rattle.om_chirotope.specs.Map.{SignMap, IsMap, chi_of, value_of}
use Rattle.om_chirotope.specs.Chirotope.{IsChirotope}
use Rattle.om_chirotope.specs.ThreeTerm.{IsBasis, HasExchange, HasThreeTermRelations}
use Rattle.om_chirotope.proofs.InOrder.{value_in_order}
use Rattle.om_chirotope.proofs.Theory.{theory_chirotope}
use Rattle.om_chirotope.proofs.ThreeTerms.{chirotope_of_test, test_of_chirotope}
use Rattle.om_wiring.proofs.CrossingOrders.{three_terms}
use Rattle.om_wiring.proofs.ListedMaps.{swap_last}
use Rattle.om_mutate.specs.Mutations.{flipped, IsMutation}
use Rattle.om_mutate.specs.Turns.{StaysBalanced, StaysBalancedAround, StaysBalancedAt}
use Rattle.om_mutate.proofs.BalancedOrders.{from_last_two, from_first_third, from_second_last, from_first_last}
use Rattle.om_mutate.proofs.BalancedOrders.{from_middle_two}
use Rattle.om_mutate.proofs.FlipLaws.{flipped_sign, flipped_whole}
use Rattle.om_mutate.proofs.TurnedValues.{IsCorner, the_triple, kept_or_turned, corner_turned, corner_kept}
use Rattle.om_mutate.proofs.TurnedValues.{corner_kept_third, corner_or_kept}

-- the three-term relation of p with four elements
abbrev pub Relation : SignMap → ℕ → ℕ → ℕ → ℕ → ℕ → Type 0
Relation m p x y z v = AreBalanced (product (value_of m (p ∷ x ∷ y ∷ [])) (value_of m (p ∷ z ∷ v ∷ [])))
    (opposite (product (value_of m (p ∷ x ∷ z ∷ [])) (value_of m (p ∷ y ∷ v ∷ []))))
    (product (value_of m (p ∷ x ∷ v ∷ [])) (value_of m (p ∷ y ∷ z ∷ [])))

-- the relations of a chirotope, for any elements
relation_of : (m : SignMap) → m.rank ≡ 3 → IsChirotope m → (p x y z v : ℕ) → IsElement m.elements p
    → IsElement m.elements x → IsElement m.elements y → IsElement m.elements z → IsElement m.elements v
    → Relation m p x y z v
relation_of m r h p x y z v ip ix iy iz iv =
    let n = m.elements in
    let k = m.rank in
    let at : (e f : ℕ) → IsElement m.elements e → IsElement m.elements f
    → value_of m (p ∷ e ∷ f ∷ []) ≡ on_tuples m.elements m.rank (chi_of m) (p ∷ e ∷ f ∷ []) =
    λ e f ie if. sym
    (on_tuples_at n k (chi_of m) (p ∷ e ∷ f ∷ [])
    (subst (λ s. IsTuple n s (p ∷ e ∷ f ∷ [])) (sym r) (triple_is_tuple n p e f ip ie if))) in
    balanced_same _ _ _ _ _ _
    (product-same (at x y ix iy) (at z v iz iv))
    (ap opposite (product-same (at x z ix iz) (at y v iy iv)))
    (product-same (at x v ix iv) (at y z iy iz))
    (three_terms (on_tuples n k (chi_of m)) (on_tuples_alternating n k (chi_of m)) (theory_chirotope m h).relations p x
    y z v)

module _ (m : SignMap) (a b c : ℕ) (w : IsMap m) (r : m.rank ≡ 3) (i : IsRising m.elements a b c) where
  abbrev t : List ℕ
  t = a ∷ b ∷ c ∷ []

  pub stays_balanced : IsMutation m (a ∷ b ∷ c ∷ []) → (p x y : ℕ) → IsCorner a b c p x y → IsElement m.elements p
      → IsElement m.elements x → IsElement m.elements y → StaysBalancedAt m p x y
  stays_balanced u p x y k ip ix iy z iz v iv = record {
    signs = λ zx zy vx vy. balanced_same _ _ _ _ _ _
        (product-same (sym (corner_turned m a b c w r i p x y k))
        (sym (corner_kept m a b c w r i p x y z v k ip iz iv zx zy)))
        (ap opposite
        (product-same (sym (corner_kept_third m a b c w r i p x y z x k ip iz ix zx zy))
        (sym (corner_kept_third m a b c w r i p x y v y k ip iv iy vx vy))))
        (product-same (sym (corner_kept_third m a b c w r i p x y v x k ip iv ix vx vy))
        (sym (corner_kept_third m a b c w r i p x y z y k ip iz iy zx zy)))
        (relation_of (flipped m t) r u.axioms p x y z v ip ix iy iz iv);
  }

  -- ---- and back

  -- the relation of the changed map with two elements of the triple
  turned_relation : (p x y z v : ℕ) → IsCorner a b c p x y → IsElement m.elements p → IsElement m.elements x
      → IsElement m.elements y → IsElement m.elements z → IsElement m.elements v → z ≢ x → z ≢ y → v ≢ x → v ≢ y
      → StaysBalanced m p x y z v → Relation (flipped m (a ∷ b ∷ c ∷ [])) p x y z v
  turned_relation p x y z v k ip ix iy iz iv zx zy vx vy s =
      balanced_same _ _ _ _ _ _
      (product-same (corner_turned m a b c w r i p x y k)
      (corner_kept m a b c w r i p x y z v k ip iz iv zx zy))
      (ap opposite
      (product-same (corner_kept_third m a b c w r i p x y z x k ip iz ix zx zy)
      (corner_kept_third m a b c w r i p x y v y k ip iv iy vx vy)))
      (product-same (corner_kept_third m a b c w r i p x y v x k ip iv ix vx vy)
      (corner_kept_third m a b c w r i p x y z y k ip iz iy zx zy))
      (s.signs zx zy vx vy)

  -- bases stay bases
  module _ (nonzero : chi_of m (a ∷ b ∷ c ∷ []) ≢ Zero) where
    nonzero_sign : (u : List ℕ) → IsSubsetFrom 1 m.elements u → length u ≡ 3 → chi_of (flipped m t) u ≢ Zero
        → chi_of m u ≢ Zero
    nonzero_sign u h s ne z = elim (kept_or_turned m t w r (the_triple m a b c w r i) u h s) [
      | inl e ↦ nonzero (ap (chi_of m) (sym e) ∙ z)
      | inr e ↦ ne (e ∙ z)
    ]

    nonzero_turned : (u : List ℕ) → IsSubsetFrom 1 m.elements u → length u ≡ 3 → chi_of m u ≢ Zero
        → chi_of (flipped m t) u ≢ Zero
    nonzero_turned u h s ne z = elim (kept_or_turned m t w r (the_triple m a b c w r i) u h s) [
      | inl e ↦
          opposite_nonzero (chi_of m t) nonzero
          (sym (flipped_sign m t w r (the_triple m a b c w r i)) ∙ ap (chi_of (flipped m t)) (sym e) ∙ z)
      | inr e ↦ ne (sym e ∙ z)
    ]

    basis_before : (u : List ℕ) → IsBasis (flipped m t) u → IsBasis m u
    basis_before u h = record {
      list = h.list;
      size = h.size;
      nonzero =
          λ z. nonzero_sign u h.list (h.size ∙ r)
          (λ e. h.nonzero (value_in_order 1 m.elements (chi_of (flipped m t)) u h.list ∙ e))
          (sym (value_in_order 1 m.elements (chi_of m) u h.list) ∙ z);
    }

    basis_after : (u : List ℕ) → IsBasis m u → IsBasis (flipped m t) u
    basis_after u h = record {
      list = h.list;
      size = h.size;
      nonzero =
          λ z. nonzero_turned u h.list (h.size ∙ r)
          (λ e. h.nonzero (value_in_order 1 m.elements (chi_of m) u h.list ∙ e))
          (sym (value_in_order 1 m.elements (chi_of (flipped m t)) u h.list) ∙ z);
    }

    exchange_after : HasExchange m → HasExchange (flipped m t)
    exchange_after ex d e f hd he q out =
        let k = ex d e f (basis_before d hd) (basis_before e he) q out in
        (k.0, k.1, k.2, basis_after _ k.3)

    module _ (old : HasThreeTermRelations m)
        (balanced : (p x y : ℕ) → IsCorner a b c p x y → StaysBalancedAt m p x y) where
      abbrev psi : ℕ → ℕ → ℕ → Sign
      psi q x y = value_of (flipped m (a ∷ b ∷ c ∷ [])) (q ∷ x ∷ y ∷ [])

      swapped : (q x y : ℕ) → value_of (flipped m (a ∷ b ∷ c ∷ [])) (q ∷ y ∷ x ∷ [])
          ≡ opposite (value_of (flipped m (a ∷ b ∷ c ∷ [])) (q ∷ x ∷ y ∷ []))
      swapped q x y = swap_last (value_of (flipped m t)) (value_alternating (chi_of (flipped m t))) q x y

      -- four increasing elements and another one
      relation_in_order : (q d e f g : ℕ) → IsElement m.elements q → IsElement m.elements d → IsElement m.elements e
          → IsElement m.elements f → IsElement m.elements g
          → d < e → e < f → f < g → q ≢ d → q ≢ e → q ≢ f → q ≢ g → Relation m q d e f g
          → Relation (flipped m (a ∷ b ∷ c ∷ [])) q d e f g
      relation_in_order q d e f g iq id ie if ig de ef fg nd ne nf ng rel =
          elim (corner_or_kept m a b c w r i q d e iq id ie nd ne de) [
            | inl k ↦ turned_relation q d e f g k iq id ie if ig (λ z. omega (arith, z, de, ef))
                (λ z. omega (arith, z, ef)) (λ z. omega (arith, z, de, ef, fg)) (λ z. omega (arith, z, ef, fg))
                (balanced q d e k f if g ig)
            | inr k1 ↦ elim (corner_or_kept m a b c w r i q f g iq if ig nf ng fg) [
              | inl k ↦ from_last_two (psi q d e) (psi q f g) (psi q d f) (psi q e g) (psi q d g) (psi q e f) _ _ _ _
                  (swapped q d f) (swapped q e g) (swapped q e f) (swapped q d g)
                  (turned_relation q f g d e k iq if ig id ie (λ z. omega (arith, z, de, ef))
                  (λ z. omega (arith, z, de, ef, fg)) (λ z. omega (arith, z, ef)) (λ z. omega (arith, z, ef, fg))
                  (balanced q f g k d id e ie))
              | inr k2 ↦ elim (corner_or_kept m a b c w r i q d f iq id if nd nf (omega (arith, de, ef))) [
                | inl k ↦ from_first_third (psi q d e) (psi q f g) (psi q d f) (psi q e g) (psi q d g) (psi q e f) _
                    (swapped q e f)
                    (turned_relation q d f e g k iq id if ie ig (λ z. omega (arith, z, de)) (λ z. omega (arith, z, ef))
                    (λ z. omega (arith, z, de, ef, fg)) (λ z. omega (arith, z, fg)) (balanced q d f k e ie g ig))
                | inr k3 ↦ elim (corner_or_kept m a b c w r i q e g iq ie ig ne ng (omega (arith, ef, fg))) [
                  | inl k ↦ from_second_last (psi q d e) (psi q f g) (psi q d f) (psi q e g) (psi q d g) (psi q e f) _ _
                      _ (swapped q d e) (swapped q f g) (swapped q d g)
                      (turned_relation q e g d f k iq ie ig id if (λ z. omega (arith, z, de))
                      (λ z. omega (arith, z, de, ef, fg)) (λ z. omega (arith, z, ef)) (λ z. omega (arith, z, fg))
                      (balanced q e g k d id f if))
                  | inr k4 ↦ elim (corner_or_kept m a b c w r i q d g iq id ig nd ng (omega (arith, de, ef, fg))) [
                    | inl k ↦
                        from_first_last (psi q d e) (psi q f g) (psi q d f) (psi q e g) (psi q d g) (psi q e f) _ _
                        (swapped q f g) (swapped q e g)
                        (turned_relation q d g e f k iq id ig ie if (λ z. omega (arith, z, de))
                        (λ z. omega (arith, z, ef, fg)) (λ z. omega (arith, z, de, ef)) (λ z. omega (arith, z, fg))
                        (balanced q d g k e ie f if))
                    | inr k5 ↦ elim (corner_or_kept m a b c w r i q e f iq ie if ne nf ef) [
                      | inl k ↦
                          from_middle_two (psi q d e) (psi q f g) (psi q d f) (psi q e g) (psi q d g) (psi q e f) _ _
                          (swapped q d e) (swapped q d f)
                          (turned_relation q e f d g k iq ie if id ig (λ z. omega (arith, z, de))
                          (λ z. omega (arith, z, de, ef)) (λ z. omega (arith, z, ef, fg))
                          (λ z. omega (arith, z, fg)) (balanced q e f k d id g ig))
                      | inr k6 ↦
                          balanced_same _ _ _ _ _ _ (product-same k1 k2)
                          (ap opposite (product-same k3 k4)) (product-same k5 k6) rel
                    ]
                  ]
                ]
              ]
            ]
          ]

      relations_after : HasThreeTermRelations (flipped m t)
      relations_after [] d e f g h = let s = h.size in absurd (omega (arith, s, r))
      relations_after (q ∷ []) d e f g h =
          let four = (subset_is_increasing m.elements (d ∷ e ∷ f ∷ g ∷ [])).0 h.four in
          let iq = ((subset_is_increasing m.elements (q ∷ [])).0 h.list).1 q (inl refl) in
          relation_in_order q d e f g iq (four.1 d (inl refl)) (four.1 e (inr (inl refl)))
          (four.1 f (inr (inr (inl refl)))) (four.1 g (inr (inr (inr (inl refl)))))
          four.0.0 four.0.1.0 four.0.1.1.0 (λ z. h.a_off (inl (sym z))) (λ z. h.b_off (inl (sym z)))
          (λ z. h.c_off (inl (sym z))) (λ z. h.d_off (inl (sym z)))
          (old (q ∷ []) d e f g
          (record {
            list = h.list;
            size = h.size;
            four = h.four;
            a_off = h.a_off;
            b_off = h.b_off;
            c_off = h.c_off;
            d_off = h.d_off;
          }))
      relations_after (q ∷ s ∷ ps) d e f g h = let l = h.size in absurd (omega (arith, l, r))

  pub mutation_if_balanced : IsChirotope m → chi_of m (a ∷ b ∷ c ∷ []) ≢ Zero
      → ((p x y : ℕ) → IsCorner a b c p x y → StaysBalancedAt m p x y) → IsMutation m (a ∷ b ∷ c ∷ [])
  mutation_if_balanced h nonzero balanced =
      let test = test_of_chirotope m h in
      record {
        triple = the_triple m a b c w r i;
        basis = nonzero;
        axioms = chirotope_of_test (flipped m t) (record {
          whole = flipped_whole m t w r (the_triple m a b c w r i);
          nonzero = (
            t,
            (the_triple m a b c w r i).list,
            sym r,
            λ z. nonzero_turned nonzero t (the_triple m a b c w r i).list refl nonzero
                (sym (value_in_order 1 m.elements (chi_of (flipped m t)) t (the_triple m a b c w r i).list) ∙ z),
          );
          exchange = exchange_after nonzero test.exchange;
          relations = relations_after nonzero test.relations balanced;
        });
      }

-- ---- a triple by its elements

pub mutation_by_relations : (m : SignMap) (t : List ℕ) (a b c : ℕ) → IsChirotope m → m.rank ≡ 3 → t ≡ a ∷ b ∷ c ∷ []
    → 1 ≤ a → a < b → b < c → c ≤ m.elements
    → (StaysBalancedAround m a b c → chi_of m t ≢ Zero → IsMutation m t)
    × (IsMutation m t → StaysBalancedAround m a b c)
mutation_by_relations m t a b c h r e low ab bc high =
    let i : IsRising m.elements a b c =
    record { low = low; first = ab; second = bc; high = high } in
    let v = rising_within i in (
      λ s nonzero. subst (IsMutation m) (sym e)
          (mutation_if_balanced m a b c h.whole r i h (λ z. nonzero (ap (chi_of m) e ∙ z)) (at_corner a b c s)),
      λ w.
          let l = stays_balanced m a b c h.whole r i (subst (IsMutation m) e w) in
          record {
            first = l a b c (inl (refl, refl, refl)) v.0 v.1 v.2;
            second = l b a c (inr (inl (refl, refl, refl))) v.1 v.0 v.2;
            third = l c a b (inr (inr (refl, refl, refl))) v.2 v.0 v.1;
          },
    )
  where
    at_corner : (a b c : ℕ) → StaysBalancedAround m a b c → (p y z : ℕ) → IsCorner a b c p y z → StaysBalancedAt m p y z
    at_corner a b c s p y z (inl (e, f, g)) = rw (e, f, g) s.first
    at_corner a b c s p y z (inr (inl (e, f, g))) = rw (e, f, g) s.second
    at_corner a b c s p y z (inr (inr (e, f, g))) = rw (e, f, g) s.third
