-- The three-term test holds exactly where the axioms do, also of a map that may be zero.
--
-- Main results: relations_of_test, chirotope_of_test, test_of_chirotope, test_of_orthogonal
use Rattle.std.specs.Prelude.{ℕ, ◌≡◌, List, [], ◌∷◌, ◌++◌, length}
use Rattle.std.proofs.Common.{inl, inr}
use Rattle.std.proofs.lemmas.Bool.{cases_lt}
use Rattle.std.proofs.lemmas.List.{get_or_past}
use Rattle.om_signs.specs.declared.sign.Sign.{Sign}
use Rattle.om_signs.specs.declared.sign.Sign.TheVariants.{Zero}
use Rattle.om_signs.specs.Sign.{product}
use Rattle.om_signs.proofs.SignLaws.{product_zero_left, product_zero_right, opposite_zero}
use Rattle.om_subsets.specs.Subsets.{rank_of}
use Rattle.om_laws.specs.Chirotope.{elements_to}
use Rattle.om_laws.specs.Relations.{HasRelations}
use Rattle.om_laws.specs.Sorting.{IsElement, on_tuples}
use Rattle.om_laws.specs.Tuples.{sort_sign, sorted}
use Rattle.om_laws.proofs.BaseLaws.{exchange}
use Rattle.om_laws.proofs.ChirotopeLaws.{member_from_element}
use Rattle.om_laws.proofs.ExchangeOrders.{exchange_in_order, exchange_of_increasing}
use Rattle.om_laws.proofs.ThreeTermLaws.{three_term_relations}
use Rattle.om_laws.proofs.ThreeTermOrders.{three_terms_in_order}
use Rattle.om_laws.proofs.ThreeTermSigns.{three_terms_of_relations}
use Rattle.om_laws.proofs.TupleSizes.{each_member, on_tuples_alternating}
use Rattle.om_laws.proofs.BalancedSigns.{balanced_zeros}
use Rattle.om_chirotope.specs.Map.{SignMap, IsMap, chi_of, value_of}
use Rattle.om_chirotope.specs.Chirotope.{HasNonzeroValue, HasOrthogonalPairs, IsAllZero, IsChirotope}
use Rattle.om_chirotope.specs.ThreeTerm.{HasListExchange, HasThreeTermRelations, MeetsThreeTermTest}
use Rattle.om_chirotope.proofs.Axioms.{nonzero_or_zeros}
use Rattle.om_chirotope.proofs.ExchangeForms.{exchange_from_lists, exchange_of_lists}
use Rattle.om_chirotope.proofs.Theory.{map_chirotope, theory_chirotope, to_tuple}
use Rattle.om_chirotope.proofs.ThreeTermRelations.{of_base, base_from, theory_exchange, map_exchange}
use Rattle.om_chirotope.proofs.ThreeTermRelations.{theory_three_terms, map_three_terms}

module _ (m : SignMap) where
  abbrev n : ℕ
  n = m.elements

  abbrev r : ℕ
  r = m.rank

  abbrev chi : List ℕ → Sign
  chi = on_tuples m.elements m.rank (chi_of m)

  -- ---- the test and the axioms

  pub relations_of_test : HasListExchange m → HasThreeTermRelations m → HasRelations chi
  relations_of_test ex rel =
      let alt = on_tuples_alternating n r (chi_of m) in
      three_term_relations chi alt (exchange_in_order chi alt (theory_exchange m ex))
      (three_terms_in_order chi alt (theory_three_terms m rel))

  -- a map that passes the three-term test is a chirotope
  pub chirotope_of_test : MeetsThreeTermTest m → IsChirotope m
  chirotope_of_test t = go t.nonzero
    where
      go : HasNonzeroValue m → IsChirotope m
      go (xs, h, l, k) =
          let tuple = to_tuple n r xs h l in
          map_chirotope m t.whole (record {
            alternating = on_tuples_alternating n r (chi_of m);
            within = λ ys b e i. member_from_element n e (each_member (IsElement n) ys (of_base m ys b).within e i);
            relations = relations_of_test (exchange_of_lists m t.exchange) t.relations;
            base = (xs, base_from m xs tuple k);
          })

  -- a chirotope passes the three-term test
  pub test_of_chirotope : IsChirotope m → MeetsThreeTermTest m
  test_of_chirotope c =
      let t = theory_chirotope m c in
      record {
        whole = c.whole;
        nonzero = c.nonzero;
        exchange =
            exchange_from_lists m
            (map_exchange m (exchange_of_increasing chi t.alternating (exchange (elements_to n) chi t)));
        relations = map_three_terms m (three_terms_of_relations chi t.alternating t.relations);
      }

  -- ---- the same of a map that may be zero

  zero_value : IsAllZero m.signs → (xs : List ℕ) → value_of m xs ≡ Zero
  zero_value z xs = product_zero_right (sort_sign xs) (chi_of m (sorted xs))
      (elim (cases_lt (rank_of n (sorted xs)) (length m.signs)) [
        | inl l ↦ z (rank_of n (sorted xs)) Zero l
        | inr g ↦ get_or_past m.signs (rank_of n (sorted xs)) Zero g
      ])

  relations_of_zeros : IsAllZero m.signs → HasThreeTermRelations m
  relations_of_zeros z p a b c d f = balanced_zeros _ _ _ (left a b c d) (opposite_zero _ (left a c b d)) (left a d b c)
    where
      left : (a b c d : ℕ) → product (value_of m (p ++ a ∷ b ∷ [])) (value_of m (p ++ c ∷ d ∷ [])) ≡ Zero
      left a b c d = product_zero_left _ _ (zero_value z (p ++ a ∷ b ∷ []))

  pub test_of_orthogonal : IsMap m → HasOrthogonalPairs m → HasListExchange m × HasThreeTermRelations m
  test_of_orthogonal whole all = elim (nonzero_or_zeros m whole) [
    | inl some ↦
        let t = test_of_chirotope (record { whole = whole; nonzero = some; orthogonal = all }) in
        (exchange_of_lists m t.exchange, t.relations)
    | inr z ↦ ((λ a c e h basis. absurd (basis.nonzero (zero_value z c))), relations_of_zeros z)
  ]
