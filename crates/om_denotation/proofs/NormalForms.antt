-- The normal form of a map has the covectors of the map.
--
-- Main results: each chirotope has a normal form (normal_exists); tuples_negated; covector_both; normal_covectors,
-- which_covectors.
use Rattle.std.specs.Prelude.{ℕ, ◌≡◌, ◌↔◌, ◌⊎◌, List, length, refl}
use Rattle.std.proofs.Common.{sym, ◌∙◌, ap, subst, inl, inr}
use Rattle.om_signs.specs.declared.sign.Sign.{Sign}
use Rattle.om_signs.specs.declared.sign.Sign.TheVariants.{Minus, Plus}
use Rattle.om_signs.specs.Sign.{opposite, product}
use Rattle.om_signs.proofs.SignLaws.{product-opposite_right}
use Rattle.om_signs.proofs.ListPlaces.{at-map-opposite}
use Rattle.om_subsets.specs.Subsets.{rank_of}
use Rattle.om_laws.specs.Bridge.{as_function}
use Rattle.om_laws.specs.Chirotope.{elements_to}
use Rattle.om_laws.specs.Covectors.{IsCovector}
use Rattle.om_laws.specs.Reorientation.{negative}
use Rattle.om_laws.specs.Tuples.{sorted, sort_sign}
use Rattle.om_laws.proofs.NegationLaws.{negative_covector, covector_negative}
use Rattle.om_laws.proofs.TupleSizes.{is_tuple_cases, on_tuples_at, on_tuples_off}
use Rattle.om_chirotope.specs.Map.{SignMap, chi_of, negated, IsLedBy}
use Rattle.om_chirotope.specs.Chirotope.{IsChirotope, IsAllZero}
use Rattle.om_chirotope.proofs.Axioms.{not_all_zero}
use Rattle.om_chirotope.proofs.Negation.{leader, led_negated}
use Rattle.om_denotation.specs.Covectors.{IsCovectorOfChirotope}
use Rattle.om_denotation.proofs.ChirotopeBridge.{tuples_of, covector_function, covector_of_function}
use Rattle.om_denotation.specs.Maps.{IsNormalFormOf}
use Rattle.om_denotation.proofs.Rules.{same_maps}

-- each chirotope has a normal form
pub normal_exists : (m : SignMap) → IsChirotope m → (d : SignMap) × IsNormalFormOf m d
normal_exists m om = by_leader (leader m.signs)
  where
    by_leader : IsLedBy Plus m.signs ⊎ IsLedBy Minus m.signs ⊎ IsAllZero m.signs → (d : SignMap) × IsNormalFormOf m d
    by_leader (inl p) = (m, record { same = inl refl; normal = p })
    by_leader (inr (inl p)) = (negated m, record { same = inr refl; normal = led_negated m.signs p })
    by_leader (inr (inr z)) = absurd (not_all_zero m om.whole z om.nonzero)

-- on each list the negative of a map has the opposite value
pub tuples_negated : (m : SignMap) (t : List ℕ) → tuples_of (negated m) t ≡ negative (tuples_of m) t
tuples_negated m t = elim (is_tuple_cases m.elements m.rank t) [
  | inl k ↦ on_tuples_at m.elements m.rank (chi_of (negated m)) t k.0
      ∙ ap (product (sort_sign t)) (at-map-opposite m.signs (rank_of m.elements (sorted t)))
      ∙ product-opposite_right (sort_sign t) (chi_of m (sorted t))
      ∙ ap opposite (sym (on_tuples_at m.elements m.rank (chi_of m) t k.0))
  | inr k ↦ on_tuples_off m.elements m.rank (chi_of (negated m)) t k.0
      ∙ ap opposite (sym (on_tuples_off m.elements m.rank (chi_of m) t k.0))
]

-- a list is a covector exactly where its function is one
pub covector_both : (m : SignMap) (X : List Sign) → length X ≡ m.elements → IsCovectorOfChirotope m X
    ↔ IsCovector (elements_to m.elements) (tuples_of m) (as_function X)
covector_both m X l = (covector_function m X, covector_of_function m X l)

-- the same with an equal map on all lists
pub covector_of_map : (m : SignMap) (chi : List ℕ → Sign) → ((t : List ℕ) → tuples_of m t ≡ chi t) → (X : List Sign)
    → length X ≡ m.elements → IsCovectorOfChirotope m X ↔ IsCovector (elements_to m.elements) chi (as_function X)
covector_of_map m chi h X l =
    subst (λ f. IsCovectorOfChirotope m X ↔ IsCovector (elements_to m.elements) f (as_function X))
    (same_maps (tuples_of m) chi h) (covector_both m X l)

negated_covectors : (m : SignMap) (X : List Sign) → length X ≡ m.elements → IsCovectorOfChirotope (negated m) X
    ↔ IsCovectorOfChirotope m X
negated_covectors m X l =
    let b = covector_both m X l in
    let n = covector_of_map (negated m) (negative (tuples_of m)) (tuples_negated m) X l in (
      (λ h. b.1 (covector_negative (elements_to m.elements) (tuples_of m) (as_function X) (n.0 h))),
      (λ h. n.1 (negative_covector (elements_to m.elements) (tuples_of m) (as_function X) (b.0 h))),
    )

-- a normal form of a map has the covectors of the map
pub normal_covectors : (m d : SignMap) → IsNormalFormOf m d → (X : List Sign) → length X ≡ m.elements
    → IsCovectorOfChirotope d X ↔ IsCovectorOfChirotope m X
normal_covectors m d h X l = by_case h.same
  where
    by_case : (d ≡ m) ⊎ (d ≡ negated m) → IsCovectorOfChirotope d X ↔ IsCovectorOfChirotope m X
    by_case (inl q) = subst (λ k. IsCovectorOfChirotope k X ↔ IsCovectorOfChirotope m X) (sym q) ((λ c. c), (λ c. c))
    by_case (inr q) = subst (λ k. IsCovectorOfChirotope k X ↔ IsCovectorOfChirotope m X) (sym q)
        (negated_covectors m X l)

-- a normal form of a map has the rank of the map
pub normal_rank : (m d : SignMap) → IsNormalFormOf m d → d.rank ≡ m.rank
normal_rank m d h = by_case h.same
  where
    by_case : (d ≡ m) ⊎ (d ≡ negated m) → d.rank ≡ m.rank
    by_case (inl q) = ap (λ k. k.rank) q
    by_case (inr q) = ap (λ k. k.rank) q

-- a normal form of a map has the elements of the map
pub normal_elements : (m d : SignMap) → IsNormalFormOf m d → d.elements ≡ m.elements
normal_elements m d h = by_case h.same
  where
    by_case : (d ≡ m) ⊎ (d ≡ negated m) → d.elements ≡ m.elements
    by_case (inl q) = ap (λ k. k.elements) q
    by_case (inr q) = ap (λ k. k.elements) q

-- the covectors of the normal form of a map that the theory knows
pub which_covectors : (m d : SignMap) (chi : List ℕ → Sign) → IsNormalFormOf m d
    → ((t : List ℕ) → tuples_of m t ≡ chi t) → (X : List Sign) → length X ≡ m.elements → IsCovectorOfChirotope d X
    ↔ IsCovector (elements_to m.elements) chi (as_function X)
which_covectors m d chi h q X l =
    let a = normal_covectors m d h X l in
    let b = covector_of_map m chi q X l in
    ((λ c. b.0 (a.0 c)), (λ c. a.1 (b.1 c)))
