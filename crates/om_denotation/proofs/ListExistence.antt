-- Each list that meets the axioms of circuits, of cocircuits or of covectors is that of a chirotope.
--
-- Main results: chirotopes of the laws as maps (made, made_axioms, same_tuples); the chirotope of circuits
-- (of_circuits), of cocircuits (of_cocircuits) and of covectors (of_covectors).
-- Reference: Björner, Las Vergnas, Sturmfels, White and Ziegler, Oriented Matroids, chapter 3.
use Rattle.std.proofs.lemmas.List.FromFn.{length-range_with_len}
use Rattle.std.proofs.Common.{ℕ, ◌≡◌, ◌≤◌, ◌↔◌, List, length, refl, sym, subst, ◌∙◌, inl, inr, ⊎_elim, arith}
use Rattle.om_signs.specs.declared.sign.Sign.{Sign}
use Rattle.om_signs.proofs.SignLaws.{zero_or_nonzero}
use Rattle.om_laws.specs.Signs.{IsNonzero}
use Rattle.om_laws.specs.Vectors.{SignVector}
use Rattle.om_laws.specs.Tuples.{value}
use Rattle.om_laws.specs.Sorting.{IsElement, IsTuple}
use Rattle.om_laws.specs.Chirotope as theory
use Rattle.om_laws.specs.Chirotope.{elements_to}
use Rattle.om_laws.specs.Circuits.{IsCircuit, IsCocircuit}
use Rattle.om_laws.specs.Covectors.{IsCovector}
use Rattle.om_laws.specs.Dual.{dual_map}
use Rattle.om_laws.specs.Families.{IsListed}
use Rattle.om_laws.specs.Bridge.{as_function}
use Rattle.om_laws.proofs.TupleLaws.{value_alternating, nonzero_distinct}
use Rattle.om_laws.proofs.TupleSizes.{is_tuple_cases, on_tuples_at, on_tuples_off, each_from}
use Rattle.om_laws.proofs.SortingLaws.{value_increasing, alternating_equal}
use Rattle.om_laws.proofs.ChirotopeLaws.{element_from_member, elements_distinct}
use Rattle.om_laws.proofs.SizeLaws.{one_size}
use Rattle.om_laws.proofs.DualSizes.{length_complement}
use Rattle.om_laws.proofs.DualLaws.{dual_chirotope, dual_circuit, cocircuit_dual}
use Rattle.om_laws.proofs.FiniteExistence.{list_map, list_chirotope, list_member_cocircuit, list_cocircuit_member}
use Rattle.om_laws.proofs.CovectorExistence.{covectors_map, covectors_chirotope, member_covector, covector_member}
use Rattle.om_chirotope.specs.Map.{SignMap}
use Rattle.om_chirotope.specs.Chirotope.{IsChirotope}
use Rattle.om_members.specs.Listings.{Listing, HaveLength}
use Rattle.om_members.proofs.ScanLaws.{length_of_member}
use Rattle.om_circuits.specs.Axioms.{MeetsCircuitAxioms}
use Rattle.om_covectors.specs.Axioms.{MeetsCovectorAxioms}
use Rattle.om_denotation.specs.Circuits.{IsCircuitOfChirotope, IsCocircuitOfChirotope}
use Rattle.om_denotation.specs.Covectors.{IsCovectorOfChirotope}
use Rattle.om_denotation.specs.Listings.{AreAllOf}
use Rattle.om_denotation.specs.Existence.{HasCircuits, HasCocircuits, HasCovectors}
use Rattle.om_denotation.specs.Families.{as_functions}
use Rattle.om_denotation.specs.Maps.{map_by}
use Rattle.om_denotation.proofs.ChirotopeBridge.{tuples_of, circuit_function, circuit_of_function, circuit_length}
use Rattle.om_denotation.proofs.ChirotopeBridge.{cocircuit_function, cocircuit_of_function, cocircuit_length}
use Rattle.om_denotation.proofs.ChirotopeBridge.{covector_function, covector_of_function}
use Rattle.om_denotation.proofs.FamilyLaws.{orthogonal_both, parts_both}
use Rattle.om_denotation.proofs.AxiomLaws.{supported, covector_axioms}
use Rattle.om_denotation.proofs.CircuitFunctions.{function_listed, member_from_function, circuit_axioms}
use Rattle.om_denotation.proofs.Rules.{same_maps, tuples_by, whole_by, chirotope_by}

-- ---- chirotopes of the laws as maps

module _ (n : ℕ) (chi : List ℕ → Sign) (om : theory.IsChirotope (elements_to n) chi) where
  -- the number of elements of a base
  abbrev pub base_size : ℕ
  base_size = length om.base.0

  abbrev pub made : SignMap
  made = map_by base_size n chi

  base_tuple : (t : List ℕ) → IsNonzero (chi t) → IsTuple n base_size t
  base_tuple t nz = record {
    size = one_size (elements_to n) chi om t om.base.0 nz om.base.1;
    within = each_from (IsElement n) t (λ e m. element_from_member n e (om.within t nz e m));
  }

  pub same_tuples : (t : List ℕ) → tuples_of made t ≡ chi t
  same_tuples t = tuples_by base_size n chi t ∙ elim (is_tuple_cases n base_size t) [
    | inl k ↦ on_tuples_at n base_size chi t k.0
        ∙ alternating_equal (value chi) chi (value_alternating chi) om.alternating (value_increasing chi) t
    | inr k ↦ on_tuples_off n base_size chi t k.0
        ∙ ⊎_elim (λ z. sym z) (λ nz. absurd (k.0 (base_tuple t nz))) (zero_or_nonzero (chi t))
  ]

  part : base_size ≤ n
  part =
      let b = om.base.0 in
      let l = length_complement (elements_to n) b (elements_distinct n)
      (nonzero_distinct chi om.alternating b om.base.1) (om.within b om.base.1) in
      let k = length-range_with_len 1 n in
      omega (arith, l, k)

  pub made_axioms : IsChirotope made
  made_axioms = chirotope_by made chi (whole_by base_size n chi part) same_tuples om

  maps : tuples_of made ≡ chi
  maps = same_maps (tuples_of made) chi same_tuples

  pub circuit_both : (X : List Sign) → length X ≡ n → IsCircuitOfChirotope made X
      ↔ IsCircuit (elements_to n) chi (as_function X)
  circuit_both X l = subst (λ f. IsCircuitOfChirotope made X ↔ IsCircuit (elements_to n) f (as_function X)) maps
      (circuit_function made X, circuit_of_function made X l)

  pub cocircuit_both : (X : List Sign) → length X ≡ n → IsCocircuitOfChirotope made X ↔ IsCocircuit chi (as_function X)
  cocircuit_both X l = subst (λ f. IsCocircuitOfChirotope made X ↔ IsCocircuit f (as_function X)) maps
      (cocircuit_function made X, cocircuit_of_function made X l)

  pub covector_both : (X : List Sign) → length X ≡ n → IsCovectorOfChirotope made X
      ↔ IsCovector (elements_to n) chi (as_function X)
  covector_both X l = subst (λ f. IsCovectorOfChirotope made X ↔ IsCovector (elements_to n) f (as_function X)) maps
      (covector_function made X, covector_of_function made X l)

-- ---- lists

-- the members of a list are the lists of n signs of a family, where their functions are those of a family of functions
all_of : (n : ℕ) (members : List (List Sign)) → HaveLength n members
    → (P : List Sign → Type 0) (D : SignVector → Type 0) → ((X : List Sign) → P X → length X ≡ n)
    → ((X : List Sign) → length X ≡ n → P X ↔ D (as_function X))
    → ((F : SignVector) → IsListed (as_functions members) F ↔ D F) → AreAllOf P members
all_of n members lengths P D size both which = record {
  sound = λ X m. (both X (length_of_member n members lengths X m)).1
      ((which (as_function X)).0 (function_listed members X m));
  complete = λ X p. member_from_function n members lengths X (size X p)
      ((which (as_function X)).1 ((both X (size X p)).0 p));
}

module _ (c : Listing) (lengths : HaveLength c.elements c.members) where
  abbrev E : List ℕ
  E = elements_to c.elements

  module _ (axioms : MeetsCircuitAxioms c.members) where
    abbrev chi : List ℕ → Sign
    chi = list_map (as_functions c.members) E (elements_distinct c.elements) (supported c.elements c.members lengths)
        (circuit_axioms c.members axioms)

    om : theory.IsChirotope E chi
    om = list_chirotope (as_functions c.members) E (elements_distinct c.elements)
        (supported c.elements c.members lengths) (circuit_axioms c.members axioms)

    member_both : (F : SignVector) → IsListed (as_functions c.members) F ↔ IsCocircuit chi F
    member_both F = (
      list_member_cocircuit (as_functions c.members) E (elements_distinct c.elements)
          (supported c.elements c.members lengths) (circuit_axioms c.members axioms) F,
      list_cocircuit_member (as_functions c.members) E (elements_distinct c.elements)
          (supported c.elements c.members lengths) (circuit_axioms c.members axioms) F,
    )

    -- a list that meets the axioms of circuits is that of the cocircuits of some chirotope
    pub of_cocircuits : (m : SignMap) × HasCocircuits c m
    of_cocircuits =
        let m = made c.elements chi om in
        let all : AreAllOf (IsCocircuitOfChirotope m) c.members =
        all_of c.elements c.members lengths (IsCocircuitOfChirotope m) (IsCocircuit chi) (cocircuit_length m)
        (cocircuit_both c.elements chi om) member_both in
        let parts = parts_both m (made_axioms c.elements chi om) in (
          m,
          record {
            axioms = made_axioms c.elements chi om;
            elements = refl;
            members = all;
            same = λ X l. (
              λ h. (parts X l).1 (λ i n. let y = h.composed i n in (y.0, all.sound y.0 y.1, y.2, y.3)),
              λ h. record {
                size = l;
                composed = λ i n. let y = (parts X l).0 h i n in
                    (y.0, all.complete y.0 y.1, y.2, y.3);
              },
            );
          },
        )

    dual_om : theory.IsChirotope E (dual_map E chi)
    dual_om = dual_chirotope E (elements_distinct c.elements) chi om

    circuit_member_both : (F : SignVector) → IsListed (as_functions c.members) F ↔ IsCircuit E (dual_map E chi) F
    circuit_member_both F = (
      λ m. cocircuit_dual E (elements_distinct c.elements) chi om F ((member_both F).0 m),
      λ k. (member_both F).1 (dual_circuit E (elements_distinct c.elements) chi om F k),
    )

    -- a list that meets the axioms of circuits is that of the circuits of some chirotope
    pub of_circuits : (m : SignMap) × HasCircuits c m
    of_circuits =
        let m = made c.elements (dual_map E chi) dual_om in
        let all : AreAllOf (IsCircuitOfChirotope m) c.members =
        all_of c.elements c.members lengths (IsCircuitOfChirotope m) (IsCircuit E (dual_map E chi))
        (circuit_length m) (circuit_both c.elements (dual_map E chi) dual_om) circuit_member_both in
        let each = orthogonal_both m (made_axioms c.elements (dual_map E chi) dual_om) in (
          m,
          record {
            axioms = made_axioms c.elements (dual_map E chi) dual_om;
            elements = refl;
            members = all;
            same = λ X l. (
              λ h. (each X l).1 (λ Y y. h.orthogonal Y (all.complete Y y)),
              λ h. record { size = l; orthogonal = λ Y y. (each X l).0 h Y (all.sound Y y) },
            );
          },
        )

  module _ (axioms : MeetsCovectorAxioms c.members) where
    abbrev psi : List ℕ → Sign
    psi = covectors_map (as_functions c.members) E (elements_distinct c.elements)
        (supported c.elements c.members lengths) (covector_axioms c.members axioms)

    psi_om : theory.IsChirotope E psi
    psi_om = covectors_chirotope (as_functions c.members) E (elements_distinct c.elements)
        (supported c.elements c.members lengths) (covector_axioms c.members axioms)

    covector_member_both : (F : SignVector) → IsListed (as_functions c.members) F ↔ IsCovector E psi F
    covector_member_both F = (
      member_covector (as_functions c.members) E (elements_distinct c.elements) (supported c.elements c.members lengths)
          (covector_axioms c.members axioms) F,
      covector_member (as_functions c.members) E (elements_distinct c.elements) (supported c.elements c.members lengths)
          (covector_axioms c.members axioms) F,
    )

    -- a list that meets the axioms of covectors is that of the covectors of some chirotope
    pub of_covectors : (m : SignMap) × HasCovectors c m
    of_covectors =
        let m = made c.elements psi psi_om in
        let all : AreAllOf (IsCovectorOfChirotope m) c.members =
        all_of c.elements c.members lengths (IsCovectorOfChirotope m) (IsCovector E psi) (λ X x. x.size)
        (covector_both c.elements psi psi_om) covector_member_both in (
          m,
          record {
            axioms = made_axioms c.elements psi psi_om;
            elements = refl;
            members = all;
            same = λ X l. (λ h. all.sound X h.member, λ h. record { size = l; member = all.complete X h });
          },
        )
