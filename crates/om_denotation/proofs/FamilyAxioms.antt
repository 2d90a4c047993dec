-- The axioms of circuits, cocircuits and covectors of a chirotope, and their orthogonality, from functions to lists of
-- signs.
--
-- Main results: family_axioms, family_covector_axioms, family_parts, circuit_axioms, cocircuit_axioms, orthogonal,
-- covector_axioms
-- Reference: Björner, Las Vergnas, Sturmfels, White and Ziegler, Oriented Matroids, chapters 3 and 4.
use Rattle.std.proofs.Common.{ℕ, zero, suc, ◌≡◌, ◌-◌, ◌↔◌, List, length, replicate, refl, sym, subst, ◌∙◌}
use Rattle.std.proofs.lemmas.List.{length-map, length-replicate}
use Rattle.om_signs.specs.declared.sign.Sign.{Sign}
use Rattle.om_signs.specs.declared.sign.Sign.TheVariants.{Zero}
use Rattle.om_signs.specs.Sign.{opposite}
use Rattle.om_signs.specs.SignVec.{at, compose, IsOrthogonal}
use Rattle.om_signs.specs.SignVec as lists
use Rattle.om_signs.proofs.ListPlaces.{length-compose}
use Rattle.om_members.specs.Vectors.{negated}
use Rattle.om_laws.specs.Signs.{IsNonzero}
use Rattle.om_laws.specs.Vectors.{SignVector, zero_vector, composition}
use Rattle.om_laws.specs.Vectors as vectors
use Rattle.om_laws.specs.Axioms.{CircuitAxioms, CovectorAxioms}
use Rattle.om_laws.specs.Chirotope.{elements_to}
use Rattle.om_laws.specs.Chirotope as theory
use Rattle.om_laws.specs.Circuits.{IsCircuit, IsCocircuit}
use Rattle.om_laws.specs.Compositions as functions
use Rattle.om_laws.specs.Covectors.{IsCovector}
use Rattle.om_laws.specs.Bridge.{as_function, as_list}
use Rattle.om_laws.proofs.DualPairs.{dual_pair, swapped_pair}
use Rattle.om_laws.proofs.PairAxioms as pairs
use Rattle.om_laws.proofs.BaseLaws.{circuit_orthogonal}
use Rattle.om_laws.proofs.BridgeLaws.{as_function-as_list, as_function-negated, as_function-compose, orthogonal_lists}
use Rattle.om_laws.proofs.BridgeLaws.{conformal_lists, conformal_functions}
use Rattle.om_chirotope.specs.Map.{SignMap}
use Rattle.om_chirotope.specs.Chirotope.{IsChirotope}
use Rattle.om_chirotope.proofs.Theory.{theory_chirotope}
use Rattle.om_denotation.specs.Circuits.{IsCircuitOfChirotope, IsCocircuitOfChirotope}
use Rattle.om_denotation.specs.Covectors.{IsCovectorOfChirotope}
use Rattle.om_denotation.specs.FamilyAxioms.{HasCircuitAxioms, HasCovectorAxioms}
use Rattle.om_denotation.specs.Compositions.{HasConformingParts}
use Rattle.om_denotation.proofs.ListFunctions.{AreFunctionsOf, support_function, up_to_sign, negative_list}
use Rattle.om_denotation.proofs.ListFunctions.{zero_is_list, opposed, separated, eliminates}
use Rattle.om_denotation.proofs.ListFunctions.{eliminates_from_composition}
use Rattle.om_denotation.proofs.ChirotopeBridge.{tuples_of, same_lists, nonzero_list, circuit_length, circuit_function}
use Rattle.om_denotation.proofs.ChirotopeBridge.{circuit_supported, circuit_list, cocircuit_length, cocircuit_function}
use Rattle.om_denotation.proofs.ChirotopeBridge.{cocircuit_supported, cocircuit_list, covector_function, covector_list}

-- ---- families of lists and of their functions

module _ (n : ℕ) (P : List Sign → Type 0) (D : SignVector → Type 0) (of : AreFunctionsOf n P D) where
  -- a list whose function is one of the family
  member : (F : SignVector) → D F → (X : List Sign) → length X ≡ n → ((e : ℕ) → F e ≡ as_function X e) → P X
  member F f X l q =
      let u = of.list F f in
      subst P (same_lists n u.0 X (of.size u.0 u.1) l (λ e. sym (u.2 e) ∙ q e)) u.1

  pub family_axioms : CircuitAxioms D → HasCircuitAxioms P
  family_axioms axioms = record {
    nonzero = λ X x. nonzero_list X (axioms.nonzero (as_function X) (of.function X x));
    symmetric = λ X x. member (vectors.negated (as_function X)) (axioms.negation (as_function X) (of.function X x))
        (negated X) (length-map X opposite ∙ of.size X x) (λ e. sym (as_function-negated X e));
    incomparable = λ X Y x y sub. up_to_sign n X Y (of.size X x) (of.size Y y)
        (axioms.incomparable (as_function X) (as_function Y) (of.function X x) (of.function Y y)
        (support_function X Y sub));
    elimination = λ X Y x y other e low opposite_at.
        let z = axioms.elimination (as_function X) (as_function Y) (of.function X x) (of.function Y y)
        (λ q. other (negative_list n X Y (of.size X x) (of.size Y y) q)) (suc (e - 1)) (opposed X Y e opposite_at)
        in
        let u = of.list z.0 z.1 in
        (u.0, u.1, eliminates X Y e z.0 u.0 z.2 z.3 u.2);
  }

  pub family_covector_axioms : CovectorAxioms D → HasCovectorAxioms n P
  family_covector_axioms axioms = record {
    zero = member zero_vector axioms.zero (replicate n Zero) (length-replicate n Zero) (λ e. sym (zero_is_list n e));
    symmetric = λ X x. member (vectors.negated (as_function X)) (axioms.negation (as_function X) (of.function X x))
        (negated X) (length-map X opposite ∙ of.size X x) (λ e. sym (as_function-negated X e));
    compositions = λ X Y x y. member (composition (as_function X) (as_function Y))
        (axioms.composition_closed (as_function X) (as_function Y) (of.function X x) (of.function Y y))
        (compose X Y) (length-compose X Y (of.size X x ∙ sym (of.size Y y)) ∙ of.size X x)
        (λ e. sym (as_function-compose X Y e));
    elimination = λ X Y x y e low apart.
        let z = axioms.elimination (as_function X) (as_function Y) (of.function X x) (of.function Y y) (suc (e - 1))
        (separated X Y e apart) in
        let u = of.list z.0 z.1 in
        (u.0, u.1, eliminates_from_composition X Y e z.0 u.0 z.2 z.3 u.2);
  }

  -- what conforming functions say of a vector, conforming lists say of its list
  pub family_parts : (X : List Sign) → functions.HasConformingParts D (as_function X) ↔ HasConformingParts P X
  family_parts X = (λ h i n. list_part i (h (suc i) n), function_parts)
    where
      list_part : (i : ℕ) → (Y : SignVector) × D Y × (Y (suc i) ≡ at X i) × vectors.IsConformal Y (as_function X)
          → (Z : List Sign) × P Z × lists.IsConformal Z X × (at Z i ≡ at X i)
      list_part i (Y, y, q, conformal) =
          let u = of.list Y y in (
            u.0,
            u.1,
            conformal_lists u.0 X (λ e n. sym (u.2 e) ∙ conformal e (subst IsNonzero (sym (u.2 e)) n)),
            sym (u.2 (suc i)) ∙ q,
          )

      function_parts : HasConformingParts P X → functions.HasConformingParts D (as_function X)
      function_parts parts zero n = absurd (n refl)
      function_parts parts (suc i) n = let p = parts i n in
          (as_function p.0, of.function p.0 p.1, p.3, conformal_functions p.0 X p.2)

module _ (m : SignMap) where
  circuits_of : AreFunctionsOf m.elements (IsCircuitOfChirotope m) (IsCircuit (elements_to m.elements) (tuples_of m))
  circuits_of = record {
    size = circuit_length m;
    function = circuit_function m;
    list = λ Z z. (
      as_list m.elements Z,
      circuit_list m Z z,
      λ e. sym (as_function-as_list m.elements Z (circuit_supported m Z z) e),
    );
  }

  pub cocircuits_of : AreFunctionsOf m.elements (IsCocircuitOfChirotope m) (IsCocircuit (tuples_of m))
  cocircuits_of = record {
    size = cocircuit_length m;
    function = cocircuit_function m;
    list = λ Z z. (
      as_list m.elements Z,
      cocircuit_list m Z z,
      λ e. sym (as_function-as_list m.elements Z (cocircuit_supported m Z z) e),
    );
  }

  covectors_of : AreFunctionsOf m.elements (IsCovectorOfChirotope m) (IsCovector (elements_to m.elements) (tuples_of m))
  covectors_of = record {
    size = λ X x. x.size;
    function = covector_function m;
    list = λ Z z. (
      as_list m.elements Z,
      covector_list m Z z,
      λ e. sym (as_function-as_list m.elements Z z.supported e),
    );
  }

module _ (m : SignMap) (chirotope : IsChirotope m) where
  abbrev elements : List ℕ
  elements = elements_to m.elements

  pub axioms : theory.IsChirotope elements (tuples_of m)
  axioms = theory_chirotope m chirotope

  -- the circuits of a chirotope meet the axioms of circuits
  pub circuit_axioms : HasCircuitAxioms (IsCircuitOfChirotope m)
  circuit_axioms = family_axioms m.elements (IsCircuitOfChirotope m) (IsCircuit elements (tuples_of m)) (circuits_of m)
      (pairs.cocircuit_axioms elements (IsCocircuit (tuples_of m)) (IsCircuit elements (tuples_of m))
      (swapped_pair elements (tuples_of m) axioms))

  -- the cocircuits of a chirotope meet the axioms of circuits
  pub cocircuit_axioms : HasCircuitAxioms (IsCocircuitOfChirotope m)
  cocircuit_axioms = family_axioms m.elements (IsCocircuitOfChirotope m) (IsCocircuit (tuples_of m)) (cocircuits_of m)
      (pairs.cocircuit_axioms elements (IsCircuit elements (tuples_of m)) (IsCocircuit (tuples_of m))
      (dual_pair elements (tuples_of m) axioms))

  -- each circuit of a chirotope is orthogonal to each cocircuit
  pub orthogonal : (X Y : List Sign) → IsCircuitOfChirotope m X → IsCocircuitOfChirotope m Y → IsOrthogonal X Y
  orthogonal X Y x y =
      orthogonal_lists X Y
      (circuit_orthogonal elements (tuples_of m) axioms (as_function X) (as_function Y) (circuit_function m X x)
      (cocircuit_function m Y y))

  -- ---- covectors

  -- the covectors of a chirotope meet the axioms of covectors
  pub covector_axioms : HasCovectorAxioms m.elements (IsCovectorOfChirotope m)
  covector_axioms = family_covector_axioms m.elements (IsCovectorOfChirotope m) (IsCovector elements (tuples_of m))
      (covectors_of m)
      (pairs.covector_axioms elements (IsCircuit elements (tuples_of m)) (IsCocircuit (tuples_of m))
      (dual_pair elements (tuples_of m) axioms))
