-- Compositions of the covectors of a chirotope, denotations, and the cocircuits as the covectors of minimal support,
-- from functions to lists of signs.
--
-- Main results: cocircuit_covector, conformal_both, composition_both, orthogonal_both, parts_both, least_both
-- Reference: Björner, Las Vergnas, Sturmfels, White and Ziegler, Oriented Matroids, chapters 3 and 4.
use Rattle.std.proofs.Common.{ℕ, ◌≡◌, ◌-◌, ◌↔◌, List, [], ◌∷◌, length, replicate, refl, sym, ap, subst, ◌∙◌}
use Rattle.std.proofs.lemmas.List.{length-replicate}
use Rattle.om_signs.specs.declared.sign.Sign.{Sign}
use Rattle.om_signs.specs.declared.sign.Sign.TheVariants.{Zero}
use Rattle.om_signs.specs.Sign.{first_nonzero}
use Rattle.om_signs.specs.SignVec.{compose}
use Rattle.om_signs.proofs.ListPlaces.{length-compose}
use Rattle.om_laws.specs.Signs.{IsNonzero}
use Rattle.om_laws.specs.Vectors.{SignVector, composition, IsSupportedOn, Orthogonal}
use Rattle.om_laws.specs.Vectors as vectors
use Rattle.om_laws.specs.Chirotope.{elements_to}
use Rattle.om_laws.specs.Circuits.{IsCircuit, IsCocircuit}
use Rattle.om_laws.specs.Compositions as functions
use Rattle.om_laws.specs.Covectors.{IsCovector, IsMinimal}
use Rattle.om_laws.specs.Bridge.{as_function, as_list}
use Rattle.om_laws.proofs.DualPairs.{dual_pair}
use Rattle.om_laws.proofs.PairAxioms as pairs
use Rattle.om_laws.proofs.CovectorLaws as covectors
use Rattle.om_laws.proofs.BridgeLaws.{as_function-as_list, as_function-compose, orthogonal_lists, orthogonal_functions}
use Rattle.om_laws.proofs.BridgeLaws.{conformal_lists, length-as_list}
use Rattle.om_laws.proofs.VectorLaws.{orthogonal_same}
use Rattle.om_chirotope.specs.Map.{SignMap}
use Rattle.om_chirotope.specs.Chirotope.{IsChirotope}
use Rattle.om_denotation.specs.Circuits.{IsCircuitOfChirotope, IsCocircuitOfChirotope}
use Rattle.om_denotation.specs.Covectors.{IsCovectorOfChirotope}
use Rattle.om_denotation.specs.Compositions.{IsCompositionOf, none, front, IsConforming, HasConformingParts}
use Rattle.om_denotation.specs.Compositions.{IsOrthogonalToEach, IsOfLeastSupport}
use Rattle.om_denotation.proofs.ListFunctions.{support_function, support_list, zero_is_list}
use Rattle.om_denotation.proofs.ChirotopeBridge.{tuples_of, same_lists, list_supported, nonzero_function, nonzero_list}
use Rattle.om_denotation.proofs.ChirotopeBridge.{circuit_function, circuit_supported, circuit_list, cocircuit_length}
use Rattle.om_denotation.proofs.ChirotopeBridge.{cocircuit_function, cocircuit_of_function, cocircuit_supported}
use Rattle.om_denotation.proofs.ChirotopeBridge.{cocircuit_list, covector_function, covector_of_function, covector_list}
use Rattle.om_denotation.proofs.FamilyAxioms.{family_parts, cocircuits_of, axioms, covector_axioms}

module _ (m : SignMap) (chirotope : IsChirotope m) where
  abbrev elements : List ℕ
  elements = elements_to m.elements

  -- ---- compositions

  -- a cocircuit is a covector
  pub cocircuit_covector : (X : List Sign) → IsCocircuitOfChirotope m X → IsCovectorOfChirotope m X
  cocircuit_covector X x = covector_of_function m X (cocircuit_length m X x)
      (pairs.cocircuit_is_covector elements (IsCircuit elements (tuples_of m)) (IsCocircuit (tuples_of m))
      (dual_pair elements (tuples_of m) (axioms m chirotope)) (as_function X) (cocircuit_function m X x))

  composed : (P : List Sign → Type 0) → ((Y : List Sign) → P Y → IsCovectorOfChirotope m Y) → (X : List Sign)
      → IsCompositionOf m.elements P X → IsCovectorOfChirotope m X
  composed P each X none = (covector_axioms m chirotope).zero
  composed P each X (front Y Z y z) = (covector_axioms m chirotope).compositions Y Z (each Y y) (composed P each Z z)

  list_of_composition : (P : List Sign → Type 0) (D : SignVector → Type 0)
      → ((F : SignVector) → D F → P (as_list m.elements F)) → ((F : SignVector) → D F → IsSupportedOn elements F)
      → (Ys : List SignVector) → functions.EachVector D Ys → (X : List Sign) × IsCompositionOf m.elements P X
      × (length X ≡ m.elements) × ((e : ℕ) → as_function X e ≡ functions.composition_of Ys e)
  list_of_composition P D to sup [] each =
      (replicate m.elements Zero, none, length-replicate m.elements Zero, zero_is_list m.elements)
  list_of_composition P D to sup (Y ∷ Ys) (y, each) = joined (list_of_composition P D to sup Ys each)
    where
      joined : (X : List Sign) × IsCompositionOf m.elements P X × (length X ≡ m.elements)
          × ((e : ℕ) → as_function X e ≡ functions.composition_of Ys e)
          → (X : List Sign) × IsCompositionOf m.elements P X × (length X ≡ m.elements)
          × ((e : ℕ) → as_function X e ≡ composition Y (functions.composition_of Ys) e)
      joined (X, c, l, q) = (
        compose (as_list m.elements Y) X,
        front (as_list m.elements Y) X (to Y y) c,
        length-compose (as_list m.elements Y) X (length-as_list m.elements Y ∙ sym l) ∙ length-as_list m.elements Y,
        λ e. as_function-compose (as_list m.elements Y) X e
            ∙ ap (λ s. first_nonzero s (as_function X e)) (as_function-as_list m.elements Y (sup Y y) e)
            ∙ ap (first_nonzero (Y e)) (q e),
      )

  -- the covectors are the compositions of cocircuits that conform to them
  pub conformal_both : (X : List Sign) → IsCovectorOfChirotope m X
      ↔ IsCompositionOf m.elements (IsConforming (IsCocircuitOfChirotope m) X) X
  conformal_both X = (
    λ x. same (decomposed x).0 x.size
        (list_of_composition (IsConforming (IsCocircuitOfChirotope m) X)
        (functions.IsConforming (IsCocircuit (tuples_of m)) (as_function X)) to (λ F d. cocircuit_supported m F d.0)
        (decomposed x).0 (decomposed x).1) (decomposed x).2,
    composed (IsConforming (IsCocircuitOfChirotope m) X) (λ Y y. cocircuit_covector Y y.0) X,
  )
    where
      decomposed : IsCovectorOfChirotope m X
          → functions.IsConformalComposition (IsCocircuit (tuples_of m)) (as_function X)
      decomposed x =
          (covectors.conformal_both elements (IsCircuit elements (tuples_of m)) (IsCocircuit (tuples_of m))
          (dual_pair elements (tuples_of m) (axioms m chirotope)) (as_function X)).0 (covector_function m X x)

      to : (F : SignVector) → functions.IsConforming (IsCocircuit (tuples_of m)) (as_function X) F
          → IsConforming (IsCocircuitOfChirotope m) X (as_list m.elements F)
      to F d = (
        cocircuit_list m F d.0,
        conformal_lists (as_list m.elements F) X (λ e n.
            let back = as_function-as_list m.elements F (cocircuit_supported m F d.0) e in
            back ∙ d.1 e (subst IsNonzero back n)),
      )

      same : (Ys : List SignVector) → length X ≡ m.elements → (Z : List Sign)
          × IsCompositionOf m.elements (IsConforming (IsCocircuitOfChirotope m) X) Z × (length Z ≡ m.elements)
          × ((e : ℕ) → as_function Z e ≡ functions.composition_of Ys e)
          → ((e : ℕ) → as_function X e ≡ functions.composition_of Ys e)
          → IsCompositionOf m.elements (IsConforming (IsCocircuitOfChirotope m) X) X
      same Ys l (Z, c, k, q) p =
          subst (IsCompositionOf m.elements (IsConforming (IsCocircuitOfChirotope m) X))
          (same_lists m.elements Z X k l (λ e. q e ∙ sym (p e))) c

  -- the covectors are the compositions of cocircuits
  pub composition_both : (X : List Sign) → IsCovectorOfChirotope m X
      ↔ IsCompositionOf m.elements (IsCocircuitOfChirotope m) X
  composition_both X = (λ x. plain X ((conformal_both X).0 x), composed (IsCocircuitOfChirotope m) cocircuit_covector X)
    where
      plain : (Z : List Sign) → IsCompositionOf m.elements (IsConforming (IsCocircuitOfChirotope m) X) Z
          → IsCompositionOf m.elements (IsCocircuitOfChirotope m) Z
      plain Z none = none
      plain Z (front Y W y w) = front Y W y.0 (plain W w)

  -- ---- denotations

  -- the covectors are the lists of a sign for each element that are orthogonal to every circuit
  pub orthogonal_both : (X : List Sign) → length X ≡ m.elements → IsCovectorOfChirotope m X
      ↔ IsOrthogonalToEach (IsCircuitOfChirotope m) X
  orthogonal_both X l = (
    λ x Y y. orthogonal_lists X Y ((covector_function m X x).orthogonal (as_function Y) (circuit_function m Y y)),
    λ each. covector_of_function m X l
        (record { orthogonal = λ F f. to_function each F f; supported = list_supported m.elements X l }),
  )
    where
      to_function : IsOrthogonalToEach (IsCircuitOfChirotope m) X → (F : SignVector)
          → IsCircuit elements (tuples_of m) F → Orthogonal (as_function X) F
      to_function each F f =
          orthogonal_same (as_function X) (as_function X) F (as_function (as_list m.elements F)) (λ e. refl)
          (λ e. sym (as_function-as_list m.elements F (circuit_supported m F f) e))
          (orthogonal_functions X (as_list m.elements F) (each (as_list m.elements F) (circuit_list m F f)))

  -- a sign for each element is a covector exactly where cocircuits that conform to it give its support
  pub parts_both : (X : List Sign) → length X ≡ m.elements → IsCovectorOfChirotope m X
      ↔ HasConformingParts (IsCocircuitOfChirotope m) X
  parts_both X l =
      (λ x. parts.0 (both.0 (covector_function m X x)), λ h. covector_of_function m X l (both.1 (parts.1 h)))
    where
      both : IsCovector elements (tuples_of m) (as_function X)
          ↔ functions.HasConformingParts (IsCocircuit (tuples_of m)) (as_function X)
      both = covectors.parts_both elements (IsCircuit elements (tuples_of m)) (IsCocircuit (tuples_of m))
          (dual_pair elements (tuples_of m) (axioms m chirotope)) (as_function X)

      parts : functions.HasConformingParts (IsCocircuit (tuples_of m)) (as_function X)
          ↔ HasConformingParts (IsCocircuitOfChirotope m) X
      parts = family_parts m.elements (IsCocircuitOfChirotope m) (IsCocircuit (tuples_of m)) (cocircuits_of m) X

  -- ---- minimal support

  minimal_both : (F : SignVector) → IsCocircuit (tuples_of m) F ↔ IsMinimal (IsCovector elements (tuples_of m)) F
  minimal_both = covectors.minimal_both elements (IsCircuit elements (tuples_of m)) (IsCocircuit (tuples_of m))
      (dual_pair elements (tuples_of m) (axioms m chirotope)) (covectors.cocircuit_same (tuples_of m))

  -- the cocircuits are the nonzero covectors of minimal support
  pub least_both : (X : List Sign) → IsCocircuitOfChirotope m X ↔ IsOfLeastSupport (IsCovectorOfChirotope m) X
  least_both X = (
    λ x. let least = ((minimal_both (as_function X)).0 (cocircuit_function m X x)).least in record {
      member = cocircuit_covector X x;
      nonzero = x.nonzero;
      least = λ Y y nonzero sub. support_list X Y
          (least (as_function Y) (covector_function m Y y) (nonzero_function Y nonzero) (support_function Y X sub));
    },
    λ h. cocircuit_of_function m X h.member.size ((minimal_both (as_function X)).1 (record {
      member = covector_function m X h.member;
      nonzero = nonzero_function X h.nonzero;
      least = λ F f nonzero sub. least_function h F f nonzero sub;
    })),
  )
    where
      least_function : IsOfLeastSupport (IsCovectorOfChirotope m) X → (F : SignVector)
          → IsCovector elements (tuples_of m) F → vectors.HasNonzero F → vectors.HasSupportIn F (as_function X)
          → vectors.HasSupportIn (as_function X) F
      least_function h F f nonzero sub e n =
          let back = as_function-as_list m.elements F f.supported in
          subst IsNonzero (back e)
          (support_function X (as_list m.elements F) (h.least (as_list m.elements F) (covector_list m F f)
          (nonzero_list (as_list m.elements F) (nonzero.0, subst IsNonzero (sym (back nonzero.0)) nonzero.1))
          (support_list (as_list m.elements F) X (λ g k. sub g (subst IsNonzero (back g) k)))) e n)
