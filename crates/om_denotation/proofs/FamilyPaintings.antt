-- The painting lemma for circuits and cocircuits of a chirotope, from functions to lists of signs.
--
-- Main results: painting_one, painting_both
-- Reference: Björner, Las Vergnas, Sturmfels, White and Ziegler, Oriented Matroids, chapters 3 and 4.
use Rattle.std.proofs.Common.{ℕ, suc, ◌≡◌, ◌-◌, ◌<◌, ◌≤◌, ◌⊎◌, List, cond, refl, sym, subst, ◌∙◌, inl, inr, ⊎_elim}
use Rattle.std.proofs.Common.{arith}
use Rattle.std.proofs.lemmas.Bool.{cases_lt, lt-ltb, le-ltb}
use Rattle.om_signs.specs.declared.sign.Sign.{Sign}
use Rattle.om_signs.specs.SignVec.{at_element}
use Rattle.om_signs.proofs.SignLaws.{zero_or_nonzero}
use Rattle.om_laws.specs.Signs.{IsNonzero}
use Rattle.om_laws.specs.Members.{IsMember}
use Rattle.om_laws.specs.Vectors.{SignVector, IsSupportedOn}
use Rattle.om_laws.specs.Chirotope.{elements_to}
use Rattle.om_laws.specs.Circuits.{IsCircuit, IsCocircuit}
use Rattle.om_laws.specs.Colours.{Colour, white, IsColoured, CircuitMay, CocircuitMay, SomeCircuit, SomeCocircuit}
use Rattle.om_laws.specs.Sorting.{IsElement, is_element}
use Rattle.om_laws.specs.Bridge.{as_function, as_list}
use Rattle.om_laws.proofs.DualPairs.{dual_pair}
use Rattle.om_laws.proofs.PaintingLaws as paintings
use Rattle.om_laws.proofs.ChirotopeLaws.{member_from_element, element_from_member}
use Rattle.om_laws.proofs.BridgeLaws.{as_function-as_list}
use Rattle.om_chirotope.specs.Map.{SignMap}
use Rattle.om_chirotope.specs.Chirotope.{IsChirotope}
use Rattle.om_denotation.specs.Painting.{IsFittingCircuit, IsFittingCocircuit}
use Rattle.om_denotation.proofs.ListFunctions.{place_function}
use Rattle.om_denotation.proofs.ChirotopeBridge.{tuples_of, list_supported, circuit_length, circuit_function}
use Rattle.om_denotation.proofs.ChirotopeBridge.{circuit_supported, circuit_list, cocircuit_function}
use Rattle.om_denotation.proofs.ChirotopeBridge.{cocircuit_supported, cocircuit_list}
use Rattle.om_denotation.proofs.FamilyAxioms.{axioms}

module _ (m : SignMap) (chirotope : IsChirotope m) where
  abbrev elements : List ℕ
  elements = elements_to m.elements

  -- ---- painting

  -- the colours of the elements, and white elsewhere
  painted : (ℕ → Colour) → ℕ → Colour
  painted colour f = cond (is_element m.elements f) (colour f) white

  painted_on : (colour : ℕ → Colour) (f : ℕ) → IsElement m.elements f → painted colour f ≡ colour f
  unfolding painted
  painted_on colour f i =
      let low : 0 < f = let k = i.0 in omega arith in
      let high : f < suc m.elements = let k = i.1 in omega arith in
      rw (lt-ltb 0 f low, lt-ltb f (suc m.elements) high) refl

  painted_cases : (colour : ℕ → Colour) (f : ℕ) → IsElement m.elements f
      ⊎ ((IsElement m.elements f → ⊥) × (painted colour f ≡ white))
  unfolding painted
  painted_cases colour f = elim (cases_lt 0 f) [
    | inl low ↦ elim (cases_lt f (suc m.elements)) [
      | inl high ↦ inl (omega arith, omega arith)
      | inr above ↦
          inr ((λ i. let k = i.1 in omega (arith, above, k)), rw (lt-ltb 0 f low, le-ltb f (suc m.elements) above) refl)
    ]
    | inr below ↦ inr ((λ i. let k = i.0 in omega (arith, below, k)), rw (le-ltb 0 f below) refl)
  ]

  module _ (colour : ℕ → Colour) (e : ℕ) (element : IsElement m.elements e) (coloured : IsColoured (colour e)) where
    painted_here : IsColoured (painted colour e)
    painted_here = subst IsColoured (sym (painted_on colour e element)) coloured

    on_elements : (f : ℕ) → IsColoured (painted colour f) → IsMember f elements
    on_elements f k = ⊎_elim (λ i. member_from_element m.elements f i) (λ n. absurd (subst IsColoured n.1 k))
        (painted_cases colour f)

    listed_sign : (F : SignVector) → IsSupportedOn elements F → (f : ℕ) → 1 ≤ f
        → at_element (as_list m.elements F) f ≡ F f
    listed_sign F sup f low = place_function (as_list m.elements F) f low ∙ as_function-as_list m.elements F sup f

    -- if e is red or green, some circuit or some cocircuit through e fits the colours
    pub painting_one : ((X : List Sign) × IsFittingCircuit m colour e X)
        ⊎ ((Y : List Sign) × IsFittingCocircuit m colour e Y)
    painting_one = ⊎_elim (λ x. inl (circuit_of x)) (λ y. inr (cocircuit_of y))
        (paintings.painting elements (IsCircuit elements (tuples_of m)) (IsCocircuit (tuples_of m))
        (dual_pair elements (tuples_of m) (axioms m chirotope)) (painted colour) e
        (member_from_element m.elements e element)
        painted_here on_elements)
      where
        circuit_of : SomeCircuit (IsCircuit elements (tuples_of m)) (painted colour) e → (X : List Sign)
            × IsFittingCircuit m colour e X
        circuit_of (F, c, n, may) =
            let sign = listed_sign F (circuit_supported m F c) in (
              as_list m.elements F,
              record {
                circuit = circuit_list m F c;
                through = subst IsNonzero (sym (sign e element.0)) n;
                fits = λ f low high. subst (CircuitMay (colour f)) (sym (sign f low))
                    (subst (λ k. CircuitMay k (F f)) (painted_on colour f (low, high)) (may f));
              },
            )

        cocircuit_of : SomeCocircuit (IsCocircuit (tuples_of m)) (painted colour) e → (Y : List Sign)
            × IsFittingCocircuit m colour e Y
        cocircuit_of (F, c, n, may) =
            let sign = listed_sign F (cocircuit_supported m F c) in (
              as_list m.elements F,
              record {
                cocircuit = cocircuit_list m F c;
                through = subst IsNonzero (sym (sign e element.0)) n;
                fits = λ f low high. subst (CocircuitMay (colour f)) (sym (sign f low))
                    (subst (λ k. CocircuitMay k (F f)) (painted_on colour f (low, high)) (may f));
              },
            )

    -- if e is red or green, no circuit through e and cocircuit through e both fit the colours
    pub painting_both : (X Y : List Sign) → IsFittingCircuit m colour e X → IsFittingCocircuit m colour e Y → ⊥
    painting_both X Y x y = paintings.not_both elements (IsCircuit elements (tuples_of m)) (IsCocircuit (tuples_of m))
        (dual_pair elements (tuples_of m) (axioms m chirotope)) (painted colour) e painted_here (
          as_function X,
          circuit_function m X x.circuit,
          subst IsNonzero (place_function X e element.0) x.through,
          circuit_may,
        ) (
          as_function Y,
          cocircuit_function m Y y.cocircuit,
          subst IsNonzero (place_function Y e element.0) y.through,
          cocircuit_may,
        )
      where
        circuit_may : (f : ℕ) → CircuitMay (painted colour f) (as_function X f)
        circuit_may f = ⊎_elim
            (λ i. subst (λ k. CircuitMay k (as_function X f)) (sym (painted_on colour f i))
            (subst (CircuitMay (colour f)) (place_function X f i.0) (x.fits f i.0 i.1)))
            (λ n. subst (λ k. CircuitMay k (as_function X f)) (sym n.1)
            (⊎_elim (λ z. z)
            (λ k. absurd
            (n.0 (element_from_member m.elements f
            (list_supported m.elements X (circuit_length m X x.circuit) f k))))
            (zero_or_nonzero (as_function X f))))
            (painted_cases colour f)

        cocircuit_may : (f : ℕ) → CocircuitMay (painted colour f) (as_function Y f)
        cocircuit_may f = ⊎_elim
            (λ i. subst (λ k. CocircuitMay k (as_function Y f)) (sym (painted_on colour f i))
            (subst (CocircuitMay (colour f)) (place_function Y f i.0) (y.fits f i.0 i.1)))
            (λ n. subst (λ k. CocircuitMay k (as_function Y f)) (sym n.1) tt)
            (painted_cases colour f)
