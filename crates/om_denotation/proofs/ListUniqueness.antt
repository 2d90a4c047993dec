-- Lists of circuits, of cocircuits and of covectors that denote the same have the same members.
--
-- Main results: circuits and cocircuits of equal or opposite maps (circuits_up_to_sign, cocircuits_up_to_sign);
-- one_list_of_circuits, one_list_of_cocircuits, one_list_of_covectors.
-- Reference: Björner, Las Vergnas, Sturmfels, White and Ziegler, Oriented Matroids, chapter 3.
use Rattle.std.specs.List.{Contains}
use Rattle.std.proofs.lemmas.List.Elements.{All-contains}
use Rattle.std.proofs.Common.{ℕ, ◌≡◌, ◌↔◌, ◌⊎◌, List, length, sym, subst, ◌∙◌, inl, inr}
use Rattle.om_signs.specs.declared.sign.Sign.{Sign}
use Rattle.om_laws.specs.Chirotope.{elements_to}
use Rattle.om_laws.specs.Circuits.{IsCircuit, IsCocircuit}
use Rattle.om_laws.specs.Reorientation.{negative}
use Rattle.om_laws.specs.Bridge.{as_function}
use Rattle.om_laws.proofs.NegationLaws.{negative_circuit, circuit_negative, negative_cocircuit, cocircuit_negative}
use Rattle.om_chirotope.specs.Map.{SignMap, negated}
use Rattle.om_members.specs.Listings.{Listing, HaveLength}
use Rattle.om_circuits.specs.Axioms.{MeetsCircuitAxioms}
use Rattle.om_denotation.specs.Circuits.{IsCircuitOfChirotope, IsCocircuitOfChirotope}
use Rattle.om_denotation.specs.Covectors.{IsCovectorOfChirotope, IsCovectorOfCircuits, IsCovectorOfCocircuits}
use Rattle.om_denotation.specs.Covectors.{IsCovectorOfCovectors}
use Rattle.om_denotation.specs.Denotation.{DenoteTheSame}
use Rattle.om_denotation.specs.Existence.{HasCircuits, HasCocircuits}
use Rattle.om_denotation.proofs.ChirotopeBridge.{tuples_of, circuit_function, circuit_of_function, circuit_length}
use Rattle.om_denotation.proofs.ChirotopeBridge.{cocircuit_function, cocircuit_of_function, cocircuit_length}
use Rattle.om_denotation.proofs.ListExistence.{of_circuits, of_cocircuits}
use Rattle.om_denotation.proofs.NormalForms.{tuples_negated}
use Rattle.om_denotation.proofs.Rules.{same_maps}
use Rattle.om_denotation.proofs.Uniqueness.{same_by_covectors}

-- ---- the negative of a map

negated_tuples : (m : SignMap) → tuples_of (negated m) ≡ negative (tuples_of m)
negated_tuples m = same_maps (tuples_of (negated m)) (negative (tuples_of m)) (tuples_negated m)

pub circuit_of_negated : (m : SignMap) (X : List Sign) → IsCircuitOfChirotope m X ↔ IsCircuitOfChirotope (negated m) X
circuit_of_negated m X = (
  λ c. circuit_of_function (negated m) X (circuit_length m X c)
      (subst (λ f. IsCircuit (elements_to m.elements) f (as_function X)) (sym (negated_tuples m))
      (negative_circuit (elements_to m.elements) (tuples_of m) (as_function X) (circuit_function m X c))),
  λ c. circuit_of_function m X (circuit_length (negated m) X c)
      (circuit_negative (elements_to m.elements) (tuples_of m) (as_function X)
      (subst (λ f. IsCircuit (elements_to m.elements) f (as_function X)) (negated_tuples m)
      (circuit_function (negated m) X c))),
)

-- a map and its negative have the same cocircuits
pub cocircuit_of_negated : (m : SignMap) (X : List Sign) → IsCocircuitOfChirotope m X
    ↔ IsCocircuitOfChirotope (negated m) X
cocircuit_of_negated m X = (
  λ c. cocircuit_of_function (negated m) X (cocircuit_length m X c)
      (subst (λ f. IsCocircuit f (as_function X)) (sym (negated_tuples m))
      (negative_cocircuit (elements_to m.elements) (tuples_of m) (as_function X) (cocircuit_function m X c))),
  λ c. cocircuit_of_function m X (cocircuit_length (negated m) X c)
      (cocircuit_negative (elements_to m.elements) (tuples_of m) (as_function X)
      (subst (λ f. IsCocircuit f (as_function X)) (negated_tuples m) (cocircuit_function (negated m) X c))),
)

pub circuits_up_to_sign : (m k : SignMap) → (k ≡ m) ⊎ (k ≡ negated m) → (X : List Sign) → IsCircuitOfChirotope m X
    ↔ IsCircuitOfChirotope k X
circuits_up_to_sign m k (inl q) X =
    subst (λ j. IsCircuitOfChirotope m X ↔ IsCircuitOfChirotope j X) (sym q) (λ c. c, λ c. c)
circuits_up_to_sign m k (inr q) X =
    subst (λ j. IsCircuitOfChirotope m X ↔ IsCircuitOfChirotope j X) (sym q) (circuit_of_negated m X)

pub cocircuits_up_to_sign : (m k : SignMap) → (k ≡ m) ⊎ (k ≡ negated m) → (X : List Sign) → IsCocircuitOfChirotope m X
    ↔ IsCocircuitOfChirotope k X
cocircuits_up_to_sign m k (inl q) X =
    subst (λ j. IsCocircuitOfChirotope m X ↔ IsCocircuitOfChirotope j X) (sym q) (λ c. c, λ c. c)
cocircuits_up_to_sign m k (inr q) X =
    subst (λ j. IsCocircuitOfChirotope m X ↔ IsCocircuitOfChirotope j X) (sym q) (cocircuit_of_negated m X)

-- ---- lists

-- two chirotopes that denote the same as two things that denote the same
pub chained : (n : ℕ) (A B P Q : List Sign → Type 0) → DenoteTheSame n A P → DenoteTheSame n B Q → DenoteTheSame n A B
    → DenoteTheSame n P Q
chained n A B P Q a b h X l = (λ p. (b X l).0 ((h X l).0 ((a X l).1 p)), λ q. (a X l).0 ((h X l).1 ((b X l).1 q)))

-- lists on as many elements with the axioms of circuits that denote the same as circuits have the same members
pub one_list_of_circuits : (c d : Listing) → HaveLength c.elements c.members → HaveLength d.elements d.members
    → MeetsCircuitAxioms c.members → MeetsCircuitAxioms d.members
    → d.elements ≡ c.elements → DenoteTheSame c.elements (IsCovectorOfCircuits c) (IsCovectorOfCircuits d)
    → (X : List Sign) → Contains c.members X ↔ Contains d.members X
one_list_of_circuits c d lc ld ac ad e same X = of_both (of_circuits c lc ac) (of_circuits d ld ad)
  where
    of_both : (m : SignMap) × HasCircuits c m → (k : SignMap) × HasCircuits d k → Contains c.members X
        ↔ Contains d.members X
    of_both (m, hm) (k, hk) =
        let which =
        circuits_up_to_sign m k (same_by_covectors m k hm.axioms hk.axioms (hk.elements ∙ e ∙ sym hm.elements)
        (subst (λ n. DenoteTheSame n (IsCovectorOfChirotope m) (IsCovectorOfChirotope k)) (sym hm.elements)
        (chained c.elements (IsCovectorOfCircuits c) (IsCovectorOfCircuits d) (IsCovectorOfChirotope m)
        (IsCovectorOfChirotope k) hm.same
        (subst (λ n. DenoteTheSame n (IsCovectorOfCircuits d) (IsCovectorOfChirotope k)) e hk.same) same))) X in (
          λ x. hk.members.complete X (which.0 (hm.members.sound X x)),
          λ x. hm.members.complete X (which.1 (hk.members.sound X x)),
        )

-- lists on as many elements with the axioms of circuits that denote the same as cocircuits have the same members
pub one_list_of_cocircuits : (c d : Listing) → HaveLength c.elements c.members → HaveLength d.elements d.members
    → MeetsCircuitAxioms c.members → MeetsCircuitAxioms d.members
    → d.elements ≡ c.elements → DenoteTheSame c.elements (IsCovectorOfCocircuits c) (IsCovectorOfCocircuits d)
    → (X : List Sign) → Contains c.members X ↔ Contains d.members X
one_list_of_cocircuits c d lc ld ac ad e same X = of_both (of_cocircuits c lc ac) (of_cocircuits d ld ad)
  where
    of_both : (m : SignMap) × HasCocircuits c m → (k : SignMap) × HasCocircuits d k → Contains c.members X
        ↔ Contains d.members X
    of_both (m, hm) (k, hk) =
        let which =
        cocircuits_up_to_sign m k (same_by_covectors m k hm.axioms hk.axioms (hk.elements ∙ e ∙ sym hm.elements)
        (subst (λ n. DenoteTheSame n (IsCovectorOfChirotope m) (IsCovectorOfChirotope k)) (sym hm.elements)
        (chained c.elements (IsCovectorOfCocircuits c) (IsCovectorOfCocircuits d) (IsCovectorOfChirotope m)
        (IsCovectorOfChirotope k) hm.same
        (subst (λ n. DenoteTheSame n (IsCovectorOfCocircuits d) (IsCovectorOfChirotope k)) e hk.same) same))) X in (
          λ x. hk.members.complete X (which.0 (hm.members.sound X x)),
          λ x. hm.members.complete X (which.1 (hk.members.sound X x)),
        )

-- lists on as many elements that denote the same as covectors have the same members
pub one_list_of_covectors : (c d : Listing) → HaveLength c.elements c.members → HaveLength d.elements d.members
    → d.elements ≡ c.elements → DenoteTheSame c.elements (IsCovectorOfCovectors c) (IsCovectorOfCovectors d)
    → (X : List Sign) → Contains c.members X ↔ Contains d.members X
one_list_of_covectors c d lc ld e same X = (
  λ x. let l = All-contains (λ Y. length Y ≡ c.elements) c.members X lc x in
      ((same X l).0 (record { size = l; member = x })).member,
  λ x. let l = All-contains (λ Y. length Y ≡ d.elements) d.members X ld x in
      ((same X (l ∙ e)).1 (record { size = l; member = x })).member,
)
