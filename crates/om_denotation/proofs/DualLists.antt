-- Circuits and cocircuits of the dual, and lists read as the other kind.
--
-- Main results: the circuits of the dual are the cocircuits, and its cocircuits are the circuits (circuit_of_dual,
-- cocircuit_of_dual); a list of circuits, read as cocircuits, denotes the dual (dual_of_circuits), and so does a list
-- of cocircuits, read as circuits (dual_of_cocircuits); the circuits of what denotes the same as a chirotope
-- (circuits_of).
-- Reference: Björner, Las Vergnas, Sturmfels, White and Ziegler, Oriented Matroids, chapter 3.
use Rattle.std.proofs.Common.{ℕ, ◌≡◌, ◌↔◌, ◌⊎◌, List, refl, sym, ap, subst, ◌∙◌, inl, inr}
use Rattle.om_signs.specs.declared.sign.Sign.{Sign}
use Rattle.om_signs.specs.declared.sign.Sign.TheVariants.{Minus, Plus}
use Rattle.om_laws.specs.Chirotope.{elements_to}
use Rattle.om_laws.specs.Circuits.{IsCircuit, IsCocircuit}
use Rattle.om_laws.specs.Dual.{dual_map}
use Rattle.om_laws.specs.Bridge.{as_function}
use Rattle.om_laws.proofs.ChirotopeLaws.{elements_distinct}
use Rattle.om_laws.proofs.DualLaws.{dual_circuit, cocircuit_dual, dual_cocircuit, circuit_dual}
use Rattle.om_chirotope.specs.Map.{SignMap, negated, IsLedBy}
use Rattle.om_chirotope.specs.Chirotope.{IsChirotope, IsAllZero}
use Rattle.om_chirotope.proofs.Negation.{leader, led_negated}
use Rattle.om_chirotope.proofs.Axioms.{not_all_zero}
use Rattle.om_chirotope.proofs.Theory.{theory_chirotope}
use Rattle.om_members.specs.Listings.{Listing, HaveLength}
use Rattle.om_circuits.specs.Axioms.{MeetsCircuitAxioms}
use Rattle.om_denotation.specs.Circuits.{IsCircuitOfChirotope, IsCocircuitOfChirotope}
use Rattle.om_denotation.specs.Compositions.{IsOfLeastSupport}
use Rattle.om_denotation.specs.Covectors.{IsCovectorOfChirotope, IsCovectorOfCircuits, IsCovectorOfCocircuits}
use Rattle.om_denotation.specs.Denotation.{DenoteTheSame}
use Rattle.om_denotation.specs.Existence.{HasCircuits, HasCocircuits}
use Rattle.om_denotation.specs.Maps.{IsNormalFormOf}
use Rattle.om_denotation.specs.Dual.{dual_of}
use Rattle.om_denotation.specs.Operations.{IsDual}
use Rattle.om_denotation.specs.Vectors.{IsVectorOf}
use Rattle.om_denotation.proofs.ChirotopeBridge.{tuples_of, circuit_length, circuit_function, circuit_of_function}
use Rattle.om_denotation.proofs.ChirotopeBridge.{cocircuit_length, cocircuit_function, cocircuit_of_function}
use Rattle.om_denotation.proofs.DualMaps.{dual_tuples, dual_axioms, is_dual}
use Rattle.om_denotation.proofs.FamilyLaws.{parts_both, orthogonal_both, least_both}
use Rattle.om_denotation.proofs.ListExistence.{of_circuits, of_cocircuits}
use Rattle.om_denotation.proofs.ListUniqueness.{circuits_up_to_sign, cocircuits_up_to_sign}
use Rattle.om_denotation.proofs.NormalForms.{normal_elements}
use Rattle.om_denotation.proofs.Rules.{same_maps}
use Rattle.om_denotation.proofs.Uniqueness.{normal_axioms}

module _ (m : SignMap) (om : IsChirotope m) where
  dual_maps : tuples_of (dual_of m) ≡ dual_map (elements_to m.elements) (tuples_of m)
  dual_maps = same_maps (tuples_of (dual_of m)) (dual_map (elements_to m.elements) (tuples_of m)) (dual_tuples m om)

  pub circuit_of_dual : (X : List Sign) → IsCircuitOfChirotope (dual_of m) X ↔ IsCocircuitOfChirotope m X
  circuit_of_dual X = (
    λ c. cocircuit_of_function m X (circuit_length (dual_of m) X c)
        (dual_circuit (elements_to m.elements) (elements_distinct m.elements) (tuples_of m) (theory_chirotope m om)
        (as_function X)
        (subst (λ f. IsCircuit (elements_to m.elements) f (as_function X)) dual_maps
        (circuit_function (dual_of m) X c))),
    λ c. circuit_of_function (dual_of m) X (cocircuit_length m X c)
        (subst (λ f. IsCircuit (elements_to m.elements) f (as_function X)) (sym dual_maps)
        (cocircuit_dual (elements_to m.elements) (elements_distinct m.elements) (tuples_of m) (theory_chirotope m om)
        (as_function X) (cocircuit_function m X c))),
  )

  pub cocircuit_of_dual : (X : List Sign) → IsCocircuitOfChirotope (dual_of m) X ↔ IsCircuitOfChirotope m X
  cocircuit_of_dual X = (
    λ c. circuit_of_function m X (cocircuit_length (dual_of m) X c)
        (dual_cocircuit (elements_to m.elements) (elements_distinct m.elements) (tuples_of m) (theory_chirotope m om)
        (as_function X)
        (subst (λ f. IsCocircuit f (as_function X)) dual_maps (cocircuit_function (dual_of m) X c))),
    λ c. cocircuit_of_function (dual_of m) X (circuit_length m X c)
        (subst (λ f. IsCocircuit f (as_function X)) (sym dual_maps)
        (circuit_dual (elements_to m.elements) (elements_distinct m.elements) (tuples_of m) (theory_chirotope m om)
        (as_function X) (circuit_function m X c))),
  )

  -- the normal form of the dual
  pub normal_dual : (d : SignMap) × IsNormalFormOf (dual_of m) d
  normal_dual = by_leader (leader (dual_of m).signs)
    where
      by_leader : IsLedBy Plus (dual_of m).signs ⊎ IsLedBy Minus (dual_of m).signs ⊎ IsAllZero (dual_of m).signs
          → (d : SignMap) × IsNormalFormOf (dual_of m) d
      by_leader (inl p) = (dual_of m, record { same = inl refl; normal = p })
      by_leader (inr (inl p)) =
          (negated (dual_of m), record { same = inr refl; normal = led_negated (dual_of m).signs p })
      by_leader (inr (inr z)) = absurd (not_all_zero (dual_of m) (dual_axioms m om).whole z (dual_axioms m om).nonzero)

  module _ (d : SignMap) (h : IsNormalFormOf (dual_of m) d) where
    -- the circuits of a normal form of the dual are the cocircuits of the map
    pub circuit_both : (X : List Sign) → IsCircuitOfChirotope d X ↔ IsCocircuitOfChirotope m X
    circuit_both X =
        let a = circuits_up_to_sign (dual_of m) d h.same X in
        let b = circuit_of_dual X in
        (λ x. b.0 (a.1 x), λ x. a.0 (b.1 x))

    pub cocircuit_both : (X : List Sign) → IsCocircuitOfChirotope d X ↔ IsCircuitOfChirotope m X
    cocircuit_both X =
        let a = cocircuits_up_to_sign (dual_of m) d h.same X in
        let b = cocircuit_of_dual X in
        (λ x. b.0 (a.1 x), λ x. a.0 (b.1 x))

    -- a normal form of the dual of a chirotope is a chirotope
    pub axioms_of_dual : IsChirotope d
    axioms_of_dual = normal_axioms (dual_of m) d (dual_axioms m om) h

-- what is orthogonal to all of what denotes the same
dual_same : (n : ℕ) (P Q A B : List Sign → Type 0) → DenoteTheSame n P A → DenoteTheSame n Q B → IsDual n A B
    → IsDual n P Q
dual_same n P Q A B a b dual Y l = (
  λ q X lx p. (dual Y l).0 ((b Y l).0 q) X lx ((a X lx).0 p),
  λ all. (b Y l).1 ((dual Y l).1 (λ X lx p. all X lx ((a X lx).1 p))),
)

-- ---- lists read as the other kind

-- a list with the axioms of circuits denotes, as cocircuits, the dual of what it denotes as circuits
pub dual_of_circuits : (c : Listing) → HaveLength c.elements c.members → MeetsCircuitAxioms c.members
    → IsDual c.elements (IsCovectorOfCircuits c) (IsCovectorOfCocircuits c)
dual_of_circuits c lengths axioms = by_map (of_circuits c lengths axioms)
  where
    by_map : (m : SignMap) × HasCircuits c m → IsDual c.elements (IsCovectorOfCircuits c) (IsCovectorOfCocircuits c)
    by_map (m, h) = by_dual (normal_dual m h.axioms)
      where
        by_dual : (d : SignMap) × IsNormalFormOf (dual_of m) d
            → IsDual c.elements (IsCovectorOfCircuits c) (IsCovectorOfCocircuits c)
        by_dual (d, n) = dual_same c.elements (IsCovectorOfCircuits c) (IsCovectorOfCocircuits c)
            (IsCovectorOfChirotope m) (IsCovectorOfChirotope d) h.same same
            (subst (λ k. IsDual k (IsCovectorOfChirotope m) (IsCovectorOfChirotope d)) h.elements
            (is_dual m h.axioms d n))
          where
            same : DenoteTheSame c.elements (IsCovectorOfCocircuits c) (IsCovectorOfChirotope d)
            same X l =
                let parts =
                parts_both d (axioms_of_dual m h.axioms d n) X
                (l ∙ sym (normal_elements (dual_of m) d n ∙ h.elements)) in (
                  λ x. parts.1 (λ i k. let y = x.composed i k in
                      (y.0, (cocircuit_both m h.axioms d n y.0).1 (h.members.sound y.0 y.1), y.2, y.3)),
                  λ x. record {
                    size = l;
                    composed = λ i k. let y = parts.0 x i k in
                        (y.0, h.members.complete y.0 ((cocircuit_both m h.axioms d n y.0).0 y.1), y.2, y.3);
                  },
                )

-- a list with the axioms of circuits denotes, as circuits, the dual of what it denotes as cocircuits
pub dual_of_cocircuits : (c : Listing) → HaveLength c.elements c.members → MeetsCircuitAxioms c.members
    → IsDual c.elements (IsCovectorOfCocircuits c) (IsCovectorOfCircuits c)
dual_of_cocircuits c lengths axioms = by_map (of_cocircuits c lengths axioms)
  where
    by_map : (m : SignMap) × HasCocircuits c m → IsDual c.elements (IsCovectorOfCocircuits c) (IsCovectorOfCircuits c)
    by_map (m, h) = by_dual (normal_dual m h.axioms)
      where
        by_dual : (d : SignMap) × IsNormalFormOf (dual_of m) d
            → IsDual c.elements (IsCovectorOfCocircuits c) (IsCovectorOfCircuits c)
        by_dual (d, n) = dual_same c.elements (IsCovectorOfCocircuits c) (IsCovectorOfCircuits c)
            (IsCovectorOfChirotope m) (IsCovectorOfChirotope d) h.same same
            (subst (λ k. IsDual k (IsCovectorOfChirotope m) (IsCovectorOfChirotope d)) h.elements
            (is_dual m h.axioms d n))
          where
            same : DenoteTheSame c.elements (IsCovectorOfCircuits c) (IsCovectorOfChirotope d)
            same X l =
                let each = orthogonal_both d (axioms_of_dual m h.axioms d n) X
                (l ∙ sym (normal_elements (dual_of m) d n ∙ h.elements)) in (
                  λ x. each.1 (λ Y y. x.orthogonal Y (h.members.complete Y ((circuit_both m h.axioms d n Y).0 y))),
                  λ x. record {
                    size = l;
                    orthogonal =
                        λ Y y. each.0 x Y ((circuit_both m h.axioms d n Y).1 (h.members.sound Y y));
                  },
                )

-- ---- the circuits of what denotes the same

least_same : (P Q : List Sign → Type 0) → ((X : List Sign) → P X ↔ Q X) → (X : List Sign) → IsOfLeastSupport P X
    → IsOfLeastSupport Q X
least_same P Q both X h =
    record { member = (both X).0 h.member; nonzero = h.nonzero; least = λ Y y. h.least Y ((both Y).1 y) }

-- the circuits of a chirotope are the vectors of minimal support of a family that denotes the same
pub circuits_of : (n : ℕ) (P : List Sign → Type 0) (m : SignMap) → IsChirotope m → m.elements ≡ n
    → DenoteTheSame n P (IsCovectorOfChirotope m)
    → (X : List Sign) → IsCircuitOfChirotope m X ↔ IsOfLeastSupport (IsVectorOf n P) X
circuits_of n P m om q same X = by_dual (normal_dual m om)
  where
    by_dual : (d : SignMap) × IsNormalFormOf (dual_of m) d → IsCircuitOfChirotope m X
        ↔ IsOfLeastSupport (IsVectorOf n P) X
    by_dual (d, h) =
        let least = least_both d (axioms_of_dual m om d h) X in (
          λ x. least_same (IsCovectorOfChirotope d) (IsVectorOf n P) both X (least.0 ((cocircuit_both m om d h X).1 x)),
          λ x. (cocircuit_both m om d h X).0
              (least.1 (least_same (IsVectorOf n P) (IsCovectorOfChirotope d) (λ Y. ((both Y).1, (both Y).0)) X x)),
        )
      where
        dual : IsDual n (IsCovectorOfChirotope m) (IsCovectorOfChirotope d)
        dual = subst (λ k. IsDual k (IsCovectorOfChirotope m) (IsCovectorOfChirotope d)) q (is_dual m om d h)

        both : (Y : List Sign) → IsCovectorOfChirotope d Y ↔ IsVectorOf n P Y
        both Y = (
          λ y. let l = y.size ∙ normal_elements (dual_of m) d h ∙ q in
              (l, λ Z lz z. (dual Y l).0 y Z lz ((same Z lz).0 z)),
          λ v. (dual Y v.0).1 (λ Z lz z. v.1 Z lz ((same Z lz).1 z)),
        )

-- a listing is its number of elements and its members
pub same_listing : (s t : Listing) → s.elements ≡ t.elements → s.members ≡ t.members → s ≡ t
same_listing s t n e = ap (λ k. record { elements = k; members = s.members }) n
    ∙ ap (λ xs. record { elements = t.elements; members = xs }) e
