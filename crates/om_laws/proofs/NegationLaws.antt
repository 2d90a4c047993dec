-- The negative of a chirotope is a chirotope with the same circuits, cocircuits and covectors.
--
-- Main results: negative_chirotope, negative_circuit, circuit_negative, negative_cocircuit, cocircuit_negative,
-- negative_covector, covector_negative
-- Reference: Björner, Las Vergnas, Sturmfels, White and Ziegler, Oriented Matroids, chapter 3.
use Rattle.std.specs.Prelude.{ℕ, ◌≡◌, refl, ◌⊎◌, List, [], ◌∷◌, ◌++◌}
use Rattle.std.proofs.Common.{inl, inr, sym, ◌∙◌, ap, ⊎_elim}
use Rattle.std.proofs.lemmas.Bool.{cases_eq, eq-eqb, ne_eqb}
use Rattle.om_signs.specs.declared.sign.Sign.{Sign}
use Rattle.om_signs.specs.Sign.{opposite}
use Rattle.om_signs.proofs.SignLaws.{opposite-opposite, opposite_nonzero, nonzero_from_opposite, product_opposites}
use Rattle.om_laws.specs.Chirotope.{IsChirotope}
use Rattle.om_laws.specs.Circuits.{IsCircuit, IsCocircuit}
use Rattle.om_laws.specs.Covectors.{IsCovector}
use Rattle.om_laws.specs.Relations.{around, along}
use Rattle.om_laws.specs.Reorientation.{negative}
use Rattle.om_laws.specs.Vectors.{SignVector}
use Rattle.om_laws.proofs.RelationLaws.{IsBalanced_same}

-- ---- negation

module _ (E : List ℕ) (chi : List ℕ → Sign) where
  pub negative_chirotope : IsChirotope E chi → IsChirotope E (negative chi)
  negative_chirotope om = record {
    alternating = λ x y cs bs. ap opposite (om.alternating x y cs bs);
    within = λ t n. om.within t (nonzero_from_opposite (chi t) n);
    relations = λ s a. IsBalanced_same (negative chi) chi s (along (negative chi) a) (along chi a)
        (λ cs bs x q. product_opposites (chi (cs ++ bs)) (along chi a x)) (om.relations s a);
    base = (om.base.0, opposite_nonzero (chi om.base.0) om.base.1);
  }

  around_negative : (xs : List ℕ) (e : ℕ) → around (negative chi) xs e ≡ opposite (around chi xs e)
  around_negative xs e = go chi xs e
    where
      go : (chi : List ℕ → Sign) (xs : List ℕ) (e : ℕ) → around (negative chi) xs e ≡ opposite (around chi xs e)
      go chi [] e = refl
      go chi (x ∷ xs) e = elim (cases_eq e x) [
        | inl q ↦ rw (eq-eqb e x q) refl
        | inr ne ↦ rw (ne_eqb e x ne) (ap opposite (go (λ t. chi (x ∷ t)) xs e))
      ]

  -- each circuit of a map is a circuit of its negative
  pub negative_circuit : (X : SignVector) → IsCircuit E chi X → IsCircuit E (negative chi) X
  negative_circuit X c = record {
    tuple = c.tuple;
    distinct = c.distinct;
    within = c.within;
    nonzero = c.nonzero;
    same = ⊎_elim
        (λ q. inr (λ e. q e ∙ sym (ap opposite (around_negative c.tuple e) ∙ opposite-opposite (around chi c.tuple e))))
        (λ q. inl (λ e. q e ∙ sym (around_negative c.tuple e)))
        c.same;
  }

  -- each circuit of the negative of a map is a circuit of the map
  pub circuit_negative : (X : SignVector) → IsCircuit E (negative chi) X → IsCircuit E chi X
  circuit_negative X c = record {
    tuple = c.tuple;
    distinct = c.distinct;
    within = c.within;
    nonzero = c.nonzero;
    same = ⊎_elim
        (λ q. inr (λ e. q e ∙ around_negative c.tuple e))
        (λ q. inl (λ e. q e ∙ ap opposite (around_negative c.tuple e) ∙ opposite-opposite (around chi c.tuple e)))
        c.same;
  }

  -- each cocircuit of a map is a cocircuit of its negative
  pub negative_cocircuit : (X : SignVector) → IsCocircuit chi X → IsCocircuit (negative chi) X
  negative_cocircuit X c = record {
    tuple = c.tuple;
    nonzero = c.nonzero;
    same = ⊎_elim
        (λ q. inr (λ e. q e ∙ sym (opposite-opposite (along chi c.tuple e))))
        (λ q. inl q)
        c.same;
  }

  -- each cocircuit of the negative of a map is a cocircuit of the map
  pub cocircuit_negative : (X : SignVector) → IsCocircuit (negative chi) X → IsCocircuit chi X
  cocircuit_negative X c = record {
    tuple = c.tuple;
    nonzero = c.nonzero;
    same = ⊎_elim
        (λ q. inr q)
        (λ q. inl (λ e. q e ∙ opposite-opposite (along chi c.tuple e)))
        c.same;
  }

  -- each covector of a map is a covector of its negative
  pub negative_covector : (X : SignVector) → IsCovector E chi X → IsCovector E (negative chi) X
  negative_covector X x = record { orthogonal = λ V v. x.orthogonal V (circuit_negative V v); supported = x.supported }

  -- each covector of the negative of a map is a covector of the map
  pub covector_negative : (X : SignVector) → IsCovector E (negative chi) X → IsCovector E chi X
  covector_negative X x = record { orthogonal = λ V v. x.orthogonal V (negative_circuit V v); supported = x.supported }
