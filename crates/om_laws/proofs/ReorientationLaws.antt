-- A reorientation of a chirotope is a chirotope, and its circuits, cocircuits and covectors are those of the map,
-- turned.
--
-- Main results: reoriented_chirotope, circuit_turned, cocircuit_turned, covector_turned
-- Reference: Björner, Las Vergnas, Sturmfels, White and Ziegler, Oriented Matroids, chapter 3.
use Rattle.std.specs.Prelude.{ℕ, ◌≡◌, ◌↔◌, List, ◌∷◌, ◌++◌, Bool}
use Rattle.std.proofs.Common.{arith, sym, ◌∙◌, ap}
use Rattle.om_signs.specs.declared.sign.Sign.{Sign}
use Rattle.om_signs.specs.Sign.{product}
use Rattle.om_signs.proofs.SignLaws.{product_nonzero, right_factor_nonzero, product-opposite_right, products}
use Rattle.om_laws.specs.Chirotope.{IsChirotope}
use Rattle.om_laws.specs.Circuits.{IsCircuit, IsCocircuit}
use Rattle.om_laws.specs.Covectors.{IsCovector}
use Rattle.om_laws.specs.Relations.{around, along, HasRelations}
use Rattle.om_laws.specs.Reorientation.{reoriented, signs_product, turned, turning}
use Rattle.om_laws.specs.Signs.{IsNonzero}
use Rattle.om_laws.specs.Tuples.{IsAlternating}
use Rattle.om_laws.specs.Vectors.{SignVector}
use Rattle.om_laws.proofs.PairCovectors.{covector_same}
use Rattle.om_laws.proofs.CovectorLaws.{circuit_same, cocircuit_same}
use Rattle.om_laws.proofs.TurnedVectors.{turning_nonzero, signs_product_nonzero, signs_product_middle}
use Rattle.om_laws.proofs.TurnedVectors.{signs_product_swap, IsBalanced_scaled, along_reoriented, around_reoriented}
use Rattle.om_laws.proofs.TurnedVectors.{turned_up_to_sign, turned_nonzero, turned_twice, turned_across}

module _ (set : ℕ → Bool) (E : List ℕ) (chi : List ℕ → Sign) where
  reoriented_alternating : IsAlternating chi → IsAlternating (reoriented set chi)
  reoriented_alternating alt x y cs bs =
      ap (λ k. product k (chi (cs ++ y ∷ x ∷ bs))) (signs_product_swap (turning set) cs bs x y)
      ∙ ap (product (signs_product (turning set) (cs ++ x ∷ y ∷ bs))) (alt x y cs bs)
      ∙ product-opposite_right (signs_product (turning set) (cs ++ x ∷ y ∷ bs)) (chi (cs ++ x ∷ y ∷ bs))

  reoriented_relations : HasRelations chi → HasRelations (reoriented set chi)
  reoriented_relations rel s a =
      IsBalanced_scaled chi (reoriented set chi) s (along chi a) (along (reoriented set chi) a)
      (product (signs_product (turning set) s) (signs_product (turning set) a))
      (product_nonzero (signs_product (turning set) s) (signs_product (turning set) a) (signs_product_nonzero set s)
      (signs_product_nonzero set a))
      (λ cs bs x q. ap (product (reoriented set chi (cs ++ bs))) (along_reoriented set chi a x)
      ∙ lemma (signs_product (turning set) (cs ++ bs)) (chi (cs ++ bs)) (signs_product (turning set) a) (turning set x)
      (along chi a x) (signs_product (turning set) s)
      (ap (signs_product (turning set)) q ∙ signs_product_middle (turning set) cs bs x))
      (rel s a)
    where
      lemma : (p c a t u s : Sign) → s ≡ product t p
          → product (product p c) (product a (product t u)) ≡ product (product s a) (product c u)
      lemma p c a t u s e = rw e (simp products)

  -- the reorientation of a chirotope is a chirotope
  pub reoriented_chirotope : IsChirotope E chi → IsChirotope E (reoriented set chi)
  reoriented_chirotope om = record {
    alternating = reoriented_alternating om.alternating;
    within = λ t n. om.within t (right_factor_nonzero (signs_product (turning set) t) (chi t) n);
    relations = reoriented_relations om.relations;
    base = (
      om.base.0,
      product_nonzero (signs_product (turning set) om.base.0) (chi om.base.0)
          (signs_product_nonzero set om.base.0) om.base.1,
    );
  }

  reoriented_circuit : (X : SignVector) → IsCircuit E chi X → IsCircuit E (reoriented set chi) (turned set X)
  reoriented_circuit X c = record {
    tuple = c.tuple;
    distinct = c.distinct;
    within = c.within;
    nonzero = (c.nonzero.0, turned_nonzero set X c.nonzero.0 c.nonzero.1);
    same = turned_up_to_sign set X (around chi c.tuple) (around (reoriented set chi) c.tuple)
        (signs_product (turning set) c.tuple) (signs_product_nonzero set c.tuple) (around_reoriented set chi c.tuple)
        c.same;
  }

  reoriented_cocircuit : (X : SignVector) → IsCocircuit chi X → IsCocircuit (reoriented set chi) (turned set X)
  reoriented_cocircuit X c = record {
    tuple = c.tuple;
    nonzero = (c.nonzero.0, turned_nonzero set X c.nonzero.0 c.nonzero.1);
    same = turned_up_to_sign set X (along chi c.tuple) (along (reoriented set chi) c.tuple)
        (signs_product (turning set) c.tuple) (signs_product_nonzero set c.tuple) (along_reoriented set chi c.tuple)
        c.same;
  }

  -- ---- and back

  undone : (p a v : Sign) → IsNonzero p → IsNonzero a → product p (product a (product p (product a v))) ≡ v
  undone p a v n m = grind arith

  around_back : (x : List ℕ) (e : ℕ)
      → around chi x e ≡ product (signs_product (turning set) x) (turned set (around (reoriented set chi) x) e)
  around_back x e =
      sym (ap (λ k. product (signs_product (turning set) x) (product (turning set e) k)) (around_reoriented set chi x e)
      ∙ undone (signs_product (turning set) x) (turning set e) (around chi x e) (signs_product_nonzero set x)
      (turning_nonzero set e))

  along_back : (y : List ℕ) (e : ℕ)
      → along chi y e ≡ product (signs_product (turning set) y) (turned set (along (reoriented set chi) y) e)
  along_back y e =
      sym (ap (λ k. product (signs_product (turning set) y) (product (turning set e) k)) (along_reoriented set chi y e)
      ∙ undone (signs_product (turning set) y) (turning set e) (along chi y e) (signs_product_nonzero set y)
      (turning_nonzero set e))

  circuit_reoriented : (X : SignVector) → IsCircuit E (reoriented set chi) X → IsCircuit E chi (turned set X)
  circuit_reoriented X c = record {
    tuple = c.tuple;
    distinct = c.distinct;
    within = c.within;
    nonzero = (c.nonzero.0, turned_nonzero set X c.nonzero.0 c.nonzero.1);
    same = turned_up_to_sign set X (around (reoriented set chi) c.tuple) (around chi c.tuple)
        (signs_product (turning set) c.tuple) (signs_product_nonzero set c.tuple) (around_back c.tuple) c.same;
  }

  cocircuit_reoriented : (X : SignVector) → IsCocircuit (reoriented set chi) X → IsCocircuit chi (turned set X)
  cocircuit_reoriented X c = record {
    tuple = c.tuple;
    nonzero = (c.nonzero.0, turned_nonzero set X c.nonzero.0 c.nonzero.1);
    same = turned_up_to_sign set X (along (reoriented set chi) c.tuple) (along chi c.tuple)
        (signs_product (turning set) c.tuple) (signs_product_nonzero set c.tuple) (along_back c.tuple) c.same;
  }

  reoriented_covector : (X : SignVector) → IsCovector E chi X → IsCovector E (reoriented set chi) (turned set X)
  reoriented_covector X x = record {
    orthogonal = λ V v. turned_across set X V (x.orthogonal (turned set V) (circuit_reoriented V v));
    supported = λ e n. x.supported e (right_factor_nonzero (turning set e) (X e) n);
  }

  covector_reoriented : (X : SignVector) → IsCovector E (reoriented set chi) X → IsCovector E chi (turned set X)
  covector_reoriented X x = record {
    orthogonal = λ V v. turned_across set X V (x.orthogonal (turned set V) (reoriented_circuit V v));
    supported = λ e n. x.supported e (right_factor_nonzero (turning set e) (X e) n);
  }

  -- ---- both

  pub circuit_turned : (X : SignVector) → IsCircuit E (reoriented set chi) X ↔ IsCircuit E chi (turned set X)
  circuit_turned X = (
    circuit_reoriented X,
    λ c. circuit_same E (reoriented set chi) X (turned set (turned set X)) (λ e. sym (turned_twice set X e))
        (reoriented_circuit (turned set X) c),
  )

  pub cocircuit_turned : (X : SignVector) → IsCocircuit (reoriented set chi) X ↔ IsCocircuit chi (turned set X)
  cocircuit_turned X = (
    cocircuit_reoriented X,
    λ c. cocircuit_same (reoriented set chi) X (turned set (turned set X)) (λ e. sym (turned_twice set X e))
        (reoriented_cocircuit (turned set X) c),
  )

  -- the covectors of a reorientation are the vectors that are covectors of the map once they are turned
  pub covector_turned : (X : SignVector) → IsCovector E (reoriented set chi) X ↔ IsCovector E chi (turned set X)
  covector_turned X = (
    covector_reoriented X,
    λ c. covector_same E (IsCircuit E (reoriented set chi)) X (turned set (turned set X))
        (λ e. sym (turned_twice set X e)) (reoriented_covector (turned set X) c),
  )
