-- The dual of a chirotope is a chirotope. Its circuits are the cocircuits, its cocircuits the circuits, and its
-- covectors the vectors. The dual of the dual is the map up to sign.
--
-- Main results: dual_circuit, cocircuit_dual, circuit_dual, dual_cocircuit, dual_relations, dual_chirotope,
-- dual_covector_vector, vector_dual_covector, dual_dual
-- Reference: Björner, Las Vergnas, Sturmfels, White and Ziegler, Oriented Matroids, chapter 3.
use Rattle.std.specs.Prelude.{ℕ, ◌≡◌, refl, List, [], ◌∷◌, ◌++◌}
use Rattle.std.proofs.Common.{inl, inr, sym, ◌∙◌, ap, subst, ⊎_elim}
use Rattle.om_signs.specs.declared.sign.Sign.{Sign}
use Rattle.om_signs.specs.declared.sign.Sign.TheVariants.{Zero}
use Rattle.om_signs.specs.Sign.{product}
use Rattle.om_signs.proofs.SignLaws.{zero_or_nonzero, product_nonzero, product_zero_left, product_zero_right}
use Rattle.om_signs.proofs.SignLaws.{product_opposites, nonzero_from_opposite, product_twice}
use Rattle.om_laws.specs.Chirotope.{IsChirotope}
use Rattle.om_laws.specs.Circuits.{IsCircuit, IsCocircuit}
use Rattle.om_laws.specs.Covectors.{IsCovector, IsVector}
use Rattle.om_laws.specs.Dual.{complement, dual_map}
use Rattle.om_laws.specs.Members.{IsDistinct, IsMember, AreAmong}
use Rattle.om_laws.specs.Relations.{around, along, IsBalanced, HasRelations}
use Rattle.om_laws.specs.Signs.{IsNonzero}
use Rattle.om_laws.specs.Sorting.{IsIncreasing}
use Rattle.om_laws.specs.Tuples.{sort_sign}
use Rattle.om_laws.specs.Vectors.{Orthogonal, SignVector}
use Rattle.om_laws.proofs.BaseLaws.{around_orthogonal_along}
use Rattle.om_laws.proofs.BlockLaws.{blocks_swapped, negated_for, negated_for_nonzero, negated_for_pairs}
use Rattle.om_laws.proofs.BlockLaws.{sort_sign_nonzero}
use Rattle.om_laws.proofs.Complements.{are_members_cases, complement_back, complement_is_complement, complement_joined}
use Rattle.om_laws.proofs.MemberLaws.{distinct_front, member_drop, member_left, member_middle}
use Rattle.om_laws.proofs.RelationLaws.{IsBalanced_zero, relations_by_sorting, balanced_from_orthogonal}
use Rattle.om_laws.proofs.SortingLaws.{increasing_distinct}
use Rattle.om_laws.proofs.TupleLaws.{nonzero_distinct, sort_sign_swap}
use Rattle.om_laws.proofs.VectorLaws.{orthogonal_sym, orthogonal_up_to_sign, same_sym, same_trans}
use Rattle.om_laws.proofs.DualMaps.{dual_among, dual_nonzero_among, dual_alternating, dual_listing, around_dual_same}
use Rattle.om_laws.proofs.DualMaps.{along_dual_same}

-- ---- the dual of a chirotope

module _ (E : List ℕ) (de : IsDistinct E) (chi : List ℕ → Sign) (om : IsChirotope E chi) where
  along_nonzero : (Y : SignVector) → (c : IsCocircuit chi Y) → IsNonzero (along chi c.tuple c.nonzero.0)
  along_nonzero Y c = ⊎_elim
      (λ q. subst IsNonzero (q c.nonzero.0) c.nonzero.1)
      (λ q. nonzero_from_opposite (along chi c.tuple c.nonzero.0) (subst IsNonzero (q c.nonzero.0) c.nonzero.1))
      c.same

  -- a circuit of the dual is a cocircuit
  pub dual_circuit : (X : SignVector) → IsCircuit E (dual_map E chi) X → IsCocircuit chi X
  dual_circuit X c = record {
    tuple = complement E c.tuple;
    nonzero = c.nonzero;
    same = same_trans X (around (dual_map E chi) c.tuple) (along chi (complement E c.tuple)) c.same
        (around_dual_same E de chi om.alternating om.within c.tuple (complement E c.tuple) c.distinct c.within
        (complement_is_complement E c.tuple de));
  }

  -- a cocircuit is a circuit of the dual
  pub cocircuit_dual : (Y : SignVector) → IsCocircuit chi Y → IsCircuit E (dual_map E chi) Y
  cocircuit_dual Y c =
      let n = along_nonzero Y c in
      let d : IsDistinct c.tuple =
      distinct_front c.tuple c.nonzero.0 (nonzero_distinct chi om.alternating (c.tuple ++ c.nonzero.0 ∷ []) n) in
      let i : AreAmong E c.tuple =
      λ g m. om.within (c.tuple ++ c.nonzero.0 ∷ []) n g (member_left g c.tuple (c.nonzero.0 ∷ []) m) in
      let k = complement_is_complement E c.tuple de in
      record {
        tuple = complement E c.tuple;
        distinct = k.distinct;
        within = k.among;
        nonzero = c.nonzero;
        same = same_trans Y (along chi c.tuple) (around (dual_map E chi) (complement E c.tuple)) c.same
            (same_sym (around (dual_map E chi) (complement E c.tuple)) (along chi c.tuple)
            (around_dual_same E de chi om.alternating om.within (complement E c.tuple) c.tuple k.distinct k.among
            (complement_back E c.tuple (complement E c.tuple) d i k)));
      }

  -- a circuit is a cocircuit of the dual
  pub circuit_dual : (X : SignVector) → IsCircuit E chi X → IsCocircuit (dual_map E chi) X
  circuit_dual X c =
      let k = complement_is_complement E c.tuple de in
      record {
        tuple = complement E c.tuple;
        nonzero = c.nonzero;
        same = same_trans X (around chi c.tuple) (along (dual_map E chi) (complement E c.tuple)) c.same
            (same_sym (along (dual_map E chi) (complement E c.tuple)) (around chi c.tuple)
            (along_dual_same E de chi om.alternating om.within (complement E c.tuple) c.tuple k.distinct k.among
            (complement_back E c.tuple (complement E c.tuple) c.distinct c.within k)));
      }

  -- a cocircuit of the dual is a circuit
  pub dual_cocircuit : (Y : SignVector) → IsCocircuit (dual_map E chi) Y → IsCircuit E chi Y
  dual_cocircuit Y c =
      let n : IsNonzero (along (dual_map E chi) c.tuple c.nonzero.0) = ⊎_elim
      (λ q. subst IsNonzero (q c.nonzero.0) c.nonzero.1)
      (λ q. nonzero_from_opposite (along (dual_map E chi) c.tuple c.nonzero.0)
      (subst IsNonzero (q c.nonzero.0) c.nonzero.1))
      c.same in
      let d : IsDistinct c.tuple =
      distinct_front c.tuple c.nonzero.0
      (nonzero_distinct (dual_map E chi) (dual_alternating E de chi om.alternating) (c.tuple ++ c.nonzero.0 ∷ [])
      n) in
      let i : AreAmong E c.tuple =
      λ g m. dual_nonzero_among E de chi om.alternating (c.tuple ++ c.nonzero.0 ∷ []) n g
      (member_left g c.tuple (c.nonzero.0 ∷ []) m) in
      let k = complement_is_complement E c.tuple de in
      record {
        tuple = complement E c.tuple;
        distinct = k.distinct;
        within = k.among;
        nonzero = c.nonzero;
        same = same_trans Y (along (dual_map E chi) c.tuple) (around chi (complement E c.tuple)) c.same
            (along_dual_same E de chi om.alternating om.within c.tuple (complement E c.tuple) d i k);
      }

  dual_orthogonal : (s a : List ℕ) → IsDistinct s → IsDistinct a → AreAmong E s → AreAmong E a
      → Orthogonal (around (dual_map E chi) s) (along (dual_map E chi) a)
  dual_orthogonal s a ds da is ia =
      let y = complement E s in
      let x = complement E a in
      let ky = complement_is_complement E s de in
      let kx = complement_is_complement E a de in
      orthogonal_up_to_sign (around (dual_map E chi) s) (along chi y) (along (dual_map E chi) a)
      (around_dual_same E de chi om.alternating om.within s y ds is ky)
      (orthogonal_sym (along (dual_map E chi) a) (along chi y)
      (orthogonal_up_to_sign (along (dual_map E chi) a) (around chi x) (along chi y)
      (along_dual_same E de chi om.alternating om.within a x da ia kx)
      (around_orthogonal_along E chi om x y kx.distinct)))

  dual_term : (s a : List ℕ) → (AreAmong E s × AreAmong E a → ⊥) → (cs bs : List ℕ) (x : ℕ) → s ≡ cs ++ x ∷ bs
      → product (dual_map E chi (cs ++ bs)) (along (dual_map E chi) a x) ≡ Zero
  dual_term s a none cs bs x q = ⊎_elim
      (λ z. product_zero_left (dual_map E chi (cs ++ bs)) (along (dual_map E chi) a x) z)
      (λ m. ⊎_elim
      (λ z. product_zero_right (dual_map E chi (cs ++ bs)) (along (dual_map E chi) a x) z)
      (λ k.
      let i = dual_nonzero_among E de chi om.alternating (cs ++ bs) m in
      let j = dual_nonzero_among E de chi om.alternating (a ++ x ∷ []) k in
      absurd (none (
        (λ g w. ⊎_elim (λ p. subst (λ z. IsMember z E) (sym p) (j x (member_middle x a []))) (λ p. i g p)
            (member_drop g cs x bs (subst (IsMember g) q w))),
        λ g w. j g (member_left g a (x ∷ []) w),
      )))
      (zero_or_nonzero (along (dual_map E chi) a x)))
      (zero_or_nonzero (dual_map E chi (cs ++ bs)))

  dual_increasing : (s a : List ℕ) → IsIncreasing s → IsIncreasing a
      → IsBalanced (dual_map E chi) s (along (dual_map E chi) a)
  dual_increasing s a is ia = elim (are_members_cases E s) [
    | inl k ↦ elim (are_members_cases E a) [
      | inl j ↦ balanced_from_orthogonal (dual_map E chi) s (along (dual_map E chi) a) (increasing_distinct s is)
          (dual_orthogonal s a (increasing_distinct s is) (increasing_distinct a ia) k.0 j.0)
      | inr j ↦ IsBalanced_zero (dual_map E chi) s (along (dual_map E chi) a) (dual_term s a (λ h. j.0 h.1))
    ]
    | inr k ↦ IsBalanced_zero (dual_map E chi) s (along (dual_map E chi) a) (dual_term s a (λ h. k.0 h.0))
  ]

  pub dual_relations : HasRelations (dual_map E chi)
  dual_relations = relations_by_sorting (dual_map E chi) (dual_alternating E de chi om.alternating) dual_increasing

  dual_base : (t : List ℕ) × IsNonzero (dual_map E chi t)
  dual_base =
      let t = om.base.0 in
      let d = nonzero_distinct chi om.alternating t om.base.1 in
      let i : AreAmong E t = om.within t om.base.1 in
      let k = complement_is_complement E t de in
      let c = complement_back E t (complement E t) d i k in (
        complement E t,
        subst IsNonzero (sym (dual_listing E de chi om.alternating (complement E t) t k.among c))
            (product_nonzero (sort_sign (complement E t ++ t)) (chi t)
            (sort_sign_nonzero (complement E t ++ t) (complement_joined E (complement E t) t k.distinct c))
            om.base.1),
      )

  -- the dual of a chirotope on distinct elements is a chirotope
  pub dual_chirotope : IsChirotope E (dual_map E chi)
  dual_chirotope = record {
    alternating = dual_alternating E de chi om.alternating;
    within = dual_nonzero_among E de chi om.alternating;
    relations = dual_relations;
    base = dual_base;
  }

  -- ---- covectors of the dual

  -- each covector of the dual is a vector of the chirotope
  pub dual_covector_vector : (Y : SignVector) → IsCovector E (dual_map E chi) Y → IsVector E chi Y
  dual_covector_vector Y y = record { orthogonal = λ V v. y.orthogonal V (cocircuit_dual V v); supported = y.supported }

  -- each vector of the chirotope is a covector of the dual
  pub vector_dual_covector : (Y : SignVector) → IsVector E chi Y → IsCovector E (dual_map E chi) Y
  vector_dual_covector Y y = record { orthogonal = λ V v. y.orthogonal V (dual_circuit V v); supported = y.supported }

  -- ---- the dual of the dual

  pairs_times : (a b : List ℕ) (s t : Sign) → IsNonzero s
      → product (negated_for_pairs a b s) (product s t) ≡ negated_for_pairs a b t
  pairs_times [] b s t n = product_twice s t n
  pairs_times (x ∷ a) b s t n =
      ap (product (negated_for_pairs a b (negated_for b s))) (sym (both b s t))
      ∙ pairs_times a b (negated_for b s) (negated_for b t) (negated_for_nonzero b s n)
    where
      both : (b : List ℕ) (s t : Sign) → product (negated_for b s) (negated_for b t) ≡ product s t
      both [] s t = refl
      both (z ∷ b) s t = product_opposites (negated_for b s) (negated_for b t) ∙ both b s t

  -- on a tuple without repeats: the map, negated once for each pair of an element of the tuple and one off it
  pub dual_dual : (a : List ℕ) → IsDistinct a → AreAmong E a
      → dual_map E (dual_map E chi) a ≡ negated_for_pairs a (complement E a) (chi a)
  dual_dual a d i =
      let b = complement E a in
      let k = complement_is_complement E a de in
      let c = complement_back E a b d i k in
      dual_among E de (dual_map E chi) (dual_alternating E de chi om.alternating) a i
      ∙ ap (product (sort_sign (a ++ b))) (dual_listing E de chi om.alternating b a k.among c)
      ∙ ap (λ s. product s (product (sort_sign (b ++ a)) (chi a))) (blocks_swapped sort_sign sort_sign_swap [] a b)
      ∙ pairs_times a b (sort_sign (b ++ a)) (chi a) (sort_sign_nonzero (b ++ a) (complement_joined E b a k.distinct c))
