-- Circuits are orthogonal to cocircuits, and bases have symmetric exchange.
--
-- Main results: same_negated, circuit_negated, cocircuit_negated, around_orthogonal_along, circuit_orthogonal,
-- other_common, symmetric_exchange, exchange
-- Reference: Björner, Las Vergnas, Sturmfels, White and Ziegler, Oriented Matroids, chapter 3.
use Rattle.std.proofs.Common.{◌≡◌, ◌≢◌, ◌⊎◌, ℕ, List, [], ◌∷◌, ◌++◌, refl, sym, ap, ◌∙◌, subst, ⊎_elim, inl, inr, arith}
use Rattle.std.proofs.Common.{append_assoc}
use Rattle.om_signs.specs.declared.sign.Sign.{Sign}
use Rattle.om_signs.specs.declared.sign.Sign.TheVariants.{Zero}
use Rattle.om_signs.specs.Sign.{opposite, product}
use Rattle.om_signs.proofs.SignLaws.{opposite_nonzero, nonzero_from_opposite, product_nonzero, left_nonzero}
use Rattle.om_signs.proofs.SignLaws.{right_nonzero, not_own_opposite, opposite-opposite}
use Rattle.om_laws.specs.Bases.{HasExchange, SymmetricExchange}
use Rattle.om_laws.specs.Chirotope.{IsChirotope}
use Rattle.om_laws.specs.Circuits.{IsCocircuit, IsCircuit}
use Rattle.om_laws.specs.Members.{IsMember, IsDistinct}
use Rattle.om_laws.specs.Relations.{around, along}
use Rattle.om_laws.specs.Signs.{IsNonzero}
use Rattle.om_laws.specs.Vectors.{SignVector, negated, Orthogonal, AreEqualUpToSign}
use Rattle.om_laws.proofs.MemberLaws.{split_at, member_middle, member_last, member_drop, distinct_last, distinct_drop}
use Rattle.om_laws.proofs.RelationLaws.{around_member, nonzero_from_around, around_last_nonzero}
use Rattle.om_laws.proofs.RelationLaws.{orthogonal_from_balanced}
use Rattle.om_laws.proofs.TupleLaws.{nonzero_distinct, nonzero_to_end, nonzero_from_end}
use Rattle.om_laws.proofs.VectorLaws.{opposite_product, orthogonal_sym, orthogonal_up_to_sign}

pub same_negated : (X Y : SignVector) → AreEqualUpToSign X Y → AreEqualUpToSign (negated X) Y
same_negated X Y (inl q) = inr (λ e. ap opposite (q e))
same_negated X Y (inr q) = inl (λ e. ap opposite (q e) ∙ opposite-opposite (Y e))

pub circuit_negated : (E : List ℕ) (chi : List ℕ → Sign) (X : SignVector) → IsCircuit E chi X
    → IsCircuit E chi (negated X)
circuit_negated E chi X c = record {
  tuple = c.tuple;
  distinct = c.distinct;
  within = c.within;
  nonzero = (c.nonzero.0, opposite_nonzero (X c.nonzero.0) c.nonzero.1);
  same = same_negated X (around chi c.tuple) c.same;
}

pub cocircuit_negated : (chi : List ℕ → Sign) (X : SignVector) → IsCocircuit chi X → IsCocircuit chi (negated X)
cocircuit_negated chi X c = record {
  tuple = c.tuple;
  nonzero = (c.nonzero.0, opposite_nonzero (X c.nonzero.0) c.nonzero.1);
  same = same_negated X (along chi c.tuple) c.same;
}

pub zero_up_to_sign : (s t : Sign) → t ≡ Zero → (s ≡ t) ⊎ (s ≡ opposite t) → s ≡ Zero
zero_up_to_sign s t z (inl q) = q ∙ z
zero_up_to_sign s t z (inr q) = grind (arith, q, z)

pub nonzero_up_to_sign : (s t : Sign) → IsNonzero s → (s ≡ t) ⊎ (s ≡ opposite t) → IsNonzero t
nonzero_up_to_sign s t n (inl q) = subst IsNonzero q n
nonzero_up_to_sign s t n (inr q) = nonzero_from_opposite t (subst IsNonzero q n)

module _ (E : List ℕ) (chi : List ℕ → Sign) (om : IsChirotope E chi) where
  -- ---- orthogonality

  pub around_orthogonal_along : (x y : List ℕ) → IsDistinct x → Orthogonal (around chi x) (along chi y)
  around_orthogonal_along x y d = orthogonal_from_balanced chi x (along chi y) d (om.relations x y)

  -- each circuit of a chirotope is orthogonal to each of its cocircuits
  pub circuit_orthogonal : (X Y : SignVector) → IsCircuit E chi X → IsCocircuit chi Y → Orthogonal X Y
  circuit_orthogonal X Y c d =
      orthogonal_up_to_sign X (around chi c.tuple) Y c.same
      (orthogonal_sym Y (around chi c.tuple)
      (orthogonal_up_to_sign Y (along chi d.tuple) (around chi c.tuple) d.same
      (orthogonal_sym (around chi c.tuple) (along chi d.tuple) (around_orthogonal_along c.tuple d.tuple c.distinct))))

  -- where both vectors are nonzero, there is another such place
  pub other_common : (x y : List ℕ) → IsDistinct x → (e : ℕ) → IsNonzero (around chi x e) → IsNonzero (along chi y e)
      → (h : ℕ) × IsNonzero (around chi x h) × IsNonzero (along chi y h) × (h ≢ e)
  other_common x y d e nx ny =
      let t = product (around chi x e) (along chi y e) in
      let nt : IsNonzero t = product_nonzero (around chi x e) (along chi y e) nx ny in
      let k = opposite_product (around chi x) (along chi y) (around_orthogonal_along x y d) e t nt refl in (
        k.0,
        left_nonzero (around chi x k.0) (along chi y k.0) (opposite t) k.1 (opposite_nonzero t nt),
        right_nonzero (around chi x k.0) (along chi y k.0) (opposite t) k.1 (opposite_nonzero t nt),
        λ q. not_own_opposite t nt (subst (λ i. product (around chi x i) (along chi y i) ≡ opposite t) q k.1),
      )

  -- ---- exchange

  -- for an element e of a base, and a base c without it, an element of c takes the place of e, and e takes its place in
  -- c
  pub symmetric_exchange : (u : List ℕ) (e : ℕ) (v c : List ℕ) → IsNonzero (chi (u ++ e ∷ v)) → IsNonzero (chi c)
      → (IsMember e c → ⊥) → SymmetricExchange chi u e v c
  symmetric_exchange u e v c nb nc out =
      let r : IsDistinct (c ++ e ∷ []) = distinct_last c e (nonzero_distinct chi om.alternating c nc) out in
      let k = other_common (c ++ e ∷ []) (u ++ v) r e (around_last_nonzero chi c e r nc)
      (nonzero_to_end chi om.alternating u v e nb) in
      let nh : IsNonzero (chi (u ++ k.0 ∷ v)) = nonzero_from_end chi om.alternating u v k.0 k.2 in
      let m : IsMember k.0 c =
      ⊎_elim (λ m. m) (λ q. absurd (k.3 q)) (member_last k.0 e c (around_member chi (c ++ e ∷ []) k.0 k.1)) in
      let s = split_at k.0 c m in
      let q : c ++ e ∷ [] ≡ s.0 ++ k.0 ∷ (s.1 ++ e ∷ []) = ap (λ z. z ++ e ∷ []) s.2
      ∙ append_assoc s.0 (k.0 ∷ s.1) (e ∷ []) in
      let nf = nonzero_from_around chi s.0 k.0 (s.1 ++ e ∷ []) (subst IsDistinct q r)
      (subst (λ z. IsNonzero (around chi z k.0)) q k.1) in (
        k.0,
        s.0,
        s.1,
        s.2,
        (λ m. ⊎_elim (λ q. k.3 q)
            (λ j. (distinct_drop u k.0 v (nonzero_distinct chi om.alternating (u ++ k.0 ∷ v) nh)).1 j)
            (member_drop k.0 u e v m)),
        nh,
        nonzero_from_end chi om.alternating s.0 s.1 e
            (subst (λ l. IsNonzero (chi l)) (sym (append_assoc s.0 s.1 (e ∷ []))) nf),
      )

  -- the bases of a chirotope have exchange
  pub exchange : HasExchange chi
  exchange u e v c nb nc out =
      let k = symmetric_exchange u e v c nb nc out in
      (k.0, subst (IsMember k.0) (sym k.3) (member_middle k.0 k.1 k.2), k.4, k.5)
