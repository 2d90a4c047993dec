-- How many covectors a chirotope of rank 3 may have.
--
-- Main results: base_swapped (an element where a covector isn't zero goes into a base, whose elements where the
-- covector vanishes stay); rank_by_base (covectors that vanish on some elements of a base have no more rank than there
-- are others); most_covectors (in rank 3 at most 4 n (n - 1) + 3 on n elements); few_covectors (no more than a list may
-- have).
-- Reference: Björner, Las Vergnas, Sturmfels, White and Ziegler, Oriented Matroids, chapters 3 and 4.
use Rattle.std.proofs.Common.{ℕ, zero, suc, ◌≡◌, ◌≢◌, ◌+◌, ◌*◌, ◌-◌, ◌≤◌, List, [], ◌∷◌, ◌++◌, length, refl, sym, ap}
use Rattle.std.proofs.Common.{subst, ◌∙◌, ⊎_elim, arith, append_assoc, append-nil}
use Rattle.std.proofs.lemmas.List.{length-append}
use Rattle.std.proofs.lemmas.Nat.{mul-le}
use Rattle.om_signs.specs.declared.limits.TheConstants.{MAX_ELEMENTS, MAX_MEMBERS}
use Rattle.om_signs.specs.declared.sign.Sign.{Sign}
use Rattle.om_signs.specs.Sign.{opposite, product}
use Rattle.om_signs.specs.SignVec.{at}
use Rattle.om_signs.proofs.ListPlaces.{at-compose}
use Rattle.om_signs.proofs.SignLaws.{zero_or_nonzero, zero_not_nonzero, product_nonzero, left_nonzero, right_nonzero}
use Rattle.om_signs.proofs.SignLaws.{opposite_nonzero, not_own_opposite}
use Rattle.om_laws.specs.Signs.{IsNonzero}
use Rattle.om_laws.specs.Members.{IsMember}
use Rattle.om_laws.specs.Vectors.{SignVector, Orthogonal}
use Rattle.om_laws.specs.Bases.{IsBase, IsFundamentalCircuit}
use Rattle.om_laws.specs.Bridge.{as_function}
use Rattle.om_laws.specs.Chirotope.{elements_to}
use Rattle.om_laws.specs.Chirotope as theory
use Rattle.om_laws.specs.Covectors.{IsCovector}
use Rattle.om_laws.proofs.FundamentalCircuits.{fundamental_circuit}
use Rattle.om_laws.proofs.ExistenceHelpers.{Vanishes}
use Rattle.om_laws.proofs.MemberLaws.{split_at, member_or_not, member_append, member_last}
use Rattle.om_laws.proofs.TupleLaws.{nonzero_to_end}
use Rattle.om_laws.proofs.TupleSizes.{on_tuples_tuple}
use Rattle.om_laws.proofs.VectorLaws.{opposite_product}
use Rattle.om_chirotope.specs.Map.{SignMap, chi_of}
use Rattle.om_chirotope.specs.Chirotope.{IsChirotope}
use Rattle.om_chirotope.proofs.Theory.{theory_chirotope}
use Rattle.om_denotation.specs.Covectors.{IsCovectorOfChirotope}
use Rattle.om_denotation.specs.Listings.{HasMoreThan}
use Rattle.om_denotation.proofs.ChirotopeBridge.{tuples_of, covector_function}
use Rattle.om_denotation.proofs.FamilyAxioms.{covector_axioms}
use Rattle.om_denotation.proofs.ListFunctions.{at_place}
use Rattle.om_make.proofs.FirstSigns.{fewer}
use Rattle.om_make.proofs.RankBounds.{IsClosed, IsZeroAt, HasRankAtMost, rank_moved, bound_in_rank_three}

-- ---- bases

-- where two orthogonal vectors are nonzero, there is another such place
other_place : (X C : SignVector) → Orthogonal X C → (f : ℕ) → IsNonzero (X f) → IsNonzero (C f) → (g : ℕ)
    × IsNonzero (X g) × IsNonzero (C g) × (g ≢ f)
other_place X C o f nx nc =
    let t = product (X f) (C f) in
    let nt : IsNonzero t = product_nonzero (X f) (C f) nx nc in
    let k = opposite_product X C o f t nt refl in (
      k.0,
      left_nonzero (X k.0) (C k.0) (opposite t) k.1 (opposite_nonzero t nt),
      right_nonzero (X k.0) (C k.0) (opposite t) k.1 (opposite_nonzero t nt),
      λ e. not_own_opposite t nt (subst (λ i. product (X i) (C i) ≡ opposite t) e k.1),
    )

module _ (E : List ℕ) (chi : List ℕ → Sign) (om : theory.IsChirotope E chi) where
  -- some list with one element fewer than q, then p, then f, is a base
  abbrev IsSwapped : List ℕ → List ℕ → ℕ → Type 0
  IsSwapped q p f = (u : List ℕ) × (length q ≡ suc (length u)) × IsBase chi (u ++ (p ++ f ∷ []))

  to_end : (q p a b : List ℕ) (e f : ℕ) → q ≡ a ++ e ∷ b → IsBase chi (a ++ f ∷ (b ++ p)) → IsSwapped q p f
  to_end q p a b e f is n = (
    a ++ b,
    (let l = ap length is in let k = length-append a (e ∷ b) in let j = length-append a b in omega arith),
    subst (IsBase chi) (ap (λ l. l ++ f ∷ []) (sym (append_assoc a b p)) ∙ append_assoc (a ++ b) p (f ∷ []))
        (nonzero_to_end chi om.alternating a (b ++ p) f n),
  )

  -- an element of q where the circuit of f isn't zero gives its place to f
  base_swapped : (q p : List ℕ) → IsBase chi (q ++ p) → (X : SignVector) → IsCovector E chi X → Vanishes X p → (f : ℕ)
      → IsNonzero (X f) → IsSwapped q p f
  base_swapped q p base X x none f n = ⊎_elim within outside (member_or_not f (q ++ p))
    where
      of_q : (g : ℕ) → IsNonzero (X g) → IsMember g (q ++ p) → IsMember g q
      of_q g k m = ⊎_elim (λ i. i) (λ i. absurd (zero_not_nonzero (X g) (none g i) k)) (member_append g q p m)

      within : IsMember f (q ++ p) → IsSwapped q p f
      within m =
          let s = split_at f q (of_q f n m) in
          to_end q p s.0 s.1 f f s.2 (subst (IsBase chi) (ap (λ l. l ++ p) s.2 ∙ append_assoc s.0 (f ∷ s.1) p) base)

      exchanged : (C : SignVector) → IsFundamentalCircuit E chi (q ++ p) f C → IsSwapped q p f
      exchanged C c =
          let g = other_place X C (x.orthogonal C c.circuit) f n c.at_element in
          let m = ⊎_elim (λ i. i) (λ e. absurd (g.3 e)) (c.support g.0 g.2) in
          let s = split_at g.0 q (of_q g.0 g.1 m) in
          to_end q p s.0 s.1 g.0 f s.2
          ((c.exchange s.0 g.0 (s.1 ++ p) (ap (λ l. l ++ p) s.2 ∙ append_assoc s.0 (g.0 ∷ s.1) p)).0 g.2)

      outside : (IsMember f (q ++ p) → ⊥) → IsSwapped q p f
      outside out = exchanged _ (fundamental_circuit E chi om (q ++ p) f (x.supported f n) base out)

-- ---- the rank of a chirotope

module _ (m : SignMap) (chirotope : IsChirotope m) where
  -- the elements 1 to n of the map
  abbrev elements : List ℕ
  elements = elements_to m.elements

  axioms : theory.IsChirotope elements (tuples_of m)
  axioms = theory_chirotope m chirotope

  -- the covectors that vanish on a list of elements
  abbrev IsVanishingOn : List ℕ → List Sign → Type 0
  IsVanishingOn p X = IsCovectorOfChirotope m X × Vanishes (as_function X) p

  rank_by_base : (r : ℕ) (q p : List ℕ) → length q ≡ r → IsBase (tuples_of m) (q ++ p)
      → HasRankAtMost r (IsVanishingOn p)
  rank_by_base zero q p size base = λ X x i. ⊎_elim
      (λ z. z)
      (λ n. absurd
      (let s = base_swapped elements (tuples_of m) axioms q p base (as_function X) (covector_function m X x.0) x.1
      (suc i) n in let l = s.1 in omega arith))
      (zero_or_nonzero (at X i))
  rank_by_base (suc r) q p size base = λ X x i n.
      let s = base_swapped elements (tuples_of m) axioms q p base (as_function X) (covector_function m X x.0) x.1
      (suc i) n in
      rank_moved r (IsVanishingOn (p ++ suc i ∷ [])) (IsZeroAt (IsVanishingOn p) i) (λ j. j)
      (λ Y y. (
        Y,
        (y.0.0, λ e k. ⊎_elim (y.0.1 e) (λ q. ap (as_function Y) q ∙ y.1) (member_last e (suc i) p k)),
        λ j. refl,
      ))
      (rank_by_base r s.0 (p ++ suc i ∷ []) (let l = s.1 in omega arith) s.2)

  rank_of_covectors : HasRankAtMost m.rank (IsCovectorOfChirotope m)
  rank_of_covectors =
      let base = axioms.base in
      let tuple = on_tuples_tuple m.elements m.rank (chi_of m) base.0 base.1 in
      rank_moved m.rank (IsVanishingOn []) (IsCovectorOfChirotope m) (λ j. j)
      (λ Y y. (Y, (y, λ e k. absurd k), λ j. refl))
      (rank_by_base m.rank base.0 [] tuple.size (subst (IsBase (tuples_of m)) (sym (append-nil base.0)) base.1))

  -- ---- how many covectors

  covectors_closed : IsClosed m.elements (IsCovectorOfChirotope m)
  covectors_closed =
      let laws = covector_axioms m chirotope in
      record {
        size = λ X x. x.size;
        zero = laws.zero;
        symmetric = laws.symmetric;
        elimination = λ X Y x y i apart.
            let z = laws.elimination X Y x y (suc i) (omega arith) (let e : suc i - 1 ≡ i = omega arith in rw e apart)
            in (
              z.0,
              z.1,
              record {
                zero = sym (at_place z.0 i) ∙ z.2.zero;
                outside = λ j out. sym (at_place z.0 j)
                    ∙ z.2.outside (suc j) (let e : suc j - 1 ≡ j = omega arith in rw e out)
                    ∙ (let e : suc j - 1 ≡ j = omega arith in rw e (at-compose X Y j));
              },
            );
      }

  pub most_covectors : m.rank ≡ 3 → HasMoreThan (4 * (m.elements * (m.elements - 1)) + 3) (IsCovectorOfChirotope m) → ⊥
  most_covectors three = bound_in_rank_three m.elements (IsCovectorOfChirotope m) covectors_closed
      (subst (λ r. HasRankAtMost r (IsCovectorOfChirotope m)) three rank_of_covectors)

  pub few_covectors : m.rank ≡ 3 → m.elements ≤ MAX_ELEMENTS → HasMoreThan MAX_MEMBERS (IsCovectorOfChirotope m) → ⊥
  few_covectors three high =
      let s = mul-le m.elements (m.elements - 1) MAX_ELEMENTS MAX_ELEMENTS high (omega arith) in
      fewer (4 * (m.elements * (m.elements - 1)) + 3) MAX_MEMBERS (IsCovectorOfChirotope m) (omega arith)
      (most_covectors three)
