-- Increasing tuples are enough.
--
-- Main results: for an alternating map, a circuit is up to sign the nonzero vector around an increasing tuple
-- (circuit_both), a cocircuit that along one (cocircuit_both), and a vector is orthogonal to all circuits exactly if it
-- is orthogonal to the vectors around increasing tuples (orthogonal_both).
-- Reference: Björner, Las Vergnas, Sturmfels, White and Ziegler, Oriented Matroids, chapters 3 and 4.
use Rattle.std.specs.Prelude.{ℕ, ◌≡◌, ◌≢◌, ◌↔◌, refl, ◌⊎◌, List, [], ◌∷◌, ◌++◌}
use Rattle.std.proofs.Common.{inl, inr, sym, ◌∙◌, ap, subst, ⊎_elim}
use Rattle.std.proofs.lemmas.Bool.{cases_eq, eq-eqb, ne_eqb}
use Rattle.om_signs.specs.declared.sign.Sign.{Sign}
use Rattle.om_signs.specs.declared.sign.Sign.TheVariants.{Zero}
use Rattle.om_signs.specs.Sign.{opposite}
use Rattle.om_signs.proofs.SignLaws.{opposite-opposite, nonzero_from_opposite, zero_or_nonzero}
use Rattle.om_laws.specs.Signs.{IsNonzero}
use Rattle.om_laws.specs.Members.{IsDistinct, AreAmong}
use Rattle.om_laws.specs.Vectors.{SignVector, zero_vector, AreEqualUpToSign, HasNonzero}
use Rattle.om_laws.specs.Tuples.{IsAlternating}
use Rattle.om_laws.specs.Sorting.{IsIncreasing}
use Rattle.om_laws.specs.Relations.{around, along}
use Rattle.om_laws.specs.Circuits.{IsCircuit, IsCocircuit}
use Rattle.om_laws.specs.Covectors.{IsOrthogonalToAll}
use Rattle.om_laws.specs.Denotations.{IsAroundIncreasing, IsAlongIncreasing, IsOrthogonalToTuples}
use Rattle.om_laws.proofs.MemberLaws.{distinct_front, search_members, member_swap}
use Rattle.om_laws.proofs.TupleLaws.{nonzero_distinct}
use Rattle.om_laws.proofs.SortingLaws.{by_sorting, increasing_distinct}
use Rattle.om_laws.proofs.RelationLaws.{along_swap, around_member}
use Rattle.om_laws.proofs.VectorLaws.{orthogonal_sym, orthogonal_same, orthogonal_zero, orthogonal_up_to_sign}
use Rattle.om_laws.proofs.VectorLaws.{same_trans}

around_swap : (chi : List ℕ → Sign) (x y : ℕ) (cs bs : List ℕ) (e : ℕ) → IsAlternating chi → x ≢ y
    → around chi (cs ++ y ∷ x ∷ bs) e ≡ opposite (around chi (cs ++ x ∷ y ∷ bs) e)
around_swap chi x y (c ∷ cs) bs e alt ne = elim (cases_eq e c) [
  | inl q ↦ rw (eq-eqb e c q) (ap opposite (alt x y cs bs))
  | inr n ↦
      rw (ne_eqb e c n) (ap opposite (around_swap (λ t. chi (c ∷ t)) x y cs bs e (λ x y cs bs. alt x y (c ∷ cs) bs) ne))
]
around_swap chi x y [] bs e alt ne = elim (cases_eq e y) [
  | inl q ↦ rw (eq-eqb e y q, ne_eqb e x (λ p. ne (sym p ∙ q))) (sym (opposite-opposite (opposite (chi (x ∷ bs)))))
  | inr n ↦ elim (cases_eq e x) [
    | inl q ↦ rw (ne_eqb e y n, eq-eqb e x q) refl
    | inr m ↦
        rw (ne_eqb e y n, ne_eqb e x m)
        (ap (λ k. opposite (opposite k))
        (around_opposite (λ t. chi (y ∷ x ∷ t)) (λ t. chi (x ∷ y ∷ t)) bs e (λ t. alt x y [] t))
        ∙ shift (around (λ t. chi (x ∷ y ∷ t)) bs e))
  ]
]
  where
    shift : (s : Sign) → opposite (opposite (opposite s)) ≡ opposite (opposite (opposite s))
    shift s = refl

    around_opposite : (chi psi : List ℕ → Sign) (xs : List ℕ) (e : ℕ) → ((t : List ℕ) → chi t ≡ opposite (psi t))
        → around chi xs e ≡ opposite (around psi xs e)
    around_opposite chi psi [] e h = refl
    around_opposite chi psi (z ∷ zs) e h = elim (cases_eq e z) [
      | inl q ↦ rw (eq-eqb e z q) (ap opposite (h zs))
      | inr n ↦
          rw (ne_eqb e z n) (ap opposite (around_opposite (λ t. chi (z ∷ t)) (λ t. psi (z ∷ t)) zs e (λ t. h (z ∷ t))))
    ]

distinct_swap : (x y : ℕ) (cs bs : List ℕ) → IsDistinct (cs ++ x ∷ y ∷ bs) → IsDistinct (cs ++ y ∷ x ∷ bs)
distinct_swap x y [] bs d = ((λ m. ⊎_elim (λ q. d.0 (inl (sym q))) (λ k. d.1.0 k) m), (λ m. d.0 (inr m), d.1.1))
distinct_swap x y (c ∷ cs) bs d = ((λ m. d.0 (member_swap c y x cs bs m)), distinct_swap x y cs bs d.1)

neighbours_differ : (x y : ℕ) (cs bs : List ℕ) → IsDistinct (cs ++ x ∷ y ∷ bs) → x ≢ y
neighbours_differ x y [] bs d q = d.0 (inl q)
neighbours_differ x y (c ∷ cs) bs d q = neighbours_differ x y cs bs d.1 q

not_distinct : (x : ℕ) (cs bs : List ℕ) → IsDistinct (cs ++ x ∷ x ∷ bs) → ⊥
not_distinct x cs bs d = neighbours_differ x x cs bs d refl

-- ---- circuits and cocircuits

-- up to sign the vector around an increasing tuple of members of t
abbrev IsAroundSorted : (List ℕ → Sign) → List ℕ → Type 0
IsAroundSorted chi t = (s : List ℕ) × IsIncreasing s × AreAmong t s × AreEqualUpToSign (around chi t) (around chi s)

around_sorted : (chi : List ℕ → Sign) → IsAlternating chi → (t : List ℕ) → IsDistinct t → IsAroundSorted chi t
around_sorted chi alt = by_sorting (λ t. IsDistinct t → IsAroundSorted chi t)
    (λ x y cs bs p d.
    let k = p (distinct_swap y x cs bs d) in (
      k.0,
      k.1,
      λ e m. member_swap e x y cs bs (k.2 e m),
      same_trans (around chi (cs ++ y ∷ x ∷ bs)) (around chi (cs ++ x ∷ y ∷ bs)) (around chi k.0)
          (inr (λ e. around_swap chi x y cs bs e alt (λ q. neighbours_differ y x cs bs d (sym q)))) k.3,
    ))
    (λ x cs bs d. absurd (not_distinct x cs bs d))
    (λ t i d. (t, i, (λ e m. m), inl (λ e. refl)))

-- up to sign the vector along an increasing tuple
abbrev IsAlongSorted : (List ℕ → Sign) → List ℕ → Type 0
IsAlongSorted chi t = (s : List ℕ) × IsIncreasing s × AreEqualUpToSign (along chi t) (along chi s)

along_sorted : (chi : List ℕ → Sign) → IsAlternating chi → (t : List ℕ) → IsDistinct t → IsAlongSorted chi t
along_sorted chi alt = by_sorting (λ t. IsDistinct t → IsAlongSorted chi t)
    (λ x y cs bs p d.
    let k = p (distinct_swap y x cs bs d) in (
      k.0,
      k.1,
      same_trans (along chi (cs ++ y ∷ x ∷ bs)) (along chi (cs ++ x ∷ y ∷ bs)) (along chi k.0)
          (inr (λ e. along_swap chi x y cs bs e alt)) k.2,
    ))
    (λ x cs bs d. absurd (not_distinct x cs bs d))
    (λ t i d. (t, i, inl (λ e. refl)))

circuit_increasing : (E : List ℕ) (chi : List ℕ → Sign) → IsAlternating chi → (X : SignVector) → IsCircuit E chi X
    → IsAroundIncreasing E chi X
circuit_increasing E chi alt X c =
    let k = around_sorted chi alt c.tuple c.distinct in
    record {
      tuple = k.0;
      increasing = k.1;
      within = λ e m. c.within e (k.2 e m);
      nonzero = c.nonzero;
      same = same_trans X (around chi c.tuple) (around chi k.0) c.same k.3;
    }

increasing_circuit : (E : List ℕ) (chi : List ℕ → Sign) (X : SignVector) → IsAroundIncreasing E chi X
    → IsCircuit E chi X
increasing_circuit E chi X c =
    record {
      tuple = c.tuple;
      distinct = increasing_distinct c.tuple c.increasing;
      within = c.within;
      nonzero =
          c.nonzero;
      same = c.same;
    }

pub circuit_both : (E : List ℕ) (chi : List ℕ → Sign) → IsAlternating chi → (X : SignVector) → IsCircuit E chi X
    ↔ IsAroundIncreasing E chi X
circuit_both E chi alt X = (circuit_increasing E chi alt X, increasing_circuit E chi X)

-- the tuple of a cocircuit has no repeat
cocircuit_distinct : (chi : List ℕ → Sign) → IsAlternating chi → (X : SignVector) → (c : IsCocircuit chi X)
    → IsDistinct c.tuple
cocircuit_distinct chi alt X c =
    distinct_front c.tuple c.nonzero.0 (nonzero_distinct chi alt (c.tuple ++ c.nonzero.0 ∷ [])
    (⊎_elim (λ q. subst IsNonzero (q c.nonzero.0) c.nonzero.1)
    (λ q. nonzero_from_opposite (along chi c.tuple c.nonzero.0) (subst IsNonzero (q c.nonzero.0) c.nonzero.1))
    c.same))

pub cocircuit_both : (chi : List ℕ → Sign) → IsAlternating chi → (X : SignVector) → IsCocircuit chi X
    ↔ IsAlongIncreasing chi X
cocircuit_both chi alt X = (
  λ c. let k = along_sorted chi alt c.tuple (cocircuit_distinct chi alt X c) in record {
    tuple = k.0;
    increasing = k.1;
    nonzero = c.nonzero;
    same = same_trans X (along chi c.tuple) (along chi k.0) c.same k.2;
  },
  λ c. record { tuple = c.tuple; nonzero = c.nonzero; same = c.same },
)

-- ---- covectors

-- nonzero somewhere, or zero everywhere
around_nonzero_or_zero : (chi : List ℕ → Sign) (s : List ℕ) → HasNonzero (around chi s)
    ⊎ ((e : ℕ) → around chi s e ≡ Zero)
around_nonzero_or_zero chi s =
    ⊎_elim
    (λ k. inl (k.0, k.2))
    (λ none. inr (λ e. ⊎_elim (λ z. z) (λ n. none e (around_member chi s e n)) (zero_or_nonzero (around chi s e))))
    (search_members (λ e. IsNonzero (around chi s e)) (λ e. around chi s e ≡ Zero)
    (λ e. ⊎_elim (λ z. inr z) (λ n. inl n) (zero_or_nonzero (around chi s e))) s)

to_tuples : (E : List ℕ) (chi : List ℕ → Sign) (X : SignVector) → IsOrthogonalToAll (IsCircuit E chi) X
    → IsOrthogonalToTuples E chi X
to_tuples E chi X o s i w =
    ⊎_elim
    (λ n. orthogonal_sym X (around chi s)
    (o (around chi s)
    (increasing_circuit E chi (around chi s)
    (record { tuple = s; increasing = i; within = w; nonzero = n; same = inl (λ e. refl) }))))
    (λ z. orthogonal_same (around chi s) zero_vector X X z (λ e. refl) (orthogonal_zero X))
    (around_nonzero_or_zero chi s)

from_tuples : (E : List ℕ) (chi : List ℕ → Sign) → IsAlternating chi → (X : SignVector) → IsOrthogonalToTuples E chi X
    → IsOrthogonalToAll (IsCircuit E chi) X
from_tuples E chi alt X o V v =
    let k = circuit_increasing E chi alt V v in
    orthogonal_sym V X (orthogonal_up_to_sign V (around chi k.tuple) X k.same (o k.tuple k.increasing k.within))

pub orthogonal_both : (E : List ℕ) (chi : List ℕ → Sign) → IsAlternating chi → (X : SignVector)
    → IsOrthogonalToTuples E chi X ↔ IsOrthogonalToAll (IsCircuit E chi) X
orthogonal_both E chi alt X = (from_tuples E chi alt X, to_tuples E chi X)
