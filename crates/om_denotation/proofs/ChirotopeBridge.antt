-- Circuits, cocircuits and covectors of a chirotope as lists of signs, and as functions from elements to signs.
--
-- Main definitions: tuples_of, the map on all lists of elements that the laws speak of.
-- Main results: a list of n signs is a circuit, a cocircuit or a covector of a map exactly where its function is one of
-- the map on all lists (circuit_function and circuit_of_function, cocircuit_function and cocircuit_of_function,
-- covector_function and covector_of_function); and each such function is zero off the elements, and gives a list
-- (circuit_list, cocircuit_list, covector_list). None of these asks for the axioms.
-- Reference: Björner, Las Vergnas, Sturmfels, White and Ziegler, Oriented Matroids, chapter 3.
use Rattle.std.specs.List.{range_with_len}
use Rattle.std.proofs.Common.{ℕ, zero, suc, ◌≡◌, ◌+◌, ◌-◌, ◌<◌, ◌≤◌, List, [], ◌∷◌, ◌++◌, length, map, cond, nat_eq}
use Rattle.std.proofs.Common.{refl, sym, ap, subst, ◌∙◌, inl, inr, arith, append-nil}
use Rattle.std.proofs.lemmas.Bool.{cases_lt}
use Rattle.std.proofs.lemmas.List.{length-map, get_or_past}
use Rattle.om_signs.specs.declared.sign.Sign.{Sign}
use Rattle.om_signs.specs.declared.sign.Sign.TheVariants.{Zero}
use Rattle.om_signs.specs.Sign.{opposite}
use Rattle.om_subsets.specs.Subsets.{IsSubsetFrom}
use Rattle.om_subsets.proofs.Statements.{subset_is_increasing}
use Rattle.om_laws.specs.Vectors.{SignVector, IsSupportedOn, AreEqualUpToSign}
use Rattle.om_laws.specs.Vectors as vectors
use Rattle.om_laws.specs.Sorting.{IsIncreasing, IsElement, IsTuple, on_tuples}
use Rattle.om_laws.specs.Relations.{around, along}
use Rattle.om_laws.specs.Chirotope.{elements_to}
use Rattle.om_laws.specs.Circuits.{IsCircuit, IsCocircuit}
use Rattle.om_laws.specs.Covectors.{IsCovector}
use Rattle.om_laws.specs.Denotations.{IsAroundTuple, IsAlongTuple, IsOrthogonalInRank}
use Rattle.om_laws.specs.Bridge.{as_function, as_list}
use Rattle.om_laws.proofs.RelationLaws.{around_member}
use Rattle.om_laws.proofs.TupleSizes.{each_member, on_tuples_at, on_tuples_tuple, tuple_with, tuple_without, tuple_last}
use Rattle.om_laws.proofs.TupleSizes.{tuple_rank}
use Rattle.om_laws.proofs.ChirotopeLaws.{member_from_element}
use Rattle.om_laws.proofs.RankLaws.{circuit_in_rank, cocircuit_in_rank, orthogonal_in_rank}
use Rattle.om_laws.proofs.CovectorLaws.{circuit_same, cocircuit_same}
use Rattle.om_laws.proofs.PairCovectors.{covector_same}
use Rattle.om_laws.proofs.BridgeLaws.{as_function-as_list, as_list-as_function, as_function-negated}
use Rattle.om_laws.proofs.BridgeLaws.{orthogonal_functions, orthogonal_lists, length-as_list}
use Rattle.om_laws.proofs.VectorLaws.{orthogonal_sym, orthogonal_same, nonzero_up_to_sign}
use Rattle.om_chirotope.specs.Map.{SignMap, chi_of, value_of, circuit_vector, cocircuit_vector}
use Rattle.om_chirotope.proofs.Theory.{from_tuple, to_tuple}
use Rattle.om_denotation.specs.Circuits.{HasNonzero, IsUpToSign, IsCircuitOfChirotope, IsCocircuitOfChirotope}
use Rattle.om_denotation.specs.Covectors.{IsCovectorOfChirotope}

-- the values of the map on the tuples of the rank, and zero on other lists
abbrev pub tuples_of : SignMap → List ℕ → Sign
tuples_of m = on_tuples m.elements m.rank (chi_of m)

-- ---- increasing lists

-- the list of a set of the elements 1 to n increases from each entry to the next
pub increasing_subset : (n : ℕ) (xs : List ℕ) → IsSubsetFrom 1 n xs → IsIncreasing xs
increasing_subset n xs h = ((subset_is_increasing n xs).0 h).0

-- ---- lists of signs from functions

map_on_range : (low k : ℕ) (f g : SignVector) → ((e : ℕ) → low ≤ e → e < low + k → f e ≡ g e)
    → map f (range_with_len low k) ≡ map g (range_with_len low k)
map_on_range low zero f g h = refl
map_on_range low (suc k) f g h =
    ap (λ s. s ∷ map f (range_with_len (low + 1) k)) (h low (omega arith) (omega arith))
    ∙ ap (λ l. g low ∷ l) (map_on_range (low + 1) k f g (λ e a b. h e (omega arith) (omega arith)))

-- functions that agree on the elements have the same list
pub as_list_same : (n : ℕ) (f g : SignVector) → ((e : ℕ) → IsElement n e → f e ≡ g e) → as_list n f ≡ as_list n g
as_list_same n f g h = map_on_range 1 n f g (λ e a b. h e (a, omega arith))

-- lists of n signs with the same functions are the same
pub same_lists : (n : ℕ) (X Y : List Sign) → length X ≡ n → length Y ≡ n → ((e : ℕ) → as_function X e ≡ as_function Y e)
    → X ≡ Y
same_lists n X Y lx ly q = sym (as_list-as_function n X lx)
    ∙ as_list_same n (as_function X) (as_function Y) (λ e i. q e) ∙ as_list-as_function n Y ly

-- the function of a list of n signs is zero off the elements 1 to n
pub list_supported : (n : ℕ) (X : List Sign) → length X ≡ n → IsSupportedOn (elements_to n) (as_function X)
list_supported n X l zero k = absurd (k refl)
list_supported n X l (suc i) k = elim (cases_lt i n) [
  | inl lt ↦ member_from_element n (suc i) (omega arith, omega arith)
  | inr ge ↦ absurd (k (get_or_past X i Zero (omega arith)))
]

pub nonzero_function : (X : List Sign) → HasNonzero X → vectors.HasNonzero (as_function X)
nonzero_function X (i, n) = (suc i, n)

-- a list whose function is nonzero somewhere has a sign that isn't zero
pub nonzero_list : (X : List Sign) → vectors.HasNonzero (as_function X) → HasNonzero X
nonzero_list X (zero, n) = absurd (n refl)
nonzero_list X (suc i, n) = (i, n)

-- ---- up to sign

module _ (n : ℕ) (F : SignVector) (sup : IsSupportedOn (elements_to n) F) where
  up_to_sign_function : (X : List Sign) → IsUpToSign X (as_list n F) → AreEqualUpToSign (as_function X) F
  up_to_sign_function X (inl q) = inl (λ e. ap (λ Z. as_function Z e) q ∙ as_function-as_list n F sup e)
  up_to_sign_function X (inr q) =
      inr (λ e. ap (λ Z. as_function Z e) q ∙ as_function-negated (as_list n F) e
      ∙ ap opposite (as_function-as_list n F sup e))

  up_to_sign_list : (X : List Sign) → length X ≡ n → AreEqualUpToSign (as_function X) F → IsUpToSign X (as_list n F)
  up_to_sign_list X l (inl q) =
      inl (same_lists n X (as_list n F) l (length-as_list n F) (λ e. q e ∙ sym (as_function-as_list n F sup e)))
  up_to_sign_list X l (inr q) =
      inr (same_lists n X (map opposite (as_list n F)) l (length-map (as_list n F) opposite ∙ length-as_list n F)
      (λ e. q e ∙ ap opposite (sym (as_function-as_list n F sup e)) ∙ sym (as_function-negated (as_list n F) e)))

up_to_sign_length : (n : ℕ) (F : SignVector) (X : List Sign) → IsUpToSign X (as_list n F) → length X ≡ n
up_to_sign_length n F X (inl q) = ap length q ∙ length-as_list n F
up_to_sign_length n F X (inr q) = ap length q ∙ length-map (as_list n F) opposite ∙ length-as_list n F

-- ---- the two kinds of vectors

-- the vector around a list depends on the values of the list without one element
around_same : (chi psi : List ℕ → Sign) (xs : List ℕ) (e : ℕ)
    → ((cs bs : List ℕ) (x : ℕ) → xs ≡ cs ++ x ∷ bs → chi (cs ++ bs) ≡ psi (cs ++ bs))
    → around chi xs e ≡ around psi xs e
around_same chi psi [] e h = refl
around_same chi psi (x ∷ xs) e h =
    ap (λ s. opposite (cond (nat_eq e x) s (around (λ t. chi (x ∷ t)) xs e))) (h [] xs x refl)
    ∙ ap (λ s. opposite (cond (nat_eq e x) (psi xs) s))
    (around_same (λ t. chi (x ∷ t)) (λ t. psi (x ∷ t)) xs e (λ cs bs y q. h (x ∷ cs) bs y (ap (λ l. x ∷ l) q)))

module _ (m : SignMap) where
  -- around a tuple of one element more than the rank
  around_tuple : (s : List ℕ) → IsTuple m.elements (suc m.rank) s → (e : ℕ)
      → around (tuples_of m) s e ≡ around (value_of m) s e
  around_tuple s t e = around_same (tuples_of m) (value_of m) s e (λ cs bs x q.
      on_tuples_at m.elements m.rank (chi_of m) (cs ++ bs)
      (tuple_without m.elements m.rank cs bs x (subst (IsTuple m.elements (suc m.rank)) q t)))

  -- along a tuple of one element less than the rank, at an element
  along_tuple : (a : List ℕ) → IsTuple m.elements (m.rank - 1) a → m.rank ≡ suc (m.rank - 1) → (e : ℕ)
      → IsElement m.elements e → along (tuples_of m) a e ≡ along (value_of m) a e
  along_tuple a t r e i = on_tuples_at m.elements m.rank (chi_of m) (a ++ e ∷ [])
      (subst (λ k. IsTuple m.elements k (a ++ e ∷ [])) (sym r)
      (tuple_with m.elements (m.rank - 1) a [] e (subst (IsTuple m.elements (m.rank - 1)) (sym (append-nil a)) t) i))

  around_supported : (s : List ℕ) (k : ℕ) → IsTuple m.elements k s
      → IsSupportedOn (elements_to m.elements) (around (tuples_of m) s)
  around_supported s k t e n =
      member_from_element m.elements e
      (each_member (IsElement m.elements) s t.within e (around_member (tuples_of m) s e n))

  along_supported : (a : List ℕ) → IsSupportedOn (elements_to m.elements) (along (tuples_of m) a)
  along_supported a e n =
      member_from_element m.elements e
      (tuple_last m.elements m.rank a e (on_tuples_tuple m.elements m.rank (chi_of m) (a ++ e ∷ []) n)).1

  circuit_vector_is : (s : List ℕ) → IsTuple m.elements (suc m.rank) s
      → circuit_vector m s ≡ as_list m.elements (around (tuples_of m) s)
  circuit_vector_is s t = as_list_same m.elements (around (value_of m) s) (around (tuples_of m) s)
      (λ e i. sym (around_tuple s t e))

  cocircuit_vector_is : (a : List ℕ) → IsTuple m.elements (m.rank - 1) a → m.rank ≡ suc (m.rank - 1)
      → cocircuit_vector m a ≡ as_list m.elements (along (tuples_of m) a)
  cocircuit_vector_is a t r =
      as_list_same m.elements (along (value_of m) a) (along (tuples_of m) a) (λ e i. sym (along_tuple a t r e i))

  -- ---- circuits

  larger_tuple : (s : List ℕ) → IsSubsetFrom 1 m.elements s → length s ≡ m.rank + 1 → IsTuple m.elements (suc m.rank) s
  larger_tuple s h l = to_tuple m.elements (suc m.rank) s h (omega arith)

  -- a circuit of a map has a sign for each element
  pub circuit_length : (X : List Sign) → IsCircuitOfChirotope m X → length X ≡ m.elements
  circuit_length X c = up_to_sign_length m.elements (around (value_of m) c.tuple) X c.same

  pub circuit_function : (X : List Sign) → IsCircuitOfChirotope m X
      → IsCircuit (elements_to m.elements) (tuples_of m) (as_function X)
  circuit_function X c =
      let t = larger_tuple c.tuple c.increasing c.size in
      (circuit_in_rank m.elements m.rank (chi_of m) (as_function X)).1 (record {
        tuple = c.tuple;
        increasing = increasing_subset m.elements c.tuple c.increasing;
        sized = t;
        nonzero = nonzero_function X c.nonzero;
        same = up_to_sign_function m.elements (around (tuples_of m) c.tuple) (around_supported c.tuple (suc m.rank) t) X
            (subst (IsUpToSign X) (circuit_vector_is c.tuple t) c.same);
      })

  pub circuit_of_function : (X : List Sign) → length X ≡ m.elements
      → IsCircuit (elements_to m.elements) (tuples_of m) (as_function X) → IsCircuitOfChirotope m X
  circuit_of_function X l c = back ((circuit_in_rank m.elements m.rank (chi_of m) (as_function X)).0 c)
    where
      back : IsAroundTuple m.elements m.rank (chi_of m) (as_function X) → IsCircuitOfChirotope m X
      back k = record {
        tuple = k.tuple;
        increasing = from_tuple m.elements (suc m.rank) k.tuple k.sized k.increasing;
        size = let s = k.sized.size in omega arith;
        nonzero = nonzero_list X k.nonzero;
        same = subst (IsUpToSign X) (sym (circuit_vector_is k.tuple k.sized))
            (up_to_sign_list m.elements (around (tuples_of m) k.tuple) (around_supported k.tuple (suc m.rank) k.sized) X
            l k.same);
      }

  pub circuit_supported : (F : SignVector) → IsCircuit (elements_to m.elements) (tuples_of m) F
      → IsSupportedOn (elements_to m.elements) F
  circuit_supported F c e n =
      c.within e
      (around_member (tuples_of m) c.tuple e (nonzero_up_to_sign F (around (tuples_of m) c.tuple) c.same e n))

  pub circuit_list : (F : SignVector) → IsCircuit (elements_to m.elements) (tuples_of m) F
      → IsCircuitOfChirotope m (as_list m.elements F)
  circuit_list F c = circuit_of_function (as_list m.elements F) (length-as_list m.elements F)
      (circuit_same (elements_to m.elements) (tuples_of m) (as_function (as_list m.elements F)) F
      (as_function-as_list m.elements F (circuit_supported F c)) c)

  -- ---- cocircuits

  smaller_tuple : (a : List ℕ) → IsSubsetFrom 1 m.elements a → length a + 1 ≡ m.rank → IsTuple m.elements (m.rank - 1) a
  smaller_tuple a h l = to_tuple m.elements (m.rank - 1) a h (omega arith)

  -- a cocircuit of a map has a sign for each element
  pub cocircuit_length : (X : List Sign) → IsCocircuitOfChirotope m X → length X ≡ m.elements
  cocircuit_length X c = up_to_sign_length m.elements (along (value_of m) c.tuple) X c.same

  -- the function of a cocircuit is a cocircuit of the map on all lists
  pub cocircuit_function : (X : List Sign) → IsCocircuitOfChirotope m X → IsCocircuit (tuples_of m) (as_function X)
  cocircuit_function X c =
      let t = smaller_tuple c.tuple c.increasing c.size in
      let s = c.size in
      let r : m.rank ≡ suc (m.rank - 1) = omega arith in
      (cocircuit_in_rank m.elements m.rank (chi_of m) (as_function X)).1 (record {
        tuple = c.tuple;
        increasing = increasing_subset m.elements c.tuple c.increasing;
        sized = t;
        nonzero = nonzero_function X c.nonzero;
        same = up_to_sign_function m.elements (along (tuples_of m) c.tuple) (along_supported c.tuple) X
            (subst (IsUpToSign X) (cocircuit_vector_is c.tuple t r) c.same);
      })

  pub cocircuit_of_function : (X : List Sign) → length X ≡ m.elements → IsCocircuit (tuples_of m) (as_function X)
      → IsCocircuitOfChirotope m X
  cocircuit_of_function X l c = back ((cocircuit_in_rank m.elements m.rank (chi_of m) (as_function X)).0 c)
    where
      back : IsAlongTuple m.elements m.rank (chi_of m) (as_function X) → IsCocircuitOfChirotope m X
      back k =
          let n = nonzero_up_to_sign (as_function X) (along (tuples_of m) k.tuple) k.same k.nonzero.0 k.nonzero.1 in
          let r = tuple_rank m.elements m.rank k.tuple k.nonzero.0
          (on_tuples_tuple m.elements m.rank (chi_of m) (k.tuple ++ k.nonzero.0 ∷ []) n) in
          record {
            tuple = k.tuple;
            increasing = from_tuple m.elements (m.rank - 1) k.tuple k.sized k.increasing;
            size = let s = k.sized.size in omega arith;
            nonzero = nonzero_list X k.nonzero;
            same = subst (IsUpToSign X) (sym (cocircuit_vector_is k.tuple k.sized r))
                (up_to_sign_list m.elements (along (tuples_of m) k.tuple) (along_supported k.tuple) X l k.same);
          }

  -- a cocircuit of the map on all lists is zero off the elements
  pub cocircuit_supported : (F : SignVector) → IsCocircuit (tuples_of m) F → IsSupportedOn (elements_to m.elements) F
  cocircuit_supported F c e n =
      along_supported c.tuple e (nonzero_up_to_sign F (along (tuples_of m) c.tuple) c.same e n)

  -- the signs at the elements of a cocircuit of the map on all lists are a cocircuit
  pub cocircuit_list : (F : SignVector) → IsCocircuit (tuples_of m) F → IsCocircuitOfChirotope m (as_list m.elements F)
  cocircuit_list F c = cocircuit_of_function (as_list m.elements F) (length-as_list m.elements F)
      (cocircuit_same (tuples_of m) (as_function (as_list m.elements F)) F
      (as_function-as_list m.elements F (cocircuit_supported F c)) c)

  -- ---- covectors

  -- the function of a covector is a covector of the map on all lists
  pub covector_function : (X : List Sign) → IsCovectorOfChirotope m X
      → IsCovector (elements_to m.elements) (tuples_of m) (as_function X)
  covector_function X c = record {
    orthogonal = (orthogonal_in_rank m.elements m.rank (chi_of m) (as_function X)).0 each;
    supported = list_supported m.elements X c.size;
  }
    where
      each : IsOrthogonalInRank m.elements m.rank (chi_of m) (as_function X)
      each s t i =
          let o = c.orthogonal s (from_tuple m.elements (suc m.rank) s t i) (let l = t.size in omega arith) in
          orthogonal_sym (as_function X) (around (tuples_of m) s)
          (orthogonal_same (as_function X) (as_function X) (around (tuples_of m) s) (as_function (circuit_vector m s))
          (λ e. refl)
          (λ e. sym (ap (λ Z. as_function Z e) (circuit_vector_is s t)
          ∙ as_function-as_list m.elements (around (tuples_of m) s) (around_supported s (suc m.rank) t) e))
          (orthogonal_functions X (circuit_vector m s) o))

  pub covector_of_function : (X : List Sign) → length X ≡ m.elements
      → IsCovector (elements_to m.elements) (tuples_of m) (as_function X) → IsCovectorOfChirotope m X
  covector_of_function X l c = record {
    size = l;
    orthogonal = λ s h few.
        let t = larger_tuple s h few in
        let o = (orthogonal_in_rank m.elements m.rank (chi_of m) (as_function X)).1 c.orthogonal s t
        (increasing_subset m.elements s h) in
        orthogonal_lists X (circuit_vector m s)
        (orthogonal_same (as_function X) (as_function X) (as_function (circuit_vector m s)) (around (tuples_of m) s)
        (λ e. refl)
        (λ e. ap (λ Z. as_function Z e) (circuit_vector_is s t)
        ∙ as_function-as_list m.elements (around (tuples_of m) s) (around_supported s (suc m.rank) t) e)
        (orthogonal_sym (around (tuples_of m) s) (as_function X) o));
  }

  -- the signs at the elements of a covector of the map on all lists are a covector
  pub covector_list : (F : SignVector) → IsCovector (elements_to m.elements) (tuples_of m) F
      → IsCovectorOfChirotope m (as_list m.elements F)
  covector_list F c = covector_of_function (as_list m.elements F) (length-as_list m.elements F)
      (covector_same (elements_to m.elements) (IsCircuit (elements_to m.elements) (tuples_of m))
      (as_function (as_list m.elements F)) F (as_function-as_list m.elements F c.supported) c)
