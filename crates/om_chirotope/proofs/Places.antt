-- The signs of the two vectors of a map, place by place.
--
-- Main results: vector_is, vector_more, place-vector, around_place, circuit_place, circuit_off, cocircuit_place
use Rattle.std.specs.Prelude.{ℕ, ◌≡◌, ◌≢◌, ◌+◌, ◌-◌, ◌<◌, ◌≤◌, List, [], ◌∷◌, ◌++◌, length, refl}
use Rattle.std.specs.List.{remove}
use Rattle.std.proofs.Common.{zero, suc, sym, ◌∙◌, arith, inl, inr, set, get_or}
use Rattle.std.proofs.lemmas.Bool.{cases_eq, eq-eqb, ne_eqb}
use Rattle.std.proofs.lemmas.List.{ext_get_or, get_or-set_same, get_or-set_other}
use Rattle.std.proofs.lemmas.List.FromFn.{length-map-range_with_len, get_or-map-range_with_len}
use Rattle.om_signs.specs.declared.sign.Sign.{Sign}
use Rattle.om_signs.specs.declared.sign.Sign.TheVariants.{Zero}
use Rattle.om_signs.specs.Sign.{product}
use Rattle.om_signs.specs.SignVec.{at, at_element}
use Rattle.om_signs.proofs.SignLaws.{product-opposite_left}
use Rattle.om_subsets.specs.Subsets.{IsSubsetFrom, IsMember}
use Rattle.om_subsets.proofs.Order.{members_from}
use Rattle.om_laws.specs.Relations.{around, along}
use Rattle.om_laws.specs.Bridge.{as_list}
use Rattle.om_laws.proofs.RelationLaws.{around_zero}
use Rattle.om_laws.proofs.MemberLaws.{member_at}
use Rattle.om_chirotope.specs.Map.{SignMap, value_of, circuit_vector, cocircuit_vector, parity_sign}
use Rattle.om_chirotope.proofs.Circuits.{parity_sign-suc}

-- a list of n signs that are those of f at 1 to n
pub vector_is : (n : ℕ) (f : ℕ → Sign) (xs : List Sign) → length xs ≡ n → ((k : ℕ) → k < n → at xs k ≡ f (k + 1))
    → xs ≡ as_list n f
vector_is n f xs l h = ext_get_or Zero xs (as_list n f) (l ∙ sym (length-map-range_with_len f 1 n)) (λ k lt.
    let m : k < n = omega arith in
    let e : 1 + k ≡ k + 1 = omega arith in
    h k m ∙ sym (get_or-map-range_with_len f 1 n k (k + 1) Zero m e))

-- one more sign of a vector
pub vector_more : (e : ℕ) (f : ℕ → Sign) (xs : List Sign) (s : Sign) → 1 ≤ e → e ≤ length xs → s ≡ f e
    → ((k : ℕ) → k + 1 < e → at xs k ≡ f (k + 1)) → (k : ℕ) → k + 1 < e + 1 → at (set xs (e - 1) s) k ≡ f (k + 1)
vector_more e f xs s low high is done k l = elim (cases_eq k (e - 1)) [
  | inl q ↦ let r : k + 1 ≡ e = omega arith in let lt : e - 1 < length xs = omega arith in
      rw (r, q, get_or-set_same xs (e - 1) s Zero lt) is
  | inr n ↦ get_or-set_other xs (e - 1) k s Zero n ∙ done k (omega arith)
]

-- the list of a function has at each of the elements 1 to n the value of the function
pub place-vector : (n : ℕ) (f : ℕ → Sign) (e : ℕ) → 1 ≤ e → e ≤ n → at_element (as_list n f) e ≡ f e
place-vector n f e low high =
    let back : 1 + (e - 1) ≡ e = omega arith in
    get_or-map-range_with_len f 1 n (e - 1) e Zero (omega arith) back

-- ---- the vector around a list, by the places of its elements

remove_first : (x : ℕ) (xs : List ℕ) → remove (x ∷ xs) 0 ≡ xs
remove_first x xs = refl

remove_later : (x i : ℕ) (xs : List ℕ) → remove (x ∷ xs) (suc i) ≡ x ∷ remove xs i
remove_later x i xs = refl

pub around_place : (low m i : ℕ) (chi : List ℕ → Sign) (xs : List ℕ) → IsSubsetFrom low m xs → i < length xs
    → around chi xs (get_or xs i 0) ≡ product (parity_sign (i + 1)) (chi (remove xs i))
around_place low m i chi [] h l = absurd (omega arith)
around_place low zero i chi (x ∷ xs) h l = absurd h
around_place low (suc m) zero chi (x ∷ xs) (inl (q, h)) l = rw (eq-eqb x x refl, remove_first x xs) refl
around_place low (suc m) (suc i) chi (x ∷ xs) (inl (q, h)) l =
    let above = members_from (low + 1) m (get_or xs i 0) xs h (member_at xs i (omega arith)) in
    let ne : get_or xs i 0 ≢ x = omega arith in
    let here = around_place (low + 1) m i (λ t. chi (x ∷ t)) xs h (omega arith) in
    let s : suc i + 1 ≡ suc (i + 1) = omega arith in
    rw (ne_eqb (get_or xs i 0) x ne, here, remove_later x i xs, s, parity_sign-suc (i + 1))
    (sym (product-opposite_left (parity_sign (i + 1)) (chi (x ∷ remove xs i))))
around_place low (suc m) i chi (x ∷ xs) (inr (n, h)) l = around_place (low + 1) m i chi (x ∷ xs) h l

pub circuit_place : (m : SignMap) (s : List ℕ) (i : ℕ) → IsSubsetFrom 1 m.elements s → i < length s
    → at_element (circuit_vector m s) (get_or s i 0) ≡ product (parity_sign (i + 1)) (value_of m (remove s i))
circuit_place m s i h l =
    let bound = members_from 1 m.elements (get_or s i 0) s h (member_at s i l) in
    place-vector m.elements (around (value_of m) s) (get_or s i 0) (omega arith) (omega arith)
    ∙ around_place 1 m.elements i (value_of m) s h l

pub circuit_off : (m : SignMap) (s : List ℕ) (e : ℕ) → 1 ≤ e → e ≤ m.elements → (IsMember e s → ⊥)
    → at_element (circuit_vector m s) e ≡ Zero
circuit_off m s e low high n = place-vector m.elements (around (value_of m) s) e low high
    ∙ around_zero (value_of m) s e n

-- the vector U of A has at e the value of A followed by e
pub cocircuit_place : (m : SignMap) (a : List ℕ) (e : ℕ) → 1 ≤ e → e ≤ m.elements
    → at_element (cocircuit_vector m a) e ≡ value_of m (a ++ e ∷ [])
cocircuit_place m a e low high = place-vector m.elements (along (value_of m) a) e low high
