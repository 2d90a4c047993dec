-- The places of a signed permutation.
--
-- Main results: the elements at the places 1 to n are those of 1 to n (element_within, element_apart, old_place), and
-- there are none at others (signed_off, element_off); a list with such places is a signed permutation
-- (permutation_by); lists of n signed elements are the same if they are so at 1 to n (same_entries).
use Rattle.std.proofs.Common.{ℕ, zero, suc, ◌≡◌, ◌≤◌, List, [], ◌∷◌, length, get_or, map, refl, sym, ap}
use Rattle.std.proofs.Common.{subst, ◌∙◌, inl, inr, arith}
use Rattle.std.proofs.lemmas.Bool.{cases_lt}
use Rattle.std.proofs.lemmas.List.{length-map, get_or_past, ext_get_or}
use Rattle.std.proofs.lemmas.List.FromFn.{length-map-range_with_len, get_or-map-range_with_len}
use Rattle.om_laws.specs.Sorting.{IsElement}
use Rattle.om_laws.specs.Chirotope.{elements_to}
use Rattle.om_laws.proofs.MemberLaws.{member_at}
use Rattle.om_laws.proofs.TupleSizes.{each_member, each_from}
use Rattle.om_symmetry.specs.declared.signed_element.SignedElement.{SignedElement}
use Rattle.om_symmetry.specs.Permutations.{elements_of, IsSignedPermutation, no_element, signed_at, element_at}
use Rattle.om_symmetry.proofs.Distinct.{all_listed, place_of, places_apart, distinct_by_places}

-- the element at place j + 1 is the one at place j, counted from 0, of the list of elements
pub element_listed : (w : List SignedElement) (j : ℕ) → element_at w (suc j) ≡ get_or (elements_of w) j 0
element_listed [] j = refl
element_listed (a ∷ w) zero = refl
element_listed (a ∷ w) (suc j) = element_listed w j

pub signed_off : (n : ℕ) (w : List SignedElement) → length w ≡ n → (i : ℕ) → (IsElement n i → ⊥)
    → signed_at w i ≡ no_element
signed_off n w l zero off = refl
signed_off n w l (suc i) off = elim (cases_lt i n) [
  | inl lt ↦ absurd (off (omega arith, omega arith))
  | inr ge ↦ get_or_past w i no_element (omega arith)
]

-- lists of n signed elements with the same ones at the places 1 to n
pub same_entries : (n : ℕ) (u v : List SignedElement) → length u ≡ n → length v ≡ n
    → ((i : ℕ) → IsElement n i → signed_at u i ≡ signed_at v i) → u ≡ v
same_entries n u v lu lv h = ext_get_or no_element u v (lu ∙ sym lv) (λ i l. h (suc i) (omega arith, omega arith))

-- a list that is made from 1 to n has at i what is made from i
pub made_at : (n : ℕ) (f : ℕ → SignedElement) (i : ℕ) → IsElement n i → signed_at (map f (elements_to n)) i ≡ f i
made_at n f zero (low, high) = absurd (omega arith)
made_at n f (suc i) (low, high) = get_or-map-range_with_len f 1 n i (suc i) no_element (omega arith) (omega arith)

-- a list that is made from 1 to n has n entries
pub length_made : (n : ℕ) (f : ℕ → SignedElement) → length (map f (elements_to n)) ≡ n
length_made n f = length-map-range_with_len f 1 n

module _ (n : ℕ) (w : List SignedElement) (p : IsSignedPermutation n w) where
  -- a signed permutation of 1 to n has n entries
  pub permutation_length : length w ≡ n
  permutation_length = sym (length-map w (λ (a : SignedElement). a.element)) ∙ p.tuple.size

  -- a signed permutation has an element of 1 to n at each of the places 1 to n
  pub element_within : (i : ℕ) → IsElement n i → IsElement n (element_at w i)
  element_within zero (low, high) = absurd (omega arith)
  element_within (suc i) (low, high) =
      let l = p.tuple.size in
      subst (IsElement n) (sym (element_listed w i))
      (each_member (IsElement n) (elements_of w) p.tuple.within (get_or (elements_of w) i 0)
      (member_at (elements_of w) i (omega arith)))

  pub element_off : (i : ℕ) → (IsElement n i → ⊥) → element_at w i ≡ 0
  element_off i off = ap (λ (a : SignedElement). a.element) (signed_off n w permutation_length i off)

  -- two of the places 1 to n with the same element are the same place
  pub element_apart : (i j : ℕ) → IsElement n i → IsElement n j → element_at w i ≡ element_at w j → i ≡ j
  element_apart zero j (low, high) k q = absurd (omega arith)
  element_apart (suc i) zero h (low, high) q = absurd (omega arith)
  element_apart (suc i) (suc j) (low, high) (low', high') q =
      let l = p.tuple.size in
      ap suc
      (places_apart (elements_of w) p.distinct i j (omega arith) (omega arith)
      (sym (element_listed w i) ∙ q ∙ element_listed w j))

  -- the place of an element
  pub old_place : (e : ℕ) → IsElement n e → (i : ℕ) × IsElement n i × (element_at w i ≡ e)
  old_place e h =
      let k = place_of e (elements_of w) (all_listed n (elements_of w) p.tuple p.distinct e h) in
      let l = p.tuple.size in
      let lt = k.1 in
      (suc k.0, (omega arith, omega arith), element_listed w k.0 ∙ k.2)

-- n signed elements of 1 to n, no two of them of the same element, are a signed permutation
pub permutation_by : (n : ℕ) (u : List SignedElement) → length u ≡ n
    → ((i : ℕ) → IsElement n i → IsElement n (element_at u i))
    → ((i j : ℕ) → IsElement n i → IsElement n j → element_at u i ≡ element_at u j → i ≡ j) → IsSignedPermutation n u
permutation_by n u l within apart = record {
  tuple = record {
    size = size;
    within = each_from (IsElement n) (elements_of u) (λ e m.
        let k = place_of e (elements_of u) m in
        let lt = k.1 in
        let whole = size in
        subst (IsElement n) (element_listed u k.0 ∙ k.2) (within (suc k.0) (omega arith, omega arith)));
  };
  distinct = distinct_by_places (elements_of u) (λ i j li lj q.
      let whole = size in
      let k = apart (suc i) (suc j) (omega arith, omega arith) (omega arith, omega arith)
      (element_listed u i ∙ q ∙ sym (element_listed u j)) in
      omega arith);
}
  where
    size : length (elements_of u) ≡ n
    size = length-map u (λ (a : SignedElement). a.element) ∙ l

-- what a call finds at a place
pub entry_within : (w xs : List SignedElement) (i : ℕ) (a : SignedElement) → IsSignedPermutation (length w) w → w ≡ xs
    → 1 ≤ i → i ≤ length xs → a ≡ signed_at w i → IsElement (length xs) a.element
entry_within w xs i a p q low high e =
    let l = ap length q in
    let h : IsElement (length w) i = (low, omega arith) in
    subst (λ k. IsElement k a.element) l
    (subst (λ (b : SignedElement). IsElement (length w) b.element) (sym e) (element_within (length w) w p i h))
