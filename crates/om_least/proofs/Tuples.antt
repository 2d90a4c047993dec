-- The elements of the first entries of a signed permutation.
--
-- Main results: whether an element is among them (listed_at, not_listed), what is at a place (entry_within), and the
-- tuples of old elements (tuple_begun).
use Rattle.std.proofs.Common.{ℕ, zero, suc, ◌≡◌, ◌<◌, ◌≤◌, List, [], ◌∷◌, length, get_or, map, take, sym, ap, subst}
use Rattle.std.proofs.Common.{◌∙◌, arith}
use Rattle.std.proofs.lemmas.List.{length-map, get_or-take, length-take-le}
use Rattle.om_signs.specs.declared.sign.Sign.{Sign}
use Rattle.om_subsets.specs.Lists.{IsWithin}
use Rattle.om_laws.specs.Members.{IsMember}
use Rattle.om_laws.specs.Sorting.{IsElement, Each}
use Rattle.om_laws.proofs.MemberLaws.{member_at}
use Rattle.om_laws.proofs.TupleSizes.{each_member}
use Rattle.om_symmetry.specs.declared.signed_element.SignedElement.{SignedElement}
use Rattle.om_symmetry.specs.Permutations.{elements_of, signed_at, element_at, no_element}
use Rattle.om_symmetry.proofs.Distinct.{place_of}
use Rattle.om_symmetry.proofs.Places.{element_listed}
use Rattle.om_symmetry.proofs.Tuples.{IsTupleTo, tuple_all}
use Rattle.om_least.specs.Beginnings.{IsBeginning}

-- ---- a table and its first entries

module _ (table xs : List SignedElement) (n e : ℕ) (q : take n table ≡ xs) (l : n ≤ length table) where
  size : length (elements_of xs) ≡ n
  size = length-map xs (λ (a : SignedElement). a.element) ∙ ap length (sym q) ∙ length-take-le n table l

  at_place : (i : ℕ) → i < n → get_or (elements_of xs) i 0 ≡ (get_or table i no_element).element
  at_place i lt = sym (element_listed xs i) ∙ ap (λ (u : List SignedElement). element_at u (suc i)) (sym q)
      ∙ ap (λ (a : SignedElement). a.element) (get_or-take n table i no_element lt)

  pub listed_at : (i : ℕ) → i < n → (get_or table i no_element).element ≡ e → IsMember e (elements_of xs)
  listed_at i lt h =
      subst (λ z. IsMember z (elements_of xs)) (at_place i lt ∙ h)
      (member_at (elements_of xs) i (subst (λ z. i < z) (sym size) lt))

  pub not_listed : ((i : ℕ) → i < n → (get_or table i no_element).element ≡ e → ⊥) → IsMember e (elements_of xs) → ⊥
  not_listed h m =
      let k = place_of e (elements_of xs) m in
      let lt : k.0 < n = subst (λ z. k.0 < z) size k.1 in
      h k.0 lt (sym (at_place k.0 lt) ∙ k.2)

-- ---- tuples of old elements

module _ (n : ℕ) (w : List SignedElement) (h : IsBeginning n w) where
  old_within : (i : ℕ) → IsElement (length w) i → IsElement n (element_at w i)
  old_within zero (low, high) = absurd (omega arith)
  old_within (suc i) (low, high) =
      let l = length-map w (λ (a : SignedElement). a.element) in
      subst (IsElement n) (sym (element_listed w i))
      (each_member (IsElement n) (elements_of w) h.within (get_or (elements_of w) i 0)
      (member_at (elements_of w) i (omega arith)))

  -- what a call finds at a place
  pub entry_within : (i : ℕ) (a : SignedElement) → a ≡ signed_at w i → 1 ≤ i → i ≤ length w → IsElement n a.element
  entry_within i a q low high =
      subst (λ (b : SignedElement). IsElement n b.element) (sym q) (old_within i (low, high))

  old_elements : (s : List ℕ) → Each (IsElement (length w)) s → Each (IsElement n) (map (element_at w) s)
  old_elements [] i = tt
  old_elements (x ∷ s) i = (old_within x i.0, old_elements s i.1)

  pub tuple_begun : (s table : List ℕ) (size : ℕ) (sign : Sign) (rest : List ℕ) → length rest ≡ 0
      → IsTupleTo w s table size sign rest → Each (IsElement (length w)) s → IsWithin 1 n (take size table)
  tuple_begun s table size sign rest none t i =
      subst (IsWithin 1 n) (sym (tuple_all w s table size sign rest none t))
      (λ e m. each_member (IsElement n) (map (element_at w) s) (old_elements s i) e m)
