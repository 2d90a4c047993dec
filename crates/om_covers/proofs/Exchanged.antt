-- The exchange of an element and the last one, after which a basis doesn't have the last element.
--
-- Main results: exchanged_permutation, some_basis_before_last.
use Rattle.std.proofs.Common.{ℕ, ◌≡◌, ◌≢◌, ◌<◌, List, map, refl, sym, ap, subst, ◌∙◌, inl, inr, arith}
use Rattle.std.proofs.Common.{cond, nat_eq, false}
use Rattle.std.proofs.lemmas.Bool.{cases_eq, eq-eqb, ne_eqb}
use Rattle.om_subsets.specs.Subsets.{IsMember}
use Rattle.om_laws.specs.Chirotope.{elements_to}
use Rattle.om_laws.specs.Sorting.{IsElement}
use Rattle.om_chirotope.specs.Map.{SignMap}
use Rattle.om_chirotope.specs.Chirotope.{IsChirotope, HasNonzeroValue}
use Rattle.om_chirotope.specs.ThreeTerm.{IsBasis}
use Rattle.om_symmetry.specs.declared.signed_element.SignedElement.{SignedElement}
use Rattle.om_symmetry.specs.Permutations.{IsSignedPermutation, element_at, acted}
use Rattle.om_symmetry.proofs.Places.{made_at, length_made, permutation_by}
use Rattle.om_symmetry.proofs.Bases.{basis_back}
use Rattle.om_covers.specs.Classes.{HasBasisBeforeLast}
use Rattle.om_covers.proofs.Shorter.{off_list}

-- e and n change places
abbrev swapped : ℕ → ℕ → ℕ → ℕ
swapped e n i = cond (nat_eq i e) n (cond (nat_eq i n) e i)

swapped_first : (e n : ℕ) → swapped e n e ≡ n
swapped_first e n = rw (eq-eqb e e refl) refl

swapped_last : (e n : ℕ) → swapped e n n ≡ e
swapped_last e n = elim (cases_eq n e) [
  | inl q ↦ rw (eq-eqb n e q) q
  | inr d ↦ rw (ne_eqb n e d, eq-eqb n n refl) refl
]

swapped_other : (e n i : ℕ) → i ≢ e → i ≢ n → swapped e n i ≡ i
swapped_other e n i a b = rw (ne_eqb i e a, ne_eqb i n b) refl

swapped_twice : (e n i : ℕ) → swapped e n (swapped e n i) ≡ i
swapped_twice e n i = elim (cases_eq i e) [
  | inl q ↦ ap (λ k. swapped e n (swapped e n k)) q ∙ ap (swapped e n) (swapped_first e n) ∙ swapped_last e n ∙ sym q
  | inr a ↦ elim (cases_eq i n) [
    | inl q ↦ ap (λ k. swapped e n (swapped e n k)) q ∙ ap (swapped e n) (swapped_last e n) ∙ swapped_first e n ∙ sym q
    | inr b ↦ ap (swapped e n) (swapped_other e n i a b) ∙ swapped_other e n i a b
  ]
]

swapped_within : (e n i : ℕ) → IsElement n e → IsElement n i → IsElement n (swapped e n i)
swapped_within e n i he hi = elim (cases_eq i e) [
  | inl q ↦
      let low = he.0 in
      let high = he.1 in
      subst (IsElement n) (sym (ap (swapped e n) q ∙ swapped_first e n)) (omega arith, omega arith)
  | inr a ↦ elim (cases_eq i n) [
    | inl q ↦ subst (IsElement n) (sym (ap (swapped e n) q ∙ swapped_last e n)) he
    | inr b ↦ subst (IsElement n) (sym (swapped_other e n i a b)) hi
  ]
]

abbrev pub exchanged : ℕ → ℕ → List SignedElement
exchanged e n = map (λ i. record { element = swapped e n i; negated = false }) (elements_to n)

module _ (e n : ℕ) (he : IsElement n e) where
  here : (i : ℕ) → IsElement n i → element_at (exchanged e n) i ≡ swapped e n i
  here i h = ap (λ (a : SignedElement). a.element)
      (made_at n (λ i. record { element = swapped e n i; negated = false }) i h)

  pub exchanged_permutation : IsSignedPermutation n (exchanged e n)
  exchanged_permutation = permutation_by n (exchanged e n)
      (length_made n (λ i. record { element = swapped e n i; negated = false }))
      (λ i h. subst (IsElement n) (sym (here i h)) (swapped_within e n i he h))
      (λ i j hi hj q. sym (swapped_twice e n i) ∙ ap (swapped e n) (sym (here i hi) ∙ q ∙ here j hj)
      ∙ swapped_twice e n j)

  pub exchanged_last : element_at (exchanged e n) n ≡ e
  exchanged_last =
      let low = he.0 in
      let high = he.1 in
      here n (omega arith, omega arith) ∙ swapped_last e n

-- an image with a basis that doesn't have the last element
abbrev pub HasImageBeforeLast : SignMap → Type 0
HasImageBeforeLast m = (w : List SignedElement) × IsSignedPermutation m.elements w × HasBasisBeforeLast (acted w m)

module _ (m : SignMap) where
  moved : (b : List ℕ) → IsBasis m b → (e : ℕ) → IsElement m.elements e → (IsMember e b → ⊥) → HasImageBeforeLast m
  moved b basis e he off =
      let w = exchanged e m.elements in
      let p = exchanged_permutation e m.elements he in
      let c = basis_back m w p b basis in
      let low = he.0 in
      let high = he.1 in
      let last : IsElement m.elements m.elements = (omega arith, omega arith) in (
        w,
        p,
        (
          c.0,
          c.1.new,
          λ k. off (subst (λ z. IsMember z b) (exchanged_last e m.elements he) ((c.1.members m.elements last).0 k)),
        ),
      )

  some_basis : HasNonzeroValue m → m.rank < m.elements → HasImageBeforeLast m
  some_basis (b, h, l, nz) lt =
      let r = off_list 1 m.elements b h (omega arith) in
      let low = r.1.low_is in
      let high = r.1.high_is in
      moved b (record { list = h; size = l; nonzero = nz }) r.0 (low, omega arith) r.1.off

  pub some_basis_before_last : IsChirotope m → m.rank < m.elements → HasImageBeforeLast m
  some_basis_before_last om lt = some_basis om.nonzero lt
