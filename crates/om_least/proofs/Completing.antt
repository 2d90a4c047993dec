-- The first entries of signed permutations.
--
-- Main definitions: IsFilled
-- Main results: they can be completed (completed), element by element (filled_start, filled_with, filled_without,
-- filled_end), the next entry (next_entry), and one more (one_more).
use Rattle.std.proofs.Common.{ℕ, zero, suc, ◌≡◌, ◌+◌, ◌-◌, ◌<◌, ◌≤◌, ◌⊎◌, List, [], ◌∷◌, ◌++◌, length, get_or, take}
use Rattle.std.proofs.Common.{refl, sym, ap, subst, ◌∙◌, inl, inr, arith, false}
use Rattle.std.proofs.lemmas.Bool.{cases_eq, cases_lt}
use Rattle.std.proofs.lemmas.List.{length-append, length-map, length_push, take-take, take_at, take_all, take_more}
use Rattle.std.proofs.lemmas.List.{map_push, get_or-take}
use Rattle.om_laws.specs.Members.{IsMember, IsDistinct}
use Rattle.om_laws.specs.Sorting.{IsElement, Each}
use Rattle.om_laws.proofs.MemberLaws.{split_at, member_or_not, member_drop, member_last, distinct_last}
use Rattle.om_laws.proofs.MemberLaws.{member_left, member_middle}
use Rattle.om_laws.proofs.TupleSizes.{each_member, each_from}
use Rattle.om_symmetry.specs.declared.signed_element.SignedElement.{SignedElement}
use Rattle.om_symmetry.specs.Permutations.{IsSignedPermutation, elements_of, signed_at, element_at, no_element}
use Rattle.om_symmetry.proofs.Distinct.{place_of, few_distinct}
use Rattle.om_symmetry.proofs.Places.{element_listed, permutation_length, element_within, element_apart}
use Rattle.om_least.specs.Beginnings.{IsBeginning}

-- ---- an element that is missing

-- some element of 1 to n isn't a member, or all are
missing_or_all : (n : ℕ) (xs : List ℕ) → ((e : ℕ) × IsElement n e × (IsMember e xs → ⊥))
    ⊎ ((e : ℕ) → IsElement n e → IsMember e xs)
missing_or_all zero xs = inr (λ e h. let low = h.0 in let high = h.1 in absurd (omega arith))
missing_or_all (suc n) xs = elim (missing_or_all n xs) [
  | inl k ↦
      let low = k.1.0 in
      let high = k.1.1 in
      inl (k.0, (low, omega arith), k.2)
  | inr all ↦ elim (member_or_not (suc n) xs) [
    | inl m ↦ inr (λ e h. elim (cases_eq e (suc n)) [
      | inl q ↦ subst (λ z. IsMember z xs) (sym q) m
      | inr ne ↦ let low = h.0 in let high = h.1 in all e (low, omega arith)
    ])
    | inr off ↦ inl (suc n, (omega arith, omega arith), off)
  ]
]

covered : (n : ℕ) (xs : List ℕ) → ((e : ℕ) → IsElement n e → IsMember e xs) → n ≤ length xs
covered zero xs all = omega arith
covered (suc n) xs all =
    let s = split_at (suc n) xs (all (suc n) (omega arith, omega arith)) in
    let rest = covered n (s.0 ++ s.1) (λ e h. other s.0 s.1 e h (subst (IsMember e) s.2 (all e (wider e h)))) in
    let a = length-append s.0 s.1 in
    let b = length-append s.0 (suc n ∷ s.1) in
    let q = ap length s.2 in
    omega arith
  where
    wider : (e : ℕ) → IsElement n e → IsElement (suc n) e
    wider e h = let low = h.0 in let high = h.1 in (low, omega arith)

    other : (u v : List ℕ) (e : ℕ) → IsElement n e → IsMember e (u ++ suc n ∷ v) → IsMember e (u ++ v)
    other u v e h m = elim (member_drop e u (suc n) v m) [
      | inl q ↦ let high = h.1 in absurd (omega arith)
      | inr k ↦ k
    ]

missing : (n : ℕ) (xs : List ℕ) → length xs < n → (e : ℕ) × IsElement n e × (IsMember e xs → ⊥)
missing n xs l = elim (missing_or_all n xs) [
  | inl k ↦ k
  | inr all ↦ let c = covered n xs all in absurd (omega arith)
]

-- ---- one more entry

pub elements_push : (w : List SignedElement) (a : SignedElement)
    → elements_of (w ++ a ∷ []) ≡ elements_of w ++ a.element ∷ []
elements_push w a = map_push (λ (b : SignedElement). b.element) w a

pub one_more : (n : ℕ) (w : List SignedElement) (a : SignedElement) → IsBeginning n w → IsElement n a.element
    → (IsMember a.element (elements_of w) → ⊥) → IsBeginning n (w ++ a ∷ [])
one_more n w a h i off = record {
  within = subst (Each (IsElement n)) (sym (elements_push w a))
      (each_from (IsElement n) (elements_of w ++ a.element ∷ []) (λ e m.
      elim (member_last e a.element (elements_of w) m) [
        | inl k ↦ each_member (IsElement n) (elements_of w) h.within e k
        | inr q ↦ subst (IsElement n) (sym q) i
      ]));
  distinct = subst IsDistinct (sym (elements_push w a)) (distinct_last (elements_of w) a.element h.distinct off);
}

pub begins_shorter : (w v : List SignedElement) (a : SignedElement) → take (length (w ++ a ∷ [])) v ≡ w ++ a ∷ []
    → take (length w) v ≡ w
begins_shorter w v a q =
    let l = length_push w a in
    sym (take-take (length w) (length (w ++ a ∷ [])) v (omega arith)) ∙ ap (take (length w)) q
    ∙ take_at w (a ∷ []) (length w) refl

-- ---- completion

completed_by : (n d : ℕ) (w : List SignedElement) → IsBeginning n w → length w + d ≡ n
    → (v : List SignedElement) × IsSignedPermutation n v × (take (length w) v ≡ w)
completed_by n zero w h q =
    let l = length-map w (λ (a : SignedElement). a.element) in (
      w,
      record { tuple = record { size = omega arith; within = h.within }; distinct = h.distinct },
      take_all (length w) w (omega arith),
    )
completed_by n (suc d) w h q =
    let l = length-map w (λ (a : SignedElement). a.element) in
    let e = missing n (elements_of w) (omega arith) in
    let a : SignedElement = record { element = e.0; negated = false } in
    let k = length_push w a in
    let rest = completed_by n d (w ++ a ∷ []) (one_more n w a h e.1 e.2) (omega arith) in
    (rest.0, rest.1, begins_shorter w rest.0 a rest.2)

pub completed : (n : ℕ) (w : List SignedElement) → IsBeginning n w → length w ≤ n
    → (v : List SignedElement) × IsSignedPermutation n v × (take (length w) v ≡ w)
completed n w h l = completed_by n (n - length w) w h (omega arith)

-- ---- completion, element by element

-- u begins with w, and the elements before e are in it
pub record IsFilled (n : ℕ) (w u : List SignedElement) (e : ℕ) : Type 0 where
  pub begun : IsBeginning n u
  pub begins : take (length w) u ≡ w
  pub longer : length w ≤ length u
  pub has : (f : ℕ) → IsElement n f → f < e → IsMember f (elements_of u)

pub filled_start : (n : ℕ) (w : List SignedElement) → IsBeginning n w → IsFilled n w w 1
filled_start n w b = record {
  begun = b;
  begins = take_all (length w) w (omega arith);
  longer = omega arith;
  has = λ f i lt. let low = i.0 in absurd (omega arith);
}

module _ (n : ℕ) (w u : List SignedElement) (e : ℕ) (h : IsFilled n w u e) where
  -- an element that isn't in the list has room behind it
  pub room_behind : IsElement n e → (IsMember e (elements_of u) → ⊥) → length u < n
  room_behind i off =
      let few = few_distinct n (e ∷ elements_of u) (off, h.begun.distinct) (i, h.begun.within) in
      let size = length-map u (λ (a : SignedElement). a.element) in
      omega arith

  pub filled_without : IsMember e (elements_of u) → IsFilled n w u (e + 1)
  filled_without m = record {
    begun = h.begun;
    begins = h.begins;
    longer = h.longer;
    has = λ f i lt. elim (cases_lt f e) [
      | inl before ↦ h.has f i before
      | inr ge ↦ let here : e ≡ f = omega arith in subst (λ z. IsMember z (elements_of u)) here m
    ];
  }

  pub filled_with : (a : SignedElement) → a.element ≡ e → IsElement n e → (IsMember e (elements_of u) → ⊥)
      → IsFilled n w (u ++ a ∷ []) (e + 1)
  filled_with a q i off = record {
    begun = one_more n u a h.begun (subst (IsElement n) (sym q) i)
        (λ m. off (subst (λ z. IsMember z (elements_of u)) q m));
    begins = sym (take-take (length w) (length u) (u ++ a ∷ []) h.longer)
        ∙ ap (take (length w)) (take_at u (a ∷ []) (length u) refl) ∙ h.begins;
    longer = (let l = length_push u a in let k = h.longer in omega arith);
    has = λ f i lt. subst (IsMember f) (sym (elements_push u a)) (elim (cases_lt f e) [
      | inl before ↦ member_left f (elements_of u) (a.element ∷ []) (h.has f i before)
      | inr ge ↦
          let here : a.element ≡ f = q ∙ omega arith in
          subst (λ z. IsMember z (elements_of u ++ a.element ∷ [])) here (member_middle a.element (elements_of u) [])
    ]);
  }

  pub filled_end : n < e → IsSignedPermutation n u
  filled_end over =
      let many = covered n (elements_of u) (λ f i. let high = i.1 in h.has f i (omega arith)) in
      let few = few_distinct n (elements_of u) h.begun.distinct h.begun.within in
      record { tuple = record { size = omega arith; within = h.begun.within }; distinct = h.begun.distinct }

-- ---- the next entry of a signed permutation

module _ (n : ℕ) (w v : List SignedElement) (p : IsSignedPermutation n v) (q : take (length w) v ≡ w)
    (l : length w < n) where
  pub next_begins : take (length w + 1) v ≡ w ++ signed_at v (suc (length w)) ∷ []
  next_begins =
      let whole = permutation_length n v p in
      take_more v (length w) no_element (omega arith) ∙ ap (λ u. u ++ signed_at v (suc (length w)) ∷ []) q

  pub next_within : IsElement n (element_at v (suc (length w)))
  next_within = element_within n v p (suc (length w)) (omega arith, omega arith)

  entry_of : (i : ℕ) → i < length w → get_or (elements_of w) i 0 ≡ element_at v (suc i)
  entry_of i lt = sym (element_listed w i) ∙ ap (λ (u : List SignedElement). element_at u (suc i)) (sym q)
      ∙ ap (λ (a : SignedElement). a.element) (get_or-take (length w) v i no_element lt)

  pub next_off : IsMember (element_at v (suc (length w))) (elements_of w) → ⊥
  next_off m =
      let k = place_of (element_at v (suc (length w))) (elements_of w) m in
      let few = k.1 in
      let size = length-map w (λ (a : SignedElement). a.element) in
      let lt : k.0 < length w = omega arith in
      let same = element_apart n v p (suc k.0) (suc (length w)) (omega arith, omega arith) (omega arith, omega arith)
      (sym (entry_of k.0 lt) ∙ k.2) in
      absurd (omega arith)
