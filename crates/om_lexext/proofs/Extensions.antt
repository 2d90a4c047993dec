-- The map of a lexicographic extension, by its signs on increasing lists, meets the axioms; extensions by one list are
-- the same.
--
-- Main definitions: extended
-- Main results: lexicographic_axioms, is_extension, same_extensions, extensions_meet
-- Reference: Björner, Las Vergnas, Sturmfels, White and Ziegler, Oriented Matroids, chapter 7.
use Rattle.std.proofs.Common.{ℕ, zero, suc, ◌≡◌, ◌+◌, ◌<◌, ◌⊎◌, List, [], ◌∷◌, ◌++◌, length, refl, sym, ap, subst, ◌∙◌}
use Rattle.std.proofs.Common.{inl, inr, ⊎_elim, arith, append-nil}
use Rattle.std.proofs.lemmas.List.{length-append}
use Rattle.om_signs.specs.declared.sign.Sign.{Sign}
use Rattle.om_signs.specs.declared.sign.Sign.TheVariants.{Zero}
use Rattle.om_signs.specs.Sign.{product, first_nonzero}
use Rattle.om_signs.proofs.SignLaws.{zero_or_nonzero}
use Rattle.om_subsets.specs.Subsets.{IsSubsetFrom}
use Rattle.om_subsets.proofs.OneElement.{subset_wider}
use Rattle.om_subsets.proofs.ReversePlaces.{subset_push}
use Rattle.om_laws.specs.Members as lists
use Rattle.om_laws.specs.Chirotope.{elements_to}
use Rattle.om_laws.specs.Relations.{along}
use Rattle.om_laws.specs.Signs.{IsNonzero}
use Rattle.om_laws.specs.Sorting.{IsElement, IsTuple, IsIncreasing, on_tuples}
use Rattle.om_laws.specs.Tuples.{IsAlternating}
use Rattle.om_laws.proofs.ChirotopeLaws.{member_from_element, element_from_member}
use Rattle.om_laws.proofs.SortingLaws.{value_increasing, alternating_equal}
use Rattle.om_laws.proofs.TupleSizes.{is_tuple_cases, on_tuples_at, on_tuples_off, on_tuples_tuple}
use Rattle.om_laws.proofs.TupleSizes.{on_tuples_alternating, tuple_with, each_from}
use Rattle.om_laws.proofs.MemberLaws.{member_middle}
use Rattle.om_chirotope.specs.Map.{SignMap, IsMap, chi_of, value_of}
use Rattle.om_chirotope.specs.Chirotope.{IsChirotope}
use Rattle.om_chirotope.proofs.Theory.{theory_chirotope, to_tuple}
use Rattle.om_denotation.proofs.ChirotopeBridge.{tuples_of}
use Rattle.om_denotation.specs.Maps.{map_by}
use Rattle.om_denotation.proofs.Rules.{rule_at, whole_by, tuples_by, chirotope_by, same_on_tuples}
use Rattle.om_denotation.proofs.Uniqueness.{tuples_at, same_map}
use Rattle.om_lexext.specs.declared.signed.Signed.{Signed}
use Rattle.om_lexext.specs.Lexicographic.{AreEntries, first_listed, lexicographic_sign, IsLexicographicExtension}
use Rattle.om_lexext.proofs.Leads.{lead, lead_same}
use Rattle.om_lexext.proofs.ReplacedPlaces.{instead, swap_at, instead_off, instead_append, count_none, count_last}
use Rattle.om_lexext.proofs.ExtensionTerms.{extension, extension_none, extension_once, extension_alternating, value_at}
use Rattle.om_lexext.proofs.Theory.{extension_within, extension_size, extension_chirotope}
use Rattle.om_lexext.proofs.LastElements.{off_last, has_member, has_not, without_end, suc_plus, end_or_not}

-- ---- the entries of the list

abbrev element_of : List Signed → ℕ → ℕ
element_of [] j = 0
element_of (x ∷ xs) zero = x.element
element_of (x ∷ xs) (suc j) = element_of xs j

abbrev sign_at : List Signed → ℕ → Sign
sign_at [] j = Zero
sign_at (x ∷ xs) zero = x.sign
sign_at (x ∷ xs) (suc j) = sign_at xs j

lead_later : (f : ℕ → Sign) (n k : ℕ) → lead f (k + 1) n ≡ lead (λ j. f (j + 1)) k n
lead_later f zero k = refl
lead_later f (suc n) k = ap (first_nonzero (f (k + 1))) (lead_later f n (k + 1))

-- what is first among the entries, as the first of a family
listed_lead : (u : ℕ → Sign) (list : List Signed)
    → first_listed u list ≡ lead (λ j. product (sign_at list j) (u (element_of list j))) 0 (length list)
listed_lead u [] = refl
listed_lead u (x ∷ xs) =
    ap (first_nonzero (product x.sign (u x.element))) (
    listed_lead u xs
    ∙ lead_same (λ j. product (sign_at xs j) (u (element_of xs j)))
    (λ j. product (sign_at (x ∷ xs) (j + 1)) (u (element_of (x ∷ xs) (j + 1)))) (length xs) 0
    (λ j l h. let e : suc j ≡ j + 1 = omega arith in
    ap (λ i. product (sign_at (x ∷ xs) i) (u (element_of (x ∷ xs) i))) e)
    ∙ sym (lead_later (λ j. product (sign_at (x ∷ xs) j) (u (element_of (x ∷ xs) j))) (length xs) 0))

entry_at : (n : ℕ) (list : List Signed) → AreEntries n list → (j : ℕ) → j < length list
    → IsElement n (element_of list j)
entry_at n [] h j l = absurd (omega (arith, l))
entry_at n (x ∷ xs) h zero l = (h.0, h.1)
entry_at n (x ∷ xs) h (suc j) l = entry_at n xs h.2 j (omega (arith, l))

-- ---- the map

module _ (m : SignMap) (chirotope : IsChirotope m) (list : List Signed) (entries : AreEntries m.elements list) where
  p : ℕ
  p = m.elements + 1

  abbrev ext : List ℕ → Sign
  ext = extension (m.elements + 1) (length list) (element_of list) (sign_at list) (tuples_of m)

  abbrev pub extended : SignMap
  extended = map_by m.rank (m.elements + 1) (lexicographic_sign m list)

  no_last : (A : List ℕ) → IsSubsetFrom 1 m.elements A → lists.IsMember (m.elements + 1) A → ⊥
  no_last A h k = off_last m.elements A h k

  tuple_end : (A : List ℕ) (e : ℕ) → IsSubsetFrom 1 m.elements A → length A + 1 ≡ m.rank → IsElement m.elements e
      → IsTuple m.elements m.rank (A ++ e ∷ [])
  tuple_end A e h l i =
      let t = to_tuple m.elements (length A) A h refl in
      let r : suc (length A) ≡ m.rank = omega (arith, l) in
      subst (λ k. IsTuple m.elements k (A ++ e ∷ [])) r
      (tuple_with m.elements (length A) A [] e (subst (IsTuple m.elements (length A)) (sym (append-nil A)) t) i)

  new_value : (A : List ℕ) → IsSubsetFrom 1 m.elements A → length A + 1 ≡ m.rank
      → ext (A ++ (m.elements + 1) ∷ []) ≡ first_listed (along (value_of m) A) list
  new_value A h l =
      extension_once (m.elements + 1) (length list) (element_of list) (sign_at list) (tuples_of m)
      (A ++ (m.elements + 1) ∷ [])
      (count_last (m.elements + 1) A (m.elements + 1) refl ∙ ap suc (count_none (m.elements + 1) A (no_last A h)))
      ∙ lead_same
      (λ j. value_at (m.elements + 1) (length list) (element_of list) (sign_at list) (tuples_of m) j
      (A ++ (m.elements + 1) ∷ [])) (λ j. product (sign_at list j) (along (value_of m) A (element_of list j)))
      (length list) 0 (λ j b q. ap (product (sign_at list j)) (
      ap (tuples_of m) (instead_append (m.elements + 1) (element_of list j) A ((m.elements + 1) ∷ [])
      ∙ ap (λ k. k ++ instead (m.elements + 1) (element_of list j) ((m.elements + 1) ∷ []))
      (instead_off (m.elements + 1) (element_of list j) A (no_last A h))
      ∙ ap (λ g. A ++ g ∷ []) (swap_at (m.elements + 1) (element_of list j) (m.elements + 1) refl))
      ∙ on_tuples_at m.elements m.rank (chi_of m) (A ++ element_of list j ∷ [])
      (tuple_end A (element_of list j) h l (entry_at m.elements list entries j (omega (arith, q))))))
      ∙ sym (listed_lead (along (value_of m) A) list)

  old_value : (A : List ℕ) → IsSubsetFrom 1 m.elements A → length A ≡ m.rank → ext A ≡ chi_of m A
  old_value A h l = extension_none (m.elements + 1) (length list) (element_of list) (sign_at list) (tuples_of m) A
      (count_none (m.elements + 1) A (no_last A h)) ∙ tuples_at m A h l

  sign_old : (A : List ℕ) → IsSubsetFrom 1 m.elements A → lexicographic_sign m list A ≡ chi_of m A
  sign_old A h = rw (has_not (m.elements + 1) A (off_last m.elements A h)) refl

  sign_new : (A : List ℕ) → IsSubsetFrom 1 m.elements A
      → lexicographic_sign m list (A ++ (m.elements + 1) ∷ []) ≡ first_listed (along (value_of m) A) list
  sign_new A h = rw (has_member (m.elements + 1) (A ++ (m.elements + 1) ∷ []) (member_middle (m.elements + 1) A []))
      (ap (λ l. first_listed (along (value_of m) l) list) (without_end (m.elements + 1) A (off_last m.elements A h)))

  same_rule : (xs : List ℕ) → IsSubsetFrom 1 (m.elements + 1) xs → length xs ≡ m.rank
      → lexicographic_sign m list xs ≡ ext xs
  same_rule xs h l = ⊎_elim
      (λ s. ap (lexicographic_sign m list) s.2 ∙ sign_new s.0 s.1
      ∙ sym (new_value s.0 s.1 (let a = ap length s.2 in let b = length-append s.0 ((m.elements + 1) ∷ []) in
      omega (arith, a, b, l))) ∙ ap ext (sym s.2))
      (λ s. sign_old xs s ∙ sym (old_value xs s l))
      (end_or_not m.elements xs h)

  ext_tuple : (t : List ℕ) → IsNonzero (ext t) → IsTuple (m.elements + 1) m.rank t
  ext_tuple t n =
      record {
        size = sized t n;
        within =
            each_from (IsElement (m.elements + 1)) t
            (λ e k. inside e
            (extension_within (m.elements + 1) (length list) (element_of list) (sign_at list) (tuples_of m) t n e k));
      }
    where
      inside : (e : ℕ) → (e ≡ m.elements + 1) ⊎ ((u : List ℕ) × IsNonzero (tuples_of m u) × lists.IsMember e u)
          → IsElement (m.elements + 1) e
      inside e (inl q) = (omega (arith, q), omega (arith, q))
      inside e (inr (u, nu, k)) = let b =
          element_from_member m.elements e ((theory_chirotope m chirotope).within u nu e k) in let c = b.0 in let d =
          b.1 in (c, omega (arith, d))

      sized : (t : List ℕ) → IsNonzero (ext t) → length t ≡ m.rank
      sized t n = extension_size (m.elements + 1) (length list) (element_of list) (sign_at list) (tuples_of m) m.rank
          (λ u nu. (on_tuples_tuple m.elements m.rank (chi_of m) u nu).size) t n

  tuples_extended : (t : List ℕ) → tuples_of extended t ≡ ext t
  tuples_extended t = tuples_by m.rank (m.elements + 1) (lexicographic_sign m list) t
      ∙ same_on_tuples (m.elements + 1) m.rank (lexicographic_sign m list) ext same_rule t ∙ own t
    where
      ext_alternating : IsAlternating ext
      ext_alternating = extension_alternating (m.elements + 1) (length list) (element_of list) (sign_at list)
          (tuples_of m) (theory_chirotope m chirotope).alternating

      on_increasing : (xs : List ℕ) → IsIncreasing xs → on_tuples (m.elements + 1) m.rank ext xs ≡ ext xs
      on_increasing xs i = elim (is_tuple_cases (m.elements + 1) m.rank xs) [
        | inl a ↦ on_tuples_at (m.elements + 1) m.rank ext xs a.0 ∙ value_increasing ext xs i
        | inr a ↦ on_tuples_off (m.elements + 1) m.rank ext xs a.0
            ∙ ⊎_elim (λ z. sym z) (λ n. absurd (a.0 (ext_tuple xs n))) (zero_or_nonzero (ext xs))
      ]

      own : (t : List ℕ) → on_tuples (m.elements + 1) m.rank ext t ≡ ext t
      own t = alternating_equal (on_tuples (m.elements + 1) m.rank ext) ext
          (on_tuples_alternating (m.elements + 1) m.rank ext) ext_alternating on_increasing t

  -- the map with the signs of a lexicographic extension of a chirotope is a chirotope
  pub lexicographic_axioms : IsChirotope extended
  lexicographic_axioms =
      chirotope_by extended ext
      (whole_by m.rank (m.elements + 1) (lexicographic_sign m list) (let w = chirotope.whole.part in omega (arith, w)))
      tuples_extended
      (extension_chirotope (elements_to m.elements) (elements_to (m.elements + 1)) (m.elements + 1) (length list)
      (element_of list) (sign_at list) (tuples_of m) (theory_chirotope m chirotope)
      (λ k. let b = element_from_member m.elements (m.elements + 1) k in let c = b.1 in omega (arith, c))
      (member_from_element (m.elements + 1) (m.elements + 1) (omega arith, omega arith))
      (λ e k. let b = element_from_member m.elements e k in let c = b.0 in let d = b.1 in
      member_from_element (m.elements + 1) e (c, omega (arith, d))))

  -- the map with these signs is a lexicographic extension by the list
  pub is_extension : IsLexicographicExtension m list extended
  is_extension = record {
    rank = refl;
    elements = refl;
    agrees = λ A h l. rule_at m.rank (m.elements + 1) (lexicographic_sign m list) A
        (subst (λ k. IsSubsetFrom 1 k A) (suc_plus m.elements) (subset_wider 1 m.elements A h)) l ∙ sign_old A h;
    new = λ A h l. rule_at m.rank (m.elements + 1) (lexicographic_sign m list) (A ++ (m.elements + 1) ∷ [])
        (subst (λ k. IsSubsetFrom 1 k (A ++ (m.elements + 1) ∷ [])) (suc_plus m.elements)
        (subset_push 1 m.elements (m.elements + 1) A (omega arith) h))
        (length-append A ((m.elements + 1) ∷ []) ∙ l) ∙ sign_new A h;
  }

-- ---- one extension

-- two lexicographic extensions of one map by one list are the same
pub same_extensions : (m x y : SignMap) (list : List Signed) → IsMap x → IsMap y → IsLexicographicExtension m list x
    → IsLexicographicExtension m list y → x ≡ y
same_extensions m x y list wx wy ex ey =
    same_map y x wy wx (ex.elements ∙ sym ey.elements) (ex.rank ∙ sym ey.rank) (λ t.
    (λ i. on_tuples (ex.elements i) (ex.rank i) (chi_of x) t)
    ∙ same_on_tuples (m.elements + 1) m.rank (chi_of x) (chi_of y) agree t
    ∙ sym (λ i. on_tuples (ey.elements i) (ey.rank i) (chi_of y) t))
  where
    agree : (xs : List ℕ) → IsSubsetFrom 1 (m.elements + 1) xs → length xs ≡ m.rank → chi_of x xs ≡ chi_of y xs
    agree xs h l = ⊎_elim
        (λ s. let k : length s.0 + 1 ≡ m.rank =
        (let a = ap length s.2 in let b = length-append s.0 ((m.elements + 1) ∷ []) in omega (arith, a, b, l)) in
        ap (chi_of x) s.2 ∙ ex.new s.0 s.1 k ∙ sym (ey.new s.0 s.1 k) ∙ ap (chi_of y) (sym s.2))
        (λ s. ex.agrees xs s l ∙ sym (ey.agrees xs s l))
        (end_or_not m.elements xs h)

pub extensions_meet : (m x : SignMap) (list : List Signed) → IsChirotope m → AreEntries m.elements list → IsMap x
    → IsLexicographicExtension m list x → IsChirotope x
extensions_meet m x list chirotope entries w e =
    subst IsChirotope
    (same_extensions m (extended m chirotope list entries) x list
    (lexicographic_axioms m chirotope list entries).whole w (is_extension m chirotope list entries) e)
    (lexicographic_axioms m chirotope list entries)
