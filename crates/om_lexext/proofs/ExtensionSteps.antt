-- The steps of the calls for lexicographic extensions.
--
-- Main results: without_off, without_size, sign_with_last, sign_without_last, same_map_of,
-- found_entry, passed_entry, entry_bounds
-- Reference: Björner, Las Vergnas, Sturmfels, White and Ziegler, Oriented Matroids, chapter 7.
use Rattle.std.proofs.Common.{ℕ, ◌≡◌, ◌≢◌, ◌+◌, ◌<◌, ◌≤◌, List, [], ◌∷◌, length, map, drop}
use Rattle.std.proofs.Common.{refl, sym, ap, subst, ◌∙◌, ⊎_elim, arith, get_or}
use Rattle.std.proofs.lemmas.List.{drop_more, length-append}
use Rattle.om_signs.specs.declared.sign.Sign.{Sign}
use Rattle.om_signs.specs.declared.sign.Sign.TheVariants.{Zero}
use Rattle.om_signs.specs.Sign.{product, first_nonzero}
use Rattle.om_signs.proofs.SignLaws.{first_nonzero_left, first_nonzero_right}
use Rattle.om_subsets.specs.Subsets.{IsSubsetFrom, IsMember, without_element, all_subsets}
use Rattle.om_subsets.proofs.Statements.{members_without}
use Rattle.om_laws.specs.Relations.{along}
use Rattle.om_laws.specs.Signs.{IsNonzero}
use Rattle.om_chirotope.specs.Map.{SignMap, chi_of, value_of}
use Rattle.om_denotation.specs.Maps.{map_by}
use Rattle.om_lexext.specs.declared.signed.Signed.{Signed}
use Rattle.om_lexext.specs.Lexicographic.{AreEntries, first_listed, lexicographic_sign}
use Rattle.om_lexext.proofs.LastElements.{off_last, has_member, has_not, without_end, end_or_not}

-- ---- the steps of the calls

pub without_off : (n : ℕ) (xs : List ℕ) → IsMember n (without_element n xs) → ⊥
without_off n xs k = ((members_without n n xs).0 k).0 refl

pub without_size : (n : ℕ) (xs : List ℕ) → IsSubsetFrom 1 (n + 1) xs → IsMember (n + 1) xs
    → length (without_element (n + 1) xs) + 1 ≡ length xs
without_size n xs h k = ⊎_elim
    (λ s. let a = ap length s.2 in
    let b = length-append s.0 ((n + 1) ∷ []) in
    let c = ap (λ l. length (without_element (n + 1) l)) s.2 in
    let d = ap length (without_end (n + 1) s.0 (off_last n s.0 s.1)) in
    omega (arith, a, b, c, d))
    (λ s. absurd (off_last n xs s k))
    (end_or_not n xs h)

pub sign_with_last : (m : SignMap) (list : List Signed) (xs : List ℕ) → IsMember (m.elements + 1) xs
    → first_listed (along (value_of m) (without_element (m.elements + 1) xs)) list ≡ lexicographic_sign m list xs
sign_with_last m list xs k = rw (has_member (m.elements + 1) xs k) refl

pub sign_without_last : (m : SignMap) (list : List Signed) (xs : List ℕ) → (IsMember (m.elements + 1) xs → ⊥)
    → chi_of m xs ≡ lexicographic_sign m list xs
sign_without_last m list xs k = rw (has_not (m.elements + 1) xs k) refl

pub same_map_of : (m : SignMap) (rule : List ℕ → Sign) (rank elements : ℕ) (signs : List Sign) → rank ≡ m.rank
    → elements ≡ m.elements → signs ≡ map rule (all_subsets (elements + 1) rank)
    → map_by m.rank (m.elements + 1) rule ≡ record { rank = rank; elements = elements + 1; signs = signs }
same_map_of m rule rank elements signs r e s = (λ i. map_by (sym r i) (sym e i + 1) rule)
    ∙ (λ i. record { rank = rank; elements = elements + 1; signs = sym s i })

module _ (u : ℕ → Sign) (n : ℕ) (list : List Signed) (i : ℕ) (d : Signed) (l : i < length list) where
  here_listed : first_listed u (drop i list)
      ≡ first_nonzero (product (get_or list i d).sign (u (get_or list i d).element))
      (first_listed u (drop (i + 1) list))
  here_listed = ap (first_listed u) (drop_more list i d l)

  pub found_entry : (s : Sign) → first_listed u list ≡ first_listed u (drop i list)
      → s ≡ product (get_or list i d).sign (u (get_or list i d).element) → s ≢ Zero → s ≡ first_listed u list
  found_entry s rest e n = e
      ∙ sym (rest ∙ here_listed
      ∙ first_nonzero_left (product (get_or list i d).sign (u (get_or list i d).element))
      (first_listed u (drop (i + 1) list)) (subst IsNonzero e n))

  pub passed_entry : (s : Sign) → first_listed u list ≡ first_listed u (drop i list)
      → s ≡ product (get_or list i d).sign (u (get_or list i d).element) → s ≡ Zero
      → first_listed u list ≡ first_listed u (drop (i + 1) list)
  passed_entry s rest e z = rest ∙ here_listed
      ∙ first_nonzero_right (product (get_or list i d).sign (u (get_or list i d).element))
      (first_listed u (drop (i + 1) list)) (sym e ∙ z)

  pub entry_bounds : AreEntries n (drop i list) → (1 ≤ (get_or list i d).element) × ((get_or list i d).element ≤ n)
      × AreEntries n (drop (i + 1) list)
  entry_bounds h = subst (AreEntries n) (drop_more list i d l) h
