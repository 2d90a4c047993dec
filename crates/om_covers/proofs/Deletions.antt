-- The deletion of the last element, where some basis doesn't have it.
--
-- Main results: the deletion is a chirotope (deletion_axioms) of which the map is an extension (is_extension); a simple
-- or uniform map has such a deletion (deletion_simple, deletion_uniform).
use Rattle.std.proofs.Common.{ℕ, suc, ◌≡◌, ◌≢◌, ◌-◌, ◌<◌, ◌≤◌, List, [], ◌∷◌, length, map, refl, sym, ap, subst}
use Rattle.std.proofs.Common.{◌∙◌, inl, inr, ⊎_elim, arith, false, append-nil}
use Rattle.std.proofs.lemmas.Bool.{false≢true}
use Rattle.om_subsets.specs.Subsets.{IsSubsetFrom, IsMember, with_element, without_element}
use Rattle.om_subsets.proofs.Statements.{subset_is_increasing, members_with, members_without}
use Rattle.om_laws.specs.Minors.{skip, deletion}
use Rattle.om_laws.proofs.MemberLaws.{member_or_not}
use Rattle.om_laws.proofs.MinorLaws.{skip_below}
use Rattle.om_chirotope.specs.Map.{SignMap, chi_of, value_of}
use Rattle.om_chirotope.specs.Chirotope.{IsChirotope}
use Rattle.om_chirotope.specs.ThreeTerm.{IsBasis}
use Rattle.om_chirotope.proofs.InOrder.{value_in_order}
use Rattle.om_denotation.proofs.Rules.{rule_at}
use Rattle.om_matroid.specs.Bases.{IsIndependent}
use Rattle.om_matroid.proofs.ExchangeLaws.{symmetric_exchange}
use Rattle.om_minors.specs.Minors.{deleted}
use Rattle.om_minors.proofs.BasisLaws.{HasBasis}
use Rattle.om_minors.proofs.MinorMaps.{deleted_axioms}
use Rattle.om_localize.specs.Extensions.{IsExtension}
use Rattle.om_covers.specs.Classes.{IsSimple, IsUniform, HasBasisBeforeLast}
use Rattle.om_covers.proofs.Shorter.{longer, shorter}

-- elements below n aren't moved where n is skipped
unmoved : (n : ℕ) (xs : List ℕ) → ((e : ℕ) → IsMember e xs → e < n) → map (skip n) xs ≡ xs
unmoved n [] h = refl
unmoved n (x ∷ xs) h = ap (λ e. e ∷ map (skip n) xs) (skip_below n x (h x (inl refl)))
    ∙ ap (λ l. x ∷ l) (unmoved n xs (λ e m. h e (inr m)))

module _ (x : SignMap) (several : 2 ≤ x.elements) where
  one_more : suc (x.elements - 1) ≡ x.elements
  one_more = omega arith

  -- an increasing list of the elements before the last
  before_last : (xs : List ℕ) → IsSubsetFrom 1 (x.elements - 1) xs → IsSubsetFrom 1 x.elements xs
  before_last xs h = subst (λ n. IsSubsetFrom 1 n xs) one_more (longer (x.elements - 1) xs h)

  pub without_last : (xs : List ℕ) → IsSubsetFrom 1 x.elements xs → (IsMember x.elements xs → ⊥)
      → IsSubsetFrom 1 (x.elements - 1) xs
  without_last xs h off = shorter (x.elements - 1) xs (subst (λ n. IsSubsetFrom 1 n xs) (sym one_more) h)
      (λ m. off (subst (λ n. IsMember n xs) one_more m))

  deleted_sign : (xs : List ℕ) → IsSubsetFrom 1 (x.elements - 1) xs → length xs ≡ x.rank
      → chi_of (deleted x.elements x) xs ≡ chi_of x xs
  deleted_sign xs h l =
      rule_at x.rank (x.elements - 1) (deletion x.elements (value_of x)) xs h l
      ∙ ap (value_of x)
      (append-nil (map (skip x.elements) xs)
      ∙ unmoved x.elements xs (λ e m.
      let b = ((subset_is_increasing (x.elements - 1) xs).0 h).1 e m in let high = b.1 in omega arith))
      ∙ value_in_order 1 x.elements (chi_of x) xs (before_last xs h)

  -- a basis without the last element is one of the deletion
  basis_without_last : (b : List ℕ) → IsBasis x b → (IsMember x.elements b → ⊥) → IsBasis (deleted x.elements x) b
  basis_without_last b basis off =
      let h = without_last b basis.list off in
      record {
        list = h;
        size = basis.size;
        nonzero = λ z. basis.nonzero
            (value_in_order 1 x.elements (chi_of x) b basis.list ∙ sym (deleted_sign b h basis.size)
            ∙ sym (value_in_order 1 (x.elements - 1) (chi_of (deleted x.elements x)) b h) ∙ z);
      }

  module _ (om : IsChirotope x) (some : HasBasisBeforeLast x) where
    has_basis : HasBasis x x.elements false
    has_basis = (some.0, some.1, (λ k. absurd (false≢true k), λ k. absurd (some.2 k)))

    pub deletion_axioms : IsChirotope (deleted x.elements x)
    deletion_axioms = deleted_axioms x om x.elements several (omega arith) (omega arith) has_basis

    pub is_extension : IsExtension (deleted x.elements x) x
    is_extension = record {
      rank = refl;
      elements = omega arith;
      agrees = λ xs h l. sym (deleted_sign xs h l);
      chirotope = om;
    }

    pub deletion_uniform : IsUniform x → IsUniform (deleted x.elements x)
    deletion_uniform uniform xs h l z = uniform xs (before_last xs h) l (sym (deleted_sign xs h l) ∙ z)

    -- the last element of a basis can be exchanged for another
    exchanged_basis : (e f : ℕ) (b : List ℕ) → e < x.elements → f < x.elements → IsBasis x b → IsMember e b
        → IsMember f b → IsMember x.elements b → IsIndependent (deleted x.elements x) (e ∷ f ∷ [])
    exchanged_basis e f b le lf basis me mf last =
        let r = symmetric_exchange x om b some.0 x.elements basis some.1 last some.2 in
        let c = with_element r.0 (without_element x.elements b) in
        let kept : (g : ℕ) → g < x.elements → IsMember g b → IsMember g c =
        (λ g lt m. let other : g ≢ x.elements = omega arith in
        (members_with r.0 g (without_element x.elements b)).1 (inr ((members_without x.elements g b).1 (other, m)))) in
        let off : IsMember x.elements c → ⊥ =
        (λ m. ⊎_elim
        (λ q. some.2 (subst (λ z. IsMember z some.0) (sym q) r.1.inside))
        (λ j. ((members_without x.elements x.elements b).0 j).0 refl)
        ((members_with r.0 x.elements (without_element x.elements b)).0 m)) in (
          c,
          basis_without_last c r.1.basis off,
          λ g k. ⊎_elim (λ q. subst (λ z. IsMember z c) (sym q) (kept e le me))
              (λ j. ⊎_elim (λ q. subst (λ z. IsMember z c) (sym q) (kept f lf mf)) (λ none. absurd none) j) k,
        )

    pub deletion_simple : IsSimple x → IsSimple (deleted x.elements x)
    deletion_simple simple e f low lt high = elim (member_or_not x.elements (simple e f low lt (omega arith)).0) [
      | inl last ↦
          let b = simple e f low lt (omega arith) in
          exchanged_basis e f b.0 (omega arith) (omega arith) b.1 (b.2 e (inl refl)) (b.2 f (inr (inl refl))) last
      | inr off ↦
          let b = simple e f low lt (omega arith) in
          (b.0, basis_without_last b.0 b.1 off, b.2)
    ]
