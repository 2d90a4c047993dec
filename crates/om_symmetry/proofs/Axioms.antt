-- The image of a chirotope is a chirotope.
--
-- Main results: acted_whole, acted_chirotope; the tuple that is sent to a tuple (old_tuple).
use Rattle.std.proofs.Common.{ℕ, ◌≡◌, List, [], ◌∷◌, map, refl, sym, ap, subst, ◌∙◌}
use Rattle.std.proofs.Common.{append-nil}
use Rattle.om_signs.specs.declared.sign.Sign.{Sign}
use Rattle.om_laws.specs.Signs.{IsNonzero}
use Rattle.om_laws.specs.Chirotope as theory
use Rattle.om_laws.specs.Chirotope.{elements_to}
use Rattle.om_laws.specs.Minors.{pullback}
use Rattle.om_laws.specs.Sorting.{IsElement, Each}
use Rattle.om_laws.proofs.ChirotopeLaws.{member_from_element, element_from_member}
use Rattle.om_laws.proofs.PullbackLaws.{pullback_chirotope}
use Rattle.om_laws.proofs.ReorientationLaws.{reoriented_chirotope}
use Rattle.om_laws.proofs.TupleSizes.{on_tuples_tuple}
use Rattle.om_chirotope.specs.Map.{SignMap, IsMap, chi_of, value_of}
use Rattle.om_chirotope.specs.Chirotope.{IsChirotope}
use Rattle.om_chirotope.proofs.Theory.{theory_chirotope}
use Rattle.om_denotation.proofs.ChirotopeBridge.{tuples_of}
use Rattle.om_denotation.proofs.Rules.{same_maps, whole_by, chirotope_by}
use Rattle.om_symmetry.specs.declared.signed_element.SignedElement.{SignedElement}
use Rattle.om_symmetry.specs.Permutations.{IsSignedPermutation, element_at, is_negated_at, relabelled, image_value}
use Rattle.om_symmetry.specs.Permutations.{acted}
use Rattle.om_symmetry.proofs.Places.{old_place}
use Rattle.om_symmetry.proofs.Images.{element_back, acted_tuples}

-- the tuple of the places of the elements of a tuple
pub record IsOldTuple (n : ℕ) (w : List SignedElement) (t u : List ℕ) : Type 0 where
  pub within : Each (IsElement n) u
  pub image : map (element_at w) u ≡ t

pub old_tuple : (n : ℕ) (w : List SignedElement) → IsSignedPermutation n w → (t : List ℕ) → Each (IsElement n) t
    → (u : List ℕ) × IsOldTuple n w t u
old_tuple n w p [] h = ([], record { within = tt; image = refl })
old_tuple n w p (x ∷ t) h =
    let k = old_place n w p x h.0 in
    let r = old_tuple n w p t h.1 in (
      k.0 ∷ r.0,
      record {
        within = (k.1, r.1.within);
        image = ap (λ e. e ∷ map (element_at w) r.0) k.2 ∙ ap (λ l. x ∷ l) r.1.image;
      },
    )

-- the image of a map with a sign for each set has a sign for each set
pub acted_whole : (m : SignMap) (w : List SignedElement) → IsMap m → IsMap (acted w m)
acted_whole m w h = whole_by m.rank m.elements (image_value w (value_of m)) h.part

-- a pullback with nothing behind is a relabelling
pulled : (rename : ℕ → ℕ) (chi : List ℕ → Sign) → pullback chi rename [] ≡ relabelled rename chi
pulled rename chi = same_maps (pullback chi rename []) (relabelled rename chi) (λ t. ap chi (append-nil (map rename t)))

module _ (n : ℕ) (w : List SignedElement) (p : IsSignedPermutation n w) (chi : List ℕ → Sign)
    (om : theory.IsChirotope (elements_to n) chi) where
  relabelled_chirotope : (t : List ℕ) → Each (IsElement n) t → IsNonzero (chi t)
      → theory.IsChirotope (elements_to n) (relabelled (element_at w) chi)
  relabelled_chirotope t h k =
      let u = old_tuple n w p t h in
      subst (theory.IsChirotope (elements_to n)) (pulled (element_at w) chi)
      (pullback_chirotope (elements_to n) chi om (element_at w) [] (elements_to n)
      (λ i m. member_from_element n i (element_back n w p i (element_from_member n (element_at w i) m))) u.0
      (subst (λ l. IsNonzero (chi l)) (sym (append-nil (map (element_at w) u.0) ∙ u.1.image)) k))

  pub image_chirotope : (t : List ℕ) → Each (IsElement n) t → IsNonzero (chi t)
      → theory.IsChirotope (elements_to n) (image_value w chi)
  image_chirotope t h k = reoriented_chirotope (is_negated_at w) (elements_to n) (relabelled (element_at w) chi)
      (relabelled_chirotope t h k)

-- the image of a chirotope under a signed permutation is a chirotope
pub acted_chirotope : (m : SignMap) (w : List SignedElement) → IsSignedPermutation m.elements w → IsChirotope m
    → IsChirotope (acted w m)
acted_chirotope m w p c =
    let om = theory_chirotope m c in
    chirotope_by (acted w m) (image_value w (tuples_of m)) (acted_whole m w c.whole) (acted_tuples m w p)
    (image_chirotope m.elements w p (tuples_of m) om om.base.0
    (on_tuples_tuple m.elements m.rank (chi_of m) om.base.0 om.base.1).within om.base.1)
