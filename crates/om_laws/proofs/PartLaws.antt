-- Compositions of the members of a set that conform to a sign vector.
--
-- Main results: a vector with conforming parts is the composition of some of them (conformal_from_parts).
-- Reference: Björner, Las Vergnas, Sturmfels, White and Ziegler, Oriented Matroids, chapters 3 and 4.
use Rattle.std.specs.Prelude.{ℕ, refl, List, [], ◌∷◌}
use Rattle.std.proofs.Common.{sym, ◌∙◌, ap, subst, ⊎_elim}
use Rattle.om_signs.proofs.SignLaws.{zero_or_nonzero, first_nonzero_cases, first_nonzero_from_left}
use Rattle.om_signs.proofs.SignLaws.{first_nonzero_from_right}
use Rattle.om_laws.specs.Signs.{IsNonzero}
use Rattle.om_laws.specs.Members.{IsMember}
use Rattle.om_laws.specs.Vectors.{SignVector, IsConformal, IsSupportedOn}
use Rattle.om_laws.specs.Compositions.{EachVector, IsConforming, IsComposition, IsConformalComposition}
use Rattle.om_laws.specs.Compositions.{HasConformingParts, composition_of}

module _ (D : SignVector → Type 0) (X : SignVector) (parts : HasConformingParts D X) where
  -- conforming members that reach each element of a list where X is nonzero
  gather : (l : List ℕ) → (Ys : List SignVector) × EachVector (IsConforming D X) Ys × IsConformal (composition_of Ys) X
      × ((e : ℕ) → IsMember e l → IsNonzero (X e) → IsNonzero (composition_of Ys e))
  gather [] = ([], tt, (λ e n. absurd (n refl)), λ e m n. absurd m)
  gather (h ∷ l) =
      let r = gather l in
      ⊎_elim
      (λ z. (r.0, r.1, r.2, λ e m n. ⊎_elim (λ q. absurd (n (ap X q ∙ z))) (λ k. r.3 e k n) m))
      (λ nz.
      let y = parts h nz in (
        y.0 ∷ r.0,
        ((y.1, y.3), r.1),
        (λ e n. ⊎_elim (λ a. a.1 ∙ y.3 e a.0) (λ b. b.2 ∙ r.2 e b.1)
            (first_nonzero_cases (y.0 e) (composition_of r.0 e) n)),
        λ e m n. ⊎_elim
            (λ q. first_nonzero_from_left (y.0 e) (composition_of r.0 e)
            (subst (λ k. IsNonzero (y.0 k)) (sym q) (subst IsNonzero (sym y.2) nz)))
            (λ k. first_nonzero_from_right (y.0 e) (composition_of r.0 e) (r.3 e k n))
            m,
      ))
      (zero_or_nonzero (X h))

  pub conformal_from_parts : (E : List ℕ) → IsSupportedOn E X → IsConformalComposition D X
  conformal_from_parts E s =
      let r = gather E in (
        r.0,
        r.1,
        λ e. ⊎_elim
            (λ z. ⊎_elim (λ zy. z ∙ sym zy) (λ n. sym (r.2 e n)) (zero_or_nonzero (composition_of r.0 e)))
            (λ n. sym (r.2 e (r.3 e (s e n) n)))
            (zero_or_nonzero (X e)),
      )

-- ---- forgetting that they conform

each_conforming : (D : SignVector → Type 0) (X : SignVector) (Ys : List SignVector) → EachVector (IsConforming D X) Ys
    → EachVector D Ys
each_conforming D X [] h = tt
each_conforming D X (Y ∷ Ys) h = (h.0.0, each_conforming D X Ys h.1)

pub composition_from_conformal : (D : SignVector → Type 0) (X : SignVector) → IsConformalComposition D X
    → IsComposition D X
composition_from_conformal D X k = (k.0, each_conforming D X k.0 k.1, k.2)
