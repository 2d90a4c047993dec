-- A map on one element more, by a map on the others and its values in front of that element; lists with the element
-- moved to the end.
--
-- Main results: first_place, grown
-- Reference: Björner, Las Vergnas, Sturmfels, White and Ziegler, Oriented Matroids, section 3.5.
use Rattle.std.specs.Prelude.{◌≡◌, ◌⊎◌, ℕ, false, cond, List, [], ◌∷◌, ◌++◌, refl}
use Rattle.std.proofs.Common.{eqb, sym, ap, ◌∙◌, ⊎_elim, inl, inr, append_assoc, append-nil}
use Rattle.std.proofs.lemmas.Bool.{cases_eq, eq-eqb, ne_eqb}
use Rattle.om_signs.specs.declared.sign.Sign.{Sign}
use Rattle.om_laws.specs.Members.{IsMember}
use Rattle.om_laws.proofs.MemberLaws.{member_drop, member_insert, member_last, member_left, member_right}
use Rattle.om_laws.proofs.BlockLaws.{negated_for}

-- the first place of p
pub first_place : (p : ℕ) (t : List ℕ) → (IsMember p t → ⊥)
    ⊎ ((u : List ℕ) × (v : List ℕ) × (t ≡ u ++ p ∷ v) × (IsMember p u → ⊥))
first_place p [] = inl (λ m. m)
first_place p (a ∷ t) =
    ⊎_elim
    (λ q. inr ([], t, ap (λ z. z ∷ t) (sym q), λ m. m))
    (λ n. ⊎_elim
    (λ k. inl (λ m. ⊎_elim (λ q. n q) (λ j. k j) m))
    (λ k. inr (a ∷ k.0, k.1, ap (λ z. a ∷ z) k.2, λ m. ⊎_elim (λ q. n q) (λ j. k.3 j) m))
    (first_place p t))
    (cases_eq p a)

module _ (g : List ℕ → Sign) (p : ℕ) (psi : List ℕ → Sign) where
  -- the map on p and G
  ext : List ℕ → List ℕ → Sign
  ext pre [] = g pre
  ext pre (a ∷ r) = cond (eqb a p) (negated_for r (psi (pre ++ r))) (ext (pre ++ a ∷ []) r)

  pub grown : List ℕ → Sign
  grown t = ext [] t

  ext_at : (u pre v : List ℕ) → (IsMember p u → ⊥) → ext pre (u ++ p ∷ v) ≡ negated_for v (psi ((pre ++ u) ++ v))
  unfolding ext
  ext_at [] pre v n = rw (eq-eqb p p refl, append-nil pre)
  ext_at (c ∷ u) pre v n =
      let e : eqb c p ≡ false = ne_eqb c p (λ q. n (inl (sym q))) in
      let h = ext_at u (pre ++ c ∷ []) v (λ m. n (inr m)) in
      ap (λ z. cond z (negated_for (u ++ p ∷ v) (psi (pre ++ (u ++ p ∷ v)))) (ext (pre ++ c ∷ []) (u ++ p ∷ v))) e
      ∙ h ∙ ap (λ l. negated_for v (psi (l ++ v))) (append_assoc pre (c ∷ []) u)

  ext_no : (r pre : List ℕ) → (IsMember p r → ⊥) → ext pre r ≡ g (pre ++ r)
  unfolding ext
  ext_no [] pre n = ap g (sym (append-nil pre))
  ext_no (c ∷ r) pre n =
      let e : eqb c p ≡ false = ne_eqb c p (λ q. n (inl (sym q))) in
      ap (λ z. cond z (negated_for r (psi (pre ++ r))) (ext (pre ++ c ∷ []) r)) e
      ∙ ext_no r (pre ++ c ∷ []) (λ m. n (inr m)) ∙ ap g (append_assoc pre (c ∷ []) r)

  pub grown_at : (u v : List ℕ) → (IsMember p u → ⊥) → grown (u ++ p ∷ v) ≡ negated_for v (psi (u ++ v))
  unfolding grown
  grown_at u v n = ext_at u [] v n

  pub grown_no : (t : List ℕ) → (IsMember p t → ⊥) → grown t ≡ g t
  unfolding grown
  grown_no t n = ext_no t [] n

module _ (p : ℕ) where
  pub to_back : (u v : List ℕ) (i : ℕ) → IsMember i (u ++ p ∷ v) → IsMember i ((u ++ v) ++ p ∷ [])
  to_back u v i m = ⊎_elim (λ q. member_right i (u ++ v) (p ∷ []) (inl q)) (λ k. member_left i (u ++ v) (p ∷ []) k)
      (member_drop i u p v m)

  pub from_back : (u v : List ℕ) (i : ℕ) → IsMember i ((u ++ v) ++ p ∷ []) → IsMember i (u ++ p ∷ v)
  from_back u v i m = ⊎_elim (λ k. member_insert i u p v k) (λ q. member_right i u (p ∷ v) (inl q))
      (member_last i p (u ++ v) m)
