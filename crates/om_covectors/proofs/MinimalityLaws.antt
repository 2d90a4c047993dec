-- The selection of the members of minimal support.
--
-- Main results: those_taken, those_left: one more vector is taken or left.
use Rattle.std.proofs.Common.{◌++◌, List, [], ◌∷◌, refl, ap, inl, inr}
use Rattle.om_signs.specs.declared.sign.Sign.{Sign}
use Rattle.om_covectors.specs.Minimality.{AreThose}

module _ (P : List Sign → Type 0) where
  pub those_taken : (xs ys : List (List Sign)) (x : List Sign) → AreThose P xs ys → P x
      → AreThose P (xs ++ x ∷ []) (ys ++ x ∷ [])
  those_taken [] ys x h p = inl (p, [], ap (λ zs. zs ++ x ∷ []) h, refl)
  those_taken (z ∷ xs) ys x (inl h) p =
      inl (h.0, h.1 ++ x ∷ [], ap (λ zs. zs ++ x ∷ []) h.2, those_taken xs h.1 x h.3 p)
  those_taken (z ∷ xs) ys x (inr h) p = inr (h.0, those_taken xs ys x h.1 p)

  pub those_left : (xs ys : List (List Sign)) (x : List Sign) → AreThose P xs ys → (P x → ⊥)
      → AreThose P (xs ++ x ∷ []) ys
  those_left [] ys x h p = inr (p, h)
  those_left (z ∷ xs) ys x (inl h) p = inl (h.0, h.1, h.2, those_left xs h.1 x h.3 p)
  those_left (z ∷ xs) ys x (inr h) p = inr (h.0, those_left xs ys x h.1 p)
