-- A set without the last of the elements that it is taken from.
--
-- Main results: shorter_subset, it is one of the elements before; shorter_code, its mask and members.
use Rattle.std.proofs.Common.{ℕ, zero, suc, ◌≡◌, ◌≢◌, ◌+◌, ◌-◌, ◌*◌, ◌<◌, ◌≤◌, ◌^◌, List, [], ◌∷◌, refl, sym, ap, subst}
use Rattle.std.proofs.Common.{◌∙◌, inl, inr, arith}
use Rattle.std.proofs.lemmas.Bool.{eq-eqb, ne_eqb}
use Rattle.om_subsets.specs.Subsets.{IsSubsetFrom, IsMember}
use Rattle.om_subsets.specs.Members.{members, mask_of}
use Rattle.om_subsets.proofs.Masks.{members-mask_of, mask_of-lt}
use Rattle.om_subsets.proofs.Statements.{subset_is_increasing}

pub shorter_subset : (n : ℕ) (xs : List ℕ) → IsSubsetFrom 1 (n + 1) xs → (IsMember (n + 1) xs → ⊥) → IsSubsetFrom 1 n xs
shorter_subset n xs h out =
    let i = (subset_is_increasing (n + 1) xs).0 h in
    (subset_is_increasing n xs).1 (
      i.0,
      λ e q.
          let b = i.1 e q in
          let high = b.1 in
          let ne : e ≢ n + 1 = λ r. out (subst (λ z. IsMember z xs) r q) in
          (b.0, grind (arith, high, ne)),
    )

mask_longer : (e m : ℕ) (xs : List ℕ) → IsSubsetFrom e m xs → mask_of e xs (suc m) ≡ mask_of e xs m
mask_longer e zero [] h = refl
mask_longer e zero (x ∷ xs) h = absurd h
mask_longer e (suc m) [] h = ap (λ k. 2 * k) (mask_longer (e + 1) m [] tt)
mask_longer e (suc m) (x ∷ xs) (inl (q, h)) = rw (eq-eqb x e q) (ap (λ k. 1 + 2 * k) (mask_longer (e + 1) m xs h))
mask_longer e (suc m) (x ∷ xs) (inr (q, h)) = rw (ne_eqb x e q) (ap (λ k. 2 * k) (mask_longer (e + 1) m (x ∷ xs) h))

pub shorter_code : (n : ℕ) (xs : List ℕ) → 1 ≤ n → IsSubsetFrom 1 n xs → (IsMember n xs → ⊥)
    → (mask_of 1 xs n < 2 ^ (n - 1)) × (members (mask_of 1 xs n) 1 (n - 1) ≡ xs)
shorter_code zero xs l h off = absurd (omega (arith, l))
shorter_code (suc n) xs l h off =
    let e : n + 1 ≡ suc n = omega arith in
    let s = shorter_subset n xs (subst (λ k. IsSubsetFrom 1 k xs) (sym e) h) (λ k. off (subst (λ g. IsMember g xs) e k))
    in
    let q : suc n - 1 ≡ n = omega arith in
    let c = mask_longer 1 n xs s in (
      subst (λ k. mask_of 1 xs (suc n) < 2 ^ k) (sym q) (subst (λ k. k < 2 ^ n) (sym c) (mask_of-lt 1 n xs)),
      ap (λ k. members (mask_of 1 xs (suc n)) 1 k) q ∙ ap (λ k. members k 1 n) c ∙ members-mask_of 1 n xs s,
    )
