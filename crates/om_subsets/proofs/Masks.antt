-- Masks and increasing lists go into one another.
--
-- Main definitions: IsBack
-- Main results: mask_of-lt, members-mask_of, bits_are_members, parts_back
use Rattle.std.proofs.Common.{ℕ, ◌≡◌, ◌+◌, ◌*◌, ◌/◌, ◌%◌, ◌<◌, ◌^◌, List, [], ◌∷◌, zero, suc, refl, sym, ◌∙◌, ap, arith}
use Rattle.std.proofs.Common.{inl, inr, ◌↔◌, true, false, cond}
use Rattle.std.proofs.lemmas.Bool.{eq-eqb, ne_eqb}
use Rattle.std.specs.Int.{bit_at}
use Rattle.std.proofs.Math.Nat.{pow-succ'}
use Rattle.om_signs.specs.SignVec.{IsMaskOf}
use Rattle.om_subsets.specs.Subsets.{IsSubsetFrom, IsMember}
use Rattle.om_subsets.specs.Members.{Chosen, IsSubsetMask, members, mask_of, mask_of-members, begins_with, tail}
use Rattle.om_subsets.proofs.Edits.{member_bit}

-- a mask of m bits, made from a list, is below 2 ^ m
pub mask_of-lt : (e m : ℕ) (xs : List ℕ) → mask_of e xs m < 2 ^ m
mask_of-lt e zero xs = omega arith
mask_of-lt e (suc m) xs =
    let d = pow-succ' 2 m in
    let i = mask_of-lt (e + 1) m xs in
    let j = mask_of-lt (e + 1) m (tail xs) in
    elim (begins_with e xs) as
    (λ b. cond b (1 + 2 * mask_of (e + 1) (tail xs) m) (2 * mask_of (e + 1) xs m) < 2 ^ suc m) [
      | true ↦ omega arith
      | false ↦ omega arith
    ]

-- an increasing list that is made a mask has the same members again
pub members-mask_of : (e m : ℕ) (xs : List ℕ) → IsSubsetFrom e m xs → members (mask_of e xs m) e m ≡ xs
members-mask_of e zero [] h = refl
members-mask_of e zero (x ∷ xs) h = absurd h
members-mask_of e (suc m) [] h =
    let low : 2 * mask_of (e + 1) [] m % 2 ≡ 0 = omega arith in
    let half : 2 * mask_of (e + 1) [] m / 2 ≡ mask_of (e + 1) [] m = omega arith in
    rw (low, half) (members-mask_of (e + 1) m [] tt)
members-mask_of e (suc m) (x ∷ xs) (inl (q, h)) =
    let low : (1 + 2 * mask_of (e + 1) xs m) % 2 ≡ 1 = omega arith in
    let half : (1 + 2 * mask_of (e + 1) xs m) / 2 ≡ mask_of (e + 1) xs m = omega arith in
    rw (eq-eqb x e q) (rw (low, half, members-mask_of (e + 1) m xs h, q) refl)
members-mask_of e (suc m) (x ∷ xs) (inr (n, h)) =
    let low : 2 * mask_of (e + 1) (x ∷ xs) m % 2 ≡ 0 = omega arith in
    let half : 2 * mask_of (e + 1) (x ∷ xs) m / 2 ≡ mask_of (e + 1) (x ∷ xs) m = omega arith in
    rw (ne_eqb x e n) (rw (low, half) (members-mask_of (e + 1) m (x ∷ xs) h))

-- the bits of a mask are the members
pub bits_are_members : (mask n : ℕ) → mask < 2 ^ n → IsMaskOf n (λ i. IsMember (i + 1) (members mask 1 n)) mask
bits_are_members mask n l = record { within = l; holds = each }
  where
    each : (i : ℕ) → i < n → (bit_at mask i ≡ 1) ↔ IsMember (i + 1) (members mask 1 n)
    each i l = let e : i + 1 ≡ 1 + i = omega arith in rw e (member_bit mask 1 n i l)

-- the parts of a subset, from its value
pub record IsBack (mask n : ℕ) (v : Chosen) : Type 0 where
  pub mask_is : mask_of 1 v.elements v.n ≡ mask
  pub n_is : v.n ≡ n

pub parts_back : (mask n : ℕ) (v : Chosen) → IsSubsetMask mask n → record { n = n; elements = members mask 1 n } ≡ v
    → IsBack mask n v
parts_back mask n v s e = record {
  mask_is = sym (ap (λ w. mask_of 1 w.elements w.n) e) ∙ mask_of-members mask 1 n s.within;
  n_is = sym (ap (λ w. w.n) e);
}
