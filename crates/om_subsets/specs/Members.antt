-- The members of a mask of elements.
use Rattle.std.specs.Prelude.{ℕ, ◌≡◌, ◌+◌, ◌*◌, ◌/◌, ◌%◌, ◌<◌, ◌≤◌, ◌^◌, List, [], ◌∷◌, cond, nat_eq, Bool, false, refl}
use Rattle.std.proofs.Common.{zero, suc, arith, inl, inr}
use Rattle.std.proofs.lemmas.Bool.{cases_eq, eq-eqb, ne_eqb, eqb-false}
use Rattle.std.proofs.Math.Nat.{pow-succ'}
use Rattle.om_signs.specs.declared.limits.TheConstants.{MAX_PLACES}
use Rattle.om_subsets.specs.Subsets.{IsSubsetFrom}

-- a set of some of the numbers 1 to n, as its increasing list
pub record Chosen : Type 0 where
  pub n : ℕ
  pub elements : List ℕ

-- the numbers from e on whose bits of the mask are set; the lowest bit is that of e
abbrev pub members : ℕ → ℕ → ℕ → List ℕ
members mask e zero = []
members mask e (suc m) = cond (nat_eq (mask % 2) 1) (e ∷ members (mask / 2) (e + 1) m) (members (mask / 2) (e + 1) m)

-- the list begins with e
abbrev pub begins_with : ℕ → List ℕ → Bool
begins_with e [] = false
begins_with e (x ∷ xs) = nat_eq x e

-- the list without its first number
abbrev pub tail : List ℕ → List ℕ
tail [] = []
tail (x ∷ xs) = xs

-- the mask of m bits that has these numbers from e on
abbrev pub mask_of : ℕ → List ℕ → ℕ → ℕ
mask_of e xs zero = 0
mask_of e xs (suc m) = cond (begins_with e xs) (1 + 2 * mask_of (e + 1) (tail xs) m) (2 * mask_of (e + 1) xs m)

-- a mask of bits for the numbers 1 to n
pub record IsSubsetMask (mask n : ℕ) : Type 0 where
  pub within : mask < 2 ^ n
  pub few : n ≤ MAX_PLACES

-- ---- for the model of a subset and the clauses on its members

pub begins_later : (mask e d m : ℕ) → 1 ≤ d → begins_with e (members mask (e + d) m) ≡ false
begins_later mask e d zero l = refl
begins_later mask e d (suc m) l =
    let n : e + d ≡ e → ⊥ = omega arith in
    let s : e + d + 1 ≡ e + (d + 1) = omega arith in
    elim (cases_eq (mask % 2) 1) [
      | inl o ↦ rw (eq-eqb (mask % 2) 1 o) (ne_eqb (e + d) e n)
      | inr z ↦ rw (ne_eqb (mask % 2) 1 z, s) (begins_later (mask / 2) e (d + 1) m (omega arith))
    ]

pub mask_of-members : (mask e m : ℕ) → mask < 2 ^ m → mask_of e (members mask e m) m ≡ mask
mask_of-members mask e zero l = omega arith
mask_of-members mask e (suc m) l =
    let p : 2 ^ suc m ≡ 2 * 2 ^ m = pow-succ' 2 m in
    let i : mask_of (e + 1) (members (mask / 2) (e + 1) m) m ≡ mask / 2 =
    mask_of-members (mask / 2) (e + 1) m (omega arith) in
    elim (cases_eq (mask % 2) 1) [
      | inl o ↦ rw (eq-eqb (mask % 2) 1 o) (rw (eq-eqb e e refl) (rw i (omega arith)))
      | inr z ↦ rw (ne_eqb (mask % 2) 1 z) (rw (begins_later (mask / 2) e 1 m (omega arith)) (rw i (omega arith)))
    ]

pub subset_later : (e m : ℕ) (xs : List ℕ) → begins_with e xs ≡ false → IsSubsetFrom (e + 1) m xs
    → IsSubsetFrom e (suc m) xs
subset_later e m [] b h = tt
subset_later e m (x ∷ xs) b h = inr (eqb-false x e b, h)

pub members-subset : (mask e m : ℕ) → IsSubsetFrom e m (members mask e m)
members-subset mask e zero = tt
members-subset mask e (suc m) = elim (cases_eq (mask % 2) 1) [
  | inl o ↦ rw (eq-eqb (mask % 2) 1 o) (inl (refl, members-subset (mask / 2) (e + 1) m))
  | inr z ↦
      rw (ne_eqb (mask % 2) 1 z)
      (subset_later e m _ (begins_later (mask / 2) e 1 m (omega arith)) (members-subset (mask / 2) (e + 1) m))
]
