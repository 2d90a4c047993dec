-- How loops over the bits of a mask go through its members.
--
-- Main definitions: from_place, rank_from_place, the members from a place on and their place among the sets of their
-- size
-- Main results: members-zero, members-ones, first_mask and first_members, of the mask of the first elements;
-- ones-members; from_start; member_here, none_here, rank_member, rank_skipped, rank_none, a turn of the loop;
-- length-members, length-first_of, rank-first_of
use Rattle.std.proofs.Common.{ℕ, ◌≡◌, ◌≢◌, ◌+◌, ◌-◌, ◌*◌, ◌/◌, ◌%◌, ◌<◌, ◌≤◌, ◌^◌, List, [], ◌∷◌, length, zero, suc}
use Rattle.std.proofs.Common.{refl, sym, ◌∙◌, ap, arith, false, inl, inr, bit_and, add-one}
use Rattle.std.proofs.Math.Pow.{pow_pos, pow_mono}
use Rattle.std.proofs.Math.Nat.{div-div-eq-div-mul, div-one, pow-succ'}
use Rattle.std.proofs.lemmas.Bool.{cases_eq, eq-eqb, ne_eqb}
use Rattle.std.proofs.lemmas.Nat.{one_shl}
use Rattle.std.proofs.lemmas.Nat.Bits.{shr_and_one}
use Rattle.std.specs.Int.Count.{ones, ones_step}
use Rattle.om_signs.specs.declared.limits.TheConstants.{MAX_PLACES}
use Rattle.om_subsets.specs.Subsets.{choose, rank_from, first_of}
use Rattle.om_subsets.specs.Members.{members, begins_with, begins_later}

-- a mask has room for every element
pub bits_fit : (n : ℕ) → n ≤ MAX_PLACES → n < 32
bits_fit n l = omega arith

-- the mask 0 has no members
pub members-zero : (e m : ℕ) → members 0 e m ≡ []
members-zero e zero = refl
members-zero e (suc m) = members-zero (e + 1) m

pub members-ones : (r e m : ℕ) → r ≤ m → members (2 ^ r - 1) e m ≡ first_of e r
members-ones zero e m l = members-zero e m
members-ones (suc r) e zero l = absurd (omega arith)
members-ones (suc r) e (suc m) l =
    let d = pow-succ' 2 r in
    let p = pow_pos r in
    let odd : (2 ^ suc r - 1) % 2 ≡ 1 = omega arith in
    let half : (2 ^ suc r - 1) / 2 ≡ 2 ^ r - 1 = omega arith in
    rw (odd, half, members-ones r (e + 1) m (omega arith)) refl

pub first_mask : (r n : ℕ) → r ≤ n → n < 32 → 1 * 2 ^ r % 4294967296 - 1 < 2 ^ n
first_mask r n l h =
    let e : 1 * 2 ^ r % 4294967296 ≡ 2 ^ r = one_shl r 32 (omega arith) in
    let m : 2 ^ r ≤ 2 ^ n = pow_mono l in
    let p = pow_pos r in
    rw e (omega arith)

pub first_members : (r n : ℕ) → r ≤ n → n < 32 → members (1 * 2 ^ r % 4294967296 - 1) 1 n ≡ first_of 1 r
first_members r n l h =
    let e : 1 * 2 ^ r % 4294967296 ≡ 2 ^ r = one_shl r 32 (omega arith) in
    rw e (members-ones r 1 n l)

pub ones-members : (mask e m : ℕ) → mask < 2 ^ m → ones mask ≡ length (members mask e m)
unfolding ones
ones-members mask e zero l = let z : mask ≡ 0 = omega arith in rw z refl
ones-members mask e (suc m) l =
    let d = pow-succ' 2 m in
    let i = ones-members (mask / 2) (e + 1) m (omega arith) in
    elim (cases_eq (mask % 2) 1) [
      | inl o ↦ ones_step mask ∙ rw (o, i) (omega arith)
      | inr z ↦ let n : mask % 2 ≡ 0 = omega arith in ones_step mask ∙ rw (n, i) (omega arith)
    ]

-- the members from i + 1 on
abbrev pub from_place : ℕ → ℕ → ℕ → List ℕ
from_place mask i n = members (mask / 2 ^ i) (i + 1) (n - i)

pub from_start : (mask n : ℕ) → from_place mask 0 n ≡ members mask 1 n
from_start mask n =
    let a : mask / 1 ≡ mask = div-one mask in
    let b : n - 0 ≡ n = omega arith in
    rw (a, b) refl

halved : (mask i : ℕ) → mask / 2 ^ i / 2 ≡ mask / 2 ^ (i + 1)
halved mask i =
    let d = pow-succ' 2 i in
    let e : 2 ^ i * 2 ≡ 2 ^ (i + 1) = rw add-one (omega arith) in
    div-div-eq-div-mul mask (2 ^ i) 2 ∙ ap (λ k. mask / k) e

-- what one turn sees: a member, or none here
pub member_here : (mask i n : ℕ) → i < n → bit_and (mask / 2 ^ i) 1 ≡ 1
    → from_place mask i n ≡ (i + 1) ∷ from_place mask (i + 1) n
member_here mask i n l t =
    let o : mask / 2 ^ i % 2 ≡ 1 = sym (shr_and_one mask i) ∙ t in
    let s : n - i ≡ suc (n - (i + 1)) = omega arith in
    rw (s, o, halved mask i) refl

pub none_here : (mask i n : ℕ) → i < n → bit_and (mask / 2 ^ i) 1 ≢ 1 → from_place mask i n ≡ from_place mask (i + 1) n
none_here mask i n l t =
    let o : mask / 2 ^ i % 2 ≢ 1 = (λ e. t (shr_and_one mask i ∙ e)) in
    let s : n - i ≡ suc (n - (i + 1)) = omega arith in
    rw (s, ne_eqb (mask / 2 ^ i % 2) 1 o, halved mask i) refl

abbrev pub rank_from_place : ℕ → ℕ → List ℕ → ℕ
rank_from_place i n xs = rank_from (i + 1) (n - i) xs

pub rank_member : (mask i n : ℕ) → i < n → bit_and (mask / 2 ^ i) 1 ≡ 1
    → rank_from_place i n (from_place mask i n) ≡ rank_from_place (i + 1) n (from_place mask (i + 1) n)
rank_member mask i n l t = rw (member_here mask i n l t) (at_suc (n - (i + 1)) (n - i) (omega arith))
  where
    at_suc : (m k : ℕ) → k ≡ suc m → rank_from (i + 1) k ((i + 1) ∷ from_place mask (i + 1) n)
        ≡ rank_from (i + 1 + 1) m (from_place mask (i + 1) n)
    at_suc m k e = rw (e, eq-eqb (i + 1) (i + 1) refl) refl

begins_not : (mask i n : ℕ) → begins_with (i + 1) (from_place mask (i + 1) n) ≡ false
begins_not mask i n = begins_later (mask / 2 ^ (i + 1)) (i + 1) 1 (n - (i + 1)) (omega arith)

skip_place : (i n : ℕ) (xs : List ℕ) → i < n → begins_with (i + 1) xs ≡ false → 0 < length xs
    → rank_from_place i n xs ≡ choose (n - 1 - i) (length xs - 1) + rank_from_place (i + 1) n xs
skip_place i n [] l b some = absurd (omega arith)
skip_place i n (x ∷ xs) l b some =
    let s : n - i ≡ suc (n - (i + 1)) = omega arith in
    let e : n - 1 - i ≡ n - (i + 1) = omega arith in
    let k : suc (length xs) - 1 ≡ length xs = omega arith in
    rw (s, b, e, k) refl

pub rank_skipped : (mask i n : ℕ) → i < n → bit_and (mask / 2 ^ i) 1 ≢ 1 → 0 < length (from_place mask (i + 1) n)
    → rank_from_place i n (from_place mask i n) ≡ choose (n - 1 - i) (length (from_place mask (i + 1) n) - 1)
    + rank_from_place (i + 1) n (from_place mask (i + 1) n)
rank_skipped mask i n l t some =
    rw (none_here mask i n l t) (skip_place i n (from_place mask (i + 1) n) l (begins_not mask i n) some)

pub rank_none : (i n : ℕ) (xs : List ℕ) → length xs ≡ 0 → rank_from_place i n xs ≡ 0
rank_none i n [] e = refl
rank_none i n (x ∷ xs) e = absurd (omega arith)

pub length-members : (mask e m : ℕ) → length (members mask e m) ≤ m
length-members mask e zero = omega arith
length-members mask e (suc m) =
    let i = length-members (mask / 2) (e + 1) m in
    elim (cases_eq (mask % 2) 1) [
      | inl o ↦ rw o (omega arith)
      | inr z ↦ rw (ne_eqb (mask % 2) 1 z) (omega arith)
    ]

pub length-first_of : (e k : ℕ) → length (first_of e k) ≡ k
length-first_of e zero = refl
length-first_of e (suc k) = ap suc (length-first_of (e + 1) k)

pub rank-first_of : (e m k : ℕ) → rank_from e m (first_of e k) ≡ 0
rank-first_of e zero zero = refl
rank-first_of e zero (suc k) = refl
rank-first_of e (suc m) zero = refl
rank-first_of e (suc m) (suc k) = rw (eq-eqb e e refl) (rank-first_of (e + 1) m k)
