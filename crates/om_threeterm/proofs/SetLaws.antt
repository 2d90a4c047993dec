-- The table of all sets of one size, which of them are bases, and the least element of a set.
--
-- Main results: set_at, table_more, table_done and of_part for the table; basis_of_sign; split, what taking out the
-- least element gives.
use Rattle.std.specs.Prelude.{ℕ, ◌≡◌, ◌+◌, ◌-◌, ◌<◌, ◌≤◌, ◌^◌, ◌↔◌, ◌⊎◌, List, [], ◌∷◌, length, take, slice_get, Some}
use Rattle.std.specs.Prelude.{bit_and}
use Rattle.std.specs.Int.{trailing_zeros}
use Rattle.std.proofs.Common.{refl, sym, ◌∙◌, ap, arith, inl, inr, subst, get_or, set, w32, zero, suc}
use Rattle.std.proofs.lemmas.Bool.{cases_eq}
use Rattle.std.proofs.lemmas.List.{ext_get_or, length-map, get_or-map, get_or-set_same, get_or-set_other, get_or-take}
use Rattle.std.proofs.lemmas.List.{length-take-le, take_all}
use Rattle.std.proofs.lemmas.Option.{get_or_from_slice_get}
use Rattle.om_signs.specs.declared.limits.TheConstants.{MAX_PLACES}
use Rattle.om_signs.specs.declared.sign.Sign.{Sign}
use Rattle.om_signs.specs.declared.sign.Sign.TheVariants.{Zero}
use Rattle.om_subsets.specs.Subsets.{choose, all_subsets, subset_at, rank_of, IsSubsetFrom}
use Rattle.om_subsets.specs.Members.{Chosen, members, mask_of}
use Rattle.om_subsets.proofs.Order.{length-subsets_from}
use Rattle.om_subsets.proofs.Masks.{members-mask_of, mask_of-lt}
use Rattle.om_subsets.proofs.Places.{members-zero, bits_fit}
use Rattle.om_subsets.proofs.Lowest.{lowest, turn}
use Rattle.om_chirotope.specs.Map.{SignMap, chi_of, value_of}
use Rattle.om_chirotope.specs.ThreeTerm.{IsBasis}
use Rattle.om_chirotope.proofs.InOrder.{value_in_order}
use Rattle.om_threeterm.specs.Sets.{all_chosen}

-- a list as a set of the numbers 1 to n
abbrev pub chosen : ℕ → List ℕ → Chosen
chosen n xs = record { n = n; elements = xs }

-- what stands past the end of a table
abbrev pub nothing : Chosen
nothing = chosen 0 []

-- a map of rank r on n elements, for the sets of r of n elements
abbrev pub numbers : ℕ → ℕ → SignMap
numbers n r = record { rank = r; elements = n; signs = [] }

-- ---- the table

pub length-all : (n r : ℕ) → length (all_chosen n r) ≡ choose n r
length-all n r = length-map (all_subsets n r) (chosen n) ∙ length-subsets_from 1 n r

pub set_at : (n r k : ℕ) → k < choose n r → get_or (all_chosen n r) k nothing ≡ chosen n (subset_at n r k)
set_at n r k l =
    let few : k < length (all_subsets n r) = subst (λ j. k < j) (sym (length-subsets_from 1 n r)) l in
    get_or-map (chosen n) (all_subsets n r) k [] nothing few

-- the first k places have their sets
abbrev pub IsFilledBelow : ℕ → ℕ → List Chosen → ℕ → Type 0
IsFilledBelow n r table k = (j : ℕ) → j < k → get_or table j nothing ≡ chosen n (subset_at n r j)

pub table_more : (n r : ℕ) (table : List Chosen) (k : ℕ) (s : Chosen) → k < length table → s.n ≡ n
    → s.elements ≡ subset_at n r k → IsFilledBelow n r table k → IsFilledBelow n r (set table k s) (k + 1)
table_more n r table k s lt sn se h j l = elim (cases_eq j k) [
  | inl q ↦ ap (λ i. get_or (set table k s) i nothing) q ∙ get_or-set_same table k s nothing lt
      ∙ both s n (subset_at n r k) sn se ∙ ap (λ i. chosen n (subset_at n r i)) (sym q)
  | inr ne ↦ get_or-set_other table k j s nothing ne ∙ h j (omega arith)
]
  where
    both : (s : Chosen) (n : ℕ) (xs : List ℕ) → s.n ≡ n → s.elements ≡ xs → s ≡ chosen n xs
    both s n xs p q = ap (λ i. chosen i s.elements) p ∙ ap (chosen n) q

-- the first sets, as many as the table has
pub table_done : (n r : ℕ) (table : List Chosen) (count k : ℕ) → length table ≡ count → count ≤ choose n r → count ≤ k
    → IsFilledBelow n r table k → table ≡ take count (all_chosen n r)
table_done n r table count k l room done h =
    let size : count ≤ length (all_chosen n r) = let e = length-all n r in omega (arith, e, room) in
    ext_get_or nothing table (take count (all_chosen n r)) (l ∙ sym (length-take-le count (all_chosen n r) size))
    (λ j lt.
    let below : j < count = omega (arith, lt, l) in
    h j (omega (arith, below, done)) ∙ sym (set_at n r j (omega (arith, below, room)))
    ∙ sym (get_or-take count (all_chosen n r) j nothing below))

-- there are at most 5,985 sets of four
pub few_fours : (n : ℕ) → n ≤ MAX_PLACES → choose n 4 ≤ 5985
few_fours n l = up_to (MAX_PLACES - n) n (omega arith)
  where
    up_to : (d n : ℕ) → n + d ≡ MAX_PLACES → choose n 4 ≤ 5985
    up_to zero n q =
        let last : n ≡ MAX_PLACES = omega arith in
        let most : choose MAX_PLACES 4 ≡ 5985 = refl in
        let here : choose n 4 ≡ choose MAX_PLACES 4 = ap (λ k. choose k 4) last in
        omega (arith, here, most)
    up_to (suc d) n q = let more : choose n 3 + choose n 4 ≤ 5985 = up_to d (suc n) (omega arith) in omega (arith, more)

-- a whole table
pub whole_table : (n r count : ℕ) (table : List Chosen) → count ≡ choose n r → table ≡ take count (all_chosen n r)
    → table ≡ all_chosen n r
whole_table n r count table whole is = is
    ∙ take_all count (all_chosen n r) (let e = length-all n r in omega (arith, e, whole))

-- a set of the table
pub record IsSetAt (n r k : ℕ) (s : Chosen) : Type 0 where
  pub n_is : s.n ≡ n
  pub elements_are : s.elements ≡ subset_at n r k

pub of_table : (n r k : ℕ) (table : List Chosen) (s : Chosen) → table ≡ all_chosen n r → k < choose n r
    → s ≡ get_or table k nothing → IsSetAt n r k s
of_table n r k table s filled l is =
    let e = is ∙ ap (λ t. get_or t k nothing) filled ∙ set_at n r k l in
    record { n_is = ap (λ v. v.n) e; elements_are = ap (λ v. v.elements) e }

-- a set of a table of the first ones
pub of_part : (n r k : ℕ) (table : List Chosen) (s : Chosen) → table ≡ take (length table) (all_chosen n r)
    → k < length table → k < choose n r → s ≡ get_or table k nothing → IsSetAt n r k s
of_part n r k table s filled inside l is =
    of_table n r k (all_chosen n r) s refl l
    (is ∙ ap (λ t. get_or t k nothing) filled ∙ get_or-take (length table) (all_chosen n r) k nothing inside)

-- ---- bases

pub sign_is_value : (m : SignMap) (s : List ℕ) (k : ℕ) (sign : Sign) → IsSubsetFrom 1 m.elements s
    → rank_of m.elements s ≡ k → slice_get m.signs k ≡ Some sign → sign ≡ value_of m s
sign_is_value m s k sign list place at =
    sym (get_or_from_slice_get m.signs k sign Zero at)
    ∙ ap (λ j. get_or m.signs j Zero) (sym place)
    ∙ sym (value_in_order 1 m.elements (chi_of m) s list)

pub basis_of_sign : (m : SignMap) (s : List ℕ) (k : ℕ) (sign : Sign) → IsSubsetFrom 1 m.elements s → length s ≡ m.rank
    → rank_of m.elements s ≡ k → slice_get m.signs k ≡ Some sign → (sign ≡ Zero → ⊥) ↔ IsBasis m s
basis_of_sign m s k sign list size place at =
    let e = sign_is_value m s k sign list place at in
    (λ n. record { list = list; size = size; nonzero = λ z. n (e ∙ z) }, λ basis z. basis.nonzero (sym e ∙ z))

-- ---- the least element

-- the mask of a set that isn't empty, with the lowest bit and without it
pub record IsSplit (s : Chosen) (mask : ℕ) : Type 0 where
  pub some : 1 ≤ mask
  pub small : trailing_zeros w32 mask < s.n
  pub within : bit_and mask (mask - 1) < 2 ^ s.n
  pub elements_are : s.elements ≡ (trailing_zeros w32 mask + 1) ∷ members (bit_and mask (mask - 1)) 1 s.n

pub split : (s : Chosen) (mask : ℕ) → 1 ≤ length s.elements → IsSubsetFrom 1 s.n s.elements → s.n ≤ MAX_PLACES
    → mask ≡ mask_of 1 s.elements s.n → IsSplit s mask
split s mask many list few is =
    let within : mask < 2 ^ s.n = subst (λ k. k < 2 ^ s.n) (sym is) (mask_of-lt 1 s.n s.elements) in
    let back : members mask 1 s.n ≡ s.elements = ap (λ k. members k 1 s.n) is ∙ members-mask_of 1 s.n s.elements list in
    let some : 1 ≤ mask = nonzero (cases_eq mask 0) back in
    let t = turn mask s.n some within few in
    let small = t.small in
    let flip : 1 + trailing_zeros w32 mask ≡ trailing_zeros w32 mask + 1 = omega arith in
    record {
      some = some;
      small = omega arith;
      within = t.within;
      elements_are = sym back ∙ lowest mask s.n some within (bits_fit s.n few)
          ∙ ap (λ k. k ∷ members (bit_and mask (mask - 1)) 1 s.n) flip;
    }
  where
    nonzero : (mask ≡ 0) ⊎ (mask ≡ 0 → ⊥) → members mask 1 s.n ≡ s.elements → 1 ≤ mask
    nonzero (inl z) back =
        let none : length s.elements ≡ 0 = ap length (sym back ∙ ap (λ k. members k 1 s.n) z ∙ members-zero 1 s.n) in
        absurd (omega arith)
    nonzero (inr n) back = omega arith
