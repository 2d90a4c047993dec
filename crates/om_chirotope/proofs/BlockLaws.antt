-- What the numbers of sets S and blocks of sets A say of the pairs.
--
-- Main results: all_earlier, orthogonal_before; none_bad; blocks_cover, few_blocks, some_blocks,
-- blocks_fit and numbers_fit, for the number of blocks; pairs_fit and cost_fits, for the time of a number;
-- block_small and not_listed.
use Rattle.std.specs.Prelude.{ℕ, ◌≡◌, ◌+◌, ◌-◌, ◌*◌, ◌/◌, ◌%◌, ◌<◌, ◌≤◌, ◌⊎◌, ◌↔◌, List, [], length, refl}
use Rattle.std.specs.Prelude.{IfNone, IfSome, IsTrue}
use mir.Syntax.{w64}
use Rattle.std.proofs.Common.{sym, ap, subst, ◌∙◌, ⊎_elim, inl, inr, arith, get_or, min, Option, Some, None}
use Rattle.std.proofs.Common.{Fits, false}
use Rattle.std.specs.Option.{is_some}
use Rattle.std.proofs.lemmas.Bool.{cases_lt, false≢true}
use Rattle.std.proofs.lemmas.Nat.{mul-le, mod_below, div-add-mod', div-mul-add, mod-mul-add, mul-add-lt}
use Rattle.std.proofs.Math.Nat.{mul-div-le}
use Rattle.om_signs.specs.declared.sign.Sign.{Sign}
use Rattle.om_signs.specs.declared.sign.Sign.TheVariants.{Minus, Plus}
use Rattle.om_signs.specs.SignVec.{HasProduct, IsOrthogonal}
use Rattle.om_subsets.specs.Subsets.{choose, rank_of, subset_at, IsSubsetFrom}
use Rattle.om_subsets.specs.Members.{Chosen}
use Rattle.om_subsets.proofs.Order.{get_or-rank_from, rank_from-lt}
use Rattle.om_signs.proofs.Orthogonality.{has_or_not}
use Rattle.om_chirotope.specs.declared.threaded_scan.TheConstants.{BLOCK}
use Rattle.om_subsets.specs.declared.binomials.TheConstants.{MOST_SUBSETS}
use Rattle.om_chirotope.specs.Blocks.{HasViolatedPair, IsInBlock}
use Rattle.om_chirotope.specs.Chirotope.{HasOrthogonalPairs, IsFirstViolated}
use Rattle.om_chirotope.specs.Map.{SignMap, circuit_vector, cocircuit_vectors}
use Rattle.om_chirotope.proofs.Tables.{AllBelow, all_done, found, length-table, vector_of_place}

-- ---- whether two vectors are orthogonal is decided

-- two vectors are orthogonal, or they aren't
pub orthogonal_cases : (xs ys : List Sign) → IsOrthogonal xs ys ⊎ (IsOrthogonal xs ys → ⊥)
orthogonal_cases xs ys = go (has_or_not xs ys Plus (λ e. cc)) (has_or_not xs ys Minus (λ e. cc))
  where
    go : HasProduct xs ys Plus ⊎ (HasProduct xs ys Plus → ⊥) → HasProduct xs ys Minus ⊎ (HasProduct xs ys Minus → ⊥)
        → IsOrthogonal xs ys ⊎ (IsOrthogonal xs ys → ⊥)
    go (inl p) (inl q) = inl (λ h. q, λ h. p)
    go (inl p) (inr q) = inr (λ o. q (o.0 p))
    go (inr p) (inl q) = inr (λ o. p (o.1 q))
    go (inr p) (inr q) = inl (λ h. absurd (p h), λ h. absurd (q h))

-- ---- the number of a set and a block

place_in_block : (j : ℕ) → (j / BLOCK * BLOCK ≤ j) × (j < j / BLOCK * BLOCK + BLOCK)
place_in_block j = (omega arith, omega arith)

block_below : (j count blocks : ℕ) → j < count → count ≤ blocks * BLOCK → j / BLOCK < blocks
block_below j count blocks l le = omega (arith, l, le)

-- the number of a set before that of k is less than k
number_below : (t b blocks k : ℕ) → b < blocks → t < k / blocks → t * blocks + b < k
number_below t b blocks k l h =
    let a = mul-add-lt t blocks b (k / blocks) h l in
    let c = mul-div-le k blocks in
    omega (arith, a, c)

module _ (m : SignMap) (blocks k : ℕ) (some : 1 ≤ blocks) (whole : length (cocircuit_vectors m) ≤ blocks * BLOCK)
    (earlier : (j : ℕ) → j < k → HasViolatedPair m blocks j → ⊥) where
  -- a pair whose number is less is orthogonal
  pub orthogonal_earlier : (s j : ℕ) → s < choose m.elements (m.rank + 1) → j < length (cocircuit_vectors m)
      → s * blocks + j / BLOCK < k
      → IsOrthogonal (circuit_vector m (subset_at m.elements (m.rank + 1) s)) (get_or (cocircuit_vectors m) j [])
  orthogonal_earlier s j sl jl less = ⊎_elim (λ o. o) (λ n. absurd (earlier (s * blocks + j / BLOCK) less (
    j,
    record {
      listed = subst (λ i. i < choose m.elements (m.rank + 1)) (sym quotient) sl;
      block = subst (λ b. IsInBlock (length (cocircuit_vectors m)) b j) (sym rest)
          (record { from = (place_in_block j).0; below = (place_in_block j).1; within = jl });
      violated =
          λ o. n (subst
          (λ i. IsOrthogonal (circuit_vector m (subset_at m.elements (m.rank + 1) i))
          (get_or (cocircuit_vectors m) j [])) quotient o);
    },
  ))) (orthogonal_cases (circuit_vector m (subset_at m.elements (m.rank + 1) s)) (get_or (cocircuit_vectors m) j []))
    where
      quotient : (s * blocks + j / BLOCK) / blocks ≡ s
      quotient = div-mul-add s blocks (j / BLOCK) (block_below j (length (cocircuit_vectors m)) blocks jl whole)

      rest : (s * blocks + j / BLOCK) % blocks ≡ j / BLOCK
      rest = mod-mul-add s blocks (j / BLOCK) (block_below j (length (cocircuit_vectors m)) blocks jl whole)

  pub all_earlier : AllBelow m (k / blocks)
  all_earlier t b p l =
      let listed_t : rank_of m.elements t < choose m.elements (m.rank + 1) =
      subst (λ i. rank_of m.elements t < choose m.elements i) p.s_size (rank_from-lt 1 m.elements t p.s_list) in
      let back : subset_at m.elements (m.rank + 1) (rank_of m.elements t) ≡ t =
      subst (λ i. subset_at m.elements i (rank_of m.elements t) ≡ t) p.s_size
      (get_or-rank_from 1 m.elements t p.s_list) in
      let v = vector_of_place m b p.a_list p.a_size in
      let few = v.0 in
      let size = length-table m in
      let jl : rank_of m.elements b < length (cocircuit_vectors m) = omega (arith, few, size) in
      let bl = block_below (rank_of m.elements b) (length (cocircuit_vectors m)) blocks jl whole in
      subst (λ u. IsOrthogonal (circuit_vector m t) u) v.1
      (subst (λ x. IsOrthogonal (circuit_vector m x) (get_or (cocircuit_vectors m) (rank_of m.elements b) [])) back
      (orthogonal_earlier (rank_of m.elements t) (rank_of m.elements b) listed_t jl
      (number_below (rank_of m.elements t) (rank_of m.elements b / BLOCK) blocks k bl l)))

  -- and so are those of the set of k with each place before one in the block of k
  pub orthogonal_before : (place : ℕ) → k / blocks < choose m.elements (m.rank + 1)
      → IsInBlock (length (cocircuit_vectors m)) (k % blocks) place
      → ((j : ℕ) → IsInBlock (length (cocircuit_vectors m)) (k % blocks) j → j < place
      → IsOrthogonal (circuit_vector m (subset_at m.elements (m.rank + 1) (k / blocks)))
      (get_or (cocircuit_vectors m) j []))
      → (j : ℕ) → j < place → IsOrthogonal (circuit_vector m (subset_at m.elements (m.rank + 1) (k / blocks)))
      (get_or (cocircuit_vectors m) j [])
  orthogonal_before place listed here same j l =
      let below = here.below in
      let within = here.within in
      let jl : j < length (cocircuit_vectors m) = omega (arith, l, within) in
      elim (cases_lt (j / BLOCK) (k % blocks)) [
        | inl lt ↦ let parts = div-add-mod' k blocks in
            orthogonal_earlier (k / blocks) j listed jl (omega (arith, lt, parts))
        | inr ge ↦ same j (record { from = omega (arith, ge); below = omega (arith, l, below); within = jl }) l
      ]

pub none_bad : (m : SignMap) (blocks sets : ℕ) → sets ≡ choose m.elements (m.rank + 1) → 1 ≤ blocks
    → length (cocircuit_vectors m) ≤ blocks * BLOCK → ((j : ℕ) → j < sets * blocks → HasViolatedPair m blocks j → ⊥)
    → HasOrthogonalPairs m
none_bad m blocks sets e some whole earlier =
    all_done m sets (omega (arith, e))
    (subst (AllBelow m) quotient (all_earlier m blocks (sets * blocks) some whole earlier))
  where
    quotient : sets * blocks / blocks ≡ sets
    quotient = let back : sets * blocks ≡ sets * blocks + 0 = omega arith in ap (λ i. i / blocks) back
        ∙ div-mul-add sets blocks 0 some

-- ---- the first in a block

block_end : (block count end j : ℕ) → end ≡ min (block * BLOCK + BLOCK) count → IsInBlock count block j → j < end
block_end block count end j e h = let a = h.below in let b = h.within in grind (arith, e, a, b)

in_block : (block count end k : ℕ) → end ≡ min (block * BLOCK + BLOCK) count → block * BLOCK ≤ k → k < end
    → IsInBlock count block k
in_block block count end k e from l =
    record { from = from; below = (grind (arith, e, l)); within = (grind (arith, e, l)) }

pub block_none : (Orth : ℕ → Type 0) (block count end : ℕ) (r : Option ℕ) → end ≡ min (block * BLOCK + BLOCK) count
    → IfNone r ((k : ℕ) → block * BLOCK ≤ k → k < end → Orth k) → IfNone r ((j : ℕ) → IsInBlock count block j → Orth j)
block_none Orth block count end None e h = λ j b. h j b.from (block_end block count end j e b)
block_none Orth block count end (Some k) e h = tt

pub block_within : (block count end : ℕ) (r : Option ℕ) → end ≡ min (block * BLOCK + BLOCK) count
    → IfSome r (λ k. block * BLOCK ≤ k) → IfSome r (λ k. k < end) → IfSome r (λ k. IsInBlock count block k)
block_within block count end None e low high = tt
block_within block count end (Some k) e low high = in_block block count end k e low high

pub block_before : (Orth : ℕ → Type 0) (block count : ℕ) (r : Option ℕ)
    → IfSome r (λ k. (j : ℕ) → block * BLOCK ≤ j → j < k → Orth j)
    → IfSome r (λ k. (j : ℕ) → IsInBlock count block j → j < k → Orth j)
block_before Orth block count None h = tt
block_before Orth block count (Some k) h = λ j b l. h j b.from l

pub not_none : (m : SignMap) (blocks k : ℕ) (table : List (List Sign)) (s : List ℕ) → table ≡ cocircuit_vectors m
    → s ≡ subset_at m.elements (m.rank + 1) (k / blocks) → HasViolatedPair m blocks k
    → ((j : ℕ) → IsInBlock (length table) (k % blocks) j → IsOrthogonal (circuit_vector m s) (get_or table j [])) → ⊥
not_none m blocks k table s et es (j, h) none =
    h.violated
    (subst (λ t. IsOrthogonal (circuit_vector m t) (get_or (cocircuit_vectors m) j [])) es
    (subst (λ t. IsOrthogonal (circuit_vector m s) (get_or t j [])) et
    (none j (subst (λ t. IsInBlock (length t) (k % blocks) j) (sym et) h.block))))

pub bad_of_block : (m : SignMap) (blocks k : ℕ) (s : List ℕ) (table : List (List Sign)) (r : Option ℕ)
    → k / blocks < choose m.elements (m.rank + 1) → s ≡ subset_at m.elements (m.rank + 1) (k / blocks)
    → table ≡ cocircuit_vectors m
    → IfNone r ((j : ℕ) → IsInBlock (length table) (k % blocks) j
    → IsOrthogonal (circuit_vector m s) (get_or table j []))
    → IfSome r (λ j. IsInBlock (length table) (k % blocks) j)
    → IfSome r (λ j. IsOrthogonal (circuit_vector m s) (get_or table j []) → ⊥)
    → IsTrue (is_some r) ↔ HasViolatedPair m blocks k
bad_of_block m blocks k s table None listed es et none within here =
    (λ t. absurd (false≢true t), λ h. absurd (not_none m blocks k table s et es h none))
bad_of_block m blocks k s table (Some j) listed es et none within here = (
  λ t. (
    j,
    record {
      listed = listed;
      block = subst (λ t. IsInBlock (length t) (k % blocks) j) et within;
      violated =
          λ o. here
          (subst (λ t. IsOrthogonal (circuit_vector m s) (get_or t j [])) (sym et)
          (subst (λ t. IsOrthogonal (circuit_vector m t) (get_or (cocircuit_vectors m) j [])) (sym es) o));
    },
  ),
  λ h. refl,
)

pub found_in_block : (m : SignMap) (blocks k place : ℕ) (s a : Chosen) (table : List (List Sign)) → 1 ≤ m.rank
    → 1 ≤ blocks → length table ≤ blocks * BLOCK → table ≡ cocircuit_vectors m
    → ((j : ℕ) → j < k → HasViolatedPair m blocks j → ⊥) → k / blocks < choose m.elements (m.rank + 1)
    → s.n ≡ m.elements → s.elements ≡ subset_at m.elements (m.rank + 1) (k / blocks)
    → IsSubsetFrom 1 m.elements s.elements → length s.elements ≡ m.rank + 1
    → rank_of m.elements s.elements ≡ k / blocks
    → a.n ≡ m.elements → IsSubsetFrom 1 m.elements a.elements → length a.elements ≡ m.rank - 1
    → rank_of m.elements a.elements ≡ place
    → IsInBlock (length table) (k % blocks) place
    → (IsOrthogonal (circuit_vector m s.elements) (get_or table place []) → ⊥)
    → ((j : ℕ) → IsInBlock (length table) (k % blocks) j → j < place
    → IsOrthogonal (circuit_vector m s.elements) (get_or table j []))
    → IsFirstViolated m s a
found_in_block m blocks k place s a table low some whole et earlier listed sn es hs ls rs an ha la ra within here
    before =
    found m s a (k / blocks) place (circuit_vector m s.elements) table sn an
    (record { s_list = hs; s_size = ls; a_list = ha; a_size = omega (arith, la, low) }) rs ra refl et here
    (λ j l. to j
    (orthogonal_before m blocks k some whole' earlier place listed
    (subst (λ t. IsInBlock (length t) (k % blocks) place) et within) same j l))
    (all_earlier m blocks k some whole' earlier)
  where
    whole' : length (cocircuit_vectors m) ≤ blocks * BLOCK
    whole' = subst (λ t. length t ≤ blocks * BLOCK) et whole

    to : (j : ℕ) → IsOrthogonal (circuit_vector m (subset_at m.elements (m.rank + 1) (k / blocks)))
        (get_or (cocircuit_vectors m) j []) → IsOrthogonal (circuit_vector m s.elements) (get_or table j [])
    to j o = subst (λ t. IsOrthogonal (circuit_vector m s.elements) (get_or t j [])) (sym et)
        (subst (λ t. IsOrthogonal (circuit_vector m t) (get_or (cocircuit_vectors m) j [])) (sym es) o)

    same : (j : ℕ) → IsInBlock (length (cocircuit_vectors m)) (k % blocks) j → j < place
        → IsOrthogonal (circuit_vector m (subset_at m.elements (m.rank + 1) (k / blocks)))
        (get_or (cocircuit_vectors m) j [])
    same j b l = subst (λ t. IsOrthogonal (circuit_vector m t) (get_or (cocircuit_vectors m) j [])) es
        (subst (λ t. IsOrthogonal (circuit_vector m s.elements) (get_or t j [])) et
        (before j (subst (λ t. IsInBlock (length t) (k % blocks) j) (sym et) b) l))

-- ---- the number of blocks

-- the blocks have room for all vectors
pub blocks_cover : (n : ℕ) → n ≤ (n / BLOCK + 1) * BLOCK
blocks_cover n = omega arith

-- there is a block
pub some_blocks : (n : ℕ) → 1 ≤ n / BLOCK + 1
some_blocks n = omega arith

-- there are at most as many blocks as sets
pub few_blocks : (n : ℕ) → n ≤ MOST_SUBSETS → n / BLOCK + 1 ≤ MOST_SUBSETS
few_blocks n h = omega arith

-- the number of blocks fits
pub blocks_fit : (n : ℕ) → n ≤ MOST_SUBSETS → Fits w64 (n / BLOCK + 1)
blocks_fit n h = omega arith

-- the numbers of sets and blocks fit
pub numbers_fit : (sets n : ℕ) → sets ≤ MOST_SUBSETS → n ≤ MOST_SUBSETS → Fits w64 (sets * (n / BLOCK + 1))
numbers_fit sets n hs hn =
    let b = few_blocks n hn in
    let p = mul-le sets (n / BLOCK + 1) MOST_SUBSETS MOST_SUBSETS hs b in
    omega (arith, p)

-- the time for the pairs of a block fits
pub pairs_fit : (n r : ℕ) → r ≡ min n BLOCK → Fits w64 (r * 3)
pairs_fit n r e = omega arith

-- and so does the time for a number
pub cost_fits : (n r : ℕ) → r ≡ min n BLOCK → Fits w64 (300 + r * 3)
cost_fits n r e = omega arith

-- each number is at least 0
pub from_zero : (j : ℕ) → 0 ≤ j
from_zero j = omega arith

-- the number of a block is small
pub block_small : (k blocks : ℕ) → 1 ≤ blocks → blocks ≤ MOST_SUBSETS → k % blocks ≤ MOST_SUBSETS
block_small k blocks some most = let h = mod_below k blocks some in omega (arith, h, most)

-- a number beyond all sets isn't bad
pub not_listed : (m : SignMap) (blocks k : ℕ) → choose m.elements (m.rank + 1) ≤ k / blocks
    → IsTrue false ↔ HasViolatedPair m blocks k
not_listed m blocks k over = (
  λ e. absurd (false≢true e),
  λ h. let l = h.1.listed in absurd (omega (arith, l, over)),
)
