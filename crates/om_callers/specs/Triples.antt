-- The first triple with a sign.
use Rattle.std.specs.Prelude.{ℕ, ◌≡◌, ◌<◌}
use Rattle.om_signs.specs.declared.sign.Sign.{Sign}
use Rattle.om_subsets.specs.Members.{Chosen}
use Rattle.om_subsets.specs.Subsets.{choose, rank_of, subset_at, IsTriple}
use Rattle.om_chirotope.specs.Map.{SignMap, chi_of}

-- the set at a place of the lexicographic order has this sign
abbrev pub HasSignAt : SignMap → Sign → ℕ → Type 0
HasSignAt m s k = chi_of m (subset_at m.elements m.rank k) ≡ s

-- no set before a place has this sign
abbrev pub HasNoneBefore : SignMap → Sign → ℕ → Type 0
HasNoneBefore m s end = (k : ℕ) → k < end → HasSignAt m s k → ⊥

-- no set has this sign
abbrev pub HasNoneWithSign : SignMap → Sign → Type 0
HasNoneWithSign m s = HasNoneBefore m s (choose m.elements m.rank)

-- this set is a triple of the elements and has this sign, and none before it has
pub record IsFirstWithSign (m : SignMap) (s : Sign) (t : Chosen) : Type 0 where
  pub n : t.n ≡ m.elements
  pub triple : IsTriple m.elements t.elements
  pub sign : chi_of m t.elements ≡ s
  pub first : HasNoneBefore m s (rank_of t.n t.elements)
