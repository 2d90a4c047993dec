-- The pairs of a map by numbers: each number stands for a set S and a block of the sets A in their order.
use Rattle.std.specs.Prelude.{ℕ, ◌+◌, ◌*◌, ◌/◌, ◌%◌, ◌<◌, ◌≤◌, [], length}
use Rattle.std.proofs.Math.ListN.{get_or}
use Rattle.om_signs.specs.SignVec.{IsOrthogonal}
use Rattle.om_subsets.specs.Subsets.{choose, subset_at}
use Rattle.om_chirotope.specs.declared.threaded_scan.TheConstants.{BLOCK}
use Rattle.om_chirotope.specs.Map.{SignMap, circuit_vector, cocircuit_vectors}

-- a place of a table that lies in a block
pub record IsInBlock (count block j : ℕ) : Type 0 where
  pub from : block * BLOCK ≤ j
  pub below : j < block * BLOCK + BLOCK
  pub within : j < count

-- the vector V of the set S of number k isn't orthogonal to the vector U at place j of its block
pub record IsViolatedAt (m : SignMap) (blocks k j : ℕ) : Type 0 where
  pub listed : k / blocks < choose m.elements (m.rank + 1)
  pub block : IsInBlock (length (cocircuit_vectors m)) (k % blocks) j
  pub violated : IsOrthogonal (circuit_vector m (subset_at m.elements (m.rank + 1) (k / blocks)))
      (get_or (cocircuit_vectors m) j []) → ⊥

-- number k has a violated pair
abbrev pub HasViolatedPair : SignMap → ℕ → ℕ → Type 0
HasViolatedPair m blocks k = (j : ℕ) × IsViolatedAt m blocks k j
