-- The table of a word after a vector was added, and while vectors are cut off.
--
-- Main definitions: IsCutTo, IsBack
-- Main results: pushed, table_back, both
use Rattle.std.proofs.Common.{ℕ, ◌≡◌, ◌+◌, ◌<◌, ◌≤◌, List, length, take, set, get_or, Bool, ◌&&◌, ◌∙◌, ◌++◌, ap, sym}
use Rattle.std.proofs.Common.{arith}
use Rattle.std.proofs.lemmas.List.{length-set, get_or-set_other}
use Rattle.om_signs.specs.declared.limits.TheConstants.{MAX_ELEMENTS}
use Rattle.om_vectors.specs.WholeVectors.{WholeVector, zero_vector}
use Rattle.om_vectors.specs.Words.{free_places, IsWordTable, length-used, whole_table}

pub pushed : (table : List WholeVector) (n : ℕ) (v : WholeVector) → n < MAX_ELEMENTS → IsWordTable table n
    → IsWordTable (set table n v) (n + 1)
pushed table n v l h = record {
  few = omega arith;
  whole = length-set table n v ∙ h.whole;
  free = λ k le. get_or-set_other table n k v zero_vector (omega arith) ∙ h.free k (omega arith);
}

-- a table whose places from len on and before i have the zero vector, and whose others are as they were
pub record IsCutTo (old new : List WholeVector) (len i : ℕ) : Type 0 where
  pub size : length new ≡ length old
  pub kept : take len new ≡ take len old
  pub cleared : (k : ℕ) → len ≤ k → k < i → get_or new k zero_vector ≡ zero_vector
  pub later : (k : ℕ) → i ≤ k → get_or new k zero_vector ≡ get_or old k zero_vector

-- the table and the length, back from the list
pub record IsBack (table : List WholeVector) (n : ℕ) (vs : List WholeVector) : Type 0 where
  pub table_is : vs ++ free_places (length vs) ≡ table
  pub len_is : length vs ≡ n

pub table_back : (table : List WholeVector) (n : ℕ) (vs : List WholeVector) → IsWordTable table n → take n table ≡ vs
    → IsBack table n vs
table_back table n vs h e =
    let size : length vs ≡ n = ap length (sym e) ∙ length-used table n h in
    record {
      table_is = rw (size, ← e) (whole_table table n h);
      len_is = size;
    }

-- two tests, the second of which is made first
pub both : (r e p l : Bool) → e ≡ l → r ≡ (e && p) → r ≡ (p && l)
both r e p l h g = grind arith
