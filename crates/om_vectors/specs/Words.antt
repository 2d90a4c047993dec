-- A list of vectors that is stored in a table of fixed size.
--
-- Main results: length-used, whole_table, by which the list gives its table back.
use Rattle.std.specs.Prelude.{ℕ, ◌≡◌, ◌+◌, ◌-◌, ◌<◌, ◌≤◌, List, ◌++◌, length, replicate, take, drop}
use Rattle.std.proofs.Common.{◌∙◌, ap, sym, arith, get_or}
use Rattle.std.proofs.lemmas.List.{length-take-le, take-append-drop, length-drop, length-replicate, ext_get_or}
use Rattle.std.proofs.lemmas.List.{get_or-drop, get_or-replicate}
use Rattle.om_signs.specs.declared.limits.TheConstants.{MAX_ELEMENTS}
use Rattle.om_vectors.specs.WholeVectors.{WholeVector, zero_vector}

-- as many zero vectors as there are free places after n vectors
abbrev pub free_places : ℕ → List WholeVector
free_places n = replicate (MAX_ELEMENTS - n) zero_vector

-- the table has all its places, and those after the first n hold the zero vector
pub record IsWordTable (table : List WholeVector) (n : ℕ) : Type 0 where
  pub few : n ≤ MAX_ELEMENTS
  pub whole : length table ≡ MAX_ELEMENTS
  pub free : (k : ℕ) → n ≤ k → get_or table k zero_vector ≡ zero_vector

pub length-used : (table : List WholeVector) (n : ℕ) → IsWordTable table n → length (take n table) ≡ n
length-used table n h =
    let w = h.whole in
    let f = h.few in
    length-take-le n table (omega arith)

pub whole_table : (table : List WholeVector) (n : ℕ) → IsWordTable table n → take n table ++ free_places n ≡ table
whole_table table n h = ap (λ xs. take n table ++ xs) (sym rest) ∙ take-append-drop n table
  where
    size : length (drop n table) ≡ MAX_ELEMENTS - n
    size = length-drop n table ∙ ap (λ k. k - n) h.whole

    rest : drop n table ≡ free_places n
    rest = ext_get_or zero_vector (drop n table) (free_places n)
        (size ∙ sym (length-replicate (MAX_ELEMENTS - n) zero_vector)) (λ i l.
        let few : i < MAX_ELEMENTS - n = let s = size in omega arith in
        get_or-drop n table i zero_vector ∙ h.free (n + i) (omega arith)
        ∙ sym (get_or-replicate (MAX_ELEMENTS - n) i zero_vector zero_vector few))
