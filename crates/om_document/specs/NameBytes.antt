-- How a name is stored: its bytes, followed by zeros, and its length. Not part of the definition of documents.
--
-- Main definitions: padded, IsPaddedName
-- Main results: padded_back, by which the bytes of a name give the stored ones back
use Rattle.std.specs.Prelude.{ℕ, ◌≡◌, ◌-◌, ◌≤◌, List, ◌++◌, true, length, take, replicate}
use Rattle.om_signs.specs.declared.limits.TheConstants.{MAX_NAME}
use Rattle.om_document.specs.Names.{is_name}

-- the bytes of a name, followed by zeros
abbrev pub padded : List ℕ → List ℕ
padded w = w ++ replicate (MAX_NAME - length w) 0

-- the first n of the bytes are a name, and the others are zero
pub record IsPaddedName (bytes : List ℕ) (n : ℕ) : Type 0 where
  pub within : n ≤ MAX_NAME
  pub count : length (take n bytes) ≡ n
  pub zeros : take n bytes ++ replicate (MAX_NAME - n) 0 ≡ bytes
  pub name : is_name (take n bytes) ≡ true

pub padded_back : (bytes : List ℕ) (n : ℕ) → IsPaddedName bytes n → take n bytes ++ replicate (MAX_NAME - n) 0 ≡ bytes
padded_back bytes n h = h.zeros

pub count_back : (bytes : List ℕ) (n : ℕ) → IsPaddedName bytes n → length (take n bytes) ≡ n
count_back bytes n h = h.count
