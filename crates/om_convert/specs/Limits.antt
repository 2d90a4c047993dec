-- Why a list isn't converted to a chirotope, and why the members of a family aren't listed.
use Rattle.std.specs.Prelude.{ℕ, ◌≡◌, ◌<◌, List}
use Rattle.om_signs.specs.declared.sign.Sign.{Sign}
use Rattle.om_signs.specs.declared.sign.Sign.TheVariants.{Plus}
use Rattle.om_signs.specs.declared.limits.TheConstants.{MAX_MEMBERS, MAX_VALUES}
use Rattle.om_subsets.specs.Subsets.{choose}
use Rattle.om_chirotope.specs.Map.{SignMap, IsLedBy}
use Rattle.om_chirotope.specs.Chirotope.{IsChirotope}
use Rattle.om_denotation.specs.Covectors.{IsCovectorOfChirotope}
use Rattle.om_denotation.specs.Denotation.{DenoteTheSame}
use Rattle.om_denotation.specs.Listings.{HasMoreThan}
use Rattle.om_convert.specs.declared.convert_error.ConvertError.{ConvertError}
use Rattle.om_convert.specs.declared.convert_error.ConvertError.TheVariants.{TooWide, TooMany, Memory}

-- the family has at most as many members as a list may have
abbrev pub IsWithinLimit : (List Sign → Type 0) → Type 0
IsWithinLimit P = HasMoreThan MAX_MEMBERS P → ⊥

-- a chirotope on n elements with these covectors, whose first nonzero sign is plus and which has `values` values,
-- more than MAX_VALUES
pub record IsTooWideFor (n : ℕ) (P : List Sign → Type 0) (values : ℕ) : Type 0 where
  pub map : SignMap
  pub axioms : IsChirotope map
  pub elements : map.elements ≡ n
  pub same : DenoteTheSame n P (IsCovectorOfChirotope map)
  pub normal : IsLedBy Plus map.signs
  pub number : values ≡ choose n map.rank
  pub wide : MAX_VALUES < values

-- the chirotope has at most MAX_VALUES values
abbrev pub HasFewValuesFor : ℕ → (List Sign → Type 0) → Type 0
HasFewValuesFor n P = (values : ℕ) → IsTooWideFor n P values → ⊥

-- Why the members of a family aren't listed. There are more than a list may have, and the error gives this limit;
-- or memory ran out.
abbrev pub IsCause : (List Sign → Type 0) → ConvertError → Type 0
IsCause P (TooWide values) = ⊥
IsCause P (TooMany limit) = (limit ≡ MAX_MEMBERS) × HasMoreThan MAX_MEMBERS P
IsCause P Memory = Unit {0}

-- the error gives this number of values, which is more than MAX_VALUES
abbrev pub IsWidth : ℕ → ConvertError → Type 0
IsWidth k (TooWide values) = (values ≡ k) × (MAX_VALUES < k)
IsWidth k (TooMany limit) = ⊥
IsWidth k Memory = ⊥

-- Why a list isn't converted to a chirotope. The chirotope would have more than MAX_VALUES values, and the error
-- gives their number; or it wouldn't, and memory ran out.
abbrev pub IsWidthCause : ℕ → (List Sign → Type 0) → ConvertError → Type 0
IsWidthCause n P (TooWide values) = IsTooWideFor n P values
IsWidthCause n P (TooMany limit) = ⊥
IsWidthCause n P Memory = HasFewValuesFor n P

-- Why a list with the covectors P isn't converted to the list of the family Q. Its chirotope is too wide; or it
-- isn't, and Q has more members than a list may have, or memory ran out.
abbrev pub IsListCause : ℕ → (List Sign → Type 0) → (List Sign → Type 0) → ConvertError → Type 0
IsListCause n P Q (TooWide values) = IsTooWideFor n P values
IsListCause n P Q (TooMany limit) = (limit ≡ MAX_MEMBERS) × HasMoreThan MAX_MEMBERS Q × HasFewValuesFor n P
IsListCause n P Q Memory = HasFewValuesFor n P
