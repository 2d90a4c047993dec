-- When memory is the only cause that is left.
--
-- Main results: memory_is_cause and memory_within_limit, of a list that isn't too long; memory_is_width_cause and
-- memory_with_few_values, of a chirotope that isn't too wide
use Rattle.std.specs.Prelude.{ℕ, ◌≡◌, List, refl}
use Rattle.om_signs.specs.declared.sign.Sign.{Sign}
use Rattle.om_convert.specs.declared.convert_error.ConvertError.{ConvertError}
use Rattle.om_convert.specs.declared.convert_error.ConvertError.TheVariants.{TooWide, TooMany, Memory}
use Rattle.om_convert.specs.Limits.{IsCause, IsWidthCause, IsWithinLimit, HasFewValuesFor}

-- the members of a family aren't listed for want of memory, if there aren't too many: for `memory_alone`
pub memory_is_cause : (P : List Sign → Type 0) (e : ConvertError) → IsCause P e
    → ((limit : ℕ) → e ≡ TooMany limit → ⊥) → e ≡ Memory
memory_is_cause P (TooWide values) cause few = absurd cause
memory_is_cause P (TooMany limit) cause few = absurd (few limit refl)
memory_is_cause P Memory cause few = refl

-- a list isn't converted to a chirotope for want of memory, if the chirotope isn't too wide: for `memory_alone`
pub memory_is_width_cause : (n : ℕ) (P : List Sign → Type 0) (e : ConvertError) → IsWidthCause n P e
    → ((values : ℕ) → e ≡ TooWide values → ⊥) → e ≡ Memory
memory_is_width_cause n P (TooWide values) cause narrow = absurd (narrow values refl)
memory_is_width_cause n P (TooMany limit) cause narrow = absurd cause
memory_is_width_cause n P Memory cause narrow = refl

-- the members of a family that is within the limit aren't listed for want of memory: for `memory_alone`
pub memory_within_limit : (P : List Sign → Type 0) (e : ConvertError) → IsCause P e → IsWithinLimit P → e ≡ Memory
memory_within_limit P (TooWide values) cause few = absurd cause
memory_within_limit P (TooMany limit) cause few = absurd (few cause.1)
memory_within_limit P Memory cause few = refl

-- a list whose chirotope has few values isn't converted to it for want of memory: for `memory_alone`
pub memory_with_few_values : (n : ℕ) (P : List Sign → Type 0) (e : ConvertError) → IsWidthCause n P e
    → HasFewValuesFor n P → e ≡ Memory
memory_with_few_values n P (TooWide values) cause few = absurd (few values cause)
memory_with_few_values n P (TooMany limit) cause few = absurd cause
memory_with_few_values n P Memory cause few = refl
