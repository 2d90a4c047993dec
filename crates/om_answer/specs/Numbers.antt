-- Numbers that follow one another on a line, each in its range.
--
-- Trusted: these definitions say what a claim is.
use Rattle.std.specs.Prelude.{ℕ, ℤ, pos, ◌<◌, ◌≤◌, ◌≤ℤ◌, ◌^◌, unsigned_abs, List, [], ◌∷◌, cond, nat_le, Option, Some}
use Rattle.std.specs.Prelude.{None, option_and_then, option_map}
use Rattle.om_answer.specs.declared.range.Range.{Range}
use Rattle.om_answer.specs.declared.range.Range.TheVariants.{Between, UpToSize}
use Rattle.om_document.specs.Heading.{with_item}
use Rattle.om_lines.specs.Words.{unsigned, signed}

-- a number, if it isn't below the least one
abbrev pub at_least : ℕ → ℕ → Option ℕ
at_least low n = cond (nat_le low n) (Some n) None

-- the number in a range that a word spells
abbrev pub number_within : Range → List ℕ → Option ℤ
number_within (Between low high) w = option_map pos (option_and_then (at_least low) (unsigned high w))
number_within (UpToSize size) w = signed size w

-- the numbers that the words of a line spell, if there are as many as ranges and each is in its own
abbrev pub numbers_within : List Range → List (List ℕ) → Option (List ℤ)
numbers_within [] [] = Some []
numbers_within (r ∷ rs) (w ∷ ws) = with_item (number_within r w) (numbers_within rs ws)
numbers_within _ _ = None

-- ---- what the reader requires of ranges and promises of numbers; no part of the definition of claims

-- a range whose absolute values the reader can hold
abbrev pub IsReadable : Range → Type 0
IsReadable (Between low high) = Unit {0}
IsReadable (UpToSize size) = size < 2 ^ 120

-- a number that is in a range
abbrev pub IsIn : Range → ℤ → Type 0
IsIn (Between low high) z = (pos low ≤ℤ z) × (z ≤ℤ pos high)
IsIn (UpToSize size) z = unsigned_abs z ≤ size

-- as many numbers as ranges, each in its own
abbrev pub AreIn : List Range → List ℤ → Type 0
AreIn [] [] = Unit {0}
AreIn (r ∷ rs) (z ∷ zs) = IsIn r z × AreIn rs zs
AreIn _ _ = ⊥
