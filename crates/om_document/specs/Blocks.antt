-- Blocks: words `i-j`.
--
-- Trusted: these definitions say what a document is.
use Rattle.std.specs.Prelude.{ℕ, List, Bool, cond, nat_eq, nat_le, length, map, Option, Some, None, is_some, unwrap_or}
use Rattle.std.specs.List.{list_all, before_first, after_first}
use Rattle.om_signs.specs.declared.block.Block.{Block}
use Rattle.om_signs.specs.declared.limits.TheConstants.{MAX_POSITION_DIGITS}
use Rattle.om_lines.specs.Words.{plain}

-- the position that a word spells: a plain number of at most MAX_POSITION_DIGITS digits
abbrev pub position_of : List ℕ → Option ℕ
position_of w = cond (nat_le (length w) MAX_POSITION_DIGITS) (plain w) None

-- `-`
abbrev pub is_dash : ℕ → Bool
is_dash b = nat_eq b 45

-- the block of two positions, if both are there
abbrev pub with_positions : Option ℕ → Option ℕ → Option Block
with_positions (Some i) (Some j) = Some (record { first = i; last = j })
with_positions _ _ = None

-- the block that a word spells: two positions with a `-` between them
abbrev pub block_of : List ℕ → Option Block
block_of w = with_positions (position_of (before_first is_dash w)) (position_of (after_first is_dash w))

-- the block of a word that spells one
abbrev pub block_on : List ℕ → Block
block_on w = unwrap_or (block_of w) (record { first = 0; last = 0 })

-- whether each word of a line is a block
abbrev pub are_blocks : List (List ℕ) → Bool
are_blocks w = list_all (λ v. is_some (block_of v)) w

-- the blocks of a line whose words are blocks
abbrev pub blocks_on : List (List ℕ) → List Block
blocks_on w = map block_on w
