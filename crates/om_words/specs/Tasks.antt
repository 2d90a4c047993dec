-- What tasks read, and the limits of their arguments.
use Rattle.std.specs.Prelude.{ℕ, ◌<◌, ◌≤◌, ◌^◌, List, map, take}
use Rattle.om_signs.specs.declared.limits.TheConstants.{MIN_DRAWN, MAX_DRAWN, MAX_ELEMENTS, MAX_LINES}
use Rattle.om_budgets.specs.Ranges.{AreBudgets}
use Rattle.om_lexext.specs.declared.signed.Signed.{Signed}
use Rattle.om_lexext.specs.Lexicographic.{IsLexicographicList}
use Rattle.om_words.specs.declared.colouring.Colouring.{Colouring}
use Rattle.om_words.specs.declared.leading.Leading.{Leading}
use Rattle.om_words.specs.declared.limits.TheConstants.{MAX_LISTED}
use Rattle.om_words.specs.declared.reads.Reads.{Reads}
use Rattle.om_words.specs.declared.reads.Reads.TheVariants as kind
use Rattle.om_words.specs.declared.task.Task.{Task}
use Rattle.om_words.specs.declared.task.Task.TheVariants.{Delete, Contract, Reorient, Flip, Extend, Decide, Paint}
use Rattle.om_words.specs.declared.task.Task.TheVariants.{Lexext, Check, Make}

-- what a task reads
abbrev pub reads : Task → Reads
reads Check = kind.Claim
reads (Make seed count) = kind.Nothing
reads _ = kind.Document

-- a number that an element may have
abbrev pub IsElementNumber : ℕ → Type 0
IsElementNumber e = (1 ≤ e) × (e ≤ MAX_ELEMENTS)

-- three strictly increasing elements
pub record AreIncreasing (a b c : ℕ) : Type 0 where
  pub low : 1 ≤ a
  pub first : a < b
  pub second : b < c
  pub high : c ≤ MAX_ELEMENTS

-- a number of lines that a command may ask for
abbrev pub IsNumberOfLines : ℕ → Type 0
IsNumberOfLines first = (1 ≤ first) × (first ≤ MAX_LINES)

-- the element of the colouring is at least 1
abbrev pub HasElement : Colouring → Type 0
HasElement c = 1 ≤ c.e

-- the listed elements with signs
abbrev pub given_list : Leading → List Signed
given_list l = take l.count l.list

-- the elements of a list, without their signs
abbrev pub elements_of : List Signed → List ℕ
elements_of list = map (λ x. x.element) list

-- the list has at least one element and at most `MAX_LISTED`, the elements are distinct, and no sign is zero
pub record AreLawful (l : Leading) : Type 0 where
  pub few : l.count ≤ MAX_LISTED
  pub listed : IsLexicographicList MAX_ELEMENTS (given_list l)

-- a number of vectors that may be made
pub record IsCount (count : ℕ) : Type 0 where
  pub low : MIN_DRAWN ≤ count
  pub high : count ≤ MAX_DRAWN

-- the arguments of a task lie within the limits
abbrev pub HasLawfulArguments : Task → Type 0
HasLawfulArguments (Delete e) = IsElementNumber e
HasLawfulArguments (Contract e) = IsElementNumber e
HasLawfulArguments (Reorient mask) = mask < 2 ^ MAX_ELEMENTS
HasLawfulArguments (Flip a b c) = AreIncreasing a b c
HasLawfulArguments (Extend first) = IsNumberOfLines first
HasLawfulArguments (Paint colouring) = HasElement colouring
HasLawfulArguments (Lexext leading) = AreLawful leading
HasLawfulArguments (Decide b) = AreBudgets b
HasLawfulArguments (Make seed count) = IsCount count
HasLawfulArguments _ = Unit {0}
