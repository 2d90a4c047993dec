-- Numbers, options `--name=K`, and the commands that have them.
use Rattle.std.specs.Prelude.{ℕ, ◌≡◌, ◌∷◌, List, [], Bool, cond, not, nat_eq, nat_le, ◌&&◌, codes, length, drop, Option}
use Rattle.std.specs.Prelude.{Some, None, is_some, unwrap_or}
use Rattle.std.specs.List.{list_any, starts_with}
use Rattle.om_signs.specs.declared.limits.TheConstants.{MIN_DRAWN, MAX_DRAWN, MAX_LINES, MAX_BOX, MAX_STEPS, MAX_PIVOTS}
use Rattle.om_lines.specs.Words.{unsigned}
use Rattle.om_budgets.specs.declared.budgets.Budgets.{Budgets}
use Rattle.om_words.specs.declared.setting.Setting.{Setting}
use Rattle.om_words.specs.declared.setting.Setting.TheVariants.{First, BoxSize, Steps, Pivots, Count}
use Rattle.om_words.specs.Fits.{EachFits}

-- the number, if it isn't below the least
abbrev pub from_least : ℕ → Option ℕ → Option ℕ
from_least least None = None
from_least least (Some n) = cond (nat_le least n) (Some n) None

-- the number in this range that the word spells: decimal digits without a leading zero, except for `0` itself
abbrev pub number_within : ℕ → ℕ → List ℕ → Option ℕ
number_within least greatest word = from_least least (unsigned greatest word)

-- the text of an option before its number
abbrev pub option_text : Setting → List ℕ
option_text First = codes "--first="
option_text BoxSize = codes "--box="
option_text Steps = codes "--steps="
option_text Pivots = codes "--pivots="
option_text Count = codes "--count="

abbrev pub least_number : Setting → ℕ
least_number First = 1
least_number BoxSize = 1
least_number Steps = 1
least_number Pivots = 1
least_number Count = MIN_DRAWN

abbrev pub greatest_number : Setting → ℕ
greatest_number First = MAX_LINES
greatest_number BoxSize = MAX_BOX
greatest_number Steps = MAX_STEPS
greatest_number Pivots = MAX_PIVOTS
greatest_number Count = MAX_DRAWN

-- the number of a setting if no word gives one
abbrev pub default_number : Setting → ℕ
default_number First = 100000
default_number BoxSize = 6
default_number Steps = 2000000
default_number Pivots = 20000
default_number Count = MAX_DRAWN

-- the number that a word gives to a setting
abbrev pub given_number : Setting → List ℕ → Option ℕ
given_number s word =
    cond (starts_with nat_eq word (option_text s))
    (number_within (least_number s) (greatest_number s) (drop (length (option_text s)) word)) None

-- whether some word gives a number to the setting
abbrev pub is_given : Setting → List (List ℕ) → Bool
is_given s words = list_any (λ word. is_some (given_number s word)) words

-- whether the word gives a number to one of the settings, and no word before gives one to this setting
abbrev pub is_option : List Setting → List (List ℕ) → List ℕ → Bool
is_option settings before word = list_any (λ s. is_some (given_number s word) && not (is_given s before)) settings

-- the words are options of these settings, in any order and each at most once
abbrev pub AreOptions : List Setting → List (List ℕ) → Unit {0} → Type 0
AreOptions settings words _ = EachFits (is_option settings) words

-- the number of a setting after these words: the one that the first word for this setting gives, or else its
-- default
abbrev pub number_of : List (List ℕ) → Setting → ℕ
number_of [] s = default_number s
number_of (word ∷ words) s = unwrap_or (given_number s word) (number_of words s)

-- the words are options of these settings, and the value is the one that they determine
abbrev pub AreSet : {A : Type 0} → List Setting → (List (List ℕ) → A) → List (List ℕ) → A → Type 0
AreSet settings amount words a = AreOptions settings words tt × (a ≡ amount words)

-- `extend`: the greatest number of lines of the listing
abbrev pub AreLines : List (List ℕ) → ℕ → Type 0
AreLines words first = AreSet (First ∷ []) (λ ws. number_of ws First) words first

-- the budgets that the options determine
abbrev pub budgets_of : List (List ℕ) → Budgets
budgets_of words =
    record { box_size = number_of words BoxSize; steps = number_of words Steps; pivots = number_of words Pivots }

-- `decide`: the budgets
abbrev pub AreBudgets : List (List ℕ) → Budgets → Type 0
AreBudgets words budgets = AreSet (BoxSize ∷ Steps ∷ Pivots ∷ []) budgets_of words budgets

-- `make`: a number, and options for the number of vectors
abbrev pub AreSeedAndCount : List (List ℕ) → (ℕ × ℕ) → Type 0
AreSeedAndCount words made = (word : List ℕ)
    × ((options : List (List ℕ))
    × ((words ≡ word ∷ options) × (number_within 0 4294967295 word ≡ Some made.0)
    × AreSet (Count ∷ []) (λ ws. number_of ws Count) options made.1))
