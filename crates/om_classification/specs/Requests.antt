-- What the words after the program's name ask.
use Rattle.std.specs.Prelude.{ℕ, ◌≡◌, List, [], ◌∷◌, codes}
use Rattle.om_levels.specs.declared.family.Family.{Family}
use Rattle.om_levels.specs.declared.family.Family.TheVariants.{Simple, Uniform}
use Rattle.om_chain.specs.declared.asked.Asked.{Asked}
use Rattle.om_chain.specs.declared.asked.Asked.TheVariants.{Complete, Exact}
use Rattle.om_classification.specs.declared.request.Request.{Request}
use Rattle.om_classification.specs.declared.request.Request.TheVariants.{Lists, Least}

-- the word of a family
abbrev pub family_word : Family → List ℕ
family_word Simple = codes "all"
family_word Uniform = codes "uniform"

-- the words behind it: none, if each list is to be exact
abbrev pub asking_words : Asked → List (List ℕ)
asking_words Exact = []
asking_words Complete = codes "--complete" ∷ []

-- the word for least maps
abbrev pub least_word : List ℕ
least_word = codes "least"

-- the words that ask this
abbrev pub request_words : Request → List (List ℕ)
request_words (Lists r) = family_word r.family ∷ asking_words r.asked
request_words Least = least_word ∷ []

-- the words ask this
abbrev pub Names : List (List ℕ) → Request → Type 0
Names words r = words ≡ request_words r

-- the words ask something
abbrev pub IsRequest : List (List ℕ) → Type 0
IsRequest words = (r : Request) × Names words r
