-- What the words after the program's name mean: a task, or the word at fault.
use Rattle.std.specs.Prelude.{ℕ, ◌≡◌, ◌≤◌, ◌+◌, List, [], ◌∷◌, ◌++◌, codes, length, map, true, IfErr, ◌↔◌, Result, Ok}
use Rattle.std.specs.Fmt.{decimal}
use Rattle.std.specs.List.{list_all}
use Rattle.om_signs.specs.declared.limits.TheConstants.{MAX_ELEMENTS}
use Rattle.om_signs.specs.declared.sign.Sign.{Sign}
use Rattle.om_subsets.specs.Subsets.{IsSubsetFrom}
use Rattle.om_subsets.specs.Members.{mask_of}
use Rattle.om_lines.specs.Words.{is_sign, sign_of_byte}
use Rattle.om_lines.specs.Lines.{Begins}
use Rattle.om_document.specs.declared.kinds.Kind.{Kind}
use Rattle.om_document.specs.declared.kinds.Kind.TheVariants as kind
use Rattle.om_words.specs.Options.{AreBudgets, AreSeedAndCount, AreLines}
use Rattle.om_words.specs.declared.task.Task.{Task}
use Rattle.om_words.specs.declared.task.Task.TheVariants.{Accept, Member, Convert, Dual, Delete, Contract, Reorient}
use Rattle.om_words.specs.declared.task.Task.TheVariants.{Wiring, Mutations, Flip, Extend, Decide, Paint, Hull, Lexext}
use Rattle.om_words.specs.declared.task.Task.TheVariants.{Threeterm, Upgrade, Check, Make}
use Rattle.om_printing.specs.declared.usage.Usage.{Usage}
use Rattle.om_words.specs.declared.verb.Verb.{Verb}
use Rattle.om_words.specs.declared.verb.Verb.TheVariants as verb
use Rattle.om_words.specs.Listings.{AreColouring, AreLeading}
use Rattle.om_words.specs.Triples.{AreTriple}
pub use Rattle.om_words.specs.Elements.{IsElement}

-- the word spells the sign vector: a byte `+`, `-` or `0` for each element, within the limit on elements
pub record Spells (word : List ℕ) (x : List Sign) : Type 0 where
  pub some : 1 ≤ length word
  pub few : length word ≤ MAX_ELEMENTS
  pub signs : list_all is_sign word ≡ true
  pub value : x ≡ map sign_of_byte word

-- the word of a kind
abbrev pub kind_word : Kind → List ℕ
kind_word kind.Chirotope = codes "chirotope"
kind_word kind.Circuits = codes "circuits"
kind_word kind.Cocircuits = codes "cocircuits"
kind_word kind.Covectors = codes "covectors"

-- the word names the kind
abbrev pub NamesKind : List ℕ → Kind → Type 0
NamesKind word k = word ≡ kind_word k

-- the words are the numbers of at least one element, strictly increasing, and the mask is the set of these elements
pub record AreElements (words : List (List ℕ)) (mask : ℕ) : Type 0 where
  pub elements : List ℕ
  pub some : 1 ≤ length elements
  pub increasing : IsSubsetFrom 1 MAX_ELEMENTS elements
  pub digits : words ≡ map decimal elements
  pub value : mask ≡ mask_of 1 elements MAX_ELEMENTS

-- there is no word
abbrev pub AreNone : List (List ℕ) → Unit {0} → Type 0
AreNone words _ = words ≡ []

-- there is no word, and the other task is this one
abbrev pub IsBare : Task → List (List ℕ) → Task → Type 0
IsBare task words other = (words ≡ []) × (other ≡ task)

-- there is exactly one word, and it spells the value
abbrev pub IsAlone : {A : Type 0} → (List ℕ → A → Type 0) → List (List ℕ) → A → Type 0
IsAlone Spelling words a = (word : List ℕ) × ((words ≡ word ∷ []) × Spelling word a)

-- the first word of a task's command
abbrev pub verb_of : Task → Verb
verb_of Accept = verb.Accept
verb_of (Member x) = verb.Member
verb_of (Convert k) = verb.Convert
verb_of Dual = verb.Dual
verb_of (Delete e) = verb.Delete
verb_of (Contract e) = verb.Contract
verb_of (Reorient mask) = verb.Reorient
verb_of Wiring = verb.Wiring
verb_of Mutations = verb.Mutations
verb_of (Flip a b c) = verb.Flip
verb_of (Extend first) = verb.Extend
verb_of (Paint colouring) = verb.Paint
verb_of Hull = verb.Hull
verb_of (Lexext leading) = verb.Lexext
verb_of Threeterm = verb.Threeterm
verb_of Upgrade = verb.Upgrade
verb_of (Decide b) = verb.Decide
verb_of Check = verb.Check
verb_of (Make seed count) = verb.Make

abbrev pub verb_word : Verb → List ℕ
verb_word verb.Accept = codes "accept"
verb_word verb.Member = codes "member"
verb_word verb.Convert = codes "convert"
verb_word verb.Dual = codes "dual"
verb_word verb.Delete = codes "delete"
verb_word verb.Contract = codes "contract"
verb_word verb.Reorient = codes "reorient"
verb_word verb.Wiring = codes "wiring"
verb_word verb.Mutations = codes "mutations"
verb_word verb.Flip = codes "flip"
verb_word verb.Extend = codes "extend"
verb_word verb.Paint = codes "paint"
verb_word verb.Hull = codes "hull"
verb_word verb.Lexext = codes "lexext"
verb_word verb.Threeterm = codes "threeterm"
verb_word verb.Upgrade = codes "upgrade"
verb_word verb.Decide = codes "decide"
verb_word verb.Check = codes "check"
verb_word verb.Make = codes "make"

-- the words after the first one are those of the task
abbrev pub AreArguments : Task → List (List ℕ) → Type 0
AreArguments Accept words = AreNone words tt
AreArguments (Member x) words = IsAlone Spells words x
AreArguments (Convert k) words = IsAlone NamesKind words k
AreArguments Dual words = AreNone words tt
AreArguments (Delete e) words = IsAlone IsElement words e
AreArguments (Contract e) words = IsAlone IsElement words e
AreArguments (Reorient mask) words = AreElements words mask
AreArguments Wiring words = AreNone words tt
AreArguments Mutations words = AreNone words tt
AreArguments (Flip a b c) words = AreTriple words (a, b, c)
AreArguments (Extend first) words = AreLines words first
AreArguments (Paint colouring) words = AreColouring words colouring
AreArguments Hull words = AreNone words tt
AreArguments (Lexext leading) words = AreLeading words leading
AreArguments Threeterm words = AreNone words tt
AreArguments Upgrade words = AreNone words tt
AreArguments (Decide b) words = AreBudgets words b
AreArguments Check words = AreNone words tt
AreArguments (Make seed count) words = AreSeedAndCount words (seed, count)

-- the words name the task
pub record Names (words : List (List ℕ)) (task : Task) : Type 0 where
  pub arguments : List (List ℕ)
  pub first : words ≡ verb_word (verb_of task) ∷ arguments
  pub behind : AreArguments task arguments

-- the words are a command
abbrev pub AreCommand : List (List ℕ) → Type 0
AreCommand words = (task : Task) × Names words task

-- In a language of lists of words, word K, counted from 1, is at fault: some list begins with the words before it,
-- and none with these words and it. If some list begins with all words together, but they are no list of the
-- language, K is one more than their number.
pub data IsFault (Language : List (List ℕ) → Type 0) : List (List ℕ) → ℕ → Type 0 where
  at_word : (before : List (List ℕ)) (word : List ℕ) (after : List (List ℕ)) → Begins Language before
      → (Begins Language (before ++ word ∷ []) → ⊥) → IsFault Language (before ++ word ∷ after) (length before + 1)
  at_end : (words : List (List ℕ)) → Begins Language words → (Language words → ⊥)
      → IsFault Language words (length words + 1)

-- word K is at fault, and the words aren't a command
abbrev pub IsUsage : List (List ℕ) → ℕ → Type 0
IsUsage words k = IsFault AreCommand words k

-- the lists of words that have some value
abbrev pub HasValue : {A : Type 0} → (List (List ℕ) → A → Type 0) → List (List ℕ) → Type 0
HasValue {A} Reading words = (a : A) × Reading words a

-- A call reads the words after the first one of a command. It returns their value exactly if they have one, and
-- else the word at fault, counted from the first word of the command.
pub record IsRead {A : Type 0} (Reading : List (List ℕ) → A → Type 0) (words : List (List ℕ))
    (result : Result A Usage) : Type 0 where
  pub value : (a : A) → (result ≡ Ok a) ↔ Reading words a
  pub fault : IfErr result (λ usage. (k : ℕ) × ((usage.word ≡ k + 1) × IsFault (HasValue Reading) words k))

-- the task that a verb and the words after it name, or the word at fault
pub record AreNamed (v : Verb) (words : List (List ℕ)) (result : Result Task Usage) : Type 0 where
  pub task : (task : Task) → (result ≡ Ok task) ↔ Names (verb_word v ∷ words) task
  pub usage : IfErr result (λ usage. IsUsage (verb_word v ∷ words) usage.word)
