-- Options, each at most once: what they are read as, and the number of a setting, which is within its limits.
--
-- Main definitions: ArePassed, IsWithin
-- Main results: unset, unset_most, unset_falls, passed_none, passed_more, options_fault, options_read, number_found,
-- number_more, number_limits, number_of_within
use Rattle.std.specs.Prelude.{ℕ, ◌≡◌, ◌<◌, ◌≤◌, ◌+◌, Bool, true, false, cond, not, nat_eq, nat_le, ◌&&◌, ◌||◌, List, []}
use Rattle.std.specs.Prelude.{◌∷◌, ◌++◌, length, Option, Some, None, is_some, unwrap_or, Ok, Err, refl}
use Rattle.std.specs.List.{starts_with}
use Rattle.std.proofs.Common.{get_or, take, drop, suc, arith, subst, sym, append-nil, below_more, lit≤}
use Rattle.std.proofs.lemmas.Bool.{false≢true, leb-true}
use Rattle.std.proofs.lemmas.List.{take_more, drop_more}
use Rattle.std.proofs.lemmas.List.Folds.{list_any-append}
use Rattle.std.proofs.lemmas.Option.{same_Some}
use Rattle.om_lines.specs.Words.{is_decimal, number_from, up_to}
use Rattle.om_lines.specs.Lines.{Begins}
use Rattle.om_words.specs.declared.setting.Setting.{Setting}
use Rattle.om_words.specs.declared.setting.Setting.TheVariants.{First, BoxSize, Steps, Pivots, Count}
use Rattle.om_words.specs.Words.{HasValue}
use Rattle.om_words.specs.Readings.{EachFits, IsReadBehind}
use Rattle.om_words.specs.Options.{from_least, option_text, least_number, greatest_number, given_number, is_given}
use Rattle.om_words.specs.Options.{is_option, AreOptions, number_of, default_number, number_within}
use Rattle.om_words.proofs.ArgumentLaws.{no_value}
use Rattle.om_words.proofs.FitLaws.{FitBelow, fits_all, none_fits, first_unfit}

-- ---- the settings that have no number

-- how many of the settings get none from the words
pub unset : List (List ℕ) → List Setting → ℕ
unset words [] = 0
unset words (s ∷ settings) = cond (is_given s words) 0 1 + unset words settings

pub unset_most : (words : List (List ℕ)) (settings : List Setting) → unset words settings ≤ length settings
unfolding unset
unset_most words [] = omega arith
unset_most words (s ∷ settings) = let i = unset_most words settings in one (is_given s words) i
  where
    one : (g : Bool) → unset words settings ≤ length settings
        → cond g 0 1 + unset words settings ≤ suc (length settings)
    one true i = omega (arith, i)
    one false i = omega (arith, i)

unset_less : (before : List (List ℕ)) (word : List ℕ) (settings : List Setting)
    → unset (before ++ word ∷ []) settings ≤ unset before settings
unfolding unset
unset_less before word [] = omega arith
unset_less before word (s ∷ settings) =
    rw (list_any-append (λ w. is_some (given_number s w)) before (word ∷ []))
    (let i = unset_less before word settings in one (is_given s before) (is_some (given_number s word) || false) i)
  where
    one : (g h : Bool) → unset (before ++ word ∷ []) settings ≤ unset before settings
        → cond (g || h) 0 1 + unset (before ++ word ∷ []) settings ≤ cond g 0 1 + unset before settings
    one true h i = omega (arith, i)
    one false true i = omega (arith, i)
    one false false i = omega (arith, i)

pub unset_falls : (before : List (List ℕ)) (word : List ℕ) (settings : List Setting)
    → is_option settings before word ≡ true → unset (before ++ word ∷ []) settings + 1 ≤ unset before settings
unfolding unset
unset_falls before word [] option = absurd (false≢true option)
unset_falls before word (s ∷ settings) option =
    rw (list_any-append (λ w. is_some (given_number s w)) before (word ∷ []))
    (one (is_given s before) (is_some (given_number s word)) (unset_less before word settings)
    (unset_falls before word settings) option)
  where
    one : (g h : Bool) → unset (before ++ word ∷ []) settings ≤ unset before settings
        → (is_option settings before word ≡ true → unset (before ++ word ∷ []) settings + 1 ≤ unset before settings)
        → ((h && not g) || is_option settings before word) ≡ true
        → cond (g || (h || false)) 0 1 + unset (before ++ word ∷ []) settings + 1 ≤ cond g 0 1 + unset before settings
    one true true less rest o = let r = rest o in omega (arith, r)
    one true false less rest o = let r = rest o in omega (arith, r)
    one false true less rest o = omega (arith, less)
    one false false less rest o = let r = rest o in omega (arith, r)

-- what holds where a loop has passed the first k words
pub record ArePassed (settings : List Setting) (words : List (List ℕ)) (k : ℕ) : Type 0 where
  pub few : k + unset (take k words) settings ≤ length settings
  pub fit : FitBelow (is_option settings) words k

pub passed_none : (settings : List Setting) (words : List (List ℕ)) → ArePassed settings words 0
passed_none settings words =
    record { few = let u = unset_most [] settings in omega (arith, u); fit = λ i l. absurd (omega (arith, l)) }

pub passed_more : (settings : List Setting) (words : List (List ℕ)) (k : ℕ) (word : List ℕ) → ArePassed settings words k
    → k < length words → get_or words k [] ≡ word → is_option settings (take k words) word ≡ true
    → ArePassed settings words (k + 1)
passed_more settings words k word passed l is option =
    let here : is_option settings (take k words) (get_or words k []) ≡ true = rw is option in
    let falls = unset_falls (take k words) (get_or words k []) settings here in
    let few = passed.few in
    record {
      few = rw (take_more words k [] l) (omega (arith, falls, few));
      fit = below_more (λ i. is_option settings (take i words) (get_or words i []) ≡ true) k passed.fit here;
    }

-- ---- what options are read as

has_fits : (settings : List Setting) (ws : List (List ℕ)) → HasValue (AreOptions settings) ws
    → EachFits (is_option settings) ws
has_fits settings ws h = h.1

fits_begin : (settings : List Setting) (ws : List (List ℕ)) → EachFits (is_option settings) ws
    → Begins (HasValue (AreOptions settings)) ws
fits_begin settings ws each = ([], (tt, subst (EachFits (is_option settings)) (sym (append-nil ws)) each))

pub options_fault : (passed : ℕ) (settings : List Setting) (words : List (List ℕ)) (k : ℕ) (word : List ℕ)
    → ArePassed settings words k → k < length words → get_or words k [] ≡ word
    → is_option settings (take k words) word ≡ false
    → IsReadBehind passed (AreOptions settings) words (Err (record { word = passed + k + 1 }))
options_fault passed settings words k word before l is unfit =
    let here : is_option settings (take k words) (get_or words k []) ≡ false = rw is unfit in
    record {
      value = λ a. (
        λ made. absurd (no_value _ a made),
        λ all. absurd (none_fits (is_option settings) words k l here all),
      );
      fault = (
        k + 1,
        (
          omega arith,
          first_unfit (HasValue (AreOptions settings)) (is_option settings) (has_fits settings)
              (fits_begin settings) words k l before.fit here,
        ),
      );
    }

pub options_read : (passed : ℕ) (settings : List Setting) (words : List (List ℕ)) (k : ℕ) → ArePassed settings words k
    → length words ≤ k → IsReadBehind passed (AreOptions settings) words (Ok tt)
options_read passed settings words k all l =
    record { value = λ a. (λ made. fits_all (is_option settings) words k l all.fit, λ each. refl); fault = tt }

-- ---- the number of a setting

pub number_found : (words : List (List ℕ)) (i n : ℕ) (s : Setting) (word : List ℕ) → i < length words
    → get_or words i [] ≡ word → given_number s word ≡ Some n → number_of (drop i words) s ≡ n
number_found words i n s word l is given = rw (drop_more words i [] l, is, given) refl

pub number_more : (words : List (List ℕ)) (i : ℕ) (s : Setting) (word : List ℕ) → i < length words
    → get_or words i [] ≡ word → given_number s word ≡ None
    → number_of (drop i words) s ≡ number_of (drop (i + 1) words) s
number_more words i s word l is none = rw (drop_more words i [] l, is, none) refl

-- a number is within the limits of its setting
pub record IsWithin (s : Setting) (n : ℕ) : Type 0 where
  pub low : least_number s ≤ n
  pub high : n ≤ greatest_number s

default_within : (s : Setting) → IsWithin s (default_number s)
default_within First = record { low = lit≤ tt; high = lit≤ tt }
default_within BoxSize = record { low = lit≤ tt; high = lit≤ tt }
default_within Steps = record { low = lit≤ tt; high = lit≤ tt }
default_within Pivots = record { low = lit≤ tt; high = lit≤ tt }
default_within Count = record { low = lit≤ tt; high = lit≤ tt }

pub number_limits : (least greatest n : ℕ) (word : List ℕ) → number_within least greatest word ≡ Some n → (least ≤ n)
    × (n ≤ greatest)
number_limits least greatest n word is = by_decimal (is_decimal word) is
  where
    by_limit : (b : Bool) → nat_le (number_from 0 word) greatest ≡ b
        → from_least least (cond b (Some (number_from 0 word)) None) ≡ Some n → (least ≤ n) × (n ≤ greatest)
    by_limit false high is = cc
    by_limit true high is = by_least (nat_le least (number_from 0 word)) refl is
        (leb-true (number_from 0 word) greatest high)
      where
        by_least : (b : Bool) → nat_le least (number_from 0 word) ≡ b → cond b (Some (number_from 0 word)) None ≡ Some n
            → number_from 0 word ≤ greatest → (least ≤ n) × (n ≤ greatest)
        by_least false low is l = cc
        by_least true low is l =
            let one : number_from 0 word ≡ n = same_Some _ _ is in
            let p = leb-true least (number_from 0 word) low in (omega (arith, one, p), omega (arith, one, l))

    by_decimal : (b : Bool) → from_least least (cond b (up_to greatest (number_from 0 word)) None) ≡ Some n
        → (least ≤ n) × (n ≤ greatest)
    by_decimal false is = cc
    by_decimal true is = by_limit (nat_le (number_from 0 word) greatest) refl is

given_within : (s : Setting) (word : List ℕ) (n : ℕ) → given_number s word ≡ Some n → IsWithin s n
given_within s word n is = by_text (starts_with nat_eq word (option_text s)) is
  where
    by_text : (b : Bool)
        → cond b (number_within (least_number s) (greatest_number s) (drop (length (option_text s)) word)) None ≡ Some n
        → IsWithin s n
    by_text false is = cc
    by_text true is = let l =
        number_limits (least_number s) (greatest_number s) n (drop (length (option_text s)) word) is in
        record { low = l.0; high = l.1 }

pub number_of_within : (words : List (List ℕ)) (s : Setting) → IsWithin s (number_of words s)
number_of_within [] s = default_within s
number_of_within (word ∷ words) s = one (given_number s word) (given_within s word) (number_of_within words s)
  where
    one : (o : Option ℕ) → ((n : ℕ) → o ≡ Some n → IsWithin s n) → IsWithin s (number_of words s)
        → IsWithin s (unwrap_or o (number_of words s))
    one None given rest = rest
    one (Some n) given rest = given n refl
