-- Numbers of a line that are read one by one.
--
-- Main definitions: continued
-- Main results: no_word, other_number, next_number, all_numbers; no_plain, next_plain, all_plain
use Rattle.std.proofs.Common.{◌≡◌, ℕ, suc, ◌+◌, ◌<◌, ◌≤◌, List, true, false, not, [], ◌∷◌, ◌++◌, length, refl, ap, drop}
use Rattle.std.proofs.Common.{take, take-suc, take_all, get_or, append_assoc, append-nil, drop-cons, arith}
use Rattle.std.specs.Prelude.{ℤ, Option, Some, None}
use Rattle.std.proofs.lemmas.List.{drop_all}
use Rattle.om_lines.specs.Lines.{has_any}
use Rattle.om_lines.specs.Words.{plain}
use Rattle.om_document.specs.Heading.{with_item, plain_numbers}
use Rattle.om_answer.specs.declared.range.Range.{Range}
use Rattle.om_answer.specs.declared.range.Range.TheVariants.{Between}
use Rattle.om_answer.specs.Numbers.{number_within, numbers_within, IsIn, AreIn}

-- any range
abbrev pub least : Range
least = Between 0 0

-- what numbers and those behind them come to
abbrev pub continued : {A : Type 0} → List A → Option (List A) → Option (List A)
continued xs None = None
continued xs (Some ys) = Some (xs ++ ys)

-- where no word is left, or the next one spells no number of its range
pub no_word : (rs : List Range) (i : ℕ) (ws : List (List ℕ)) (xs : List ℤ) → i < length rs → ws ≡ []
    → continued xs (numbers_within (drop i rs) ws) ≡ None
no_word rs i ws xs lt e = rw (drop-cons rs i least lt, e) refl

pub other_number : (rs : List Range) (i : ℕ) (vs ws : List (List ℕ)) (w : List ℕ) (xs : List ℤ) → i < length rs
    → vs ≡ w ∷ ws → number_within (get_or rs i least) w ≡ None → continued xs (numbers_within (drop i rs) vs) ≡ None
other_number rs i vs ws w xs lt e h = rw (drop-cons rs i least lt, e, h) refl

-- where it does
pub next_number : (rs : List Range) (i : ℕ) (vs ws : List (List ℕ)) (w : List ℕ) (xs : List ℤ) (z : ℤ) → i < length rs
    → vs ≡ w ∷ ws → number_within (get_or rs i least) w ≡ Some z
    → continued (xs ++ z ∷ []) (numbers_within (drop (i + 1) rs) ws) ≡ continued xs (numbers_within (drop i rs) vs)
next_number rs i vs ws w xs z lt e h =
    let n : i + 1 ≡ suc i = omega arith in
    rw (n, drop-cons rs i least lt, e, h) (joined (numbers_within (drop (suc i) rs) ws))
  where
    joined : (o : Option (List ℤ)) → continued (xs ++ z ∷ []) o ≡ continued xs (with_item (Some z) o)
    joined None = refl
    joined (Some ys) = ap (λ x. Some x) (append_assoc xs (z ∷ []) ys)

-- where all ranges have their numbers, and no word is left, or some word is
pub all_numbers : (rs : List Range) (i : ℕ) (ws : List (List ℕ)) (xs : List ℤ) → length rs ≤ i → true ≡ not (has_any ws)
    → continued xs (numbers_within (drop i rs) ws) ≡ Some xs
all_numbers rs i [] xs le h = rw (drop_all i rs le) (ap (λ x. Some x) (append-nil xs))
all_numbers rs i (w ∷ ws) xs le h = cc

pub more_words : (rs : List Range) (i : ℕ) (ws : List (List ℕ)) (xs : List ℤ) → length rs ≤ i → false ≡ not (has_any ws)
    → continued xs (numbers_within (drop i rs) ws) ≡ None
more_words rs i [] xs le h = cc
more_words rs i (w ∷ ws) xs le h = rw (drop_all i rs le) refl

-- one more number in its range
pub in_more : (rs : List Range) (i : ℕ) (zs : List ℤ) (z : ℤ) → i < length rs → AreIn (take i rs) zs
    → IsIn (get_or rs i least) z → AreIn (take (i + 1) rs) (zs ++ z ∷ [])
in_more rs i zs z lt h k =
    let n : i + 1 ≡ suc i = omega arith in
    rw (n, take-suc rs i least lt) (append (take i rs) zs h)
  where
    append : (rs' : List Range) (zs : List ℤ) → AreIn rs' zs → AreIn (rs' ++ get_or rs i least ∷ []) (zs ++ z ∷ [])
    append [] [] h = (k, tt)
    append [] (z ∷ zs) h = absurd h
    append (r ∷ rs') [] h = absurd h
    append (r ∷ rs') (z ∷ zs) h = (h.0, append rs' zs h.1)

pub in_all : (rs : List Range) (i : ℕ) (zs : List ℤ) → length rs ≤ i → AreIn (take i rs) zs → AreIn rs zs
in_all rs i zs le h = let e = take_all i rs le in rw e at h

-- numbers that words spell: where the next word spells none, where it spells one, and where no word is left
pub no_plain : (vs ws : List (List ℕ)) (w : List ℕ) (xs : List ℕ) → vs ≡ w ∷ ws → plain w ≡ None
    → continued xs (plain_numbers vs) ≡ None
no_plain vs ws w xs e h = rw (e, h) refl

pub next_plain : (vs ws : List (List ℕ)) (w : List ℕ) (xs ys : List ℕ) (n : ℕ) → vs ≡ w ∷ ws → plain w ≡ Some n
    → ys ≡ xs ++ n ∷ [] → continued ys (plain_numbers ws) ≡ continued xs (plain_numbers vs)
next_plain vs ws w xs ys n e h y = rw (e, h, y) (joined (plain_numbers ws))
  where
    joined : (o : Option (List ℕ)) → continued (xs ++ n ∷ []) o ≡ continued xs (with_item (Some n) o)
    joined None = refl
    joined (Some zs) = ap (λ x. Some x) (append_assoc xs (n ∷ []) zs)

pub all_plain : (vs : List (List ℕ)) (xs : List ℕ) → vs ≡ [] → continued xs (plain_numbers vs) ≡ Some xs
all_plain vs xs e = rw e (ap (λ x. Some x) (append-nil xs))
