-- A list that words fill in order, and the colours of a word.
--
-- Main definitions: AreFilled, AreLetters
-- Main results: filled_none, filled_more, filled_all, letters_none, letters_more, colours_read, few_of, some_of
use Rattle.std.specs.Prelude.{ℕ, ◌≡◌, ◌<◌, ◌≤◌, ◌+◌, ◌-◌, ◌==◌, Bool, true, false, List, [], ◌∷◌, ◌++◌, length}
use Rattle.std.specs.Prelude.{replicate, Option, Some, is_some, refl}
use Rattle.std.specs.List.{list_all, filter_map}
use Rattle.std.proofs.Common.{get_or, take, set, zero, suc, arith, ap, sym, ◌∙◌, append_assoc, below_more}
use Rattle.std.proofs.lemmas.Bool.{false≢true, eqb-true, le-leb, and_from}
use Rattle.std.proofs.lemmas.List.{take_more, take_all, set_at, length_push}
use Rattle.std.proofs.lemmas.List.Elements.{filter_map-append}
use Rattle.om_oriented.specs.declared.colour.Colour.{Colour}
use Rattle.om_oriented.specs.declared.colour.Colour.TheVariants.{White}
use Rattle.om_words.specs.declared.limits.TheConstants.{MAX_LISTED}
use Rattle.om_words.specs.Listings.{padded}
use Rattle.om_words.specs.ListingSteps.{colour_of, colours_of}

-- ---- a list that is filled in order

-- the first k words or letters are in the list, and the filler is behind them
pub record AreFilled {X A : Type 0} (h : X → Option A) (filler : A) (xs : List X) (k : ℕ) (made : List A) : Type 0 where
  pub count : length (filter_map h (take k xs)) ≡ k
  pub list : made ≡ padded filler (filter_map h (take k xs))
  pub few : k ≤ MAX_LISTED

pub filled_none : {X A : Type 0} (h : X → Option A) (filler : A) (xs : List X)
    → AreFilled h filler xs 0 (replicate MAX_LISTED filler)
filled_none h filler xs = record { count = refl; list = refl; few = omega arith }

values_more : {X A : Type 0} (h : X → Option A) (xs : List X) (k : ℕ) (x d : X) (a : A) → k < length xs
    → get_or xs k d ≡ x → h x ≡ Some a → filter_map h (take (k + 1) xs) ≡ filter_map h (take k xs) ++ a ∷ []
values_more h xs k x d a l is value =
    rw (take_more xs k d l, filter_map-append h (take k xs) (get_or xs k d ∷ []), is, value) refl

padded_more : {A : Type 0} (filler : A) (values : List A) (k : ℕ) (a : A) → length values ≡ k → k < MAX_LISTED
    → set (padded filler values) k a ≡ padded filler (values ++ a ∷ [])
padded_more filler values k a count room =
    let rest : List _ = replicate (MAX_LISTED - (k + 1)) filler in
    let less : MAX_LISTED - length values ≡ suc (MAX_LISTED - (k + 1)) = omega (arith, count, room) in
    let same : MAX_LISTED - length (values ++ a ∷ []) ≡ MAX_LISTED - (k + 1) = let p = length_push values a in
    omega (arith, p, count) in
    rw (less, same) (set_at values filler rest a k count ∙ sym (append_assoc values (a ∷ []) rest))

pub filled_more : {X A : Type 0} (h : X → Option A) (filler : A) (xs : List X) (k : ℕ) (list : List A) (x d : X) (a : A)
    → AreFilled h filler xs k list → k < length xs → k < MAX_LISTED → get_or xs k d ≡ x → h x ≡ Some a
    → AreFilled h filler xs (k + 1) (set list k a)
filled_more h filler xs k list x d a filled l room is value =
    let more = values_more h xs k x d a l is value in
    record {
      count = let p = length_push (filter_map h (take k xs)) a in let q = filled.count in rw more (omega (arith, p, q));
      list = rw (more, filled.list) (padded_more filler (filter_map h (take k xs)) k a filled.count room);
      few = omega (arith, room);
    }

pub filled_all : {X A : Type 0} (h : X → Option A) (filler : A) (xs : List X) (k : ℕ) (list : List A)
    → AreFilled h filler xs k list → length xs ≤ k → list ≡ padded filler (filter_map h xs)
filled_all h filler xs k list filled l = filled.list ∙ ap (λ ys. padded filler (filter_map h ys)) (take_all k xs l)

-- ---- the colours of a word

-- what holds where a loop has passed the first k letters
pub record AreLetters (word : List ℕ) (k : ℕ) (colours : List Colour) : Type 0 where
  pub filled : AreFilled colour_of White word k colours
  pub letters : (j : ℕ) → j < k → is_some (colour_of (get_or word j 0)) ≡ true

pub letters_none : (word : List ℕ) → AreLetters word 0 (replicate MAX_LISTED White)
letters_none word = record { filled = filled_none colour_of White word; letters = λ j l. absurd (omega (arith, l)) }

pub letters_more : (word : List ℕ) (k b : ℕ) (colours : List Colour) (a : Colour) → AreLetters word k colours
    → k < length word → length word ≤ MAX_LISTED → get_or word k 0 ≡ b → colour_of b ≡ Some a
    → AreLetters word (k + 1) (set colours k a)
letters_more word k b colours a passed l few is value = record {
  filled = filled_more colour_of White word k colours b 0 a passed.filled l (omega (arith, l, few)) is value;
  letters = below_more (λ j. is_some (colour_of (get_or word j 0)) ≡ true) k passed.letters (rw (is, value) refl);
}

all_letters : (p : ℕ → Bool) (word : List ℕ) → ((j : ℕ) → j < length word → p (get_or word j 0) ≡ true)
    → list_all p word ≡ true
all_letters p [] each = refl
all_letters p (b ∷ bs) each =
    and_from (p b) (list_all p bs) (each 0 (omega arith)) (all_letters p bs (λ j l. each (suc j) (omega (arith, l))))

pub colours_read : (word : List ℕ) (k : ℕ) (colours : List Colour) → AreLetters word k colours → length word ≤ k
    → 1 ≤ length word → length word ≤ MAX_LISTED → Some colours ≡ colours_of word
colours_read word k colours passed l some few =
    let all : list_all (λ b. is_some (colour_of b)) word ≡ true =
    all_letters (λ b. is_some (colour_of b)) word (λ j h. passed.letters j (omega (arith, h, l))) in
    let list = filled_all colour_of White word k colours passed.filled l in
    rw (le-leb 1 (length word) some, le-leb (length word) MAX_LISTED few, all) (ap Some list)

-- ---- whether a list is empty

pub few_of : (n : ℕ) (r : Bool) → r ≡ (n == 0) → r ≡ true → n < 1
few_of n r is empty = let e : n ≡ 0 = eqb-true n 0 (sym is ∙ empty) in omega (arith, e)

pub some_of : (n : ℕ) (r : Bool) → r ≡ (n == 0) → r ≡ false → 0 < n
some_of zero r is some = absurd (false≢true (sym some ∙ is))
some_of (suc n) r is some = omega arith
