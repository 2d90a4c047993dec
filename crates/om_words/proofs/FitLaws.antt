-- Lists of words in which those before a word say whether it may stand there.
--
-- Main results: words that fit (fits_taken, fits_all); a word that doesn't (unfit_at), and that it is the one at fault
-- (first_unfit); items of a list as words (item_word); a test of some word (any_found, any_none).
use Rattle.std.specs.Prelude.{ℕ, ◌≡◌, ◌<◌, ◌≤◌, ◌+◌, Bool, true, false, List, [], ◌∷◌, ◌++◌, length, map, refl}
use Rattle.std.specs.List.{list_any}
use Rattle.std.proofs.Common.{get_or, take, drop, arith, ap, subst, sym, ◌∙◌, append_assoc, length-append}
use Rattle.std.proofs.lemmas.Bool.{both_ways}
use Rattle.std.proofs.lemmas.List.{length-take-le, take-take, get_or-take, take_at, get_or_at, take-append-drop}
use Rattle.std.proofs.lemmas.List.{drop_more, get_or_default, get_or-map}
use Rattle.std.proofs.lemmas.List.Folds.{list_any_at, list_any_none}
use Rattle.om_lines.specs.Lines.{Begins}
use Rattle.om_words.specs.Words.{IsFault, at_word}
use Rattle.om_words.specs.Readings.{EachFits}

-- the first words fit
abbrev pub FitBelow : (List (List ℕ) → List ℕ → Bool) → List (List ℕ) → ℕ → Type 0
FitBelow fits words k = (i : ℕ) → i < k → fits (take i words) (get_or words i []) ≡ true

pub fits_taken : (fits : List (List ℕ) → List ℕ → Bool) (words : List (List ℕ)) (k : ℕ) → k ≤ length words
    → FitBelow fits words k → EachFits fits (take k words)
fits_taken fits words k l each = λ i h.
    let size : length (take k words) ≡ k = length-take-le k words l in
    let low : i < k = omega (arith, size, h) in
    let under : i ≤ k = omega (arith, low) in
    rw (take-take i k words under, get_or-take k words i [] low) (each i low)

pub fits_all : (fits : List (List ℕ) → List ℕ → Bool) (words : List (List ℕ)) (k : ℕ) → length words ≤ k
    → FitBelow fits words k → EachFits fits words
fits_all fits words k l each = λ i h. each i (omega (arith, h, l))

pub unfit_at : (fits : List (List ℕ) → List ℕ → Bool) (before : List (List ℕ)) (word : List ℕ) (after : List (List ℕ))
    → EachFits fits (before ++ word ∷ after) → fits before word ≡ true
unfit_at fits before word after each =
    let size : length (before ++ word ∷ after) ≡ length before + length (word ∷ after) =
    length-append before (word ∷ after) in
    let h : fits (take (length before) (before ++ word ∷ after)) (get_or (before ++ word ∷ after) (length before) [])
    ≡ true = each (length before) (omega (arith, size)) in
    rw (take_at before (word ∷ after) (length before) refl, get_or_at before word after [] (length before) refl) at h

pub around : (words : List (List ℕ)) (k : ℕ) (d : List ℕ) → k < length words
    → take k words ++ get_or words k d ∷ drop (k + 1) words ≡ words
around words k d l = ap (λ u. take k words ++ u) (sym (drop_more words k d l)) ∙ take-append-drop k words

pub none_fits : (fits : List (List ℕ) → List ℕ → Bool) (words : List (List ℕ)) (k : ℕ) → k < length words
    → fits (take k words) (get_or words k []) ≡ false → EachFits fits words → ⊥
none_fits fits words k l unfit each = both_ways (fits (take k words) (get_or words k [])) unfit (each k l)

pub first_unfit : (Language : List (List ℕ) → Type 0) (fits : List (List ℕ) → List ℕ → Bool)
    → ((ws : List (List ℕ)) → Language ws → EachFits fits ws)
    → ((ws : List (List ℕ)) → EachFits fits ws → Begins Language ws) → (words : List (List ℕ)) (k : ℕ)
    → k < length words → FitBelow fits words k → fits (take k words) (get_or words k []) ≡ false
    → IsFault Language words (k + 1)
first_unfit Language fits each begins words k l before unfit =
    let word : List ℕ = get_or words k [] in
    let size : length (take k words) ≡ k = length-take-le k words (omega (arith, l)) in
    let fault : IsFault Language (take k words ++ word ∷ drop (k + 1) words) (length (take k words) + 1) =
    at_word (take k words) word (drop (k + 1) words)
    (begins (take k words) (fits_taken fits words k (omega (arith, l)) before))
    (λ b. both_ways (fits (take k words) word) unfit
    (unfit_at fits (take k words) word b.0
    (subst (EachFits fits) (append_assoc (take k words) (word ∷ []) b.0)
    (each (take k words ++ word ∷ [] ++ b.0) b.1)))) in
    subst (λ ws. IsFault Language ws (k + 1)) (around words k [] l)
    (subst (λ j. IsFault Language (take k words ++ word ∷ drop (k + 1) words) (j + 1)) size fault)

-- an item of a list, as a word of the list of words
pub item_word : {X : Type 0} (f : X → List ℕ) (xs : List X) (k : ℕ) (x : X) (d : List ℕ) → k < length xs
    → x ≡ get_or xs k x → get_or (map f xs) k d ≡ f x
item_word f xs k x d l is = get_or-map f xs k x d l ∙ ap f (sym is)

-- ---- tests of words

pub any_found : (test : List ℕ → Bool) (words : List (List ℕ)) (k : ℕ) (word : List ℕ) → k < length words
    → get_or words k [] ≡ word → test word ≡ true → list_any test words ≡ true
any_found test words k word l is holds = list_any_at test words k [] l (ap test is ∙ holds)

pub any_none : (test : List ℕ → Bool) (words : List (List ℕ)) (k : ℕ) → length words ≤ k
    → ((i : ℕ) → i < k → test (get_or words i []) ≡ false) → list_any test words ≡ false
any_none test words k l none =
    list_any_none test words (λ i d h. let low : i < k = omega (arith, h, l) in ap test (get_or_default words i d [] h)
    ∙ none i low)
