-- Words with blanks between them, as text, and their lines.
--
-- Main definitions: is_word_byte, is_word, is_word_line, single
-- Main results: words_one, words_two, words_three, words_spaced, wordful-cons, wordful_spaced, spaced_one_lines,
-- signs_are_word
use Rattle.std.proofs.Common.{◌≡◌, ℕ, List, [], ◌∷◌, ◌++◌, Bool, true, false, cond, not, ◌&&◌, map, refl, sym, ap, ◌∙◌}
use Rattle.std.proofs.Common.{append-nil, inl, inr, nat_eq}
use Rattle.std.specs.Prelude.{filter}
use Rattle.std.specs.List.{list_all}
use Rattle.std.proofs.lemmas.Bool.{eqb-true, cases_Bool, and_parts, not-true}
use Rattle.std.proofs.lemmas.List.Folds.{list_all-append}
use Rattle.om_signs.specs.declared.sign.Sign.{Sign}
use Rattle.om_signs.specs.declared.sign.Sign.TheVariants.{Minus, Zero, Plus}
use Rattle.om_lines.specs.Lines.{with_first, uncommented, is_blank, pieces, has_any, runs, words, wordful}
use Rattle.om_document.specs.Print.{spaced}
use Rattle.om_lines.specs.Words.{is_sign, sign_of_byte, byte_of}
use Rattle.om_document.proofs.Feeds.{is_one_line}

-- a byte of a word, as printed
abbrev pub is_word_byte : ℕ → Bool
is_word_byte b = not (is_blank b) && not (nat_eq b 35) && not (nat_eq b 10)

word_byte : (b : ℕ) → is_word_byte b ≡ true → (is_blank b ≡ false) × (nat_eq b 35 ≡ false) × (nat_eq b 10 ≡ false)
word_byte b h =
    let a = and_parts (not (is_blank b) && not (nat_eq b 35)) (not (nat_eq b 10)) h in
    let c = and_parts (not (is_blank b)) (not (nat_eq b 35)) a.0 in
    (not-true (is_blank b) c.0, not-true (nat_eq b 35) c.1, not-true (nat_eq b 10) a.1)

pub word_one_line : (w : List ℕ) → list_all is_word_byte w ≡ true → is_one_line w ≡ true
word_one_line [] h = refl
word_one_line (b ∷ w) h =
    let a = and_parts (is_word_byte b) (list_all is_word_byte w) h in
    let c = word_byte b a.0 in
    rw c.2 (word_one_line w a.1)

uncommented_word : (w r : List ℕ) → list_all is_word_byte w ≡ true → uncommented (w ++ r) ≡ w ++ uncommented r
uncommented_word [] r h = refl
uncommented_word (b ∷ w) r h =
    let a = and_parts (is_word_byte b) (list_all is_word_byte w) h in
    let c = word_byte b a.0 in
    rw c.1 (ap (λ x. b ∷ x) (uncommented_word w r a.1))

uncommented_one : (w : List ℕ) → list_all is_word_byte w ≡ true → uncommented w ≡ w
uncommented_one w h = ap uncommented (sym (append-nil w)) ∙ uncommented_word w [] h ∙ append-nil w

uncommented_two : (w v : List ℕ) → list_all is_word_byte w ≡ true → list_all is_word_byte v ≡ true
    → uncommented (w ++ 32 ∷ v) ≡ w ++ 32 ∷ v
uncommented_two w v h g = uncommented_word w (32 ∷ v) h ∙ ap (λ x. w ++ 32 ∷ x) (uncommented_one v g)

pieces_word : (w r : List ℕ) → list_all is_word_byte w ≡ true → pieces (w ++ 32 ∷ r) ≡ w ∷ pieces r
pieces_word [] r h = refl
pieces_word (b ∷ w) r h =
    let a = and_parts (is_word_byte b) (list_all is_word_byte w) h in
    let c = word_byte b a.0 in
    rw c.0 (ap (with_first b) (pieces_word w r a.1))

pieces_one : (w : List ℕ) → list_all is_word_byte w ≡ true → pieces w ≡ w ∷ []
pieces_one [] h = refl
pieces_one (b ∷ w) h =
    let a = and_parts (is_word_byte b) (list_all is_word_byte w) h in
    let c = word_byte b a.0 in
    rw c.0 (ap (with_first b) (pieces_one w a.1))

pub words_one : (w : List ℕ) → list_all is_word_byte w ≡ true → has_any w ≡ true → words w ≡ w ∷ []
words_one w h e = ap runs (uncommented_one w h) ∙ ap (filter has_any) (pieces_one w h) ∙ rw e refl

pub words_two : (w v : List ℕ) → list_all is_word_byte w ≡ true → has_any w ≡ true → list_all is_word_byte v ≡ true
    → has_any v ≡ true → words (w ++ 32 ∷ v) ≡ w ∷ v ∷ []
words_two w v h e g f = ap runs (uncommented_two w v h g)
    ∙ ap (filter has_any) (pieces_word w v h ∙ ap (λ x. w ∷ x) (pieces_one v g)) ∙ rw (e, f) refl

pub words_three : (w v u : List ℕ) → list_all is_word_byte w ≡ true → has_any w ≡ true → list_all is_word_byte v ≡ true
    → has_any v ≡ true → list_all is_word_byte u ≡ true → has_any u ≡ true
    → words (w ++ 32 ∷ (v ++ 32 ∷ u)) ≡ w ∷ v ∷ u ∷ []
words_three w v u h e g f k l =
    ap runs (uncommented_word w (32 ∷ (v ++ 32 ∷ u)) h ∙ ap (λ x. w ++ 32 ∷ x) (uncommented_two v u g k))
    ∙ ap (filter has_any)
    (pieces_word w (v ++ 32 ∷ u) h ∙ ap (λ x. w ∷ x) (pieces_word v u g ∙ ap (λ x. v ∷ x) (pieces_one u k)))
    ∙ rw (e, f, l) refl

-- a word, as printed
abbrev pub is_word : List ℕ → Bool
is_word w = list_all is_word_byte w && has_any w

-- a line of some words
abbrev pub is_word_line : List (List ℕ) → Bool
is_word_line ws = has_any ws && list_all is_word ws

uncommented_spaced : (ws : List (List ℕ)) → list_all is_word ws ≡ true → uncommented (spaced ws) ≡ spaced ws
uncommented_spaced [] h = refl
uncommented_spaced (w ∷ []) h =
    uncommented_one w (and_parts (list_all is_word_byte w) (has_any w) (and_parts (is_word w) true h).0).0
uncommented_spaced (w ∷ v ∷ ws) h =
    let a = and_parts (is_word w) (list_all is_word (v ∷ ws)) h in
    let b = and_parts (list_all is_word_byte w) (has_any w) a.0 in
    uncommented_word w (32 ∷ spaced (v ∷ ws)) b.0 ∙ ap (λ x. w ++ 32 ∷ x) (uncommented_spaced (v ∷ ws) a.1)

pieces_spaced : (w : List ℕ) (ws : List (List ℕ)) → list_all is_word (w ∷ ws) ≡ true → pieces (spaced (w ∷ ws)) ≡ w ∷ ws
pieces_spaced w [] h = pieces_one w (and_parts (list_all is_word_byte w) (has_any w) (and_parts (is_word w) true h).0).0
pieces_spaced w (v ∷ ws) h =
    let a = and_parts (is_word w) (list_all is_word (v ∷ ws)) h in
    let b = and_parts (list_all is_word_byte w) (has_any w) a.0 in
    pieces_word w (spaced (v ∷ ws)) b.0 ∙ ap (λ x. w ∷ x) (pieces_spaced v ws a.1)

all_full : (ws : List (List ℕ)) → list_all is_word ws ≡ true → filter has_any ws ≡ ws
all_full [] h = refl
all_full (w ∷ ws) h =
    let a = and_parts (is_word w) (list_all is_word ws) h in
    let b = and_parts (list_all is_word_byte w) (has_any w) a.0 in
    rw b.1 (ap (λ x. w ∷ x) (all_full ws a.1))

-- words with single spaces between them are read as these words
pub words_spaced : (ws : List (List ℕ)) → list_all is_word ws ≡ true → words (spaced ws) ≡ ws
words_spaced [] h = refl
words_spaced (w ∷ ws) h = ap runs (uncommented_spaced (w ∷ ws) h) ∙ ap (filter has_any) (pieces_spaced w ws h)
    ∙ all_full (w ∷ ws) h

pub spaced_one_line : (ws : List (List ℕ)) → list_all is_word ws ≡ true → is_one_line (spaced ws) ≡ true
spaced_one_line [] h = refl
spaced_one_line (w ∷ []) h =
    word_one_line w (and_parts (list_all is_word_byte w) (has_any w) (and_parts (is_word w) true h).0).0
spaced_one_line (w ∷ v ∷ ws) h =
    let a = and_parts (is_word w) (list_all is_word (v ∷ ws)) h in
    let b = and_parts (list_all is_word_byte w) (has_any w) a.0 in
    list_all-append (λ b. not (nat_eq b 10)) w (32 ∷ spaced (v ∷ ws))
    ∙ rw (word_one_line w b.0, spaced_one_line (v ∷ ws) a.1) refl

-- a line with words in front of others
pub wordful-cons : (l : List ℕ) (ls : List (List ℕ)) (w : List (List ℕ)) → words l ≡ w → has_any w ≡ true
    → wordful (l ∷ ls) ≡ w ∷ wordful ls
wordful-cons l ls w e h = ap (λ x. filter has_any (x ∷ map words ls)) e
    ∙ ap (λ b. cond b (w ∷ wordful ls) (wordful ls)) h

-- lines of words are read as these lines
pub wordful_spaced : (ls : List (List (List ℕ))) → list_all is_word_line ls ≡ true → wordful (map spaced ls) ≡ ls
wordful_spaced [] h = refl
wordful_spaced (l ∷ ls) h =
    let a = and_parts (is_word_line l) (list_all is_word_line ls) h in
    let b = and_parts (has_any l) (list_all is_word l) a.0 in
    ap (λ x. filter has_any (x ∷ map words (map spaced ls))) (words_spaced l b.1)
    ∙ rw b.0 (ap (λ x. l ∷ x) (wordful_spaced ls a.1))

-- words with single spaces between them are lines without line feeds
pub spaced_one_lines : (ls : List (List (List ℕ))) → list_all is_word_line ls ≡ true
    → list_all is_one_line (map spaced ls) ≡ true
spaced_one_lines [] h = refl
spaced_one_lines (l ∷ ls) h =
    let a = and_parts (is_word_line l) (list_all is_word_line ls) h in
    let b = and_parts (has_any l) (list_all is_word l) a.0 in
    rw (spaced_one_line l b.1) (spaced_one_lines ls a.1)

pub two_one_line : (w v : List ℕ) → list_all is_word_byte w ≡ true → list_all is_word_byte v ≡ true
    → is_one_line (w ++ 32 ∷ v) ≡ true
two_one_line w v h g = list_all-append (λ b. not (nat_eq b 10)) w (32 ∷ v)
    ∙ rw (word_one_line w h, word_one_line v g) refl

pub three_one_line : (w v u : List ℕ) → list_all is_word_byte w ≡ true → list_all is_word_byte v ≡ true
    → list_all is_word_byte u ≡ true → is_one_line (w ++ 32 ∷ (v ++ 32 ∷ u)) ≡ true
three_one_line w v u h g k = list_all-append (λ b. not (nat_eq b 10)) w (32 ∷ (v ++ 32 ∷ u))
    ∙ rw (word_one_line w h, two_one_line v u g k) refl

sign_is_word : (b : ℕ) → is_sign b ≡ true → is_word_byte b ≡ true
sign_is_word b h = elim (cases_Bool (nat_eq b 43)) [
  | inl e ↦ let q : b ≡ 43 = eqb-true b 43 e in rw q refl
  | inr m ↦ elim (cases_Bool (nat_eq b 45)) [
    | inl e ↦ let q : b ≡ 45 = eqb-true b 45 e in rw q refl
    | inr n ↦ elim (cases_Bool (nat_eq b 48)) [
      | inl e ↦ let q : b ≡ 48 = eqb-true b 48 e in rw q refl
      | inr o ↦ let bad = rw (m, n, o) at h in cc
    ]
  ]
]

pub signs_are_word : (w : List ℕ) → list_all is_sign w ≡ true → list_all is_word_byte w ≡ true
signs_are_word [] h = refl
signs_are_word (b ∷ w) h =
    let a = and_parts (is_sign b) (list_all is_sign w) h in
    rw (sign_is_word b a.0) (signs_are_word w a.1)

-- each line as its one word
abbrev pub single : List (List ℕ) → List (List (List ℕ))
single ls = map (λ l. l ∷ []) ls

pub signs_of_bytes_of : (xs : List Sign) → map sign_of_byte (map byte_of xs) ≡ xs
signs_of_bytes_of [] = refl
signs_of_bytes_of (Minus ∷ xs) = ap (λ r. Minus ∷ r) (signs_of_bytes_of xs)
signs_of_bytes_of (Zero ∷ xs) = ap (λ r. Zero ∷ r) (signs_of_bytes_of xs)
signs_of_bytes_of (Plus ∷ xs) = ap (λ r. Plus ∷ r) (signs_of_bytes_of xs)

pub bytes_are_signs : (xs : List Sign) → list_all is_sign (map byte_of xs) ≡ true
bytes_are_signs [] = refl
bytes_are_signs (Minus ∷ xs) = bytes_are_signs xs
bytes_are_signs (Zero ∷ xs) = bytes_are_signs xs
bytes_are_signs (Plus ∷ xs) = bytes_are_signs xs
