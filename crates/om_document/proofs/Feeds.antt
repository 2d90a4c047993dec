-- Lines and their text.
--
-- Main definitions: is_one_line
-- Main results: lines_text, lines_one_line
use Rattle.std.proofs.Common.{◌≡◌, ℕ, zero, suc, List, [], ◌∷◌, ◌++◌, Bool, true, false, not, take, refl, ap, ◌∙◌, inl}
use Rattle.std.proofs.Common.{inr, nat_eq}
use Rattle.std.specs.List.{list_all}
use Rattle.std.proofs.lemmas.List.Folds.{list_all-append}
use Rattle.std.proofs.lemmas.Bool.{cases_Bool, and_parts, not-true}
use Rattle.om_lines.specs.Lines.{lines, with_first}
use Rattle.om_document.specs.Print.{text_of}

-- a line without a line feed
abbrev pub is_one_line : List ℕ → Bool
is_one_line l = list_all (λ b. not (nat_eq b 10)) l

pub line_text : (l bs : List ℕ) → is_one_line l ≡ true → lines (l ++ 10 ∷ bs) ≡ l ∷ lines bs
line_text [] bs h = refl
line_text (b ∷ l) bs h =
    let a = and_parts (not (nat_eq b 10)) (is_one_line l) h in
    rw (not-true (nat_eq b 10) a.0) (ap (with_first b) (line_text l bs a.1))

-- lines without line feeds are read again from their text
pub lines_text : (ls : List (List ℕ)) → list_all is_one_line ls ≡ true → lines (text_of ls) ≡ ls
lines_text [] h = refl
lines_text (l ∷ ls) h =
    let a = and_parts (is_one_line l) (list_all is_one_line ls) h in
    line_text l (text_of ls) a.0 ∙ ap (λ r. l ∷ r) (lines_text ls a.1)

one_line-with_first : (b : ℕ) (ls : List (List ℕ)) → nat_eq b 10 ≡ false → list_all is_one_line ls ≡ true
    → list_all is_one_line (with_first b ls) ≡ true
one_line-with_first b [] n h = rw n refl
one_line-with_first b (l ∷ ls) n h = rw n h

-- the lines of any bytes are without line feeds
pub lines_one_line : (bytes : List ℕ) → list_all is_one_line (lines bytes) ≡ true
lines_one_line [] = refl
lines_one_line (b ∷ bs) = elim (cases_Bool (nat_eq b 10)) [
  | inl e ↦ rw e (lines_one_line bs)
  | inr n ↦ rw n (one_line-with_first b (lines bs) n (lines_one_line bs))
]

-- lines without line feeds, followed by others without them, are all without line feeds
pub one_line-append : (xs ys : List (List ℕ)) → list_all is_one_line xs ≡ true → list_all is_one_line ys ≡ true
    → list_all is_one_line (xs ++ ys) ≡ true
one_line-append xs ys h e = list_all-append is_one_line xs ys ∙ rw (h, e) refl

-- if some lines are without line feeds, the first k of them are
pub one_line-take : (k : ℕ) (xs : List (List ℕ)) → list_all is_one_line xs ≡ true
    → list_all is_one_line (take k xs) ≡ true
one_line-take zero xs h = refl
one_line-take (suc k) [] h = refl
one_line-take (suc k) (x ∷ xs) h = let a = and_parts (is_one_line x) (list_all is_one_line xs) h in
    rw a.0 (one_line-take k xs a.1)
