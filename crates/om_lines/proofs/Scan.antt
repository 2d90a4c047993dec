-- Where lines, comments and words end.
--
-- Main definitions: IsFirstPiece
-- Main results: line_split, line_whole, feed_split, whole_split, comment_first, all_blank, no_word_found, word_found
use Rattle.std.proofs.Common.{◌≡◌, ℕ, zero, suc, ◌+◌, ◌-◌, ◌<◌, ◌≤◌, List, [], ◌∷◌, ◌++◌, Bool, false, cond, not}
use Rattle.std.proofs.Common.{length, take, drop, refl, sym, ap, ◌∙◌, arith, inl, inr, nat_eq, nat_lt}
use Rattle.std.specs.Prelude.{Option, Some, None, unwrap_or, filter}
use Rattle.std.specs.List.{position_or_len, list_all}
use Rattle.std.proofs.lemmas.Bool.{lt-ltb, le-ltb, cases_lt, eqb-true, cases_Bool}
use Rattle.std.proofs.lemmas.List.{take_rest, take_all}
use Rattle.std.proofs.Math.ListN.{drop_of_length-le}
use Rattle.om_lines.specs.Lines.{lines, IsSplit, with_first, uncommented, is_blank, pieces, has_any, runs}

pub position_le : (p : ℕ → Bool) (xs : List ℕ) → position_or_len p xs ≤ length xs
position_le p [] = omega arith
position_le p (x ∷ xs) = elim (cases_Bool (p x)) [
  | inl e ↦ rw e (omega arith)
  | inr n ↦ rw n (let i = position_le p xs in omega arith)
]

-- the position of the first hit, or the length, as the code has it
pub position_or : (p : ℕ → Bool) (xs : List ℕ) (o : Option ℕ)
    → o ≡ cond (nat_lt (position_or_len p xs) (length xs)) (Some (position_or_len p xs)) None
    → unwrap_or o (length xs) ≡ position_or_len p xs
position_or p xs o q = rw q (elim (cases_lt (position_or_len p xs) (length xs)) [
  | inl l ↦ rw (lt-ltb _ _ l) refl
  | inr g ↦ rw (le-ltb _ _ g) (let i = position_le p xs in omega arith)
])

take_one : (k b : ℕ) (bs : List ℕ) → take (1 + k) (b ∷ bs) ≡ b ∷ take k bs
take_one k b bs = let e : 1 + k ≡ suc k = omega arith in rw e refl

-- the bytes behind one more byte
pub drop_one : (k b : ℕ) (bs : List ℕ) → drop (1 + k) (b ∷ bs) ≡ drop k bs
drop_one k b bs = let e : 1 + k ≡ suc k = omega arith in rw e refl

drop_two : (k b : ℕ) (bs : List ℕ) → drop (1 + k + 1) (b ∷ bs) ≡ drop (k + 1) bs
drop_two k b bs = let e : 1 + k + 1 ≡ suc (k + 1) = omega arith in rw e refl

line_next : (b : ℕ) (cs : List ℕ) (k : ℕ) → lines cs ≡ take k cs ∷ lines (drop (k + 1) cs)
    → with_first b (lines cs) ≡ take (1 + k) (b ∷ cs) ∷ lines (drop (1 + k + 1) (b ∷ cs))
line_next b cs k i = ap (with_first b) i ∙ rw (take_one k b cs, drop_two k b cs) refl

pub line_first : (b : ℕ) (bs : List ℕ) → lines (b ∷ bs) ≡ take (position_or_len (λ b. nat_eq b 10) (b ∷ bs)) (b ∷ bs)
    ∷ lines (drop (position_or_len (λ b. nat_eq b 10) (b ∷ bs) + 1) (b ∷ bs))
line_first b [] = elim (cases_Bool (nat_eq b 10)) [
  | inl e ↦ rw e refl
  | inr n ↦ rw n refl
]
line_first b (c ∷ bs) = elim (cases_Bool (nat_eq b 10)) [
  | inl e ↦ rw e refl
  | inr n ↦ rw n (line_next b (c ∷ bs) (position_or_len (λ b. nat_eq b 10) (c ∷ bs)) (line_first c bs))
]

-- as the code's slices have it
pub line_split : (bytes : List ℕ) (k : ℕ) → 0 < length bytes → k ≡ position_or_len (λ b. nat_eq b 10) bytes
    → lines bytes ≡ take k bytes ∷ lines (take (length bytes - (k + 1)) (drop (k + 1) bytes))
line_split [] k h e = absurd (omega arith)
line_split (b ∷ bs) k h e = rw (e, take_rest (b ∷ bs) (position_or_len (λ b. nat_eq b 10) (b ∷ bs) + 1))
    (line_first b bs)

pub line_whole : (bytes : List ℕ) (k : ℕ) → 0 < length bytes → k ≡ position_or_len (λ b. nat_eq b 10) bytes
    → length bytes ≤ k → lines bytes ≡ take k bytes ∷ lines (take (length bytes - k) (drop k bytes))
line_whole [] k h e l = absurd (omega arith)
line_whole (b ∷ bs) k h e l =
    let z : length (b ∷ bs) - k ≡ 0 = omega arith in
    let n : drop (position_or_len (λ b. nat_eq b 10) (b ∷ bs) + 1) (b ∷ bs) ≡ [] =
    drop_of_length-le (b ∷ bs) (omega arith) in
    line_first b bs ∙ rw (n, z, ← e) refl

feed_first : (bs : List ℕ) → position_or_len (λ b. nat_eq b 10) bs < length bs
    → bs ≡ take (position_or_len (λ b. nat_eq b 10) bs) bs ++ 10 ∷ drop (position_or_len (λ b. nat_eq b 10) bs + 1) bs
feed_first [] l = absurd (omega arith)
feed_first (b ∷ bs) l = elim (cases_Bool (nat_eq b 10)) [
  | inl e ↦ rw e (ap (λ x. x ∷ bs) (eqb-true b 10 e))
  | inr n ↦ let k = position_or_len (λ b. nat_eq b 10) bs in
      let z : position_or_len (λ b. nat_eq b 10) (b ∷ bs) ≡ 1 + k = rw n refl in
      rw (z, take_one k b bs, drop_two k b bs) (ap (λ r. b ∷ r) (feed_first bs (omega arith)))
]

pub feed_split : (bytes : List ℕ) (k : ℕ) → k ≡ position_or_len (λ b. nat_eq b 10) bytes → k < length bytes
    → IsSplit bytes (take k bytes) (take (length bytes - (k + 1)) (drop (k + 1) bytes))
feed_split bytes k e l =
    inl (rw (take_rest bytes (k + 1), e)
    (feed_first bytes (let h : position_or_len (λ b. nat_eq b 10) bytes < length bytes = omega arith in h)))

pub whole_split : (bytes : List ℕ) (k : ℕ) → length bytes ≤ k
    → IsSplit bytes (take k bytes) (take (length bytes - k) (drop k bytes))
whole_split bytes k l = inr (sym (take_all k bytes l), (let z : length bytes - k ≡ 0 = omega arith in rw z refl))

pub comment_first : (bs : List ℕ) → take (position_or_len (λ b. nat_eq b 35) bs) bs ≡ uncommented bs
comment_first [] = refl
comment_first (b ∷ bs) = elim (cases_Bool (nat_eq b 35)) [
  | inl e ↦ rw e refl
  | inr n ↦ rw n (take_one (position_or_len (λ b. nat_eq b 35) bs) b bs ∙ ap (λ r. b ∷ r) (comment_first bs))
]

pub runs_after_blanks : (bs : List ℕ) → runs bs ≡ runs (drop (position_or_len (λ b. not (is_blank b)) bs) bs)
runs_after_blanks [] = refl
runs_after_blanks (b ∷ bs) = elim (cases_Bool (is_blank b)) [
  | inl e ↦ rw e (runs_after_blanks bs ∙ ap runs (sym (drop_one (position_or_len (λ b. not (is_blank b)) bs) b bs)))
  | inr n ↦ let z : position_or_len (λ b. not (is_blank b)) (b ∷ bs) ≡ 0 = rw n refl in
      ap (λ k. runs (drop k (b ∷ bs))) (sym z)
]

-- a first piece and what comes after it
pub record IsFirstPiece (bs : List ℕ) (k : ℕ) : Type 0 where
  pub rest : List (List ℕ)
  pub pieces : pieces bs ≡ take k bs ∷ rest
  pub after : runs (drop k bs) ≡ filter has_any rest

piece_next : (b : ℕ) (bs : List ℕ) (k : ℕ) → is_blank b ≡ false → IsFirstPiece bs k → IsFirstPiece (b ∷ bs) (1 + k)
piece_next b bs k n i = record {
  rest = i.rest;
  pieces = rw n (ap (with_first b) i.pieces ∙ ap (λ x. x ∷ i.rest) (sym (take_one k b bs)));
  after = ap runs (drop_one k b bs) ∙ i.after;
}

pub piece_first : (bs : List ℕ) → IsFirstPiece bs (position_or_len is_blank bs)
piece_first [] = record { rest = []; pieces = refl; after = refl }
piece_first (b ∷ bs) = elim (cases_Bool (is_blank b)) [
  | inl e ↦ rw e (record { rest = pieces bs; pieces = rw e refl; after = rw e refl })
  | inr n ↦ rw n (piece_next b bs (position_or_len is_blank bs) n (piece_first bs))
]

-- the first word where no blank stands before it
pub word_first : (bs : List ℕ) → 0 < position_or_len is_blank bs
    → runs bs ≡ take (position_or_len is_blank bs) bs ∷ runs (drop (position_or_len is_blank bs) bs)
word_first [] h = absurd (omega arith)
word_first (b ∷ bs) h =
    let i = piece_first (b ∷ bs) in
    ap (filter has_any) i.pieces ∙ kept (position_or_len is_blank (b ∷ bs)) h
    ∙ ap (λ r. take (position_or_len is_blank (b ∷ bs)) (b ∷ bs) ∷ r) (sym i.after)
  where
    kept : (k : ℕ) → 0 < k → filter has_any (take k (b ∷ bs) ∷ (piece_first (b ∷ bs)).rest) ≡ take k (b ∷ bs)
        ∷ filter has_any (piece_first (b ∷ bs)).rest
    kept zero l = absurd (omega arith)
    kept (suc k) l = refl

-- where the blanks end a word begins, or nothing is left
pub no_word : (bs : List ℕ) → position_or_len is_blank (drop (position_or_len (λ b. not (is_blank b)) bs) bs) ≡ 0
    → drop (position_or_len (λ b. not (is_blank b)) bs) bs ≡ []
no_word [] h = refl
no_word (b ∷ bs) h = elim (cases_Bool (is_blank b)) [
  | inl e ↦ let q : drop (position_or_len (λ b. not (is_blank b)) (b ∷ bs)) (b ∷ bs)
      ≡ drop (position_or_len (λ b. not (is_blank b)) bs) bs =
      rw e (drop_one (position_or_len (λ b. not (is_blank b)) bs) b bs) in
      q ∙ no_word bs (sym (ap (position_or_len is_blank) q) ∙ h)
  | inr n ↦ let q : drop (position_or_len (λ b. not (is_blank b)) (b ∷ bs)) (b ∷ bs) ≡ b ∷ bs = rw n refl in
      let z : position_or_len is_blank (b ∷ bs) ≡ 0 = sym (ap (position_or_len is_blank) q) ∙ h in
      let w : position_or_len is_blank (b ∷ bs) ≡ 1 + position_or_len is_blank bs = rw n refl in absurd (omega arith)
]

pub all_blank : (bs : List ℕ) → list_all is_blank bs ≡ not (has_any (runs bs))
all_blank [] = refl
all_blank (b ∷ bs) = elim (cases_Bool (is_blank b)) [
  | inl e ↦ rw e (all_blank bs)
  | inr n ↦ let w : position_or_len is_blank (b ∷ bs) ≡ 1 + position_or_len is_blank bs = rw n refl in
      let q = word_first (b ∷ bs) (omega arith) in
      let m : not (has_any (runs (b ∷ bs))) ≡ false = ap (λ r. not (has_any r)) q in
      rw m (rw n refl)
]

-- as the code's slices have it
pub no_word_found : (line : List ℕ) (k e : ℕ) → k ≡ position_or_len (λ b. not (is_blank b)) line
    → e ≡ position_or_len is_blank (take (length line - k) (drop k line)) → e ≡ 0 → runs line ≡ []
no_word_found line k e q f z =
    let r = take_rest line k in
    let d : drop k line ≡ drop (position_or_len (λ b. not (is_blank b)) line) line = ap (λ k. drop k line) q in
    let n = no_word line (sym (ap (position_or_len is_blank) (r ∙ d)) ∙ sym f ∙ z) in
    runs_after_blanks line ∙ ap runs n

word_found_in : (line rest : List ℕ) (k e : ℕ) → k ≡ position_or_len (λ b. not (is_blank b)) line → rest ≡ drop k line
    → e ≡ position_or_len is_blank rest → (e ≡ 0 → ⊥) → runs line ≡ take e rest ∷ runs (drop e rest)
word_found_in line rest k e q r f z =
    let l : 0 < position_or_len is_blank rest = omega arith in
    let w = word_first rest l in
    let d : runs line ≡ runs rest = runs_after_blanks line ∙ ap runs (ap (λ k. drop k line) (sym q) ∙ sym r) in
    d ∙ w ∙ ap (λ e. take e rest ∷ runs (drop e rest)) (sym f)

pub word_found : (line rest : List ℕ) (k e : ℕ) → k ≡ position_or_len (λ b. not (is_blank b)) line
    → rest ≡ take (length line - k) (drop k line) → e ≡ position_or_len is_blank rest → (e ≡ 0 → ⊥)
    → runs line ≡ take e rest ∷ runs (take (length rest - e) (drop e rest))
word_found line rest k e q r f z = word_found_in line rest k e q (r ∙ take_rest line k) f z
    ∙ ap (λ x. take e rest ∷ runs x) (sym (take_rest rest e))
