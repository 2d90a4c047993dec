-- The cut of lines, made line by line: it is a cut, and there is no other.
--
-- Main results: cut_is, cut_one.
use Rattle.std.proofs.Math.Bool.{or-true, and-false, or_assoc}
use Rattle.std.specs.Prelude.{ℕ, ◌≡◌, ◌+◌, ◌-◌, ◌<◌, ◌≤◌, List, [], ◌∷◌, ◌++◌, Bool, true, false, cond, not, nat_le}
use Rattle.std.specs.Prelude.{◌&&◌, ◌||◌, bytes_eq, codes}
use Rattle.std.specs.List.{list_all, list_any}
use Rattle.std.proofs.Common.{refl, sym, ap, ◌∙◌, subst, append_assoc, append-nil, arith, inl, inr}
use Rattle.std.proofs.lemmas.Bool.{cases_Bool, eqb-true, leb-true, leb-false, le-leb, lt-leb, true≢false, false≢true}
use Rattle.std.proofs.lemmas.Bool.{and_parts}
use Rattle.om_lines.specs.Lines.{end_line, first_word, has_any, words, is_line}
use Rattle.om_pieces.specs.Pieces.{without_line_feed, has_word, closes, opens, ends, is_unbroken, AreCut, no_more}
use Rattle.om_pieces.specs.Pieces.{closed, broken, at_end}

-- ---- a line that opens has a word and doesn't close; one that closes has a word

opens_words : (w : List (List ℕ)) → bytes_eq (first_word w) (codes "om") ≡ true
    → (has_any w ≡ true) × (is_line w end_line ≡ false)
opens_words [] e = absurd (false≢true e)
opens_words ([] ∷ ws) e = absurd (false≢true e)
opens_words ((b ∷ bs) ∷ ws) e = (refl, other b bs ws e)
  where
    other : (b : ℕ) (bs : List ℕ) (ws : List (List ℕ)) → bytes_eq (b ∷ bs) (codes "om") ≡ true
        → is_line ((b ∷ bs) ∷ ws) end_line ≡ false
    other b bs ws e = let p = eqb-true b 111 ((and_parts _ _ e).0) in rw p refl

closes_words : (w : List (List ℕ)) → is_line w end_line ≡ true → has_any w ≡ true
closes_words [] e = absurd (false≢true e)
closes_words (v ∷ ws) e = refl

opens_word : (r : List ℕ) → opens r ≡ true → has_word r ≡ true
opens_word r e = (opens_words (words (without_line_feed r)) e).0

opens_not_closes : (r : List ℕ) → opens r ≡ true → closes r ≡ false
opens_not_closes r e = (opens_words (words (without_line_feed r)) e).1

closes_word : (r : List ℕ) → closes r ≡ true → has_word r ≡ true
closes_word r e = closes_words (words (without_line_feed r)) e

pub closes_not_opens : (r : List ℕ) → closes r ≡ true → opens r ≡ false
closes_not_opens r e =
    elim (cases_Bool (opens r)) [ inl o ↦ absurd (true≢false (sym e ∙ opens_not_closes r o)) | inr o ↦ o ]

-- ---- the cut, line by line: so many `end` lines are missing, a line before has a word, and these lines are the piece
-- so far

abbrev pub cut : ℕ → ℕ → Bool → List (List ℕ) → List (List ℕ) → List (List (List ℕ))
cut n missing some piece [] = cond some (piece ∷ []) []
cut n missing some piece (r ∷ rs) =
    cond (opens r && some) (piece ∷ cut n n true (r ∷ []) rs)
    (cond (closes r)
    (cond (nat_le missing 1) ((piece ++ r ∷ []) ∷ cut n n false [] rs) (cut n (missing - 1) true (piece ++ r ∷ []) rs))
    (cut n missing (some || has_word r) (piece ++ r ∷ []) rs))

-- one line
pub cut_opens : (n missing : ℕ) (some : Bool) (piece : List (List ℕ)) (r : List ℕ) (rs : List (List ℕ))
    → (opens r && some) ≡ true → cut n missing some piece (r ∷ rs) ≡ piece ∷ cut n n true (r ∷ []) rs
cut_opens n missing some piece r rs o = rw o refl

pub cut_closes : (n missing : ℕ) (some : Bool) (piece : List (List ℕ)) (r : List ℕ) (rs : List (List ℕ))
    → closes r ≡ true → nat_le missing 1 ≡ true → cut n missing some piece (r ∷ rs) ≡
    (piece ++ r ∷ []) ∷ cut n n false [] rs
cut_closes n missing some piece r rs c m = rw (closes_not_opens r c, c, m) refl

pub cut_counts : (n missing : ℕ) (some : Bool) (piece : List (List ℕ)) (r : List ℕ) (rs : List (List ℕ))
    → closes r ≡ true → nat_le missing 1 ≡ false → cut n missing some piece (r ∷ rs) ≡ cut n (missing - 1) true
    (piece ++ r ∷ []) rs
cut_counts n missing some piece r rs c m = rw (closes_not_opens r c, c, m) refl

pub cut_goes : (n missing : ℕ) (some : Bool) (piece : List (List ℕ)) (r : List ℕ) (rs : List (List ℕ))
    → (opens r && some) ≡ false → closes r ≡ false → cut n missing some piece (r ∷ rs) ≡ cut n missing
    (some || has_word r) (piece ++ r ∷ []) rs
cut_goes n missing some piece r rs o c = rw (o, c) refl

-- ---- lines with one more

abbrev none_opens : List (List ℕ) → Bool
none_opens = list_all (λ r. not (opens r))

any_more : (body : List (List ℕ)) (r : List ℕ) → list_any has_word (body ++ r ∷ []) ≡
    (list_any has_word body || has_word r)
any_more [] r = elim (has_word r) as (λ t. (t || false) ≡ t) [ true ↦ refl | false ↦ refl ]
any_more (x ∷ body) r = rw (any_more body r) (assoc (has_word x) (list_any has_word body) (has_word r))
  where
    assoc : (a b c : Bool) → (a || (b || c)) ≡ ((a || b) || c)
    assoc true b c = refl
    assoc false b c = refl

ends_more : (body : List (List ℕ)) (r : List ℕ) → ends (body ++ r ∷ []) ≡ ends body + ends (r ∷ [])
ends_more [] r = omega arith
ends_more (x ∷ body) r =
    rw (ends_more body r) (elim (closes x) as
    (λ t. cond t (ends body + ends (r ∷ []) + 1) (ends body + ends (r ∷ [])) ≡ cond t (ends body + 1)
    (ends body) + ends (r ∷ [])) [ true ↦ omega arith | false ↦ refl ])

none_more : (body : List (List ℕ)) (r : List ℕ) → none_opens body ≡ true → opens r ≡ false
    → none_opens (body ++ r ∷ []) ≡ true
none_more [] r a o = rw o refl
none_more (x ∷ body) r a o =
    let p = and_parts (not (opens x)) (none_opens body) a in rw (p.0, none_more body r p.1 o) refl

unbroken_more : (body : List (List ℕ)) (r : List ℕ) → is_unbroken body ≡ true
    → (opens r && list_any has_word body) ≡ false → is_unbroken (body ++ r ∷ []) ≡ true
unbroken_more [] r u o = elim (has_word r) as (λ t. cond t true true ≡ true) [ true ↦ refl | false ↦ refl ]
unbroken_more (x ∷ body) r u o = elim (cases_Bool (has_word x)) [
  | inl e ↦ rw e (none_more body r (rw e at u) (closed_off (opens r) (rw e at o)))
  | inr e ↦ rw e (unbroken_more body r (rw e at u) (rw e at o))
]
  where
    closed_off : (t : Bool) → (t && true) ≡ false → t ≡ false
    closed_off true e = e
    closed_off false e = e

-- ---- it is a cut

none_ended : (n : ℕ) → ends [] + n ≡ n
none_ended n = omega arith

pub cut_from_is : (n : ℕ) (rs body : List (List ℕ)) (missing : ℕ) (some : Bool) → 1 ≤ n → ends body + missing ≡ n
    → 1 ≤ missing → some ≡ list_any has_word body → is_unbroken body ≡ true
    → AreCut n (body ++ rs) (cut n missing some body rs)
cut_from_is n [] body missing some pos count more s u = rw append-nil (elim (cases_Bool some) [
  | inl e ↦ rw e (at_end body (record { few = omega arith; unbroken = u }) (sym s ∙ e))
  | inr e ↦ rw e (no_more body (sym s ∙ e))
])
cut_from_is n (r ∷ rs) body missing some pos count more s u = elim (cases_Bool (opens r && some)) [
  | inl o ↦
      let p = and_parts (opens r) some o in
      let c = opens_not_closes r p.0 in
      let zero_ends : ends (r ∷ []) ≡ 0 = rw c refl in
      let none : ends (r ∷ []) + n ≡ n = omega (arith, zero_ends) in
      let word : true ≡ list_any has_word (r ∷ []) = rw (opens_word r p.0) refl in
      let whole : is_unbroken (r ∷ []) ≡ true = unbroken_more [] r refl (and-false (opens r)) in
      rw (cut_opens n missing some body r rs o)
      (broken body r rs _ (record { few = omega arith; unbroken = u }) (sym s ∙ p.1) p.0
      (cut_from_is n rs (r ∷ []) n true pos none pos word whole))
  | inr o ↦ elim (cases_Bool (closes r)) [
    | inl c ↦ elim (cases_Bool (nat_le missing 1)) [
      | inl m ↦
          let one = leb-true missing 1 m in
          let rest : AreCut n rs (cut n n false [] rs) = cut_from_is n rs [] n false pos (none_ended n) pos refl refl in
          rw (cut_closes n missing some body r rs c m)
          (closed body r rs _ (record { few = omega arith; unbroken = u }) (omega (arith, one)) c rest)
      | inr m ↦
          let two = leb-false missing 1 m in
          let ended : ends (r ∷ []) ≡ 1 = rw c refl in
          let count2 : ends (body ++ r ∷ []) + (missing - 1) ≡ n =
          (let e = ends_more body r in omega (arith, e, ended, two)) in
          let word : true ≡ list_any has_word (body ++ r ∷ []) = sym
          (any_more body r ∙ (rw (closes_word r c) (or-true (list_any has_word body)))) in
          let whole : is_unbroken (body ++ r ∷ []) ≡ true = unbroken_more body r u
          (ap (λ t. t && list_any has_word body) (closes_not_opens r c)) in
          let ih = cut_from_is n rs (body ++ r ∷ []) (missing - 1) true pos count2 (omega (arith, two)) word whole in
          rw (cut_counts n missing some body r rs c m)
          (subst (λ l. AreCut n l (cut n (missing - 1) true (body ++ r ∷ []) rs))
          (append_assoc body (r ∷ []) rs) ih)
    ]
    | inr c ↦
        let ended : ends (r ∷ []) ≡ 0 = rw c refl in
        let count2 : ends (body ++ r ∷ []) + missing ≡ n = (let e = ends_more body r in omega (arith, e, ended)) in
        let word : (some || has_word r) ≡ list_any has_word (body ++ r ∷ []) = ap (λ t. t || has_word r) s
        ∙ sym (any_more body r) in
        let whole : is_unbroken (body ++ r ∷ []) ≡ true = unbroken_more body r u (ap (λ t. opens r && t) (sym s) ∙ o) in
        let ih = cut_from_is n rs (body ++ r ∷ []) missing (some || has_word r) pos count2 more word whole in
        rw (cut_goes n missing some body r rs o c)
        (subst (λ l. AreCut n l (cut n missing (some || has_word r) (body ++ r ∷ []) rs))
        (append_assoc body (r ∷ []) rs) ih)
  ]
]

pub cut_is : (n : ℕ) (rs : List (List ℕ)) → 1 ≤ n → AreCut n rs (cut n n false [] rs)
cut_is n rs pos = cut_from_is n rs [] n false pos (none_ended n) pos refl refl

-- ---- there is no other

-- lines that end no piece go to the piece so far
abbrev goes : Bool → List (List ℕ) → Bool
goes some body = cond some (none_opens body) (is_unbroken body)

goes_parts : (some : Bool) (r : List ℕ) (body : List (List ℕ)) → goes some (r ∷ body) ≡ true
    → ((opens r && some) ≡ false) × (goes (some || has_word r) body ≡ true)
goes_parts true r body g = let p = and_parts (not (opens r)) (none_opens body) g in (shut (opens r) p.0, p.1)
  where
    shut : (t : Bool) → not t ≡ true → (t && true) ≡ false
    shut true e = absurd (false≢true e)
    shut false e = refl
goes_parts false r body g =
    (and-false (opens r), elim (cases_Bool (has_word r)) [ inl e ↦ rw e (rw e at g) | inr e ↦ rw e (rw e at g) ])

pub cut_along : (n : ℕ) (body rest piece : List (List ℕ)) (missing : ℕ) (some : Bool) → ends body < missing
    → goes some body ≡ true → cut n missing some piece (body ++ rest) ≡ cut n (missing - ends body)
    (some || list_any has_word body) (piece ++ body) rest
cut_along n [] rest piece missing some few g =
    rw append-nil (elim some as (λ t. cut n missing t piece rest ≡ cut n (missing - 0)
    (t || false) piece rest) [
      | true ↦ ap (λ k. cut n k true piece rest) less
      | false ↦ ap
          (λ k. cut n k false piece rest) less
    ])
  where
    less : missing ≡ missing - 0
    less = omega arith
cut_along n (r ∷ body) rest piece missing some few g =
    let p = goes_parts some r body g in
    elim (cases_Bool (closes r)) [
      | inl c ↦
          let ended : ends (r ∷ body) ≡ ends body + 1 = rw c refl in
          let two : nat_le missing 1 ≡ false = lt-leb missing 1 (omega (arith, ended)) in
          let word : (some || has_word r) ≡ true = rw (closes_word r c) (or-true some) in
          let on : goes true body ≡ true = subst (λ t. goes t body ≡ true) word p.1 in
          let ih = cut_along n body rest (piece ++ r ∷ []) (missing - 1) true (omega (arith, ended)) on in
          let any : true ≡ (some || (has_word r || list_any has_word body)) = rw (closes_word r c)
          (sym (or-true some)) in
          cut_counts n missing some piece r (body ++ rest) c two
          ∙ (ih ∙ same3 n _ _ _ _ _ _ rest (omega (arith, ended)) any (append_assoc piece (r ∷ []) body))
      | inr c ↦
          let ended : ends (r ∷ body) ≡ ends body = rw c refl in
          let ih = cut_along n body rest (piece ++ r ∷ []) missing (some || has_word r) (omega (arith, ended)) p.1 in
          cut_goes n missing some piece r (body ++ rest) p.0 c
          ∙ (ih ∙ same3 n _ _ _ _ _ _ rest (omega (arith, ended)) (or_assoc some (has_word r) (list_any has_word body))
          (append_assoc piece (r ∷ []) body))
    ]
  where
    same3 : (n j k : ℕ) (s t : Bool) (x y rest : List (List ℕ)) → j ≡ k → s ≡ t → x ≡ y
        → cut n j s x rest ≡ cut n k t y rest
    same3 n j k s t x y rest a b c = cc

wordless_cut : (n : ℕ) (rest piece : List (List ℕ)) (missing : ℕ) → list_any has_word rest ≡ false
    → cut n missing false piece rest ≡ []
wordless_cut n [] piece missing e = refl
wordless_cut n (r ∷ rest) piece missing e = elim (cases_Bool (has_word r)) [
  | inl w ↦ absurd (true≢false (rw w at e))
  | inr w ↦
      let c : closes r ≡ false = (elim
      (cases_Bool (closes r)) [ inl c ↦ absurd (true≢false (sym (closes_word r c) ∙ w)) | inr c ↦ c ]) in
      let none : list_any has_word rest ≡ false = rw w at e in
      cut_goes n missing false piece r rest (and-false (opens r)) c
      ∙ (ap (λ t. cut n missing (false || t) (piece ++ r ∷ []) rest) w
      ∙ wordless_cut n rest (piece ++ r ∷ []) missing none)
]

pub cut_one : (n : ℕ) (rs : List (List ℕ)) (parts : List (List (List ℕ))) → AreCut n rs parts
    → parts ≡ cut n n false [] rs
cut_one n rs parts (no_more rest e) = sym (wordless_cut n rest [] n e)
cut_one n rs parts (closed body last after others b count c rest) =
    let on = cut_along n body (last ∷ after) [] n false b.few b.unbroken in
    let one : nat_le (n - ends body) 1 ≡ true = le-leb (n - ends body) 1 (omega (arith, count)) in
    ap (λ ps. (body ++ last ∷ []) ∷ ps) (cut_one n after others rest)
    ∙ sym (on ∙ cut_closes n (n - ends body) (false || list_any has_word body) body last after c one)
cut_one n rs parts (broken body next after others b w o rest) =
    let on = cut_along n body (next ∷ after) [] n false b.few b.unbroken in
    let begun : (opens next && (false || list_any has_word body)) ≡ true = rw (o, w) refl in
    let c = opens_not_closes next o in
    let first : cut n n false [] (next ∷ after) ≡ cut n n true (next ∷ []) after = cut_goes n n false [] next after
    (and-false (opens next)) c ∙ ap (λ t. cut n n (false || t) (next ∷ []) after) (opens_word next o) in
    ap (λ ps. body ∷ ps) (cut_one n (next ∷ after) others rest ∙ first)
    ∙ sym (on ∙ cut_opens n (n - ends body) (false || list_any has_word body) body next after begun)
cut_one n rs parts (at_end body b w) =
    let on = cut_along n body [] [] n false b.few b.unbroken in
    sym (ap (λ l. cut n n false [] l) (sym (append-nil body)) ∙ (on ∙ ap (λ t. cond (false || t) (body ∷ []) []) w))
