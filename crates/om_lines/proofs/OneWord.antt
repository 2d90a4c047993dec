-- Bytes that are one word and blanks.
--
-- Main definitions: is_alone
-- Main results: end_alone, end_first, no_end_first
use Rattle.std.proofs.Common.{◌≡◌, ℕ, ◌-◌, List, [], ◌∷◌, Bool, true, false, refl, sym, ap, ◌∙◌, inl, inr, nat_eq}
use Rattle.std.proofs.Common.{length, take, drop, not, subst}
use Rattle.std.specs.Prelude.{◌&&◌, filter, bytes_eq, codes}
use Rattle.std.specs.List.{list_all, position_or_len}
use Rattle.std.proofs.lemmas.Bool.{cases_Bool, eqb-true, true≢false, not-true, and_parts}
use Rattle.std.proofs.lemmas.List.{take_rest}
use Rattle.om_lines.specs.Lines.{is_blank, pieces, with_first, has_any, runs, is_line, end_line}
use Rattle.om_lines.proofs.Scan.{all_blank, drop_one, runs_after_blanks}

-- whether bytes are this word, with nothing but blanks behind it
abbrev pub is_alone : List ℕ → List ℕ → Bool
is_alone [] bs = list_all is_blank bs
is_alone (c ∷ w) [] = false
is_alone (c ∷ w) (b ∷ bs) = nat_eq b c && is_alone w bs

-- ---- pieces between blanks

-- whether the first piece is this word, and no other one has a byte
abbrev first_is : List ℕ → List (List ℕ) → Bool
first_is w [] = false
first_is w (x ∷ xs) = bytes_eq x w && is_line (filter has_any xs) []

none_more : (ws : List (List ℕ)) → is_line ws [] ≡ not (has_any ws)
none_more [] = refl
none_more (w ∷ ws) = refl

and_assoc : (a b c : Bool) → ((a && b) && c) ≡ (a && (b && c))
and_assoc true b c = refl
and_assoc false b c = refl

no_more : (b : ℕ) (ps : List (List ℕ)) → first_is [] (with_first b ps) ≡ false
no_more b [] = refl
no_more b (x ∷ xs) = refl

-- there is always a piece
pieces_some : (bs : List ℕ) → (x : List ℕ) × ((xs : List (List ℕ)) × (pieces bs ≡ x ∷ xs))
pieces_some [] = ([], ([], refl))
pieces_some (b ∷ bs) = elim (cases_Bool (is_blank b)) [
  | inl e ↦ ([], (pieces bs, rw e refl))
  | inr n ↦ let p = pieces_some bs in (b ∷ p.0, (p.1.0, rw (n, p.1.1) refl))
]

one_more : (c b : ℕ) (w bs : List ℕ)
    → first_is (c ∷ w) (with_first b (pieces bs)) ≡ (nat_eq b c && first_is w (pieces bs))
one_more c b w bs =
    let p = pieces_some bs in
    rw p.1.1 (and_assoc (nat_eq b c) (bytes_eq p.0 w) (is_line (filter has_any p.1.0) []))

blank_not : (b c : ℕ) → is_blank b ≡ true → is_blank c ≡ false → nat_eq b c ≡ false
blank_not b c e n = elim (cases_Bool (nat_eq b c)) [
  | inl same ↦ absurd (true≢false (sym e ∙ ap is_blank (eqb-true b c same) ∙ n))
  | inr other ↦ other
]

-- the first piece is the word exactly if the bytes are the word and blanks
pieces_alone : (w bs : List ℕ) → list_all (λ c. not (is_blank c)) w ≡ true → first_is w (pieces bs) ≡ is_alone w bs
pieces_alone [] [] h = refl
pieces_alone [] (b ∷ bs) h = elim (cases_Bool (is_blank b)) [
  | inl e ↦ rw e (none_more (runs bs) ∙ sym (all_blank bs))
  | inr n ↦ rw n (no_more b (pieces bs))
]
pieces_alone (c ∷ w) [] h = refl
pieces_alone (c ∷ w) (b ∷ bs) h =
    let p = and_parts (not (is_blank c)) (list_all (λ c. not (is_blank c)) w) h in
    elim (cases_Bool (is_blank b)) [
      | inl e ↦ rw (e, blank_not b c e (not-true (is_blank c) p.0)) refl
      | inr n ↦ rw n (one_more c b w bs ∙ ap (λ t. nat_eq b c && t) (pieces_alone w bs p.1))
    ]

-- ---- the word `end`

-- bytes that begin with no blank
end_from : (b : ℕ) (bs : List ℕ) → is_blank b ≡ false
    → is_line (runs (b ∷ bs)) end_line ≡ is_alone (codes "end") (b ∷ bs)
end_from b bs n =
    let p = pieces_some bs in
    let q : pieces (b ∷ bs) ≡ (b ∷ p.0) ∷ p.1.0 = rw (n, p.1.1) refl in
    ap (λ ps. is_line (filter has_any ps) end_line) q
    ∙ (sym (ap (first_is (codes "end")) q) ∙ pieces_alone (codes "end") (b ∷ bs) refl)

-- bytes behind the blanks that they begin with
end_behind : (bs : List ℕ) → is_line (runs (drop (position_or_len (λ b. not (is_blank b)) bs) bs)) end_line
    ≡ is_alone (codes "end") (drop (position_or_len (λ b. not (is_blank b)) bs) bs)
end_behind [] = refl
end_behind (b ∷ bs) = elim (cases_Bool (is_blank b)) [
  | inl e ↦
      let z : drop (position_or_len (λ b. not (is_blank b)) (b ∷ bs)) (b ∷ bs)
      ≡ drop (position_or_len (λ b. not (is_blank b)) bs) bs =
      rw e (drop_one (position_or_len (λ b. not (is_blank b)) bs) b bs) in
      subst (λ l. is_line (runs l) end_line ≡ is_alone (codes "end") l) (sym z) (end_behind bs)
  | inr n ↦
      let z : drop (position_or_len (λ b. not (is_blank b)) (b ∷ bs)) (b ∷ bs) ≡ b ∷ bs = rw n refl in
      subst (λ l. is_line (runs l) end_line ≡ is_alone (codes "end") l) (sym z) (end_from b bs n)
]

-- a line is `end` alone exactly if the bytes behind its first blanks are
pub end_alone : (line rest : List ℕ) (k : ℕ) → k ≡ position_or_len (λ b. not (is_blank b)) line
    → rest ≡ take (length line - k) (drop k line) → is_line (runs line) end_line ≡ is_alone (codes "end") rest
end_alone line rest k e r =
    let s : rest ≡ drop (position_or_len (λ b. not (is_blank b)) line) line =
    r ∙ take_rest line k ∙ ap (λ j. drop j line) e in
    ap (λ w. is_line w end_line) (runs_after_blanks line) ∙ (end_behind line ∙ ap (is_alone (codes "end")) (sym s))

-- the word, and then blanks
alone_front : (w bs : List ℕ)
    → is_alone w bs ≡ (bytes_eq (take (length w) bs) w && list_all is_blank (drop (length w) bs))
alone_front [] bs = refl
alone_front (c ∷ w) [] = refl
alone_front (c ∷ w) (b ∷ bs) =
    ap (λ t. nat_eq b c && t) (alone_front w bs)
    ∙ sym (and_assoc (nat_eq b c) (bytes_eq (take (length w) bs) w) (list_all is_blank (drop (length w) bs)))

-- bytes that begin with `end`
pub end_first : (bs rest : List ℕ) → bytes_eq (take 3 bs) (codes "end") ≡ true → rest ≡ drop 3 bs
    → is_alone (codes "end") bs ≡ not (has_any (runs rest))
end_first bs rest e r =
    alone_front (codes "end") bs
    ∙ (rw e (all_blank (drop 3 bs)) ∙ ap (λ l. not (has_any (runs l))) (sym r))

-- and bytes that don't
pub no_end_first : (bs : List ℕ) → bytes_eq (take 3 bs) (codes "end") ≡ false → is_alone (codes "end") bs ≡ false
no_end_first bs e = alone_front (codes "end") bs ∙ ap (λ t. t && list_all is_blank (drop 3 bs)) e
