-- The pieces of a cut, one behind the other, and what is left behind them without a word are the bytes.
--
-- Main results: gives_back.
use Rattle.std.specs.Prelude.{ℕ, ◌≡◌, List, [], ◌∷◌, ◌++◌, false, nat_eq, flat_map, map}
use Rattle.std.specs.List.{list_any}
use Rattle.std.proofs.Common.{refl, sym, ap, ◌∙◌, subst, append_assoc, append-nil, inl, inr}
use Rattle.std.proofs.lemmas.Bool.{cases_Bool, eqb-true, cond-true, cond-false}
use Rattle.std.proofs.lemmas.List.Concat.{flat_map-append}
use Rattle.om_lines.specs.Lines.{with_first}
use Rattle.om_pieces.specs.Pieces.{Line, Piece, full_lines, has_word, AreCut, no_more, closed, broken, at_end, bytes_of}
use Rattle.om_pieces.specs.Pieces.{IsCut, GiveBack}

-- ---- the lines of bytes, and the bytes of lines

first_back : (b : ℕ) (lines : List Line) → bytes_of (with_first b lines) ≡ b ∷ bytes_of lines
first_back b [] = refl
first_back b (line ∷ lines) = refl

bytes_back : (bytes : List ℕ) → bytes_of (full_lines bytes) ≡ bytes
bytes_back [] = refl
bytes_back (b ∷ bs) = elim (cases_Bool (nat_eq b 10)) [
  | inl e ↦ ap bytes_of (cond-true (nat_eq b 10) _ _ e) ∙
      (ap (λ l. 10 ∷ l) (bytes_back bs) ∙ ap (λ c. c ∷ bs) (sym (eqb-true b 10 e)))
  | inr e ↦ ap bytes_of (cond-false (nat_eq b 10) _ _ e) ∙
      (first_back b (full_lines bs) ∙ ap (λ l. b ∷ l) (bytes_back bs))
]

tails : (a b : Line) (xs ys : List Line) → ◌≡◌ {A = List Line} (a ∷ xs) (b ∷ ys) → xs ≡ ys
tails a b xs ys e = cc

none_full : (a : Line) (xs : List Line) → ◌≡◌ {A = List Line} [] (a ∷ xs) → ⊥
none_full a xs e = cc

none_behind : (body rest : List Line) → ◌≡◌ {A = List Line} [] (body ++ rest) → rest ≡ []
none_behind [] rest e = sym e
none_behind (line ∷ body) rest e = absurd (none_full line (body ++ rest) e)

-- the last lines of bytes are the lines of their own bytes
lines_back : (bytes : List ℕ) (body rest : List Line) → full_lines bytes ≡ body ++ rest
    → full_lines (bytes_of rest) ≡ rest
lines_back bytes [] rest e = ap (λ l. full_lines (bytes_of l)) (sym e) ∙ (ap full_lines (bytes_back bytes) ∙ e)
lines_back [] (line ∷ body) rest e = absurd (none_full line (body ++ rest) e)
lines_back (b ∷ bs) (line ∷ body) rest e = elim (cases_Bool (nat_eq b 10)) [
  | inl h ↦ lines_back bs body rest (tails _ _ _ _ (sym (cond-true (nat_eq b 10) _ _ h) ∙ e))
  | inr h ↦ longer (full_lines bs) (λ others k. lines_back bs others rest k) refl
      (sym (cond-false (nat_eq b 10) _ _ h) ∙ e)
]
  where
    longer : (lines : List Line) → ((others : List Line) → full_lines bs ≡ others ++ rest
        → full_lines (bytes_of rest) ≡ rest) → full_lines bs ≡ lines → with_first b lines ≡ line ∷ (body ++ rest)
        → full_lines (bytes_of rest) ≡ rest
    longer [] on k f = subst (λ l. full_lines (bytes_of l) ≡ l) (sym (none_behind body rest (tails _ _ _ _ f))) refl
    longer (first ∷ lines) on k f = on (first ∷ body) (k ∙ ap (λ l. first ∷ l) (tails _ _ _ _ f))

-- ---- the lines of a cut

abbrev all_lines : List Piece → List Line
all_lines = flat_map (λ part. part)

abbrev Whole : List Line → List Piece → Type 0
Whole lines parts = (rest : List Line) × ((lines ≡ all_lines parts ++ rest) × (list_any has_word rest ≡ false))

with_closed : (body : Piece) (last : Line) (after : List Line) (others : List Piece) → Whole after others
    → Whole (body ++ last ∷ after) ((body ++ last ∷ []) ∷ others)
with_closed body last after others (rest, (e, w)) = (
  rest,
  (
    ap (λ l. body ++ last ∷ l) e ∙ sym
        (append_assoc (body ++ last ∷ []) (all_lines others) rest
        ∙ append_assoc body (last ∷ []) (all_lines others ++ rest)),
    w,
  ),
)

with_broken : (body : Piece) (after : List Line) (others : List Piece) → Whole after others
    → Whole (body ++ after) (body ∷ others)
with_broken body after others (rest, (e, w)) =
    (rest, (ap (λ l. body ++ l) e ∙ sym (append_assoc body (all_lines others) rest), w))

cut_whole : (n : ℕ) (lines : List Line) (parts : List Piece) → AreCut n lines parts → Whole lines parts
cut_whole n lines parts (no_more rest w) = (rest, (refl, w))
cut_whole n lines parts (closed body last after others b count c more) =
    with_closed body last after others (cut_whole n after others more)
cut_whole n lines parts (broken body next after others b w o more) =
    with_broken body (next ∷ after) others (cut_whole n (next ∷ after) others more)
cut_whole n lines parts (at_end body b w) = ([], (sym (append-nil (body ++ []) ∙ append-nil body), refl))

-- ---- their bytes

bytes_all : (parts : List Piece) → bytes_of (all_lines parts) ≡ flat_map (λ piece. piece) (map bytes_of parts)
bytes_all [] = refl
bytes_all (part ∷ parts) =
    flat_map-append (λ line. line) part (all_lines parts) ∙ ap (λ l. bytes_of part ++ l) (bytes_all parts)

pub gives_back : (n : ℕ) (bytes : List ℕ) (pieces : List (List ℕ)) → IsCut n bytes pieces → GiveBack pieces bytes
gives_back n bytes pieces (parts, (c, e)) = of_whole (cut_whole n (full_lines bytes) parts c)
  where
    of_whole : Whole (full_lines bytes) parts → GiveBack pieces bytes
    of_whole (rest, (f, w)) = (
      bytes_of rest,
      (
        sym (bytes_back bytes) ∙ (ap bytes_of f ∙
            (flat_map-append (λ line. line) (all_lines parts) rest
            ∙ ap (λ l. l ++ bytes_of rest) (bytes_all parts ∙ ap (flat_map (λ piece. piece)) (sym e)))),
        ap (list_any has_word) (lines_back bytes (all_lines parts) rest f) ∙ w,
      ),
    )
