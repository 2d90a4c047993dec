-- What the cutter makes of bytes, one by one, is the cut of their lines, of each piece its first bytes.
--
-- Main results: cut_pieces, whole_pieces, has_one_cut.
use Rattle.std.specs.Prelude.{ℕ, ◌≡◌, ◌-◌, ◌≤◌, List, [], ◌∷◌, ◌++◌, Bool, true, false, not, nat_eq, nat_le, ◌&&◌, ◌||◌}
use Rattle.std.specs.Prelude.{bytes_eq, codes, map, take, Option, Some, None}
use Rattle.std.specs.List.{list_all}
use Rattle.std.proofs.Common.{refl, sym, ap, ◌∙◌, append_assoc, append-nil, inl, inr}
use Rattle.std.proofs.lemmas.Bool.{cases_Bool, eqb-true, and_parts, not-true, cond-true, cond-false}
use Rattle.std.proofs.lemmas.List.Concat.{flat_map-append}
use Rattle.om_lines.specs.Lines.{end_line, first_word, has_any, words, with_first, is_line}
use Rattle.om_pieces.specs.declared.seen.Seen.{Seen}
use Rattle.om_pieces.specs.declared.seen.Seen.TheVariants.{Blank}
use Rattle.om_pieces.specs.Pieces.{full_lines, without_line_feed, has_word, closes, opens, bytes_of, IsCut, HasOneCut}
use Rattle.om_pieces.specs.SeenOfLine.{seen_with, some_seen, end_seen, om_seen}
use Rattle.om_pieces.specs.Making.{Making, most, with_line, nothing}
use Rattle.om_pieces.specs.Making.{lengthened, begun_anew, with_end, with_more, fed, last_ended, rest_of, option_list}
use Rattle.om_pieces.specs.Making.{completed, made}
use Rattle.om_pieces.proofs.Takes.{take_grows, take_both, take_none}
use Rattle.om_pieces.proofs.Looks.{seen_from, seen_behind, word_looks, end_looks, om_looks}
use Rattle.om_pieces.proofs.Cutting.{cut, cut_opens, cut_closes, cut_counts, cut_goes, cut_is, cut_one}

-- ---- lines

abbrev one_line : List ℕ → Bool
one_line = list_all (λ b. not (nat_eq b 10))

one_line_more : (g : List ℕ) (b : ℕ) → one_line g ≡ true → nat_eq b 10 ≡ false → one_line (g ++ b ∷ []) ≡ true
one_line_more [] b l e = rw e refl
one_line_more (x ∷ g) b l e =
    let p = and_parts (not (nat_eq x 10)) (one_line g) l in rw (p.0, one_line_more g b p.1 e) refl

full_lines_fed : (g bs : List ℕ) → one_line g ≡ true → full_lines (g ++ 10 ∷ bs) ≡ (g ++ 10 ∷ []) ∷ full_lines bs
full_lines_fed [] bs l = refl
full_lines_fed (x ∷ g) bs l =
    let p = and_parts (not (nat_eq x 10)) (one_line g) l in rw
    (not-true (nat_eq x 10) p.0, full_lines_fed g bs p.1) refl

full_lines_last : (x : ℕ) (g : List ℕ) → one_line (x ∷ g) ≡ true → full_lines (x ∷ g) ≡ (x ∷ g) ∷ []
full_lines_last x [] l = let p = and_parts (not (nat_eq x 10)) true l in rw (not-true (nat_eq x 10) p.0) refl
full_lines_last x (y ∷ g) l =
    let p = and_parts (not (nat_eq x 10)) (one_line (y ∷ g)) l in cond-false (nat_eq x 10) _ _
    (not-true (nat_eq x 10) p.0) ∙ ap (with_first x) (full_lines_last y g p.1)

without_feed_fed : (g bs : List ℕ) → one_line g ≡ true → without_line_feed (g ++ 10 ∷ bs) ≡ g
without_feed_fed [] bs l = refl
without_feed_fed (x ∷ g) bs l =
    let p = and_parts (not (nat_eq x 10)) (one_line g) l in rw
    (not-true (nat_eq x 10) p.0, without_feed_fed g bs p.1) refl

without_feed_last : (g : List ℕ) → one_line g ≡ true → without_line_feed g ≡ g
without_feed_last [] l = refl
without_feed_last (x ∷ g) l =
    let p = and_parts (not (nat_eq x 10)) (one_line g) l in rw
    (not-true (nat_eq x 10) p.0, without_feed_last g p.1) refl

-- ---- the end of a line

with_opens : (m : Making) → (om_seen m.seen && m.some) ≡ true → with_end m ≡ (begun_anew m, Some m.kept)
with_opens m o = cond-true (om_seen m.seen && m.some) _ _ o

with_closes : (m : Making) → (om_seen m.seen && m.some) ≡ false → end_seen m.seen ≡ true → nat_le m.missing 1 ≡ true
    → with_end m ≡ (nothing m.wanted, Some (with_line m.kept m.line))
with_closes m o c one =
    cond-false (om_seen m.seen && m.some) _ _ o ∙
    (cond-true (end_seen m.seen) _ _ c ∙ cond-true (nat_le m.missing 1) _ _ one)

with_counts : (m : Making) → (om_seen m.seen && m.some) ≡ false → end_seen m.seen ≡ true → nat_le m.missing 1 ≡ false
    → with_end m ≡ (lengthened m true (m.missing - 1), None)
with_counts m o c one =
    cond-false (om_seen m.seen && m.some) _ _ o ∙
    (cond-true (end_seen m.seen) _ _ c ∙ cond-false (nat_le m.missing 1) _ _ one)

with_goes : (m : Making) → (om_seen m.seen && m.some) ≡ false → end_seen m.seen ≡ false
    → with_end m ≡ (lengthened m (m.some || some_seen m.seen) m.missing, None)
with_goes m o c = cond-false (om_seen m.seen && m.some) _ _ o ∙ cond-false (end_seen m.seen) _ _ c

abbrev shown : List (List ℕ) → List ℕ
shown part = take most (bytes_of part)

-- the piece in the making: these lines, and of its last line these bytes, of which this was seen
abbrev holding : ℕ → ℕ → Bool → List (List ℕ) → List ℕ → Seen → Making
holding n missing some piece line seen =
    record { kept = shown piece; line = take most line; seen = seen; wanted = n; missing = missing; some = some }

abbrev state : ℕ → ℕ → Bool → List (List ℕ) → List ℕ → Making
state n missing some piece g = holding n missing some piece g (seen_from Blank g)

shown_more : (piece : List (List ℕ)) (r : List ℕ) → with_line (shown piece) (take most r) ≡ shown (piece ++ r ∷ [])
shown_more piece r =
    take_both most (bytes_of piece) r ∙ ap (take most)
    (ap (λ l. bytes_of piece ++ l) (sym (append-nil r)) ∙ sym (flat_map-append (λ line. line) piece (r ∷ [])))

-- a making with these bytes kept, at the start of a line
abbrev fresh : ℕ → ℕ → Bool → List ℕ → List ℕ → Making
fresh n missing some kept line =
    record { kept = kept; line = line; seen = Blank; wanted = n; missing = missing; some = some }

fresh_is : (n missing : ℕ) (some : Bool) (piece : List (List ℕ)) (kept : List ℕ) → kept ≡ shown piece
    → fresh n missing some kept [] ≡ state n missing some piece []
fresh_is n missing some piece kept e =
    ap (λ k. fresh n missing some k []) e ∙ ap (λ l. fresh n missing some (shown piece) l) (sym (take_none most))

-- what goes on behind the end of a line
abbrev then : (Making → List (List ℕ)) → Making × Option (List ℕ) → List (List ℕ)
then F e = option_list (e.1) ++ F (e.0)

line_ends : (F : Making → List (List ℕ)) (rs : List (List ℕ)) (n missing : ℕ) (some : Bool) (piece : List (List ℕ))
    (r g : List ℕ) → without_line_feed r ≡ g
    → ((k : ℕ) (s : Bool) (p : List (List ℕ)) → F (state n k s p []) ≡ map shown (cut n k s p rs))
    → then F (with_end (holding n missing some piece r (seen_from Blank g))) ≡ map shown
    (cut n missing some piece (r ∷ rs))
line_ends F rs n missing some piece r g u on = elim (cases_Bool (opens r && some)) [
  | inl o ↦
      ap (then F) (with_opens (holding n missing some piece r (seen_from Blank g)) (ap (λ t. t && some) eo ∙ o))
      ∙ (ap (λ k. shown piece ∷ F k) (fresh_is n n true (r ∷ []) (take most r) (ap (take most) (sym (append-nil r))))
      ∙ (ap (λ l. shown piece ∷ l) (on n true (r ∷ [])) ∙ ap (map shown) (sym (cut_opens n missing some piece r rs o))))
  | inr o ↦
      let o2 : (om_seen (seen_from Blank g) && some) ≡ false = ap (λ t. t && some) eo ∙ o in
      elim (cases_Bool (closes r)) [
        | inl c ↦ elim (cases_Bool (nat_le missing 1)) [
          | inl k ↦
              ap (then F) (with_closes (holding n missing some piece r (seen_from Blank g)) o2 (ec ∙ c) k)
              ∙ (ap (λ x. with_line (shown piece) (take most r) ∷ F x) (fresh_is n n false [] [] (sym (take_none most)))
              ∙ (ap (λ l. with_line (shown piece) (take most r) ∷ l) (on n false [])
              ∙ (ap (λ x. x ∷ map shown (cut n n false [] rs)) (shown_more piece r)
              ∙ ap (map shown) (sym (cut_closes n missing some piece r rs c k)))))
          | inr k ↦
              ap (then F) (with_counts (holding n missing some piece r (seen_from Blank g)) o2 (ec ∙ c) k)
              ∙ (ap F (fresh_is n (missing - 1) true (piece ++ r ∷ []) _ (shown_more piece r))
              ∙ (on (missing - 1) true (piece ++ r ∷ []) ∙ ap (map shown)
              (sym (cut_counts n missing some piece r rs c k))))
        ]
        | inr c ↦
            ap (then F) (with_goes (holding n missing some piece r (seen_from Blank g)) o2 (ec ∙ c))
            ∙ (ap (λ t. F (fresh n missing (some || t) (with_line (shown piece) (take most r)) [])) ew
            ∙ (ap F (fresh_is n missing (some || has_word r) (piece ++ r ∷ []) _ (shown_more piece r))
            ∙ (on missing (some || has_word r) (piece ++ r ∷ [])
            ∙ ap (map shown) (sym (cut_goes n missing some piece r rs o c)))))
      ]
]
  where
    eo : om_seen (seen_from Blank g) ≡ opens r
    eo = om_looks g ∙ ap (λ l. bytes_eq (first_word (words l)) (codes "om")) (sym u)

    ec : end_seen (seen_from Blank g) ≡ closes r
    ec = end_looks g ∙ ap (λ l. is_line (words l) end_line) (sym u)

    ew : some_seen (seen_from Blank g) ≡ has_word r
    ew = word_looks g ∙ ap (λ l. has_any (words l)) (sym u)

-- ---- all bytes

no_last : (m : Making) → has_any m.line ≡ false → last_ended m ≡ (m, None)
no_last m e = cond-false (has_any m.line) _ _ e

left_over : (n missing : ℕ) (some : Bool) (piece : List (List ℕ))
    → option_list (rest_of (state n missing some piece [])) ≡ map shown (cut n missing some piece [])
left_over n missing true piece = refl
left_over n missing false piece = refl

more_is : (n missing : ℕ) (some : Bool) (piece : List (List ℕ)) (g : List ℕ) (b : ℕ)
    → with_more (state n missing some piece g) b (seen_with (seen_from Blank g) b) ≡ state n missing some piece
    (g ++ b ∷ [])
more_is n missing some piece g b =
    ap (λ l. record {
      kept = shown piece;
      line = l;
      seen = seen_with
          (seen_from Blank g) b;
      wanted =
          n;
      missing =
          missing;
      some =
          some;
    }) (take_grows most g (b ∷ [])) ∙ ap (λ s. holding n missing some piece (g ++ b ∷ []) s)
    (sym (seen_behind Blank g b))

feed_is : (n missing : ℕ) (some : Bool) (piece : List (List ℕ)) (g : List ℕ)
    → with_more (state n missing some piece g) 10 (seen_from Blank g) ≡ holding n missing some piece (g ++ 10 ∷ [])
    (seen_from Blank g)
feed_is n missing some piece g =
    ap (λ l. record {
      kept = shown piece;
      line = l;
      seen = seen_from Blank g;
      wanted = n;
      missing = missing;
      some = some;
    }) (take_grows most g (10 ∷ []))

pub made_is : (bytes g : List ℕ) (n missing : ℕ) (some : Bool) (piece : List (List ℕ)) → one_line g ≡ true
    → made (state n missing some piece g) bytes ≡ map shown (cut n missing some piece (full_lines (g ++ bytes)))
made_is [] [] n missing some piece l =
    ap (then (λ m. option_list (rest_of m)))
    (no_last (state n missing some piece []) (ap (has_any {A = ℕ}) (take_none most)))
    ∙ left_over n missing some piece
made_is [] (x ∷ g) n missing some piece l =
    line_ends (λ m. option_list (rest_of m)) [] n missing some piece (x ∷ g) (x ∷ g) (without_feed_last (x ∷ g) l)
    (left_over n)
    ∙ ap (λ k. map shown (cut n missing some piece k))
    (sym (ap full_lines (append-nil (x ∷ g)) ∙ full_lines_last x g l))
made_is (b ∷ bs) g n missing some piece l = elim (cases_Bool (nat_eq b 10)) [
  | inl e ↦
      ap (then (λ m. made m bs)) (cond-true (nat_eq b 10) _ _ e
      ∙ (ap (λ c. with_end (with_more (state n missing some piece g) c (seen_from Blank g))) (eqb-true b 10 e)
      ∙ ap with_end (feed_is n missing some piece g)))
      ∙ (line_ends (λ m. made m bs) (full_lines bs) n missing some piece (g ++ 10 ∷ []) g (without_feed_fed g [] l)
      (λ k s p. made_is bs [] n k s p refl)
      ∙ ap (λ k. map shown (cut n missing some piece k))
      (sym (ap (λ c. full_lines (g ++ c ∷ bs)) (eqb-true b 10 e) ∙ full_lines_fed g bs l)))
  | inr e ↦
      ap (then (λ m. made m bs)) (cond-false (nat_eq b 10) _ _ e)
      ∙ (ap (λ m. made m bs) (more_is n missing some piece g b)
      ∙ (made_is bs (g ++ b ∷ []) n missing some piece (one_line_more g b l e)
      ∙ ap (λ k. map shown (cut n missing some piece (full_lines k))) (append_assoc g (b ∷ []) bs)))
]

shown_all : (parts : List (List (List ℕ))) → map shown parts ≡ map (take most) (map bytes_of parts)
shown_all [] = refl
shown_all (p ∷ ps) = ap (λ l. shown p ∷ l) (shown_all ps)

-- of bytes that are cut into pieces, the cutter makes the first bytes of each piece
pub cut_pieces : (n : ℕ) (bytes : List ℕ) (pieces : List (List ℕ)) → IsCut n bytes pieces
    → made (nothing n) bytes ≡ map (take most) pieces
cut_pieces n bytes pieces (parts, (c, e)) =
    ap (λ m. made m bytes) (fresh_is n n false [] [] (sym (take_none most)))
    ∙ (made_is bytes [] n n false [] refl
    ∙ (ap (map shown) (sym (cut_one n (full_lines bytes) parts c)) ∙ (shown_all parts ∙ ap (map (take most)) (sym e))))

-- what is whole in the first bytes is made first
completed_first : (m : Making) (bytes rest : List ℕ)
    → (left : List (List ℕ)) × (made m (bytes ++ rest) ≡ completed m bytes ++ left)
completed_first m [] rest = (made m rest, refl)
completed_first m (b ∷ bs) rest =
    let h = completed_first ((fed m b).0) bs rest in (
      h.0,
      ap (λ l. option_list ((fed m b).1) ++ l) h.1
          ∙ sym (append_assoc (option_list ((fed m b).1)) (completed ((fed m b).0) bs) h.0),
    )

pub whole_pieces : (n : ℕ) (bytes rest : List ℕ) (pieces : List (List ℕ)) → IsCut n (bytes ++ rest) pieces
    → (left : List (List ℕ)) × (map (take most) pieces ≡ completed (nothing n) bytes ++ left)
whole_pieces n bytes rest pieces c =
    let h = completed_first (nothing n) bytes rest in (h.0, sym (cut_pieces n (bytes ++ rest) pieces c) ∙ h.1)

-- if at least one `end` line closes a piece, bytes have exactly one cut into pieces
pub has_one_cut : (n : ℕ) (bytes : List ℕ) → 1 ≤ n → HasOneCut n bytes
has_one_cut n bytes pos = (
  map bytes_of (cut n n false [] (full_lines bytes)),
  ((cut n n false [] (full_lines bytes), (cut_is n (full_lines bytes) pos, refl)), only),
)
  where
    only : (others : List (List ℕ)) → IsCut n bytes others → others ≡ map bytes_of (cut n n false [] (full_lines bytes))
    only others (parts, (c, e)) = e ∙ ap (map bytes_of) (cut_one n (full_lines bytes) parts c)
