-- What was seen of a line byte by byte is what its words say.
--
-- Main results: word_looks, end_looks, om_looks.
use Rattle.std.specs.Prelude.{ℕ, ◌≡◌, List, [], ◌∷◌, ◌++◌, Bool, true, false, cond, nat_eq, ◌&&◌, codes, bytes_eq}
use Rattle.std.specs.Prelude.{filter}
use Rattle.std.proofs.Common.{refl, sym, ap, ◌∙◌, inl, inr}
use Rattle.std.proofs.lemmas.Bool.{cases_Bool, eqb-true, true≢false}
use Rattle.om_lines.specs.Lines.{end_line, first_word, is_blank, uncommented, pieces, with_first, has_any, words}
use Rattle.om_lines.specs.Lines.{is_line}
use Rattle.om_pieces.specs.declared.seen.Seen.{Seen}
use Rattle.om_pieces.specs.declared.seen.Seen.TheVariants.{Blank, BlankComment, E, En, End, EndBlank, EndComment, O, Om}
use Rattle.om_pieces.specs.declared.seen.Seen.TheVariants.{OmMore, Other}
use Rattle.om_pieces.specs.SeenOfLine.{with_comment, with_blank, with_letter, seen_with, some_seen, end_seen, om_seen}

-- what is seen of bytes behind what was seen
abbrev pub seen_from : Seen → List ℕ → Seen
seen_from s [] = s
seen_from s (b ∷ bs) = seen_from (seen_with s b) bs

pub seen_behind : (s : Seen) (g : List ℕ) (b : ℕ) → seen_from s (g ++ b ∷ []) ≡ seen_with (seen_from s g) b
seen_behind s [] b = refl
seen_behind s (x ∷ g) b = seen_behind (seen_with s x) g b

-- ---- what the pieces of the bytes behind say together with what was seen

abbrev some_of : Seen → List (List ℕ) → Bool
some_of Blank q = has_any (filter has_any q)
some_of s q = some_seen s

abbrev end_of : Seen → List (List ℕ) → Bool
end_of Blank q = is_line (filter has_any q) end_line
end_of E (p ∷ ps) = bytes_eq p (codes "nd") && is_line (filter has_any ps) []
end_of En (p ∷ ps) = bytes_eq p (codes "d") && is_line (filter has_any ps) []
end_of End (p ∷ ps) = bytes_eq p [] && is_line (filter has_any ps) []
end_of EndBlank q = is_line (filter has_any q) []
end_of s q = end_seen s

abbrev om_of : Seen → List (List ℕ) → Bool
om_of Blank q = bytes_eq (first_word (filter has_any q)) (codes "om")
om_of O (p ∷ ps) = bytes_eq p (codes "m")
om_of Om (p ∷ ps) = bytes_eq p []
om_of s q = om_seen s

-- the pieces of a byte and bytes, from those of the bytes
abbrev shifted : ℕ → List (List ℕ) → List (List ℕ)
shifted b q = cond (nat_eq b 35) ([] ∷ []) (cond (is_blank b) ([] ∷ q) (with_first b q))

shift : (b : ℕ) (bs : List ℕ) → pieces (uncommented (b ∷ bs)) ≡ shifted b (pieces (uncommented bs))
shift b bs =
    elim (nat_eq b 35) as (λ t. pieces (cond t [] (b ∷ uncommented bs)) ≡ cond t ([] ∷ [])
    (cond (is_blank b) ([] ∷ pieces (uncommented bs))
    (with_first b (pieces (uncommented bs))))) [ true ↦ refl | false ↦ refl ]

-- ---- a step

some_step : (s : Seen) (h k : Bool) (b : ℕ) (p : List ℕ) (ps : List (List ℕ))
    → some_of (cond h (with_comment s) (cond k (with_blank s) (with_letter s b))) (p ∷ ps) ≡ some_of s
    (cond h ([] ∷ []) (cond k ([] ∷ p ∷ ps) ((b ∷ p) ∷ ps)))
some_step Blank true k b p ps = refl
some_step Blank false true b p ps = refl
some_step Blank false false b p ps =
    elim (nat_eq b 101) as (λ t. some_of (cond t E (cond (nat_eq b 111) O Other)) (p ∷ ps)
    ≡ true) [
      | true ↦ refl
      | false ↦ elim (nat_eq b 111) as
          (λ u. some_of (cond u O Other) (p ∷ ps) ≡ true) [ true ↦ refl | false ↦ refl ]
    ]
some_step BlankComment true k b p ps = refl
some_step BlankComment false true b p ps = refl
some_step BlankComment false false b p ps = refl
some_step E true k b p ps = refl
some_step E false true b p ps = refl
some_step E false false b p ps =
    elim (nat_eq b 110) as (λ t. some_of (cond t En Other) (p ∷ ps) ≡ true) [ true ↦ refl | false ↦ refl ]
some_step En true k b p ps = refl
some_step En false true b p ps = refl
some_step En false false b p ps =
    elim (nat_eq b 100) as (λ t. some_of (cond t End Other) (p ∷ ps) ≡ true) [ true ↦ refl | false ↦ refl ]
some_step End true k b p ps = refl
some_step End false true b p ps = refl
some_step End false false b p ps = refl
some_step EndBlank true k b p ps = refl
some_step EndBlank false true b p ps = refl
some_step EndBlank false false b p ps = refl
some_step EndComment true k b p ps = refl
some_step EndComment false true b p ps = refl
some_step EndComment false false b p ps = refl
some_step O true k b p ps = refl
some_step O false true b p ps = refl
some_step O false false b p ps =
    elim (nat_eq b 109) as (λ t. some_of (cond t Om Other) (p ∷ ps) ≡ true) [ true ↦ refl | false ↦ refl ]
some_step Om true k b p ps = refl
some_step Om false true b p ps = refl
some_step Om false false b p ps = refl
some_step OmMore true k b p ps = refl
some_step OmMore false true b p ps = refl
some_step OmMore false false b p ps = refl
some_step Other true k b p ps = refl
some_step Other false true b p ps = refl
some_step Other false false b p ps = refl

end_step : (s : Seen) (h k : Bool) (b : ℕ) (p : List ℕ) (ps : List (List ℕ))
    → end_of (cond h (with_comment s) (cond k (with_blank s) (with_letter s b))) (p ∷ ps) ≡ end_of s
    (cond h ([] ∷ []) (cond k ([] ∷ p ∷ ps) ((b ∷ p) ∷ ps)))
end_step Blank true k b p ps = refl
end_step Blank false true b p ps = refl
end_step Blank false false b p ps =
    elim (nat_eq b 101) as (λ t. end_of (cond t E (cond (nat_eq b 111) O Other)) (p ∷ ps) ≡
    ((t && bytes_eq p (codes "nd")) && is_line (filter has_any ps) [])) [
      | true ↦ refl
      | false ↦ elim
          (nat_eq b 111) as (λ u. end_of (cond u O Other) (p ∷ ps) ≡ false) [ true ↦ refl | false ↦ refl ]
    ]
end_step BlankComment true k b p ps = refl
end_step BlankComment false true b p ps = refl
end_step BlankComment false false b p ps = refl
end_step E true k b p ps = refl
end_step E false true b p ps = refl
end_step E false false b p ps =
    elim (nat_eq b 110) as (λ t. end_of (cond t En Other) (p ∷ ps) ≡
    ((t && bytes_eq p (codes "d")) && is_line (filter has_any ps) [])) [ true ↦ refl | false ↦ refl ]
end_step En true k b p ps = refl
end_step En false true b p ps = refl
end_step En false false b p ps =
    elim (nat_eq b 100) as (λ t. end_of (cond t End Other) (p ∷ ps) ≡
    ((t && bytes_eq p []) && is_line (filter has_any ps) [])) [ true ↦ refl | false ↦ refl ]
end_step End true k b p ps = refl
end_step End false true b p ps = refl
end_step End false false b p ps = refl
end_step EndBlank true k b p ps = refl
end_step EndBlank false true b p ps = refl
end_step EndBlank false false b p ps = refl
end_step EndComment true k b p ps = refl
end_step EndComment false true b p ps = refl
end_step EndComment false false b p ps = refl
end_step O true k b p ps = refl
end_step O false true b p ps = refl
end_step O false false b p ps =
    elim (nat_eq b 109) as (λ t. end_of (cond t Om Other) (p ∷ ps) ≡ false) [ true ↦ refl | false ↦ refl ]
end_step Om true k b p ps = refl
end_step Om false true b p ps = refl
end_step Om false false b p ps = refl
end_step OmMore true k b p ps = refl
end_step OmMore false true b p ps = refl
end_step OmMore false false b p ps = refl
end_step Other true k b p ps = refl
end_step Other false true b p ps = refl
end_step Other false false b p ps = refl

-- a byte isn't both `e` and `o`
e_or_o : (c : ℕ) → (nat_eq c 101 && nat_eq c 111) ≡ false
e_or_o c = elim (cases_Bool (nat_eq c 101)) [ inl e ↦ rw (eqb-true c 101 e) refl | inr e ↦ rw e refl ]

om_step : (s : Seen) (h k : Bool) (b : ℕ) (p : List ℕ) (ps : List (List ℕ))
    → om_of (cond h (with_comment s) (cond k (with_blank s) (with_letter s b))) (p ∷ ps) ≡ om_of s
    (cond h ([] ∷ []) (cond k ([] ∷ p ∷ ps) ((b ∷ p) ∷ ps)))
om_step Blank true k b p ps = refl
om_step Blank false true b p ps = refl
om_step Blank false false b p ps = apart (nat_eq b 101) (nat_eq b 111) (e_or_o b)
  where
    apart : (t u : Bool) → (t && u) ≡ false → om_of (cond t E (cond u O Other)) (p ∷ ps) ≡ (u && bytes_eq p (codes "m"))
    apart true true e = absurd (true≢false e)
    apart true false e = refl
    apart false true e = refl
    apart false false e = refl
om_step BlankComment true k b p ps = refl
om_step BlankComment false true b p ps = refl
om_step BlankComment false false b p ps = refl
om_step E true k b p ps = refl
om_step E false true b p ps = refl
om_step E false false b p ps =
    elim (nat_eq b 110) as (λ t. om_of (cond t En Other) (p ∷ ps) ≡ false) [ true ↦ refl | false ↦ refl ]
om_step En true k b p ps = refl
om_step En false true b p ps = refl
om_step En false false b p ps =
    elim (nat_eq b 100) as (λ t. om_of (cond t End Other) (p ∷ ps) ≡ false) [ true ↦ refl | false ↦ refl ]
om_step End true k b p ps = refl
om_step End false true b p ps = refl
om_step End false false b p ps = refl
om_step EndBlank true k b p ps = refl
om_step EndBlank false true b p ps = refl
om_step EndBlank false false b p ps = refl
om_step EndComment true k b p ps = refl
om_step EndComment false true b p ps = refl
om_step EndComment false false b p ps = refl
om_step O true k b p ps = refl
om_step O false true b p ps = refl
om_step O false false b p ps =
    elim (nat_eq b 109) as (λ t. om_of (cond t Om Other) (p ∷ ps) ≡ (t && bytes_eq p [])) [ true ↦ refl | false ↦ refl ]
om_step Om true k b p ps = refl
om_step Om false true b p ps = refl
om_step Om false false b p ps = refl
om_step OmMore true k b p ps = refl
om_step OmMore false true b p ps = refl
om_step OmMore false false b p ps = refl
om_step Other true k b p ps = refl
om_step Other false true b p ps = refl
om_step Other false false b p ps = refl

-- ---- all bytes of a line

-- the pieces of bytes are some
abbrev Whole : List ℕ → Type 0
Whole bs = (p : List ℕ) × ((ps : List (List ℕ)) × (pieces (uncommented bs) ≡ p ∷ ps))

some_shifted : (h k : Bool) (b : ℕ) (p : List ℕ) (ps : List (List ℕ))
    → (r : List ℕ) × ((rs : List (List ℕ)) × (cond h ([] ∷ []) (cond k ([] ∷ p ∷ ps) ((b ∷ p) ∷ ps)) ≡ r ∷ rs))
some_shifted true k b p ps = ([], ([], refl))
some_shifted false true b p ps = ([], (p ∷ ps, refl))
some_shifted false false b p ps = (b ∷ p, (ps, refl))

whole : (bs : List ℕ) → Whole bs
whole [] = ([], ([], refl))
whole (b ∷ bs) =
    let w = whole bs in
    let s = some_shifted (nat_eq b 35) (is_blank b) b w.0 w.1.0 in
    (s.0, (s.1.0, shift b bs ∙ (ap (shifted b) w.1.1 ∙ s.1.1)))

-- a test that goes from step to step says the same of all bytes
along : (X : Seen → List (List ℕ) → Bool)
    → ((s : Seen) (h k : Bool) (b : ℕ) (p : List ℕ) (ps : List (List ℕ))
    → X (cond h (with_comment s) (cond k (with_blank s) (with_letter s b))) (p ∷ ps) ≡ X s
    (cond h ([] ∷ []) (cond k ([] ∷ p ∷ ps) ((b ∷ p) ∷ ps))))
    → (s : Seen) (bs : List ℕ) → X (seen_from s bs) ([] ∷ []) ≡ X s (pieces (uncommented bs))
along X step s [] = refl
along X step s (b ∷ bs) =
    let w = whole bs in
    along X step (seen_with s b) bs
    ∙ (ap (X (seen_with s b)) w.1.1
    ∙ (step s (nat_eq b 35) (is_blank b) b w.0 w.1.0
    ∙ (ap (λ q. X s (shifted b q)) (sym w.1.1) ∙ ap (X s) (sym (shift b bs)))))

-- ---- the end of a line

some_last : (s : Seen) → some_seen s ≡ some_of s ([] ∷ [])
some_last Blank = refl
some_last BlankComment = refl
some_last E = refl
some_last En = refl
some_last End = refl
some_last EndBlank = refl
some_last EndComment = refl
some_last O = refl
some_last Om = refl
some_last OmMore = refl
some_last Other = refl

end_last : (s : Seen) → end_seen s ≡ end_of s ([] ∷ [])
end_last Blank = refl
end_last BlankComment = refl
end_last E = refl
end_last En = refl
end_last End = refl
end_last EndBlank = refl
end_last EndComment = refl
end_last O = refl
end_last Om = refl
end_last OmMore = refl
end_last Other = refl

om_last : (s : Seen) → om_seen s ≡ om_of s ([] ∷ [])
om_last Blank = refl
om_last BlankComment = refl
om_last E = refl
om_last En = refl
om_last End = refl
om_last EndBlank = refl
om_last EndComment = refl
om_last O = refl
om_last Om = refl
om_last OmMore = refl
om_last Other = refl

pub word_looks : (line : List ℕ) → some_seen (seen_from Blank line) ≡ has_any (words line)
word_looks line = some_last (seen_from Blank line) ∙ along some_of some_step Blank line

pub end_looks : (line : List ℕ) → end_seen (seen_from Blank line) ≡ is_line (words line) end_line
end_looks line = end_last (seen_from Blank line) ∙ along end_of end_step Blank line

pub om_looks : (line : List ℕ) → om_seen (seen_from Blank line) ≡ bytes_eq (first_word (words line)) (codes "om")
om_looks line = om_last (seen_from Blank line) ∙ along om_of om_step Blank line
