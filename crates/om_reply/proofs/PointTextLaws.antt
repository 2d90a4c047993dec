-- The text of vectors that a number gives.
--
-- Main results: the document of the points (points_form, points_more) and the lines of the summary (tally_pushed).
use Rattle.std.specs.Prelude.{ℕ, ℤ, ◌≡◌, ◌≤◌, ◌<◌, ◌+◌, List, [], ◌∷◌, ◌++◌, length, map, take, codes, refl, All}
use Rattle.std.proofs.Common.{inl, sym, subst, ap, ◌∙◌, get_or, append_assoc}
use Rattle.std.proofs.lemmas.List.{length-map, take_more}
use Rattle.std.proofs.lemmas.List.Elements.{All-push}
use Rattle.std.specs.Fmt.{decimal}
use Rattle.om_signs.specs.declared.limits.TheConstants.{MAX_ELEMENTS}
use Rattle.om_vectors.specs.declared.tally.Tally.{Tally}
use Rattle.om_document.specs.Form.{IsPoint, IsInForm}
use Rattle.om_document.specs.Print.{text_of}
use Rattle.om_vectors.specs.WholeVectors.{WholeVector}
use Rattle.om_reply.specs.VerdictText.{vector_numbers}
use Rattle.om_reply.specs.MadeTexts.{points_document, tally_lines}

-- ---- the document of the points

pub points_form : (vs : List WholeVector) → 1 ≤ length vs → length vs ≤ MAX_ELEMENTS
    → All IsPoint (map vector_numbers vs) → IsInForm (points_document vs)
points_form vs low high each =
    record {
      low = low;
      high = high;
      body = record { count = length-map vs vector_numbers; each = each };
      names =
          inl refl;
    }

pub points_more : (vs : List WholeVector) (k : ℕ) (d v : WholeVector) (old new : List (List ℤ)) → k < length vs
    → v ≡ get_or vs k d → old ≡ map vector_numbers (take k vs) → new ≡ old ++ vector_numbers v ∷ []
    → new ≡ map vector_numbers (take (k + 1) vs)
points_more vs k d v old new l is before pushed = pushed
    ∙ rw (before, is) (sym (ap (map vector_numbers) (take_more vs k d l) ∙ map_push (take k vs) (get_or vs k d)))
  where
    map_push : (ws : List WholeVector) (w : WholeVector)
        → map vector_numbers (ws ++ w ∷ []) ≡ map vector_numbers ws ++ vector_numbers w ∷ []
    map_push [] w = refl
    map_push (u ∷ us) w = ap (λ l. vector_numbers u ∷ l) (map_push us w)

-- the same, of a list that is equal to the vectors
pub points_more_of : (ws vs : List WholeVector) → ws ≡ vs → (k : ℕ) (d v : WholeVector) (old new : List (List ℤ))
    → k < length ws → v ≡ get_or ws k d → old ≡ map vector_numbers (take k vs) → new ≡ old ++ vector_numbers v ∷ []
    → new ≡ map vector_numbers (take (k + 1) vs)
points_more_of ws vs e k d v old new l is before pushed =
    subst (λ us. old ≡ map vector_numbers (take k us) → new ≡ map vector_numbers (take (k + 1) us)) e
    (λ b. points_more ws k d v old new l is b pushed) before

pub each_more : (old new : List (List ℤ)) (p : List ℤ) → new ≡ old ++ p ∷ [] → IsPoint p → All IsPoint old
    → All IsPoint new
each_more old new p pushed is each = subst (All IsPoint) (sym pushed) (All-push IsPoint old p each is)

-- ---- the lines of the summary

-- a line, and what is behind it
pushed_line : (a l rest x y : List ℕ) → x ≡ a ++ (l ++ 10 ∷ []) → y ≡ x ++ rest → y ≡ a ++ (l ++ 10 ∷ rest)
pushed_line a l rest x y p q = q ∙ ap (λ z. z ++ rest) p ∙ append_assoc a (l ++ 10 ∷ []) rest
    ∙ ap (λ z. a ++ z) (append_assoc l (10 ∷ []) rest)

pub count_pushed : (a name digits : List ℕ) → a ++ name ++ digits ++ 10 ∷ [] ≡ a ++ (name ++ digits ++ 10 ∷ [])
count_pushed a name digits = append_assoc (a ++ name) digits (10 ∷ []) ∙ append_assoc a name (digits ++ 10 ∷ [])
    ∙ ap (λ z. a ++ z) (sym (append_assoc name digits (10 ∷ [])))

pub tally_pushed : (t : Tally) (a b c d e f g h : List ℕ)
    → b ≡ a ++ (codes "plus " ++ decimal t.plus ++ 10 ∷ [])
    → c ≡ b ++ (codes "zero " ++ decimal t.zero ++ 10 ∷ [])
    → d ≡ c ++ (codes "minus " ++ decimal t.minus ++ 10 ∷ [])
    → e ≡ d ++ (codes "cocircuits " ++ decimal t.cocircuits ++ 10 ∷ [])
    → f ≡ e ++ (codes "covectors " ++ decimal t.covectors ++ 10 ∷ [])
    → g ≡ f ++ (codes "mutations " ++ decimal t.mutations ++ 10 ∷ [])
    → h ≡ g ++ codes "back equal\n" → h ≡ a ++ text_of (tally_lines t)
tally_pushed t a b c d e f g h p q r s u v w =
    let rest_6 = text_of (codes "back equal" ∷ []) in
    let rest_5 = (codes "mutations " ++ decimal t.mutations) ++ 10 ∷ rest_6 in
    let rest_4 = (codes "covectors " ++ decimal t.covectors) ++ 10 ∷ rest_5 in
    let rest_3 = (codes "cocircuits " ++ decimal t.cocircuits) ++ 10 ∷ rest_4 in
    let rest_2 = (codes "minus " ++ decimal t.minus) ++ 10 ∷ rest_3 in
    let rest_1 = (codes "zero " ++ decimal t.zero) ++ 10 ∷ rest_2 in
    pushed_line a (codes "plus " ++ decimal t.plus) rest_1 b h p
    (pushed_line b (codes "zero " ++ decimal t.zero) rest_2 c h q
    (pushed_line c (codes "minus " ++ decimal t.minus) rest_3 d h r
    (pushed_line d (codes "cocircuits " ++ decimal t.cocircuits) rest_4 e h s
    (pushed_line e (codes "covectors " ++ decimal t.covectors) rest_5 f h u
    (pushed_line f (codes "mutations " ++ decimal t.mutations) rest_6 g h v w)))))
