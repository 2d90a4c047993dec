-- What was answered in one call and what in the next make up what was answered in both.
--
-- Main results: nothing_yet, goes_further, stops_later, breaks_later.
use Rattle.std.specs.Prelude.{ℕ, ◌≡◌, ◌++◌, List, [], ◌∷◌, Option, max}
use Rattle.std.proofs.Common.{refl, sym, ap, ◌∙◌, append_assoc, append-nil, arith}
use Rattle.std.proofs.lemmas.List.Concat.{flat_map-append}
use Rattle.om_port.proofs.Known.{Appends-then}
use Rattle.om_port.proofs.Taking.{appended_none}
use Rattle.om_reply.specs.declared.answer.Answer.{Answer}
use Rattle.om_reply.specs.declared.status.Status.{Status}
use Rattle.om_reply.specs.Answers.{text_of}
use Rattle.om_program.specs.Answered.{AreMeant, none, one_more, texts, AreAnswered, GoesOn, Stops, Breaks}
use Rattle.om_program.specs.Statuses.{greatest}

pub both_meant : (M : List ℕ → Answer → Type 0) (ps qs : List (List ℕ)) (xs ys : List Answer) → AreMeant M ps xs
    → AreMeant M qs ys → AreMeant M (ps ++ qs) (xs ++ ys)
both_meant M ps qs xs ys none n = n
both_meant M ps qs xs ys (one_more p more x others m ms) n =
    one_more p (more ++ qs) x (others ++ ys) m (both_meant M more qs others ys ms n)

texts_both : (xs ys : List Answer) → texts (xs ++ ys) ≡ texts xs ++ texts ys
texts_both xs ys = flat_map-append text_of xs ys

greatest_both : (xs ys : List Answer) → greatest (xs ++ ys) ≡ max (greatest xs) (greatest ys)
greatest_both [] ys = omega arith
greatest_both (x ∷ xs) ys = let e = greatest_both xs ys in omega arith

pub nothing_yet : (M : List ℕ → Answer → Type 0) (all : List (List ℕ)) (s : Status) (o : Option (List ℕ))
    → GoesOn M all all s s o o
nothing_yet M all s o = ([], (refl, ([], (none, (appended_none o, omega arith)))))

pub goes_further : (M : List ℕ → Answer → Type 0) (all mid left : List (List ℕ)) (s t u : Status)
    (o m n : Option (List ℕ)) → GoesOn M all mid s t o m → GoesOn M mid left t u m n → GoesOn M all left s u o n
goes_further M all mid left s t u o m n (ps, (e, (xs, (a, (w, g))))) (qs, (f, (ys, (b, (v, h))))) = (
  ps ++ qs,
  (
    e ∙ (ap (λ k. ps ++ k) f ∙ sym (append_assoc ps qs left)),
    (
      xs ++ ys,
      (
        both_meant M ps qs xs ys a b,
        (rw (texts_both xs ys) (Appends-then o m n _ _ w v), (let k = greatest_both xs ys in omega (arith, g, h))),
      ),
    ),
  ),
)

pub stops_later : (M : List ℕ → Answer → Type 0) (all mid : List (List ℕ)) (s t : Status) (o m n : Option (List ℕ))
    → GoesOn M all mid s t o m → Stops M mid m n → Stops M all o n
stops_later M all mid s t o m n (ps, (e, (xs, (a, (w, g))))) (qs, (left, (f, (ys, (b, v))))) = (
  ps ++ qs,
  (
    left,
    (
      e ∙ (ap (λ k. ps ++ k) f ∙ sym (append_assoc ps qs left)),
      (xs ++ ys, (both_meant M ps qs xs ys a b, rw (texts_both xs ys) (Appends-then o m n _ _ w v))),
    ),
  ),
)

pub breaks_later : (M : List ℕ → Answer → Type 0) (all mid : List (List ℕ)) (s t : Status) (o m n : Option (List ℕ))
    → GoesOn M all mid s t o m → Breaks M mid m n → Breaks M all o n
breaks_later M all mid s t o m n (ps, (e, (xs, (a, (w, g)))))
    (qs, (piece, (left, (f, (ys, (b, (y, (my, (k, (short, v)))))))))) = (
      ps ++ qs,
      (
        piece,
        (
          left,
          (
            e ∙ (ap (λ z. ps ++ z) f ∙ sym (append_assoc ps qs (piece ∷ left))),
            (
              xs ++ ys,
              (
                both_meant M ps qs xs ys a b,
                (y, (my, (k, (short, rw (texts_both xs ys, append_assoc) (Appends-then o m n _ _ w v))))),
              ),
            ),
          ),
        ),
      ),
    )

-- what stops here has gone on so far
pub stops_here : (M : List ℕ → Answer → Type 0) (all mid : List (List ℕ)) (s t : Status) (o m : Option (List ℕ))
    → GoesOn M all mid s t o m → Stops M all o m
stops_here M all mid s t o m (ps, (e, (xs, (a, (w, g))))) = (ps, (mid, (e, (xs, (a, w)))))

-- where nothing is left all were answered
pub all_answered : (M : List ℕ → Answer → Type 0) (all : List (List ℕ)) (s t : Status) (o m : Option (List ℕ))
    → GoesOn M all [] s t o m → AreAnswered M all s t o m
all_answered M all s t o m (ps, (e, (xs, (a, (w, g))))) = (xs, (rw (e, append-nil) a, (w, g)))

-- pieces that were answered, in front of others
pub goes_on : (M : List ℕ → Answer → Type 0) (ps left : List (List ℕ)) (s t : Status) (o m : Option (List ℕ))
    → AreAnswered M ps s t o m → GoesOn M (ps ++ left) left s t o m
goes_on M ps left s t o m a = (ps, (refl, a))

-- what breaks among first ones breaks among all
pub breaks_among : (M : List ℕ → Answer → Type 0) (ps more : List (List ℕ)) (o m : Option (List ℕ)) → Breaks M ps o m
    → Breaks M (ps ++ more) o m
breaks_among M ps more o m (qs, (piece, (left, (f, c)))) =
    (qs, (piece, (left ++ more, (ap (λ k. k ++ more) f ∙ append_assoc qs (piece ∷ left) more, c))))

-- nothing was written
pub stops_at_once : (M : List ℕ → Answer → Type 0) (all : List (List ℕ)) (o : Option (List ℕ)) → Stops M all o o
stops_at_once M all o = ([], (all, (refl, ([], (none, appended_none o)))))
