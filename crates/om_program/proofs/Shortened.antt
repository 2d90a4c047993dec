-- What is answered to the first bytes of a piece is what the piece means, and what was answered of the pieces that the
-- cutter makes was answered of
-- the pieces of the input.
--
-- Main results: each_answered, first_written, next_cut_off.
use Rattle.std.specs.Prelude.{ℕ, ◌≡◌, ◌≢◌, ◌<◌, ◌≤◌, List, [], ◌∷◌, ◌++◌, map, take, length, Option}
use Rattle.std.proofs.Common.{sym, ◌∙◌, subst, arith, inl, inr}
use Rattle.std.proofs.lemmas.List.{length-take, take_all}
use Rattle.std.proofs.lemmas.Bool.{cases_lt}
use Rattle.om_signs.specs.declared.limits.TheConstants.{MAX_INPUT}
use Rattle.om_words.specs.declared.reads.Reads.TheVariants as source
use Rattle.om_words.specs.declared.task.Task.{Task}
use Rattle.om_words.specs.Tasks.{reads}
use Rattle.om_words.specs.Words.{Names}
use Rattle.om_reply.specs.declared.answer.Answer.{Answer}
use Rattle.om_reply.specs.declared.status.Status.{Status}
use Rattle.om_reply.specs.declared.status.Status.TheVariants as status
use Rattle.om_document.specs.declared.code.Code.{Code}
use Rattle.om_program.specs.declared.plan.Plan.{Plan}
use Rattle.om_program.specs.declared.plan.Plan.TheVariants as plan
use Rattle.om_program.specs.declared.plan.Reading.TheVariants as reading
use Rattle.om_program.specs.Plans.{plan_for}
use Rattle.om_program.specs.Meaning.{InputMeans, long, faulty, read, PlanMeans, TaskMeans, Means, named}
use Rattle.om_program.specs.Answered.{AreMeant, none, one_more, AreAnswered, Stops, Breaks}
use Rattle.om_program.specs.Each.{IsEachAnswered, AreFirstWritten, IsNextCutOff}
use Rattle.om_pieces.specs.Making.{most, made, nothing}
use Rattle.om_pieces.specs.Pieces.{IsCut}
use Rattle.om_pieces.proofs.Feeding.{cut_pieces, has_one_cut}
use Rattle.om_pieces.proofs.Steps.{parted}

-- ---- one piece

-- a text that is too long means what any other one means that is
long_meant : {A : Type 0} (F : List (List ℕ) → ℕ → Code → Type 0) (T : List (List ℕ) → A → Type 0)
    (M : A → Answer → Type 0) (front bytes : List ℕ) (answer : Answer) → MAX_INPUT < length front
    → MAX_INPUT < length bytes → InputMeans F T M front answer → InputMeans F T M bytes answer
long_meant F T M front bytes x f l (long past) = long l
long_meant F T M front bytes x f l (faulty n c short fault) = absurd (omega (arith, f, short))
long_meant F T M front bytes x f l (read v answer short is m) = absurd (omega (arith, f, short))

long_planned : (p : Plan) (front bytes : List ℕ) (answer : Answer) → MAX_INPUT < length front
    → MAX_INPUT < length bytes → PlanMeans p front answer → PlanMeans p bytes answer
long_planned (plan.Make seed count) front bytes x f l m = m
long_planned (plan.Read reading.Claim) front bytes x f l m = long_meant _ _ _ front bytes x f l m
long_planned (plan.Read (reading.Document what)) front bytes x f l m = long_meant _ _ _ front bytes x f l m

pub piece_meant : (task : Task) (piece : List ℕ) (answer : Answer) → TaskMeans task (take most piece) answer
    → TaskMeans task piece answer
piece_meant task piece answer m = elim (cases_lt MAX_INPUT (length piece)) [
  | inl l ↦ long_planned (plan_for task) (take most piece) piece answer
      (let k = length-take most piece in omega (arith, k, l)) l m
  | inr s ↦ subst (λ bytes. TaskMeans task bytes answer) (take_all most piece (omega (arith, s))) m
]

-- ---- pieces

pieces_meant : (words : List (List ℕ)) (task : Task) (fronts pieces : List (List ℕ)) (answers : List Answer)
    → Names words task → reads task ≢ source.Nothing → fronts ≡ map (take most) pieces
    → AreMeant (TaskMeans task) fronts answers → AreMeant (Means words) pieces answers
pieces_meant words task fronts [] answers n r e none = none
pieces_meant words task fronts (q ∷ qs) answers n r e none = absurd (empty_full _ _ e)
  where
    empty_full : (x : List ℕ) (xs : List (List ℕ)) → ◌≡◌ {A = List (List ℕ)} [] (x ∷ xs) → ⊥
    empty_full x xs e = cc
pieces_meant words task fronts [] answers n r e (one_more p ps x xs m ms) = absurd (full_empty p ps e)
  where
    full_empty : (x : List ℕ) (xs : List (List ℕ)) → ◌≡◌ {A = List (List ℕ)} (x ∷ xs) [] → ⊥
    full_empty x xs e = cc
pieces_meant words task fronts (q ∷ qs) answers n r e (one_more p ps x xs m ms) =
    one_more q qs x xs (named task x n
    (piece_meant task q x (subst (λ bytes. TaskMeans task bytes x) (heads _ _ _ _ e) m)))
    (pieces_meant words task ps qs xs n r (tails _ _ _ _ e) ms)
  where
    heads : (a b : List ℕ) (xs ys : List (List ℕ)) → ◌≡◌ {A = List (List ℕ)} (a ∷ xs) (b ∷ ys) → a ≡ b
    heads a b xs ys e = cc

    tails : (a b : List ℕ) (xs ys : List (List ℕ)) → ◌≡◌ {A = List (List ℕ)} (a ∷ xs) (b ∷ ys) → xs ≡ ys
    tails a b xs ys e = cc

-- ---- runs

pub each_answered : (words : List (List ℕ)) (task : Task) (n : ℕ) (bytes : List ℕ) (s : Status) (o m : Option (List ℕ))
    → 1 ≤ n → Names words task → reads task ≢ source.Nothing
    → AreAnswered (TaskMeans task) (made (nothing n) bytes) status.Done s o m → IsEachAnswered words n bytes s o m
each_answered words task n bytes s o m pos names reading (xs, (a, rest)) =
    let h = has_one_cut n bytes pos in
    (h.0, (h.1.0, (xs, (pieces_meant words task _ h.0 xs names reading (cut_pieces n bytes h.0 h.1.0) a, rest))))

pub first_written : (words : List (List ℕ)) (task : Task) (n : ℕ) (bytes : List ℕ) (o m : Option (List ℕ)) → 1 ≤ n
    → Names words task → reads task ≢ source.Nothing
    → Stops (TaskMeans task) (made (nothing n) bytes) o m → AreFirstWritten words n bytes o m
first_written words task n bytes o m pos names reading (qs, (left, (e, (xs, (a, w))))) =
    let h = has_one_cut n bytes pos in
    let p = parted h.0 qs left (sym (cut_pieces n bytes h.0 h.1.0) ∙ e) in (
      p.first,
      (
        p.last,
        (
          subst (λ ps. IsCut n bytes ps) p.whole h.1.0,
          (xs, (pieces_meant words task qs p.first xs names reading p.front a, w)),
        ),
      ),
    )

pub next_cut_off : (words : List (List ℕ)) (task : Task) (n : ℕ) (bytes : List ℕ) (o m : Option (List ℕ)) → 1 ≤ n
    → Names words task → reads task ≢ source.Nothing
    → Breaks (TaskMeans task) (made (nothing n) bytes) o m → IsNextCutOff words n bytes o m
next_cut_off words task n bytes o m pos names reading (qs, (q, (left, (e, (xs, (a, (x, (mx, w)))))))) =
    let h = has_one_cut n bytes pos in
    let p = parted h.0 qs (q ∷ left) (sym (cut_pieces n bytes h.0 h.1.0) ∙ e) in
    behind p.first p.last p.whole p.front p.behind h.1.0
  where
    behind : (first last : List (List ℕ)) → (has_one_cut n bytes pos).0 ≡ first ++ last → qs ≡ map (take most) first
        → (q ∷ left) ≡ map (take most) last → IsCut n bytes ((has_one_cut n bytes pos).0)
        → IsNextCutOff words n bytes o m
    behind first [] whole front rest c = absurd (no _ _ rest)
      where
        no : (x : List ℕ) (xs : List (List ℕ)) → ◌≡◌ {A = List (List ℕ)} (x ∷ xs) [] → ⊥
        no x xs e = cc
    behind first (piece ∷ more) whole front rest c = (
      first,
      (
        piece,
        (
          more,
          (
            subst (λ ps. IsCut n bytes ps) whole c,
            (
              xs,
              (
                pieces_meant words task qs first xs names reading front a,
                (
                  x,
                  (
                    named task x names (piece_meant task piece x
                        (subst (λ b. TaskMeans task b x) (heads _ _ _ _ rest) mx)),
                    w,
                  ),
                ),
              ),
            ),
          ),
        ),
      ),
    )
      where
        heads : (a b : List ℕ) (xs ys : List (List ℕ)) → ◌≡◌ {A = List (List ℕ)} (a ∷ xs) (b ∷ ys) → a ≡ b
        heads a b xs ys e = cc
