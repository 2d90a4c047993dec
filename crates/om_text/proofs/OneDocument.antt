-- At most one document is at the front of an input, and it rules out other faults.
--
-- Main results: same_part, part_no_fault
use Rattle.std.proofs.Common.{◌≡◌, inl, inr, ℕ, ◌+◌, ◌<◌, ◌≤◌, min, List, [], ◌∷◌, ◌++◌, true, false, length, take}
use Rattle.std.proofs.Common.{drop, refl, sym, ap, subst, ◌∙◌, arith, length-append}
use Rattle.std.specs.Prelude.{Result, Ok, Err}
use Rattle.std.proofs.lemmas.Bool.{cases_lt, both_ways}
use Rattle.std.proofs.lemmas.List.{take-append-drop, take-append-le, take-take, length-take-le}
use Rattle.om_signs.proofs.Results.{ok-injective}
use Rattle.om_document.specs.declared.document.Document.{Document}
use Rattle.om_document.specs.declared.code.Code.{Code}
use Rattle.om_document.specs.declared.code.Code.TheVariants as code
use Rattle.om_text.specs.declared.state.State.{State}
use Rattle.om_text.specs.declared.state.State.TheVariants.{Start, Versioned, Open, Closed}
use Rattle.om_lines.specs.Lines.{lines, words, wordful, end_line}
use Rattle.om_document.specs.Document.{IsDocument}
use Rattle.om_text.specs.Fault.{IsFault}
use Rattle.om_text.specs.Part.{IsDocumentAtFront}
use Rattle.om_document.specs.Print.{text_of}
use Rattle.om_text.specs.Reading.{advance, is_closed, outcome}
use Rattle.om_text.proofs.Course.{run_words, spelled_run}
use Rattle.om_text.proofs.Outcome.{outcome_from, same_value, begun, run_next, run_on, outcome_run}

-- ---- at most one

closed_stays : (ws : List (List (List ℕ))) (d : Document) (s : State) → run_words (Closed d) ws ≡ Ok s
    → is_closed s ≡ true
closed_stays [] d s h = ap is_closed (sym (ok-injective (Closed d) s h))
closed_stays (w ∷ ws) d s h = cc

-- the lines before the end line leave the document open
record IsOpenBefore (before : List (List ℕ)) : Type 0 where
  state : State
  run : run_words Start (wordful before) ≡ Ok state
  is_open : is_closed state ≡ false

open_before : (before : List (List ℕ)) (line : List ℕ) (d : Document) → IsDocument (before ++ line ∷ []) d
    → words line ≡ end_line → IsOpenBefore before
open_before before line d o e =
    let r = begun before (line ∷ []) d o in
    let a : advance r.0 line ≡ Ok (Closed d) = sym (run_next before line r.0 r.1)
    ∙ spelled_run (wordful (before ++ line ∷ [])) d o in
    record { state = r.0; run = r.1; is_open = at r.0 a }
  where
    at : (s : State) → advance s line ≡ Ok (Closed d) → is_closed s ≡ false
    at Start a = refl
    at (Versioned v) a = refl
    at (Open x) a = refl
    at (Closed x) a = let b = rw e at a in cc

-- a shorter part leaves no longer one
no_longer : (bytes : List ℕ) (d e : Document) (j k n m : ℕ) → IsDocumentAtFront bytes d j n
    → IsDocumentAtFront bytes e k m → n < m → ⊥
no_longer bytes d e j k n m p q l =
    let u = q.last in
    let o = open_before u.before u.line e (subst (λ ls. IsDocument ls e) u.lines q.document) u.words in
    let h : n ≤ length u.before =
    omega (
      arith,
      ap length u.lines,
      length-append u.before (u.line ∷ []),
      length-take-le m (lines bytes) q.within,
    ) in
    let t : take n u.before ≡ take n (lines bytes) = sym (take-append-le n u.before (u.line ∷ []) h)
    ∙ ap (take n) (sym u.lines) ∙ take-take n m (lines bytes) (omega arith) in
    let w : take n (lines bytes) ++ drop n u.before ≡ u.before = ap (λ x. x ++ drop n u.before) (sym t)
    ∙ take-append-drop n u.before in
    let f = spelled_run (wordful (take n (lines bytes))) d p.document in
    let g : run_words (Closed d) (wordful (drop n u.before)) ≡ Ok o.state =
    sym (run_on (take n (lines bytes)) (drop n u.before) (Closed d) f) ∙ ap (λ x. run_words Start (wordful x)) w
    ∙ o.run in
    let y = closed_stays (wordful (drop n u.before)) d o.state g in
    both_ways (is_closed o.state) o.is_open y

same_count : (bytes : List ℕ) (d e : Document) (j k n m : ℕ) → IsDocumentAtFront bytes d j n
    → IsDocumentAtFront bytes e k m → n ≡ m
same_count bytes d e j k n m p q = elim (cases_lt n m) [
  | inl l ↦ absurd (no_longer bytes d e j k n m p q l)
  | inr g ↦ elim (cases_lt m n) [
    | inl l ↦ absurd (no_longer bytes e d k j m n q p l)
    | inr h ↦ omega arith
  ]
]

pub same_part : (bytes : List ℕ) (d e : Document) (j k n m : ℕ) → IsDocumentAtFront bytes d j n
    → IsDocumentAtFront bytes e k m → (d ≡ e) × (j ≡ k) × (n ≡ m)
same_part bytes d e j k n m p q =
    let c = same_count bytes d e j k n m p q in (
      same_value (take n (lines bytes)) d e p.document
          (subst (λ n. IsDocument (take n (lines bytes)) e) (sym c) q.document),
      p.size ∙ ap (λ n. min (length bytes) (length (text_of (take n (lines bytes))))) c ∙ sym q.size,
      c,
    )

closed_after : (ls : List (List ℕ)) (d : Document) (k m : ℕ) (c : Code) → outcome (Closed d) k ls ≡ Err (m, c)
    → c ≡ code.After
closed_after [] d k m c h = cc
closed_after (l ∷ ls) d k m c h = at (words l) refl (closed_after ls d (k + 1) m c)
  where
    same : ◌≡◌ {A = Result Document (ℕ × Code)} (Err (k + 1, code.After)) (Err (m, c)) → c ≡ code.After
    same g = let p : ◌≡◌ {A = ℕ × Code} (k + 1, code.After) (m, c) = cc in sym (ap (λ x. x.1) p)

    at : (w : List (List ℕ)) → words l ≡ w → (outcome (Closed d) (k + 1) ls ≡ Err (m, c) → c ≡ code.After)
        → c ≡ code.After
    at [] e f = let g = rw e at h in f g
    at (x ∷ xs) e f = let g = rw e at h in same g

-- a document at the front rules out other faults
pub part_no_fault : (bytes : List ℕ) (d : Document) (k n m : ℕ) (c : Code) → IsDocumentAtFront bytes d k n
    → IsFault (lines bytes) m c → c ≡ code.After
part_no_fault bytes d k n m c p f =
    let w : take n (lines bytes) ++ drop n (lines bytes) ≡ lines bytes = take-append-drop n (lines bytes) in
    let r = spelled_run (wordful (take n (lines bytes))) d p.document in
    closed_after (drop n (lines bytes)) d (length (take n (lines bytes))) m c
    (sym (outcome_run (take n (lines bytes)) (drop n (lines bytes)) (Closed d) r) ∙ ap (outcome Start 0) w
    ∙ outcome_from (lines bytes) m c f)
