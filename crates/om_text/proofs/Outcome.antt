-- What the lines come to is a document or the first fault, and what follows for the reader and the laws.
--
-- Main results: document_from, fault_from, comes_document, comes_every, comes_fault, comes_first, comes_form,
-- same_value, same_fault, no_fault, document_or_fault, begins_bytes, bytes_begin
use Rattle.std.proofs.Common.{◌≡◌, ◌⊎◌, inl, inr, ℕ, List, [], ◌∷◌, ◌++◌, ◌+◌, true, length, refl, sym, ap, subst, ◌∙◌}
use Rattle.std.proofs.Common.{◌≤◌, take, drop, arith}
use Rattle.std.specs.Prelude.{Option, Some, Result, Ok, Err, IfOk}
use Rattle.std.specs.List.{list_all}
use Rattle.std.proofs.lemmas.List.{length-take-le, take-append-drop}
use Rattle.std.proofs.Math.Seq.{take-append_seam}
use Rattle.om_document.specs.declared.document.Document.{Document}
use Rattle.om_text.specs.declared.parse_error.ParseError.{ParseError}
use Rattle.om_text.specs.declared.parse_error.ParseError.TheVariants as error
use Rattle.om_document.specs.declared.code.Code.{Code}
use Rattle.om_text.specs.declared.state.State.{State}
use Rattle.om_text.specs.declared.state.State.TheVariants.{Start, Versioned, Open, Closed}
use Rattle.om_lines.specs.Lines.{lines, wordful, Begins}
use Rattle.om_document.specs.Document.{IsSpelled, IsDocument}
use Rattle.om_text.specs.Fault.{AreDocument, IsFault, role, table, first_of}
use Rattle.om_document.specs.Print.{text_of}
use Rattle.om_text.specs.Parsed.{IsAnswerUnlessMemory, IfLine}
use Rattle.om_text.specs.Reading.{step, advance, value_of, outcome}
use Rattle.om_document.specs.Form.{IsInForm}
use Rattle.om_text.proofs.Forms.{document_form}
use Rattle.om_document.proofs.Feeds.{is_one_line, lines_text, lines_one_line, one_line-take, one_line-append}
use Rattle.om_text.proofs.SettingSteps.{Shows}
use Rattle.om_text.proofs.CourseSteps.{step_shows}
use Rattle.om_text.proofs.StepErrors.{step_error}
use Rattle.om_text.proofs.Course.{run_words, spelled_run}
use Rattle.om_text.proofs.Completion as completions
use Rattle.om_text.proofs.Language.{IsCompletion, run_shows, run-append, run_line, run_value, begins_run}
use Rattle.om_text.proofs.Language.{outcome_passes, value_outcome, outcome_value, outcome_fault, fault_outcome}

abbrev code_at : List (List (List ℕ)) → List (List ℕ) → Option Code
code_at ls w = first_of (table (role ls w) w)

ends : (s : State) (ls : List (List (List ℕ))) (d : Document) → Shows s ls → value_of s ≡ Some d → IsSpelled ls d
ends Start ls d o h = cc
ends (Versioned v) ls d o h = cc
ends (Open e) ls d o h = cc
ends (Closed e) ls d o h = let q : e ≡ d = cc in subst (λ d. IsSpelled ls d) q o

runs : (ls : List (List (List ℕ))) (d : Document) → IsSpelled ls d → (s : State) × (run_words Start ls ≡ Ok s)
    × (value_of s ≡ Some d)
runs ls d o = (Closed d, spelled_run ls d o, refl)

completes : (s : State) (ls : List (List (List ℕ))) → Shows s ls → (more : List (List ℕ))
    × IsCompletion step value_of s more
completes s ls o =
    let c = completions.completion s ls o in
    (c.0, record { last = Closed c.1.document; is = c.1.document; run = c.1.run; gives = refl })

pub document_outcome : (ls : List (List ℕ)) (d : Document) → IsDocument ls d → outcome Start 0 ls ≡ Ok d
document_outcome ls d o = value_outcome State Document step value_of Start IsSpelled code_at Shows refl step_shows
    step_error ends runs completes ls d o

pub document_from : (ls : List (List ℕ)) (d : Document) → outcome Start 0 ls ≡ Ok d → IsDocument ls d
document_from ls d h = outcome_value State Document step value_of Start IsSpelled code_at Shows refl step_shows
    step_error ends runs completes ls [] Start 0 d refl h

pub fault_from : (ls : List (List ℕ)) (l : ℕ) (c : Code) → outcome Start 0 ls ≡ Err (l, c) → IsFault ls l c
fault_from ls l c h = outcome_fault State Document step value_of Start IsSpelled code_at Shows refl step_shows
    step_error ends runs completes ls [] Start 0 l c refl refl h

-- the outcome of lines with a fault is the first line at fault, with its code
pub outcome_from : (ls : List (List ℕ)) (l : ℕ) (c : Code) → IsFault ls l c → outcome Start 0 ls ≡ Err (l, c)
outcome_from ls l c f = fault_outcome State Document step value_of Start IsSpelled code_at Shows refl step_shows
    step_error ends runs completes f

-- the lines of a document in turn

-- lines that lead to a closed state are a document
pub run_document : (ls : List (List ℕ)) (d : Document) → run_words Start (wordful ls) ≡ Ok (Closed d) → IsDocument ls d
run_document ls d h = run_value State Document step value_of Start IsSpelled code_at Shows refl step_shows step_error
    ends runs completes ls (Closed d) d h refl

-- one line more
pub run_next : (ls : List (List ℕ)) (l : List ℕ) (s : State) → run_words Start (wordful ls) ≡ Ok s
    → run_words Start (wordful (ls ++ l ∷ [])) ≡ advance s l
run_next ls l s h = run_line State Document step value_of Start IsSpelled code_at Shows refl step_shows step_error ends
    runs completes ls l s h

-- more lines
pub run_on : (xs ys : List (List ℕ)) (s : State) → run_words Start (wordful xs) ≡ Ok s
    → run_words Start (wordful (xs ++ ys)) ≡ run_words s (wordful ys)
run_on xs ys s h = run-append State Document step value_of Start IsSpelled code_at Shows refl step_shows step_error ends
    runs completes xs ys s h

-- the first lines of a document lead to a state
pub begun : (xs ys : List (List ℕ)) (d : Document) → IsDocument (xs ++ ys) d → (s : State)
    × (run_words Start (wordful xs) ≡ Ok s)
begun xs ys d o = begins_run State Document step value_of Start IsSpelled code_at Shows refl step_shows step_error ends
    runs completes xs (ys, (d, o))

-- what lines come to after others
pub outcome_run : (xs ys : List (List ℕ)) (s : State) → run_words Start (wordful xs) ≡ Ok s
    → outcome Start 0 (xs ++ ys) ≡ outcome s (length xs) ys
outcome_run xs ys s h = outcome_passes State Document step value_of Start IsSpelled code_at Shows refl step_shows
    step_error ends runs completes xs ys Start s 0 h
    ∙ ap (λ k. outcome s k ys) (let z : 0 + length xs ≡ length xs = omega arith in z)

-- what a reading that comes to the outcome says
pub comes_document : (r : Result Document ParseError) (ls : List (List ℕ)) → IsAnswerUnlessMemory r (outcome Start 0 ls)
    → IfOk r (λ d. IsDocument ls d)
comes_document (Ok d) ls h = document_from ls d h
comes_document (Err e) ls h = tt

pub comes_form : (r : Result Document ParseError) (ls : List (List ℕ)) → IsAnswerUnlessMemory r (outcome Start 0 ls)
    → IfOk r IsInForm
comes_form (Ok d) ls h = document_form (wordful ls) d (document_from ls d h)
comes_form (Err e) ls h = tt

pub comes_fault : (r : Result Document ParseError) (ls : List (List ℕ)) → IsAnswerUnlessMemory r (outcome Start 0 ls)
    → IfLine r (IsFault ls)
comes_fault (Ok d) ls h = tt
comes_fault (Err error.Memory) ls h = tt
comes_fault (Err (error.Line l c)) ls h = fault_from ls l c h

pub comes_every : (r : Result Document ParseError) (ls : List (List ℕ)) (d : Document)
    → IsAnswerUnlessMemory r (outcome Start 0 ls) → IsDocument ls d → IsAnswerUnlessMemory r (Ok d)
comes_every r ls d h o = subst (IsAnswerUnlessMemory r) (document_outcome ls d o) h

pub comes_first : (r : Result Document ParseError) (ls : List (List ℕ)) (l : ℕ) (c : Code)
    → IsAnswerUnlessMemory r (outcome Start 0 ls) → IsFault ls l c → IsAnswerUnlessMemory r (Err (l, c))
comes_first r ls l c h f = subst (IsAnswerUnlessMemory r) (outcome_from ls l c f) h

-- lines that complete what was read
run_completes : (ls : List (List ℕ)) (s : State) → run_words Start (wordful ls) ≡ Ok s → (more : List (List ℕ))
    × (list_all is_one_line more ≡ true) × AreDocument (ls ++ more)
run_completes ls s h =
    let o : Shows s (wordful ls) =
    run_shows State Document step value_of Start IsSpelled code_at Shows refl step_shows step_error ends runs
    completes (wordful ls) [] Start s refl h in
    let c = completions.completion s (wordful ls) o in
    let r = run-append State Document step value_of Start IsSpelled code_at Shows refl step_shows step_error ends runs
    completes ls c.0 s h ∙ c.1.run in (
      c.0,
      c.1.one_line,
      (
        c.1.document,
        run_value State Document step value_of Start IsSpelled code_at Shows refl step_shows step_error
            ends runs completes (ls ++ c.0) (Closed c.1.document) c.1.document r refl,
      ),
    )

-- lines begin a document exactly where some bytes that are a document begin with them
pub begins_bytes : (bytes : List ℕ) (k : ℕ) → k ≤ length (lines bytes) → Begins AreDocument (take k (lines bytes))
    → (text : List ℕ) × (take k (lines text) ≡ take k (lines bytes)) × AreDocument (lines text)
begins_bytes bytes k h b =
    let p = take k (lines bytes) in
    let r = begins_run State Document step value_of Start IsSpelled code_at Shows refl step_shows step_error ends runs
    completes p b in
    let c = run_completes p r.0 r.1 in
    let one : list_all is_one_line (p ++ c.0) ≡ true =
    one_line-append p c.0 (one_line-take k (lines bytes) (lines_one_line bytes)) c.1 in
    let e : lines (text_of (p ++ c.0)) ≡ p ++ c.0 = lines_text (p ++ c.0) one in
    let n : length p ≡ k = length-take-le k (lines bytes) h in (
      text_of (p ++ c.0),
      ap (take k) e ∙ ap (λ j. take j (p ++ c.0)) (sym n) ∙ take-append_seam p c.0,
      subst AreDocument (sym e) c.2,
    )

pub bytes_begin : (bytes : List ℕ) (k : ℕ) → (text : List ℕ) × (take k (lines text) ≡ take k (lines bytes))
    × AreDocument (lines text) → Begins AreDocument (take k (lines bytes))
bytes_begin bytes k (text, e, d) = (
  drop k (lines text),
  subst AreDocument (sym (take-append-drop k (lines text)) ∙ ap (λ x. x ++ drop k (lines text)) e) d,
)

-- an input has one outcome

-- lines are one document at most
pub same_value : (ls : List (List ℕ)) (d e : Document) → IsDocument ls d → IsDocument ls e → d ≡ e
same_value ls d e a b = let p = document_outcome ls d a in let q = document_outcome ls e b in cc

pub same_fault : (ls : List (List ℕ)) (l m : ℕ) (c e : Code) → IsFault ls l c → IsFault ls m e → (l ≡ m) × (c ≡ e)
same_fault ls l m c e a b =
    let p : ◌≡◌ {A = Result Document (ℕ × Code)} (Err (l, c)) (Err (m, e)) = sym (outcome_from ls l c a)
    ∙ outcome_from ls m e b in
    let q : ◌≡◌ {A = ℕ × Code} (l, c) (m, e) = cc in
    (ap (λ x. x.0) q, ap (λ x. x.1) q)

-- lines that are a document have no fault
pub no_fault : (ls : List (List ℕ)) (d : Document) (l : ℕ) (c : Code) → IsDocument ls d → IsFault ls l c → ⊥
no_fault ls d l c a b = let p = document_outcome ls d a in let q = outcome_from ls l c b in cc

-- lines are a document, or have a fault
pub document_or_fault : (ls : List (List ℕ)) → ((d : Document) × IsDocument ls d)
    ⊎ ((l : ℕ) × (c : Code) × IsFault ls l c)
document_or_fault ls = at (outcome Start 0 ls) refl
  where
    at : (r : Result Document (ℕ × Code)) → outcome Start 0 ls ≡ r → ((d : Document) × IsDocument ls d)
        ⊎ ((l : ℕ) × (c : Code) × IsFault ls l c)
    at (Ok d) h = inl (d, document_from ls d h)
    at (Err (l, c)) h = inr (l, c, fault_from ls l c h)
