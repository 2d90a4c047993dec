-- A document at the front of an input, by what a reading of it says.
--
-- Main results: whole_refused, front_refused, other_state, whole_unfinished, front_unfinished, whole_document,
-- front_part, front_form, front_fault, front_every, front_first
use Rattle.std.proofs.Common.{◌≡◌, ℕ, ◌+◌, List, [], ◌∷◌, Bool, false, length, take, refl, sym, ap, subst, ◌∙◌}
use Rattle.std.specs.Prelude.{◌≢◌, Result, Ok, Err, IfOk}
use Rattle.std.proofs.lemmas.List.{nil_from_length}
use Rattle.om_document.specs.declared.document.Document.{Document}
use Rattle.om_document.specs.declared.code.Code.{Code}
use Rattle.om_document.specs.declared.code.Code.TheVariants as code
use Rattle.om_text.specs.declared.state.State.{State}
use Rattle.om_text.specs.declared.state.State.TheVariants.{Start, Versioned, Open, Closed}
use Rattle.om_lines.specs.Lines.{lines, wordful}
use Rattle.om_text.specs.Fault.{IsFault}
use Rattle.om_document.specs.Form.{IsInForm}
use Rattle.om_text.specs.Parsed.{IsAnswerUnlessMemory, IfLine}
use Rattle.om_text.specs.declared.parse_error.ParseError.{ParseError}
use Rattle.om_text.specs.declared.parse_error.ParseError.TheVariants as error
use Rattle.om_text.specs.Part.{IsDocumentAtFront}
use Rattle.om_text.specs.Reading.{advance, is_closed, outcome}
use Rattle.om_text.specs.ReaderParts.{IsStepUnlessMemory, fault_at, IsOutcomeOfAllLines, IsDocumentAtFrontOrFault}
use Rattle.om_text.specs.declared.refusal.Refusal.{Refusal}
use Rattle.om_text.specs.declared.refusal.Refusal.TheVariants as refusal
use Rattle.om_text.proofs.Forms.{document_form}
use Rattle.om_text.proofs.Outcome.{same_fault}
use Rattle.om_text.proofs.DocumentEnds.{line_not_after}
use Rattle.om_text.proofs.ReadLines.{IsRead, read_outcome, read_fault}
use Rattle.om_text.proofs.OneDocument.{same_part, part_no_fault}

-- ---- what a reading says

-- the line that a step refuses
refused : (s : State) (n : ℕ) (rest line after : List ℕ) (c : Code) → lines rest ≡ line ∷ lines after
    → advance s line ≡ Err c → outcome s n (lines rest) ≡ Err (n + 1, c)
refused s n rest line after c e h = rw e (rw h refl)

-- the end of the bytes
unfinished : (s : State) (n : ℕ) (rest : List ℕ) → is_closed s ≡ false → length rest ≡ 0
    → outcome s n (lines rest) ≡ Err (n + 1, code.Missing)
unfinished s n rest c z = ap (λ r. outcome s n (lines r)) (nil_from_length rest z) ∙ at s c
  where
    at : (s : State) → is_closed s ≡ false → outcome s n [] ≡ Err (n + 1, code.Missing)
    at Start c = refl
    at (Versioned v) c = refl
    at (Open d) c = refl
    at (Closed d) c = cc

pub whole_refused : (bytes rest line after : List ℕ) (s : State) (n : ℕ) (stops : Bool) (x : Refusal) (e : ParseError)
    → IsRead bytes rest s n stops → lines rest ≡ line ∷ lines after → e ≡ fault_at (n + 1) x
    → IsStepUnlessMemory (Err x) (advance s line) → IsOutcomeOfAllLines bytes (Err e)
whole_refused bytes rest line after s n stops refusal.Memory e r l q h =
    subst (λ e. IsOutcomeOfAllLines bytes (Err e)) (sym q) tt
whole_refused bytes rest line after s n stops (refusal.Line c) e r l q h =
    subst (λ e. IsOutcomeOfAllLines bytes (Err e)) (sym q)
    (read_outcome bytes rest s n stops r ∙ refused s n rest line after c l h)

pub front_refused : (bytes rest line after : List ℕ) (s : State) (n : ℕ) (stops : Bool) (x : Refusal) (e : ParseError)
    → IsRead bytes rest s n stops → is_closed s ≡ false → lines rest ≡ line ∷ lines after → e ≡ fault_at (n + 1) x
    → IsStepUnlessMemory (Err x) (advance s line) → IsDocumentAtFrontOrFault bytes (Err e)
front_refused bytes rest line after s n stops refusal.Memory e r o l q h =
    subst (λ e. IsDocumentAtFrontOrFault bytes (Err e)) (sym q) tt
front_refused bytes rest line after s n stops (refusal.Line c) e r o l q h =
    subst (λ e. IsDocumentAtFrontOrFault bytes (Err e)) (sym q)
    (read_fault bytes rest s n (n + 1) c stops r (refused s n rest line after c l h), line_not_after s line c o h)

-- a state other than a closed one
pub other_state : (s : State) → ((d : Document) → s ≡ Closed d → ⊥) → is_closed s ≡ false
other_state Start h = refl
other_state (Versioned v) h = refl
other_state (Open d) h = refl
other_state (Closed d) h = absurd (h d refl)

pub whole_unfinished : (bytes rest : List ℕ) (s : State) (n : ℕ) (stops : Bool) → IsRead bytes rest s n stops
    → is_closed s ≡ false → length rest ≡ 0 → IsOutcomeOfAllLines bytes (Err (error.Line (n + 1) code.Missing))
whole_unfinished bytes rest s n stops r c z = read_outcome bytes rest s n stops r ∙ unfinished s n rest c z

pub front_unfinished : (bytes rest : List ℕ) (s : State) (n : ℕ) (stops : Bool) → IsRead bytes rest s n stops
    → is_closed s ≡ false → length rest ≡ 0 → IsDocumentAtFrontOrFault bytes (Err (error.Line (n + 1) code.Missing))
front_unfinished bytes rest s n stops r c z =
    (read_fault bytes rest s n (n + 1) code.Missing stops r (unfinished s n rest c z), λ e. cc)

pub whole_document : (bytes rest : List ℕ) (d : Document) (n k : ℕ) (stops : Bool)
    → IsRead bytes rest (Closed d) n stops → length rest ≡ 0 → IsOutcomeOfAllLines bytes (Ok (d, k, n))
whole_document bytes rest d n k stops r z = read_outcome bytes rest (Closed d) n stops r
    ∙ ap (λ x. outcome (Closed d) n (lines x)) (nil_from_length rest z)

pub front_part : (bytes : List ℕ) (r : Result (Document × ℕ × ℕ) ParseError) → IsDocumentAtFrontOrFault bytes r
    → IfOk r (λ p. IsDocumentAtFront bytes p.0 p.1 p.2)
front_part bytes (Ok r) h = h
front_part bytes (Err e) h = tt

pub front_form : (bytes : List ℕ) (r : Result (Document × ℕ × ℕ) ParseError) → IsDocumentAtFrontOrFault bytes r
    → IfOk r (λ p. IsInForm p.0)
front_form bytes (Ok r) h = document_form (wordful (take r.2 (lines bytes))) r.0 h.document
front_form bytes (Err e) h = tt

pub front_fault : (bytes : List ℕ) (r : Result (Document × ℕ × ℕ) ParseError) → IsDocumentAtFrontOrFault bytes r
    → IfLine r (λ l c. IsFault (lines bytes) l c × (c ≢ code.After))
front_fault bytes (Ok r) h = tt
front_fault bytes (Err error.Memory) h = tt
front_fault bytes (Err (error.Line l c)) h = h

pub front_every : (bytes : List ℕ) (r : Result (Document × ℕ × ℕ) ParseError) → IsDocumentAtFrontOrFault bytes r
    → (d : Document) (k n : ℕ) → IsDocumentAtFront bytes d k n → IsAnswerUnlessMemory r (Ok (d, k, n))
front_every bytes (Ok (x, j, m)) h d k n p = let e = same_part bytes d x k j n m p h in rw (e.0, e.1, e.2) refl
front_every bytes (Err error.Memory) h d k n p = tt
front_every bytes (Err (error.Line l c)) h d k n p = absurd (h.1 (part_no_fault bytes d k n l c p h.0))

pub front_first : (bytes : List ℕ) (r : Result (Document × ℕ × ℕ) ParseError) → IsDocumentAtFrontOrFault bytes r
    → (l : ℕ) (c : Code) → IsFault (lines bytes) l c → c ≢ code.After → IsAnswerUnlessMemory r (Err (l, c))
front_first bytes (Ok r) h l c f n = absurd (n (part_no_fault bytes r.0 r.1 r.2 l c h f))
front_first bytes (Err error.Memory) h l c f n = tt
front_first bytes (Err (error.Line m x)) h l c f n = let e = same_fault (lines bytes) l m c x f h.0 in cc
