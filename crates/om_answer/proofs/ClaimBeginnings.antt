-- The lines of a document and then the rest of a claim, and the beginnings of claims as bytes.
--
-- Main definitions: joined
-- Main results: closed_comes, document_fault_comes, document_passes, begins_bytes, bytes_begin
use Rattle.std.proofs.Common.{◌≡◌, ℕ, ◌+◌, List, [], ◌∷◌, ◌++◌, true, length, refl, sym, ap, subst, ◌∙◌, arith}
use Rattle.std.proofs.Common.{append-nil, ◌≤◌, take, drop}
use Rattle.std.specs.Prelude.{Option, Some, None, Result, Ok, Err}
use Rattle.std.specs.List.{list_all}
use Rattle.std.proofs.lemmas.List.{length-take-le, take-append-drop}
use Rattle.std.proofs.Math.Seq.{take-append_seam}
use Rattle.om_document.specs.declared.code.Code.{Code}
use Rattle.om_document.specs.declared.code.Code.TheVariants as code
use Rattle.om_document.specs.declared.document.Document.{Document}
use Rattle.om_text.specs.declared.state.State.{State}
use Rattle.om_text.specs.declared.state.State.TheVariants.{Start, Versioned, Open, Closed}
use Rattle.om_lines.specs.Lines.{lines, words, wordful, has_any, Begins}
use Rattle.om_text.specs.Steps.{step_if, finish_by, then_lines}
use Rattle.om_document.specs.Document.{IsDocument}
use Rattle.om_document.specs.Print.{text_of}
use Rattle.om_text.specs.Reading.{step, value_of, outcome}
use Rattle.om_text.proofs.Language.{outcome_passes, begins_run}
use Rattle.om_text.proofs.Course.{spelled_run}
use Rattle.om_document.proofs.Feeds.{is_one_line, lines_text, lines_one_line, one_line-take, one_line-append}
use Rattle.om_certificate.specs.declared.verdict.Verdict.{Verdict}
use Rattle.om_reply.specs.declared.claim.Claim.{Claim}
use Rattle.om_answer.specs.declared.block.Block.{Block}
use Rattle.om_answer.specs.declared.block.Block.TheVariants as block
use Rattle.om_answer.specs.BlockReading.{block_step, block_value, block_outcome}
use Rattle.om_answer.specs.Claim.{IsSpelledClaim}
use Rattle.om_answer.specs.ClaimFault.{claim_code, AreClaim}
use Rattle.om_answer.proofs.ClaimSteps.{ClaimState, in_document, in_block, as_document, as_block, claim_step}
use Rattle.om_answer.proofs.ClaimSteps.{with_document, claim_value, ShowsClaim, steps, errors}
use Rattle.om_answer.proofs.ClaimCourse.{ends, run_claim, document_run, runs, completes, claim_outcome, start}
use Rattle.om_answer.proofs.ClaimCourse.{run_completes}

-- ---- a document and then the rest

-- what the lines of a block come to, with the document before them
abbrev pub joined : Document → Result Verdict (ℕ × Code) → Result Claim (ℕ × Code)
joined d (Ok v) = Ok (record { document = d; verdict = v })
joined d (Err e) = Err e

finished : (d : Document) (o : Option Verdict) (n : ℕ) → finish_by (with_document d o) n ≡ joined d (finish_by o n)
finished d (Some v) n = refl
finished d None n = refl

-- after one step, by what the lines behind it come to
stepped : (d : Document) (r : Result Block Code) (n : ℕ) (ls : List (List ℕ))
    → ((t : Block) → claim_outcome (in_block d t) (n + 1) ls ≡ joined d (block_outcome t (n + 1) ls))
    → then_lines (as_block d r) n (λ t. claim_outcome t (n + 1) ls)
    ≡ joined d (then_lines r n (λ t. block_outcome t (n + 1) ls))
stepped d (Ok t) n ls next = next t
stepped d (Err c) n ls next = refl

block_comes : (d : Document) (ls : List (List ℕ)) (b : Block) (n : ℕ)
    → claim_outcome (in_block d b) n ls ≡ joined d (block_outcome b n ls)
block_comes d [] b n = finished d (block_value b) n
block_comes d (l ∷ ls) b n = at (words l) (λ t. block_comes d ls t (n + 1))
  where
    at : (w : List (List ℕ))
        → ((t : Block) → claim_outcome (in_block d t) (n + 1) ls ≡ joined d (block_outcome t (n + 1) ls))
        → then_lines (step_if claim_step (has_any w) (in_block d b) w) n (λ t. claim_outcome t (n + 1) ls)
        ≡ joined d (then_lines (step_if block_step (has_any w) b w) n (λ t. block_outcome t (n + 1) ls))
    at [] next = next b
    at (w ∷ ws) next = stepped d (block_step b (w ∷ ws)) n ls next

pub closed_comes : (d : Document) (ls : List (List ℕ)) (n : ℕ)
    → claim_outcome (in_document (Closed d)) n ls ≡ joined d (block_outcome block.Empty n ls)
closed_comes d [] n = refl
closed_comes d (l ∷ ls) n = at (words l) (closed_comes d ls (n + 1))
  where
    at : (w : List (List ℕ)) → claim_outcome (in_document (Closed d)) (n + 1) ls
        ≡ joined d (block_outcome block.Empty (n + 1) ls)
        → then_lines (step_if claim_step (has_any w) (in_document (Closed d)) w) n (λ t. claim_outcome t (n + 1) ls)
        ≡ joined d (then_lines (step_if block_step (has_any w) block.Empty w) n (λ t. block_outcome t (n + 1) ls))
    at [] next = next
    at (w ∷ ws) next = stepped d (block_step block.Empty (w ∷ ws)) n ls (λ t. block_comes d ls t (n + 1))

err_pair : {V : Type 0} (p q : ℕ × Code) → ◌≡◌ {A = Result V (ℕ × Code)} (Err p) (Err q) → p ≡ q
err_pair p q h = cc

-- a fault within the document is one of the claim
pub document_fault_comes : (ls : List (List ℕ)) (s : State) (n l : ℕ) (c : Code) → (c ≡ code.After → ⊥)
    → outcome s n ls ≡ Err (l, c) → claim_outcome (in_document s) n ls ≡ Err (l, c)
document_fault_comes [] s n l c other h = ended (value_of s) h
  where
    ended : (o : Option Document) → finish_by o n ≡ Err (l, c) → finish_by (claim_value (in_document s)) n ≡ Err (l, c)
    ended None h = ap (λ p. Err p) (err_pair (n + 1, code.Missing) (l, c) h)
    ended (Some d) h = cc
document_fault_comes (x ∷ ls) s n l c other h = at (words x) (λ t k. document_fault_comes ls t (n + 1) l c other k) h
  where
    open_at : (r : Result State Code)
        → ((t : State) → outcome t (n + 1) ls ≡ Err (l, c) → claim_outcome (in_document t) (n + 1) ls ≡ Err (l, c))
        → then_lines r n (λ t. outcome t (n + 1) ls) ≡ Err (l, c)
        → then_lines (as_document r) n (λ t. claim_outcome t (n + 1) ls) ≡ Err (l, c)
    open_at (Ok t) next h = next t h
    open_at (Err e) next h = ap (λ p. Err p) (err_pair (n + 1, e) (l, c) h)

    with_words : (s : State) (w : List (List ℕ))
        → ((t : State) → outcome t (n + 1) ls ≡ Err (l, c) → claim_outcome (in_document t) (n + 1) ls ≡ Err (l, c))
        → then_lines (step s w) n (λ t. outcome t (n + 1) ls) ≡ Err (l, c)
        → then_lines (claim_step (in_document s) w) n (λ t. claim_outcome t (n + 1) ls) ≡ Err (l, c)
    with_words Start w next h = open_at (step Start w) next h
    with_words (Versioned v) w next h = open_at (step (Versioned v) w) next h
    with_words (Open d) w next h = open_at (step (Open d) w) next h
    with_words (Closed d) w next h = let q = err_pair (n + 1, code.After) (l, c) h in
        absurd (other (sym (ap (λ p. p.1) q)))

    at : (w : List (List ℕ))
        → ((t : State) → outcome t (n + 1) ls ≡ Err (l, c) → claim_outcome (in_document t) (n + 1) ls ≡ Err (l, c))
        → then_lines (step_if step (has_any w) s w) n (λ t. outcome t (n + 1) ls) ≡ Err (l, c)
        → then_lines (step_if claim_step (has_any w) (in_document s) w) n (λ t. claim_outcome t (n + 1) ls) ≡ Err (l, c)
    at [] next h = next s h
    at (w ∷ ws) next h = with_words s (w ∷ ws) next h

-- the lines of a document pass, and the block's lines come to the rest
pub document_passes : (front rest : List (List ℕ)) (d : Document) → IsDocument front d
    → claim_outcome start 0 (front ++ rest) ≡ joined d (block_outcome block.Empty (length front) rest)
document_passes front rest d o =
    let r : run_claim start (wordful front) ≡ Ok (in_document (Closed d)) =
    ap (run_claim start) (sym (append-nil (wordful front)))
    ∙ document_run (wordful front) Start (Closed d) [] (spelled_run (wordful front) d o) in
    let z : 0 + length front ≡ length front = omega arith in
    outcome_passes ClaimState Claim claim_step claim_value start IsSpelledClaim claim_code ShowsClaim refl steps errors
    ends runs completes front rest start (in_document (Closed d)) 0 r
    ∙ closed_comes d rest (0 + length front)
    ∙ ap (λ n. joined d (block_outcome block.Empty n rest)) z

-- lines begin a claim exactly where some bytes that are a claim begin with them
pub begins_bytes : (bytes : List ℕ) (k : ℕ) → k ≤ length (lines bytes) → Begins AreClaim (take k (lines bytes))
    → (text : List ℕ) × (take k (lines text) ≡ take k (lines bytes)) × AreClaim (lines text)
begins_bytes bytes k h b =
    let p = take k (lines bytes) in
    let r = begins_run ClaimState Claim claim_step claim_value start IsSpelledClaim claim_code ShowsClaim refl steps
    errors ends runs completes p b in
    let c = run_completes p r.0 r.1 in
    let one : list_all is_one_line (p ++ c.0) ≡ true =
    one_line-append p c.0 (one_line-take k (lines bytes) (lines_one_line bytes)) c.1 in
    let e : lines (text_of (p ++ c.0)) ≡ p ++ c.0 = lines_text (p ++ c.0) one in
    let n : length p ≡ k = length-take-le k (lines bytes) h in (
      text_of (p ++ c.0),
      ap (take k) e ∙ ap (λ j. take j (p ++ c.0)) (sym n) ∙ take-append_seam p c.0,
      subst AreClaim (sym e) c.2,
    )

pub bytes_begin : (bytes : List ℕ) (k : ℕ) → (text : List ℕ) × (take k (lines text) ≡ take k (lines bytes))
    × AreClaim (lines text) → Begins AreClaim (take k (lines bytes))
bytes_begin bytes k (text, e, d) = (
  drop k (lines text),
  subst AreClaim (sym (take-append-drop k (lines text)) ∙ ap (λ x. x ++ drop k (lines text)) e)
      d,
)
