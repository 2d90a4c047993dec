-- What a reading of a claim says, from what it comes to.
--
-- Main results: reads_claim, document_refused, block_refused, block_read, part_few
use Rattle.std.proofs.Common.{◌≡◌, ◌≢◌, ℕ, suc, ◌+◌, ◌-◌, ◌≤◌, List, [], ◌∷◌, length, take, drop, sym, ap, subst, ◌∙◌}
use Rattle.std.proofs.Common.{arith, inl, inr, length-append, length-drop}
use Rattle.std.specs.Prelude.{Result, Ok, Err, IfOk, nat_eq}
use Rattle.std.proofs.lemmas.List.{length-take-le, take-append-drop, take_all}
use Rattle.std.proofs.lemmas.Bool.{cases_Bool}
use Rattle.om_document.specs.declared.code.Code.{Code}
use Rattle.om_document.specs.declared.code.Code.TheVariants as code
use Rattle.om_document.specs.declared.document.Document.{Document}
use Rattle.om_text.specs.declared.parse_error.ParseError.{ParseError}
use Rattle.om_text.specs.declared.parse_error.ParseError.TheVariants as error
use Rattle.om_text.specs.declared.state.State.TheVariants.{Start}
use Rattle.om_lines.specs.Lines.{lines, with_first}
use Rattle.om_text.specs.Fault.{IsFault}
use Rattle.om_text.specs.Parsed.{IsAnswerUnlessMemory, IfLine}
use Rattle.om_text.specs.Part.{IsDocumentAtFront}
use Rattle.om_document.specs.Print.{text_of}
use Rattle.om_text.proofs.Outcome.{outcome_from}
use Rattle.om_certificate.specs.declared.verdict.Verdict.{Verdict}
use Rattle.om_reply.specs.declared.claim.Claim.{Claim}
use Rattle.om_answer.specs.declared.block.Block.TheVariants as block
use Rattle.om_answer.specs.BlockReading.{block_outcome}
use Rattle.om_answer.specs.Claim.{IsClaim}
use Rattle.om_answer.specs.ClaimFault.{IsClaimFault}
use Rattle.om_answer.proofs.ClaimSteps.{in_document}
use Rattle.om_answer.proofs.ClaimCourse.{claim_outcome, claim_comes, claim_from, claim_fault_from, claim_fault_comes}
use Rattle.om_answer.proofs.ClaimBeginnings.{document_fault_comes, document_passes, joined}

-- what the reading of lines answers
abbrev pub Reads : Result Claim ParseError → List (List ℕ) → Type 0
Reads r ls = IsAnswerUnlessMemory r (claim_outcome (in_document Start) 0 ls)

pub reads_claim : (r : Result Claim ParseError) (ls : List (List ℕ)) → Reads r ls → IfOk r (λ c. IsClaim ls c)
reads_claim (Ok c) ls h = claim_from ls c h
reads_claim (Err e) ls h = tt

pub reads_every : (r : Result Claim ParseError) (ls : List (List ℕ)) → Reads r ls → (c : Claim) → IsClaim ls c
    → IsAnswerUnlessMemory r (Ok c)
reads_every r ls h c o = subst (IsAnswerUnlessMemory r) (claim_comes ls c o) h

pub reads_fault : (r : Result Claim ParseError) (ls : List (List ℕ)) → Reads r ls → IfLine r (IsClaimFault ls)
reads_fault (Ok c) ls h = tt
reads_fault (Err error.Memory) ls h = tt
reads_fault (Err (error.Line l c)) ls h = claim_fault_from ls l c h

pub reads_first : (r : Result Claim ParseError) (ls : List (List ℕ)) → Reads r ls → (l : ℕ) (c : Code)
    → IsClaimFault ls l c → IsAnswerUnlessMemory r (Err (l, c))
reads_first r ls h l c f = subst (IsAnswerUnlessMemory r) (claim_fault_comes ls l c f) h

-- a document that is refused
pub document_refused : (A : Type 0) (e : ParseError) (ls : List (List ℕ))
    → IfLine {A = A} (Err e) (λ l c. IsFault ls l c × (c ≢ code.After)) → Reads (Err e) ls
document_refused A error.Memory ls h = tt
document_refused A (error.Line l c) ls h = document_fault_comes ls Start 0 l c h.1 (outcome_from ls l c h.0)

-- the lines of a part and those behind it
part_comes : (bytes : List ℕ) (d : Document) (len count : ℕ) → IsDocumentAtFront bytes d len count
    → claim_outcome (in_document Start) 0 (lines bytes)
    ≡ joined d (block_outcome block.Empty count (lines (drop len bytes)))
part_comes bytes d len count p =
    let n : length (take count (lines bytes)) ≡ count = length-take-le count (lines bytes) p.within in
    ap (claim_outcome (in_document Start) 0) (sym (take-append-drop count (lines bytes)))
    ∙ document_passes (take count (lines bytes)) (drop count (lines bytes)) d p.document
    ∙ ap (λ k. joined d (block_outcome block.Empty k (drop count (lines bytes)))) n
    ∙ ap (λ x. joined d (block_outcome block.Empty count x)) (sym p.rest)

-- the bytes behind a part, as they are handed on
abbrev pub rest_of : List ℕ → ℕ → List ℕ
rest_of bytes len = take (length bytes - len) (drop len bytes)

pub rest_is : (bytes : List ℕ) (len : ℕ) → rest_of bytes len ≡ drop len bytes
rest_is bytes len = let e = length-drop len bytes in take_all (length bytes - len) (drop len bytes) (omega (arith, e))

-- a block that is refused, and one that is read
pub block_refused : (e : ParseError) (bytes : List ℕ) (d : Document) (len count : ℕ)
    → IsDocumentAtFront bytes d len count
    → IsAnswerUnlessMemory {A = Verdict} (Err e) (block_outcome block.Empty count (lines (rest_of bytes len)))
    → Reads (Err e) (lines bytes)
block_refused error.Memory bytes d len count p h = tt
block_refused (error.Line l c) bytes d len count p h = part_comes bytes d len count p
    ∙ ap (λ x. joined d (block_outcome block.Empty count (lines x))) (sym (rest_is bytes len)) ∙ ap (joined d) h

pub block_read : (v : Verdict) (bytes : List ℕ) (d : Document) (len count : ℕ) → IsDocumentAtFront bytes d len count
    → IsAnswerUnlessMemory (Ok v) (block_outcome block.Empty count (lines (rest_of bytes len)))
    → Reads (Ok (record { document = d; verdict = v })) (lines bytes)
block_read v bytes d len count p h = part_comes bytes d len count p
    ∙ ap (λ x. joined d (block_outcome block.Empty count (lines x))) (sym (rest_is bytes len)) ∙ ap (joined d) h

-- there are no more lines than bytes
lines_few : (bs : List ℕ) → length (lines bs) ≤ length bs
lines_few [] = omega arith
lines_few (b ∷ bs) = elim (cases_Bool (nat_eq b 10)) [
  | inl e ↦ let h = lines_few bs in rw e (omega (arith, h))
  | inr n ↦ let h = lines_few bs in rw n (first (lines bs) h)
]
  where
    first : (ls : List (List ℕ)) → length ls ≤ length bs → length (with_first b ls) ≤ suc (length bs)
    first [] h = omega arith
    first (l ∷ ls) h = omega arith

text_long : (ls : List (List ℕ)) → length ls ≤ length (text_of ls)
text_long [] = omega arith
text_long (l ∷ ls) = let h = text_long ls in let n = length-append l (10 ∷ text_of ls) in omega (arith, h, n)

-- the lines of a part and the bytes behind it are no more than the bytes
pub part_few : (bytes : List ℕ) (d : Document) (len count : ℕ) → IsDocumentAtFront bytes d len count
    → count + length (rest_of bytes len) ≤ length bytes
part_few bytes d len count p =
    let n : length (take count (lines bytes)) ≡ count = length-take-le count (lines bytes) p.within in
    let a = lines_few bytes in
    let b = text_long (take count (lines bytes)) in
    let s = p.size in
    let e = length-drop len bytes in
    let r = ap length (rest_is bytes len) in
    omega (arith, a, b, n, s, e, r, p.within)
