-- The steps through a claim: what a state stands for, where a step goes on, and the code of a line that it refuses.
--
-- Main definitions: ClaimState, as_document, as_block, claim_step, with_document, claim_value, IsInBlock, ShowsClaim
-- Main results: steps, errors
use Rattle.std.proofs.Common.{◌≡◌, ℕ, List, [], ◌∷◌, ◌++◌, Bool, true, false, refl, sym, ap, subst, ◌∙◌, inl, inr}
use Rattle.std.proofs.Common.{append_assoc, append-nil}
use Rattle.std.specs.Prelude.{Option, Some, None, Result, Ok, Err}
use Rattle.std.specs.List.{list_any}
use Rattle.std.proofs.lemmas.Bool.{cases_Bool}
use Rattle.om_signs.proofs.Results.{ok-injective}
use Rattle.om_document.specs.declared.code.Code.{Code}
use Rattle.om_document.specs.declared.document.Document.{Document}
use Rattle.om_text.specs.declared.draft.Draft.{Draft}
use Rattle.om_document.specs.declared.version.Version.{Version}
use Rattle.om_text.specs.declared.state.State.{State}
use Rattle.om_text.specs.declared.state.State.TheVariants.{Start, Versioned, Open, Closed}
use Rattle.om_lines.specs.Lines.{is_line, end_line}
use Rattle.om_document.specs.Document.{IsSpelled}
use Rattle.om_text.specs.Reading.{step}
use Rattle.om_text.proofs.SettingSteps.{Shows, IsFirst, IsOpen}
use Rattle.om_text.proofs.CourseSteps.{step_shows}
use Rattle.om_text.proofs.StepErrors.{step_error}
use Rattle.om_text.proofs.Course.{first_not_end, open_no_end, spelled_no_end}
use Rattle.om_certificate.specs.declared.verdict.Verdict.{Verdict}
use Rattle.om_reply.specs.declared.claim.Claim.{Claim}
use Rattle.om_answer.specs.declared.block.Block.{Block}
use Rattle.om_answer.specs.declared.block.Block.TheVariants as block
use Rattle.om_answer.specs.BlockReading.{block_step, block_value}
use Rattle.om_answer.specs.ClaimFault.{lines_after_end, claim_code}
use Rattle.om_answer.proofs.BlockParts.{IsPart}
use Rattle.om_answer.proofs.BlockCourse.{block_shows}
use Rattle.om_answer.proofs.BlockFaults.{block_error}

-- in the document, or in the block after it
pub data ClaimState : Type 0 where
  in_document : State → ClaimState
  in_block : Document → Block → ClaimState

abbrev pub as_document : Result State Code → Result ClaimState Code
as_document (Ok s) = Ok (in_document s)
as_document (Err c) = Err c

abbrev pub as_block : Document → Result Block Code → Result ClaimState Code
as_block d (Ok b) = Ok (in_block d b)
as_block d (Err c) = Err c

-- a line after the document's end is the block's first one
abbrev pub claim_step : ClaimState → List (List ℕ) → Result ClaimState Code
claim_step (in_document (Closed d)) w = as_block d (block_step block.Empty w)
claim_step (in_document s) w = as_document (step s w)
claim_step (in_block d b) w = as_block d (block_step b w)

abbrev pub with_document : Document → Option Verdict → Option Claim
with_document d (Some v) = Some (record { document = d; verdict = v })
with_document d None = None

abbrev pub claim_value : ClaimState → Option Claim
claim_value (in_document s) = None
claim_value (in_block d b) = with_document d (block_value b)

-- lines of a document and then of a block
pub record IsInBlock (d : Document) (b : Block) (ls : List (List (List ℕ))) : Type 0 where
  pub document : List (List (List ℕ))
  pub block : List (List (List ℕ))
  pub lines : ls ≡ document ++ block
  pub spelled : IsSpelled document d
  pub part : IsPart b block

abbrev pub ShowsClaim : ClaimState → List (List (List ℕ)) → Type 0
ShowsClaim (in_document s) ls = Shows s ls
ShowsClaim (in_block d b) ls = IsInBlock d b ls

-- ---- going on

document_step_ok : (r : Result State Code) (t : ClaimState) → as_document r ≡ Ok t → (s : State) × (r ≡ Ok s)
    × (in_document s ≡ t)
document_step_ok (Ok s) t h = (s, refl, ok-injective (in_document s) t h)
document_step_ok (Err c) t h = cc

block_step_ok : (d : Document) (r : Result Block Code) (t : ClaimState) → as_block d r ≡ Ok t → (b : Block) × (r ≡ Ok b)
    × (in_block d b ≡ t)
block_step_ok d (Ok b) t h = (b, refl, ok-injective (in_block d b) t h)
block_step_ok d (Err c) t h = cc

document_shows : (s : State) (ls : List (List (List ℕ))) (w : List (List ℕ)) (t : ClaimState) → Shows s ls
    → as_document (step s w) ≡ Ok t → ShowsClaim t (ls ++ w ∷ [])
document_shows s ls w t o h = let k = document_step_ok (step s w) t h in
    subst (λ t. ShowsClaim t (ls ++ w ∷ [])) k.2 (step_shows s ls w k.0 o k.1)

in_block_shows : (d : Document) (b : Block) (ls front more : List (List (List ℕ))) (w : List (List ℕ)) (t : ClaimState)
    → ls ≡ front ++ more → IsSpelled front d → IsPart b more → as_block d (block_step b w) ≡ Ok t
    → ShowsClaim t (ls ++ w ∷ [])
in_block_shows d b ls front more w t e o p h =
    let k = block_step_ok d (block_step b w) t h in
    subst (λ t. ShowsClaim t (ls ++ w ∷ [])) k.2 (record {
      document = front;
      block = more ++ w ∷ [];
      lines = ap (λ x. x ++ w ∷ []) e ∙ append_assoc front more (w ∷ []);
      spelled = o;
      part = block_shows b more w k.0 p k.1;
    })

pub steps : (s : ClaimState) (ls : List (List (List ℕ))) (w : List (List ℕ)) (t : ClaimState) → ShowsClaim s ls
    → claim_step s w ≡ Ok t → ShowsClaim t (ls ++ w ∷ [])
steps (in_document Start) ls w t o h = document_shows Start ls w t o h
steps (in_document (Versioned v)) ls w t o h = document_shows (Versioned v) ls w t o h
steps (in_document (Open d)) ls w t o h = document_shows (Open d) ls w t o h
steps (in_document (Closed d)) ls w t o h = in_block_shows d block.Empty ls ls [] w t (sym (append-nil ls)) o refl h
steps (in_block d b) ls w t o h = in_block_shows d b ls o.document o.block w t o.lines o.spelled o.part h

-- ---- the codes

after_none : (ls more : List (List (List ℕ))) → list_any (λ l. is_line l end_line) ls ≡ false
    → lines_after_end (ls ++ more) ≡ lines_after_end more
after_none [] more h = refl
after_none (l ∷ ls) more h = elim (cases_Bool (is_line l end_line)) [
  | inl e ↦ let n : ◌≡◌ {A = Bool} true false = rw e at h in cc
  | inr n ↦ let k : list_any (λ l. is_line l end_line) ls ≡ false = rw n at h in rw n (after_none ls more k)
]

-- the version line isn't the end line
first_end : (v : Version) (ls : List (List (List ℕ))) → IsFirst v ls → lines_after_end ls ≡ None
first_end v ls o = ap lines_after_end o.1 ∙ rw (first_not_end o.0 v o.2) refl

-- the lines of a document that is still open have no end line
open_end : (ls : List (List (List ℕ))) (d : Draft) → IsOpen ls d → lines_after_end ls ≡ None
open_end ls d o = ap lines_after_end (sym (append-nil ls)) ∙ after_none ls [] (open_no_end ls d o)

-- the block begins after the end line of a document
spelled_end : (ls : List (List (List ℕ))) (d : Document) (more : List (List (List ℕ))) → IsSpelled ls d
    → lines_after_end (ls ++ more) ≡ Some more
spelled_end ls d more o =
    let k = spelled_no_end ls d o in
    ap (λ x. lines_after_end (x ++ more)) k.1 ∙ ap lines_after_end (append_assoc k.0 (end_line ∷ []) more)
    ∙ after_none k.0 (end_line ∷ more) k.2

document_step_err : (r : Result State Code) (c : Code) → as_document r ≡ Err c → r ≡ Err c
document_step_err (Ok s) c h = cc
document_step_err (Err x) c h = cc

block_step_err : (d : Document) (r : Result Block Code) (c : Code) → as_block d r ≡ Err c → r ≡ Err c
block_step_err d (Ok b) c h = cc
block_step_err d (Err x) c h = cc

document_error : (s : State) (ls : List (List (List ℕ))) (w : List (List ℕ)) (c : Code) → Shows s ls
    → lines_after_end ls ≡ None → as_document (step s w) ≡ Err c → claim_code ls w ≡ Some c
document_error s ls w c o n h = rw n (step_error s ls w c o (document_step_err (step s w) c h))

in_block_error : (d : Document) (b : Block) (ls front more : List (List (List ℕ))) (w : List (List ℕ)) (c : Code)
    → ls ≡ front ++ more → IsSpelled front d → IsPart b more → as_block d (block_step b w) ≡ Err c
    → claim_code ls w ≡ Some c
in_block_error d b ls front more w c e o p h =
    let a : lines_after_end ls ≡ Some more = ap lines_after_end e ∙ spelled_end front d more o in
    rw a (ap (λ c. Some c) (block_error b more w c p (block_step_err d (block_step b w) c h)))

pub errors : (s : ClaimState) (ls : List (List (List ℕ))) (w : List (List ℕ)) (c : Code) → ShowsClaim s ls
    → claim_step s w ≡ Err c → claim_code ls w ≡ Some c
errors (in_document Start) ls w c o h = document_error Start ls w c o (ap lines_after_end o) h
errors (in_document (Versioned v)) ls w c o h = document_error (Versioned v) ls w c o (first_end v ls o) h
errors (in_document (Open d)) ls w c o h = document_error (Open d) ls w c o (open_end ls d o) h
errors (in_document (Closed d)) ls w c o h = in_block_error d block.Empty ls ls [] w c (sym (append-nil ls)) o refl h
errors (in_block d b) ls w c o h = in_block_error d b ls o.document o.block w c o.lines o.spelled o.part h
