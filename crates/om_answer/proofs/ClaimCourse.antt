-- Claims read line by line, first the document and then the block: what that comes to is the claim or the first fault.
--
-- Main definitions: run_claim, claim_outcome
-- Main results: claim_comes, claim_from, claim_fault_from, claim_fault_comes
use Rattle.std.proofs.Common.{◌≡◌, ℕ, List, [], ◌∷◌, ◌++◌, true, refl, ap, subst, ◌∙◌}
use Rattle.std.specs.Prelude.{Option, Some, Result, Ok, Err, codes}
use Rattle.std.specs.List.{list_all}
use Rattle.om_signs.proofs.Results.{ok-injective}
use Rattle.om_document.specs.declared.code.Code.{Code}
use Rattle.om_document.specs.declared.document.Document.{Document}
use Rattle.om_text.specs.declared.state.State.{State}
use Rattle.om_text.specs.declared.state.State.TheVariants.{Start, Versioned, Open, Closed}
use Rattle.om_lines.specs.Lines.{wordful}
use Rattle.om_text.specs.Steps.{outcome_by}
use Rattle.om_text.specs.Reading.{step}
use Rattle.om_text.proofs.Language.{run_words, bind, IsCompletion, value_outcome, outcome_value, outcome_fault}
use Rattle.om_text.proofs.Language.{fault_outcome, run_shows, run-append, run_value}
use Rattle.om_lines.proofs.WordLines.{wordful-append}
use Rattle.om_text.proofs.SettingSteps.{Shows}
use Rattle.om_text.proofs.Course.{spelled_run}
use Rattle.om_text.proofs.Completion as completions
use Rattle.om_document.proofs.Feeds.{is_one_line, one_line-append}
use Rattle.om_certificate.specs.declared.verdict.Verdict.{Verdict}
use Rattle.om_certificate.specs.declared.verdict.Verdict.TheVariants.{Realizable}
use Rattle.om_reply.specs.declared.claim.Claim.{Claim}
use Rattle.om_answer.specs.declared.block.Block.{Block}
use Rattle.om_answer.specs.declared.block.Block.TheVariants as block
use Rattle.om_answer.specs.BlockReading.{block_step, block_value}
use Rattle.om_answer.specs.Claim.{IsSpelledClaim, IsClaim}
use Rattle.om_answer.specs.ClaimFault.{claim_code, AreClaim, IsClaimFault}
use Rattle.om_answer.proofs.BlockParts.{IsPart}
use Rattle.om_answer.proofs.BlockRuns.{run_block, block_runs, block_completes, block_one_line}
use Rattle.om_answer.proofs.ClaimSteps.{ClaimState, in_document, in_block, as_block, claim_step, with_document}
use Rattle.om_answer.proofs.ClaimSteps.{claim_value, ShowsClaim, steps, errors}

-- ---- the end, and the way to it

closed_value : (d : Document) (b : Block) (c : Claim) → with_document d (block_value b) ≡ Some c → (v : Verdict)
    × (b ≡ block.Closed v) × (record { document = d; verdict = v } ≡ c)
closed_value d (block.Closed v) c h = (v, refl, some_same (record { document = d; verdict = v }) c h)
  where
    some_same : (a b : Claim) → ◌≡◌ {A = Option Claim} (Some a) (Some b) → a ≡ b
    some_same a b h = cc
closed_value d _ c h = cc

pub ends : (s : ClaimState) (ls : List (List (List ℕ))) (c : Claim) → ShowsClaim s ls → claim_value s ≡ Some c
    → IsSpelledClaim ls c
ends (in_document s) ls c o h = cc
ends (in_block d b) ls c o h =
    let k = closed_value d b c h in
    subst (λ c. IsSpelledClaim ls c) k.2 (record {
      document = o.document;
      block = o.block;
      lines = o.lines;
      spelled = o.spelled;
      verdict = subst (λ b. IsPart b o.block) k.1 o.part;
    })

abbrev pub run_claim : ClaimState → List (List (List ℕ)) → Result ClaimState Code
run_claim = run_words claim_step

bound : {S : Type 0} (r : Result S Code) (f : S → Result S Code) (t : S) → bind r f ≡ Ok t → (s : S) × (r ≡ Ok s)
    × (f s ≡ Ok t)
bound (Ok s) f t h = (s, refl, h)
bound (Err c) f t h = cc

-- a step within the document
open_step : (s : State) (w : List (List ℕ)) (t : State) → step s w ≡ Ok t
    → claim_step (in_document s) w ≡ Ok (in_document t)
open_step Start w t h = rw h refl
open_step (Versioned v) w t h = rw h refl
open_step (Open d) w t h = rw h refl
open_step (Closed d) w t h = cc

-- the run of a document is one of a claim
pub document_run : (ws : List (List (List ℕ))) (s t : State) (more : List (List (List ℕ))) → run_words step s ws ≡ Ok t
    → run_claim (in_document s) (ws ++ more) ≡ run_claim (in_document t) more
document_run [] s t more h = ap (λ x. run_claim (in_document x) more) (ok-injective s t h)
document_run (w ∷ ws) s t more h =
    let k = bound (step s w) (λ t. run_words step t ws) t h in
    ap (λ r. bind r (λ t. run_claim t (ws ++ more))) (open_step s w k.0 k.1) ∙ document_run ws k.0 t more k.2

block_run : (d : Document) (ws : List (List (List ℕ))) (b t : Block) → run_block b ws ≡ Ok t
    → run_claim (in_block d b) ws ≡ Ok (in_block d t)
block_run d [] b t h = ap (λ x. Ok (in_block d x)) (ok-injective b t h)
block_run d (w ∷ ws) b t h =
    let k = bound (block_step b w) (λ t. run_block t ws) t h in
    ap (λ r. bind (as_block d r) (λ t. run_claim t ws)) k.1 ∙ block_run d ws k.0 t k.2

-- the first line after the document opens the block
opening_run : (d : Document) (ws : List (List (List ℕ))) (v : Verdict) → run_block block.Empty ws ≡ Ok (block.Closed v)
    → run_claim (in_document (Closed d)) ws ≡ Ok (in_block d (block.Closed v))
opening_run d [] v h = cc
opening_run d (w ∷ ws) v h =
    let k = bound (block_step block.Empty w) (λ t. run_block t ws) (block.Closed v) h in
    ap (λ r. bind (as_block d r) (λ t. run_claim t ws)) k.1 ∙ block_run d ws k.0 (block.Closed v) k.2

pub runs : (ls : List (List (List ℕ))) (c : Claim) → IsSpelledClaim ls c → (s : ClaimState)
    × (run_claim (in_document Start) ls ≡ Ok s) × (claim_value s ≡ Some c)
runs ls c o = (
  in_block c.document (block.Closed c.verdict),
  ap (run_claim (in_document Start)) o.lines
      ∙ document_run o.document Start (Closed c.document) o.block (spelled_run o.document c.document o.spelled)
      ∙ opening_run c.document o.block c.verdict (block_runs o.block c.verdict o.verdict),
  refl,
)

-- the least block
abbrev least : List (List ℕ)
least = codes "realizable" ∷ codes "end" ∷ []

document_completes : (s : State) (ls : List (List (List ℕ))) → Shows s ls → (more : List (List ℕ))
    × IsCompletion claim_step claim_value (in_document s) more
document_completes s ls o =
    let c = completions.completion s ls o in (
      c.0 ++ least,
      record {
        last = in_block c.1.document (block.Closed (Realizable []));
        is = record { document = c.1.document; verdict = Realizable [] };
        run = ap (run_claim (in_document s)) (wordful-append c.0 least)
            ∙ document_run (wordful c.0) s (Closed c.1.document) (wordful least) c.1.run
            ∙ opening_run c.1.document (wordful least) (Realizable []) refl;
        gives = refl;
      },
    )

pub completes : (s : ClaimState) (ls : List (List (List ℕ))) → ShowsClaim s ls → (more : List (List ℕ))
    × IsCompletion claim_step claim_value s more
completes (in_document s) ls o = document_completes s ls o
completes (in_block d b) ls o =
    let e = block_completes b in (
      e.0,
      record {
        last = in_block d e.1.last;
        is = record { document = d; verdict = e.1.is };
        run = block_run d (wordful e.0) b e.1.last e.1.run;
        gives = ap (with_document d) e.1.gives;
      },
    )

-- ---- what the lines come to

abbrev pub claim_outcome : ClaimState → ℕ → List (List ℕ) → Result Claim (ℕ × Code)
claim_outcome = outcome_by claim_step claim_value

abbrev pub start : ClaimState
start = in_document Start

pub claim_comes : (ls : List (List ℕ)) (c : Claim) → IsClaim ls c → claim_outcome start 0 ls ≡ Ok c
claim_comes ls c o = value_outcome ClaimState Claim claim_step claim_value start IsSpelledClaim claim_code ShowsClaim
    refl steps errors ends runs completes ls c o

pub claim_from : (ls : List (List ℕ)) (c : Claim) → claim_outcome start 0 ls ≡ Ok c → IsClaim ls c
claim_from ls c h = outcome_value ClaimState Claim claim_step claim_value start IsSpelledClaim claim_code ShowsClaim
    refl steps errors ends runs completes ls [] start 0 c refl h

pub claim_fault_from : (ls : List (List ℕ)) (l : ℕ) (c : Code) → claim_outcome start 0 ls ≡ Err (l, c)
    → IsClaimFault ls l c
claim_fault_from ls l c h = outcome_fault ClaimState Claim claim_step claim_value start IsSpelledClaim claim_code
    ShowsClaim refl steps errors ends runs completes ls [] start 0 l c refl refl h

pub claim_fault_comes : (ls : List (List ℕ)) (l : ℕ) (c : Code) → IsClaimFault ls l c
    → claim_outcome start 0 ls ≡ Err (l, c)
claim_fault_comes ls l c f =
    fault_outcome ClaimState Claim claim_step claim_value start IsSpelledClaim claim_code ShowsClaim refl steps errors
    ends runs completes f

-- ---- beginnings as bytes

-- the lines that complete a claim hold no line feed
completes_in_one_line : (s : ClaimState) (ls : List (List (List ℕ))) (o : ShowsClaim s ls)
    → list_all is_one_line (completes s ls o).0 ≡ true
unfolding completes document_completes
completes_in_one_line (in_document s) ls o = let c = completions.completion s ls o in
    one_line-append c.0 least c.1.one_line refl
completes_in_one_line (in_block d b) ls o = block_one_line b

-- lines that complete what was read
pub run_completes : (ls : List (List ℕ)) (s : ClaimState) → run_claim start (wordful ls) ≡ Ok s → (more : List (List ℕ))
    × (list_all is_one_line more ≡ true) × AreClaim (ls ++ more)
run_completes ls s h =
    let o : ShowsClaim s (wordful ls) =
    run_shows ClaimState Claim claim_step claim_value start IsSpelledClaim claim_code ShowsClaim refl steps errors
    ends runs completes (wordful ls) [] start s refl h in
    let c = completes s (wordful ls) o in
    let r = run-append ClaimState Claim claim_step claim_value start IsSpelledClaim claim_code ShowsClaim refl steps
    errors ends runs completes ls c.0 s h ∙ c.1.run in (
      c.0,
      completes_in_one_line s (wordful ls) o,
      (
        c.1.is,
        run_value ClaimState Claim claim_step claim_value start IsSpelledClaim claim_code ShowsClaim refl steps
            errors ends runs completes (ls ++ c.0) c.1.last c.1.is r c.1.gives,
      ),
    )
