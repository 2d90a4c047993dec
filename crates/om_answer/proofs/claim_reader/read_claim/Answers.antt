use Rattle.std.proofs.Common.{ℕ, arith}
use Rattle.std.proofs.lemmas.Result.{err_from_is_err_and}
use Rattle.std.specs.Prelude.{Ok, Err}
use Rattle.om_lines.specs.Lines.{lines}
use Rattle.om_document.specs.declared.document.Document.{Document}
use Rattle.om_reply.specs.declared.claim.Claim.{Claim}
use Rattle.om_answer.proofs.ClaimReading.{reads_claim, reads_every, reads_fault, reads_first, document_refused}
use Rattle.om_answer.proofs.ClaimReading.{block_refused, block_read, part_few}
use Rattle.om_answer.proofs.ClaimSizes.{evidence_within}
use Rattle.om_answer.proofs.VerdictForms.{verdict_form}
use Rattle.om_answer.proofs.claim_reader.read_claim.Goals as goal

pub read_block-requires : goal.read_block-requires
read_block-requires c = let h =
    part_few c.args.bytes.now c.in_ok-document.document c.in_ok-document.len c.in_ok-document.line
    c.in_ok-document.ensures.part in omega (arith, h, c.requires)

pub returns : goal.returns
returns c =
    let claim : Claim = record { document = c.in_ok-document.document; verdict = c.in_ok-verdict.verdict } in
    let read =
    block_read claim.verdict c.args.bytes.now claim.document c.in_ok-document.len c.in_ok-document.line
    c.in_ok-document.ensures.part c.in_ok-verdict.ensures in
    let is_claim = reads_claim (Ok claim) (lines c.args.bytes.now) read in
    record {
      claim = is_claim;
      form = c.in_ok-document.ensures.form;
      verdict = verdict_form is_claim.block claim.verdict is_claim.verdict;
      evidence = λ few. evidence_within c.args.bytes.now claim is_claim few;
      every = reads_every (Ok claim) (lines c.args.bytes.now) read;
      fault = tt;
      first = reads_first (Ok claim) (lines c.args.bytes.now) read;
    }

pub returns-in_err-verdict : goal.returns-in_err-verdict
returns-in_err-verdict c =
    let refused =
    block_refused c.in_err-verdict.field-0.0 c.args.bytes.now c.in_ok-document.document c.in_ok-document.len
    c.in_ok-document.line c.in_ok-document.ensures.part c.in_err-verdict.ensures in
    let p = err_from_is_err_and c.from_residual-in_err-verdict.result c.from_residual-in_err-verdict.ensures.1 in
    rw (p.1, p.2) (record {
      claim = tt;
      form = tt;
      verdict = tt;
      evidence = λ few. tt;
      every = reads_every (Err c.in_err-verdict.field-0.0) (lines c.args.bytes.now) refused;
      fault = reads_fault (Err c.in_err-verdict.field-0.0) (lines c.args.bytes.now) refused;
      first = reads_first (Err c.in_err-verdict.field-0.0) (lines c.args.bytes.now) refused;
    })

pub returns-in_err-document : goal.returns-in_err-document
returns-in_err-document c =
    let refused =
    document_refused (Document × ℕ × ℕ) c.in_err-document.field-0.0 (lines c.args.bytes.now)
    c.in_err-document.ensures.fault in
    let p = err_from_is_err_and c.from_residual.result c.from_residual.ensures.1 in
    rw (p.1, p.2) (record {
      claim = tt;
      form = tt;
      verdict = tt;
      evidence = λ few. tt;
      every = reads_every (Err c.in_err-document.field-0.0) (lines c.args.bytes.now) refused;
      fault = reads_fault (Err c.in_err-document.field-0.0) (lines c.args.bytes.now) refused;
      first = reads_first (Err c.in_err-document.field-0.0) (lines c.args.bytes.now) refused;
    })
