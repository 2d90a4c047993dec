-- Bytes are a document or a claim, or have a first line at fault.
--
-- Main results: readings, claim_readings; document_form, claim_form.
use Rattle.std.specs.Prelude.{ℕ, ◌⊎◌, List}
use Rattle.om_document.specs.declared.code.Code.{Code}
use Rattle.om_document.specs.declared.document.Document.{Document}
use Rattle.om_document.specs.Document.{IsDocument}
use Rattle.om_text.specs.Fault.{IsFault}
use Rattle.om_document.specs.Form.{IsInForm}
use Rattle.om_lines.specs.Lines.{lines, wordful}
use Rattle.om_text.proofs.Forms.{document_form as spelled_form}
use Rattle.om_text.proofs.Outcome.{document_or_fault}
use Rattle.om_answer.proofs.OneReading.{claim_or_fault}
use Rattle.om_reply.specs.declared.claim.Claim.{Claim}
use Rattle.om_answer.specs.Claim.{IsClaim}
use Rattle.om_answer.specs.ClaimFault.{IsClaimFault}

pub readings : (bytes : List ℕ) → ((d : Document) × IsDocument (lines bytes) d)
    ⊎ ((n : ℕ) × (c : Code) × IsFault (lines bytes) n c)
readings bytes = document_or_fault (lines bytes)

pub document_form : (ls : List (List ℕ)) (d : Document) → IsDocument ls d → IsInForm d
document_form ls d is = spelled_form (wordful ls) d is

pub claim_readings : (bytes : List ℕ) → ((c : Claim) × IsClaim (lines bytes) c)
    ⊎ ((n : ℕ) × (c : Code) × IsClaimFault (lines bytes) n c)
claim_readings bytes = claim_or_fault (lines bytes)

pub claim_form : (ls : List (List ℕ)) (c : Claim) → IsClaim ls c → IsInForm c.document
claim_form ls c is = spelled_form is.document c.document is.spelled
