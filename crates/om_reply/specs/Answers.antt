-- Answers: what they show, their texts, and which are answers to a command. AnswerStatuses has their statuses.
use Rattle.std.specs.Prelude.{ℕ, ◌≤◌, List, length}
use Rattle.om_chirotope.specs.Map.{SignMap}
use Rattle.om_certificate.specs.declared.verdict.Verdict.{Verdict}
use Rattle.om_certificate.specs.Forms.{IsVerdictInForm}
use Rattle.om_document.specs.declared.document.Document.{Document}
use Rattle.om_document.specs.Form.{IsInForm}
use Rattle.om_document.specs.Print.{printed}
use Rattle.om_document.specs.PrintTwo.{printed_two, IsClosedUnderNegation}
use Rattle.om_printing.specs.declared.line.Line.{Line}
use Rattle.om_printing.specs.Texts.{line_text}
use Rattle.om_localize.specs.declared.listing.Listing.{Listing}
use Rattle.om_oriented.specs.declared.painted.Painted.{Painted}
use Rattle.om_subsets.specs.Members.{Chosen}
use Rattle.om_reply.specs.VerdictText.{claim_of, claim_text}
use Rattle.om_reply.specs.declared.answer.Answer.{Answer}
use Rattle.om_reply.specs.declared.answer.Answer.TheVariants as answer
use Rattle.om_reply.specs.Statuses.{IsReplied}
pub use Rattle.om_reply.specs.AnswerStatuses.{status_of_line, status_of_verdict, status_of}
use Rattle.om_reply.specs.ExtensionTexts.{extensions_text}
use Rattle.om_reply.specs.HullTexts.{hull_text}
use Rattle.om_reply.specs.MutationTexts.{mutations_text}
use Rattle.om_reply.specs.MadeTexts.{made_text}
use Rattle.om_vectors.specs.declared.tally.Tally.{Tally}
use Rattle.om_vectors.specs.WholeVectors.{WholeVector}

-- an answer of one line
abbrev pub says : Line → Answer
says l = answer.Line l

-- an answer that is a document
abbrev pub shows : Document → Answer
shows d = answer.Document d

-- an answer that is a document in version 2
abbrev pub shows_two : Document → Answer
shows_two d = answer.Upgraded d

-- an answer that lists mutations
abbrev pub lists : List Chosen → Answer
lists sets = answer.Mutations sets

-- an answer that lists extensions of a map on n elements
abbrev pub lists_extensions : ℕ → Listing → Answer
lists_extensions n l = answer.Extensions n l

-- an answer that is a verdict on a chirotope: a claim
abbrev pub judges : SignMap → Verdict → Answer
judges m v = answer.Claim (claim_of m v)

-- an answer that tells a hull
abbrev pub tells : List Painted → Answer
tells items = answer.Hull items

-- an answer that consists of vectors and their summary
abbrev pub makes : List WholeVector → Tally → Answer
makes vs t = answer.Made vs t

-- the bytes of an answer. A document is written in canonical form or in version 2, and a verdict is written after
-- the document of its chirotope.
abbrev pub text_of : Answer → List ℕ
text_of (answer.Line l) = line_text l
text_of (answer.Document d) = printed d
text_of (answer.Upgraded d) = printed_two d
text_of (answer.Mutations sets) = mutations_text sets
text_of (answer.Extensions n l) = extensions_text n l
text_of (answer.Hull items) = hull_text items
text_of (answer.Claim c) = claim_text c
text_of (answer.Made vs t) = made_text vs t

-- an answer to a command: a line that isn't a usage, or a value of the form in which it is written
abbrev pub IsReply : Answer → Type 0
IsReply (answer.Line l) = IsReplied (status_of_line l)
IsReply (answer.Document d) = IsInForm d
IsReply (answer.Upgraded d) = IsInForm d × IsClosedUnderNegation d.body
IsReply (answer.Mutations sets) = Unit {0}
IsReply (answer.Extensions n l) = Unit {0}
IsReply (answer.Hull items) = Unit {0}
IsReply (answer.Claim c) = IsInForm c.document × IsVerdictInForm c.verdict
IsReply (answer.Made vs t) = 1 ≤ length vs
