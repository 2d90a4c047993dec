-- Claims: a document followed by a verdict block.
--
-- Trusted: `read_claim` promises exactly this.
use Rattle.std.specs.Prelude.{ℕ, ◌≡◌, List, ◌++◌}
use Rattle.om_lines.specs.Lines.{wordful}
use Rattle.om_document.specs.Document.{IsSpelled}
use Rattle.om_answer.specs.Block.{IsBlock}
use Rattle.om_reply.specs.declared.claim.Claim.{Claim}

-- the words of lines are those of a document followed by those of a verdict block; c is the claim that they spell
pub record IsSpelledClaim (ls : List (List (List ℕ))) (c : Claim) : Type 0 where
  pub document : List (List (List ℕ))
  pub block : List (List (List ℕ))
  pub lines : ls ≡ document ++ block
  pub spelled : IsSpelled document c.document
  pub verdict : IsBlock block c.verdict

-- the lines are a claim, and c is its value
abbrev pub IsClaim : List (List ℕ) → Claim → Type 0
IsClaim ls c = IsSpelledClaim (wordful ls) c
