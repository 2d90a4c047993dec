use Rattle.std.specs.Prelude.{◌≡◌, ◌≢◌}
use Rattle.std.proofs.Common.{refl, sym, ap, ◌∙◌}
use Rattle.om_signs.proofs.Results.{err-ne-ok, ok-injective}
use Rattle.om_words.specs.declared.reads.Reads.{Reads}
use Rattle.om_words.specs.declared.reads.Reads.TheVariants as kind
use Rattle.om_words.specs.Tasks.{reads}
use Rattle.om_words.specs.ReadingCommands.{other, unread}
use Rattle.om_words.proofs.reading.reading_command.Goals as goal

document_read : (r s : Reads) → r ≡ s → r ≡ kind.Document → s ≢ kind.Nothing
document_read r s e d n = let x : kind.Document ≡ kind.Nothing = sym d ∙ (e ∙ n) in cc

claim_read : (r s : Reads) → r ≡ s → r ≡ kind.Claim → s ≢ kind.Nothing
claim_read r s e d n = let x : kind.Claim ≡ kind.Nothing = sym d ∙ (e ∙ n) in cc

pub returns-in-Document : goal.returns-in-Document
returns-in-Document c = record {
  task = ((c.in-Ok.ensures.task c.in-Ok.task).0 refl, document_read _ _ c.reads.ensures c.in-Document.is);
  one = λ other named. sym (ok-injective _ _ ((c.in-Ok.ensures.task other).1 named));
  lawful = c.in-Ok.ensures.lawful;
  usage = tt;
  none = tt;
}

pub returns-in-Claim : goal.returns-in-Claim
returns-in-Claim c = record {
  task = ((c.in-Ok.ensures.task c.in-Ok.task).0 refl, claim_read _ _ c.reads.ensures c.in-Claim.is);
  one = λ other named. sym (ok-injective _ _ ((c.in-Ok.ensures.task other).1 named));
  lawful = c.in-Ok.ensures.lawful;
  usage = tt;
  none = tt;
}

pub returns-in-Nothing-clause-usage : goal.returns-in-Nothing-clause-usage
returns-in-Nothing-clause-usage c =
    unread c.in-Ok.task ((c.in-Ok.ensures.task c.in-Ok.task).0 refl) (sym c.reads.ensures ∙ c.in-Nothing.is)

pub returns-in-Nothing-clause-none : goal.returns-in-Nothing-clause-none
returns-in-Nothing-clause-none c =
    λ command. command.1.1 (ap reads (sym (ok-injective _ _ ((c.in-Ok.ensures.task command.0).1 command.1.0)))
    ∙ (sym c.reads.ensures ∙ c.in-Nothing.is))

pub returns-in-Err-clause-usage : goal.returns-in-Err-clause-usage
returns-in-Err-clause-usage c = other _ c.in-Err.ensures.usage

pub returns-in-Err-clause-none : goal.returns-in-Err-clause-none
returns-in-Err-clause-none c = λ command. err-ne-ok _ _ ((c.in-Err.ensures.task command.0).1 command.1.0)
