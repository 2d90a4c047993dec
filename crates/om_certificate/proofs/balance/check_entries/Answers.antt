use Rattle.std.proofs.Common.{sym, ◌∙◌}
use Rattle.std.proofs.lemmas.Bool.{false≢true}
use Rattle.om_certificate.specs.Refusals.{unlawful, no_strict}
use Rattle.om_certificate.proofs.balance.check_entries.Goals as goal

pub returns-in-Some-clause-refused : goal.returns-in-Some-clause-refused
returns-in-Some-clause-refused c = unlawful c.in-Some.entry c.in-Some.ensures.first

pub returns-then-has_strict-clause-accepted : goal.returns-then-has_strict-clause-accepted
returns-then-has_strict-clause-accepted c = record {
  lawful = c.in_default.ensures.none;
  counted = λ k d l. (c.requires.limits.counted k d l).low;
  balanced = c.in_ok-check_balance.ensures.accepted;
  strict = c.has_strict.ensures.0 c.if-has_strict.true;
}

pub returns-else-has_strict-clause-refused : goal.returns-else-has_strict-clause-refused
returns-else-has_strict-clause-refused c =
    no_strict c.in_default.ensures.none c.in_ok-check_balance.ensures.accepted
    (λ h. false≢true (sym c.if-has_strict.false ∙ c.has_strict.ensures.1 h))
