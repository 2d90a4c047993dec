use Rattle.std.specs.Prelude.{◌≡◌, ◌↔◌, Some}
use Rattle.std.proofs.Common.{subst}
use Rattle.om_words.specs.Words.{Spells}
use Rattle.om_words.proofs.argument.SignVecArgument.read.Goals as goal

pub returns : goal.returns
returns c = λ x. subst (λ w. (c.spelled.result ≡ Some x) ↔ Spells w x) c.as_bytes.ensures.value (c.spelled.ensures x)
