use Rattle.std.proofs.Common.{refl}
use Rattle.om_words.proofs.ElementNumbers.{this_above}
use Rattle.om_words.proofs.arguments.element_above.Goals as goal

pub returns-then-last-e : goal.returns-then-last-e
returns-then-last-e c = this_above _ _ c.in_ok-e.e ((c.in_ok-e.ensures c.in_ok-e.e).0 refl) c.if-last-e.true
