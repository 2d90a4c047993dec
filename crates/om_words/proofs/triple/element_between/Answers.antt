use Rattle.std.proofs.Common.{refl}
use Rattle.om_words.proofs.ThreeWords.{this_within}
use Rattle.om_words.proofs.triple.element_between.Goals as goal

pub returns-then-e-high : goal.returns-then-e-high
returns-then-e-high c = this_within _ _ _ c.in_ok-e.e ((c.in_ok-e.ensures c.in_ok-e.e).0 refl) c.if-low-e.true
    c.if-e-high.true
