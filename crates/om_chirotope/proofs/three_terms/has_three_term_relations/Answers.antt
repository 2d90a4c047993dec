use Rattle.std.proofs.Common.{arith, refl}
use Rattle.om_chirotope.specs.Map.{map_of}
use Rattle.om_chirotope.proofs.ThreeTermRelations.{relations_of_low_rank}
use Rattle.om_chirotope.proofs.three_terms.has_three_term_relations.Goals as goal

pub returns-then-raw-eq0 : goal.returns-then-raw-eq0
returns-then-raw-eq0 c = let zero = c.if-raw-eq0.true in
    (λ t. relations_of_low_rank (map_of c.args.raw.now) (omega (arith, zero)), λ h. refl)
