use Rattle.std.proofs.Common.{sym, subst}
use Rattle.om_chirotope.specs.Map.{map_of}
use Rattle.om_convert.specs.Hitting.{IsNormalOf}
use Rattle.om_convert.proofs.NormalSigns.{rank_part, made_normal}
use Rattle.om_convert.proofs.propagation.chirotope_of.Goals as goal

pub propagated_map-requires-clause-part : goal.propagated_map-requires-clause-part
propagated_map-requires-clause-part c =
    rank_part c.args.set.now c.members-vectors.ensures.lawful c.elements-elements.result c.args.rank
    c.elements-elements.ensures.value c.requires

pub lawful-requires-clause-axioms : goal.lawful-requires-clause-axioms
lawful-requires-clause-axioms c =
    (made_normal c.args.set.now c.members-vectors.ensures.lawful c.elements-elements.result c.members-vectors.result.now
    c.args.rank (map_of c.in_ok-raw.raw)
    c.elements-elements.ensures.value c.members-vectors.ensures.value c.requires c.in_ok-raw.ensures.rank
    c.in_ok-raw.ensures.normal).axioms

pub returns : goal.returns
returns c = subst (IsNormalOf c.args.set.now.elements c.args.set.now.members) (sym c.lawful.ensures)
    (made_normal c.args.set.now c.members-vectors.ensures.lawful c.elements-elements.result c.members-vectors.result.now
    c.args.rank (map_of c.in_ok-raw.raw)
    c.elements-elements.ensures.value c.members-vectors.ensures.value c.requires c.in_ok-raw.ensures.rank
    c.in_ok-raw.ensures.normal)
