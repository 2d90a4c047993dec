use Rattle.om_vectors.proofs.Triples.{chirotope_from}
use Rattle.om_vectors.proofs.signs.signs_of.Goals as goal

pub lawful-requires-clause-axioms : goal.lawful-requires-clause-axioms
lawful-requires-clause-axioms c =
    rw c.in_ok-signs.ensures
    (chirotope_from c.args.vectors.now c.in-Some.field-0.elements c.in-Some.ensures.triple c.in-Some.ensures.nonzero)
