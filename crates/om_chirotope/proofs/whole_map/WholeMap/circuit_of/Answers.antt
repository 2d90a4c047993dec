use Rattle.std.proofs.Common.{arith, ◌≡◌, ◌∙◌, ap, length}
use Rattle.std.proofs.lemmas.List.{length-set}
use Rattle.om_laws.specs.Relations.{around}
use Rattle.om_chirotope.specs.Map.{value_of}
use Rattle.om_chirotope.proofs.Places.{vector_is, vector_more}
use Rattle.om_chirotope.proofs.whole_map.WholeMap.circuit_of.Goals as goal

pub returns : goal.returns
returns c =
    let n : c.self.inside.raw.now.elements ≡ c.args.self.now.elements = ap (λ m. m.elements) c.self.view_is in
    vector_is c.args.self.now.elements (around (value_of c.args.self.now) c.args.s.elements)
    c.loop-e.vector c.loop-e.invariant.len (λ k l. c.loop-e.invariant.done k (omega arith))

pub loop-e-preserved : goal.loop-e-preserved
loop-e-preserved c =
    let n : c.self.inside.raw.now.elements ≡ c.args.self.now.elements = ap (λ m. m.elements) c.self.view_is in
    let len = c.loop-e.invariant.len in
    let l = ap length c.set-vector.ensures in
    record {
      len = l ∙ length-set _ _ _ ∙ len;
      done = rw c.set-vector.ensures
          (vector_more c.loop-e.e (around (value_of c.args.self.now) c.args.s.elements) c.loop-e.vector _
          (omega arith) (omega arith) c.circuit_sign.ensures c.loop-e.invariant.done);
    }
