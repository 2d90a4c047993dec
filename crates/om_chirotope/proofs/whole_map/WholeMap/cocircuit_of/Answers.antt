use Rattle.std.proofs.Common.{arith, ◌≡◌, ◌∙◌, ◌≤◌, ap, length}
use Rattle.std.proofs.lemmas.List.{length-set, length-replicate}
use Rattle.om_signs.specs.declared.sign.Sign.TheVariants.{Zero}
use Rattle.om_laws.specs.Relations.{along}
use Rattle.om_chirotope.specs.Map.{value_of}
use Rattle.om_chirotope.proofs.Places.{vector_is, vector_more}
use Rattle.om_chirotope.proofs.whole_map.WholeMap.cocircuit_of.Goals as goal

pub returns : goal.returns
returns c =
    let n : c.self.inside.raw.now.elements ≡ c.args.self.now.elements = ap (λ m. m.elements) c.self.view_is in
    vector_is c.args.self.now.elements (along (value_of c.args.self.now) c.args.a.elements)
    c.loop-e.vector c.loop-e.invariant.len (λ k l. c.loop-e.invariant.done k (omega arith))

pub loop-e-preserved : goal.loop-e-preserved
loop-e-preserved c =
    let n : c.self.inside.raw.now.elements ≡ c.args.self.now.elements = ap (λ m. m.elements) c.self.view_is in
    let len = c.loop-e.invariant.len in
    let l = ap length c.set-vector.ensures in
    record {
      len = l ∙ length-set _ _ _ ∙ len;
      done = rw c.set-vector.ensures
          (vector_more c.loop-e.e (along (value_of c.args.self.now) c.args.a.elements) c.loop-e.vector _
          (omega arith) (omega arith) c.cocircuit_sign.ensures c.loop-e.invariant.done);
    }

pub loop-e-init : goal.loop-e-init
loop-e-init c = record {
  len = ap length c.zero-vector.ensures ∙ length-replicate c.self.inside.raw.now.elements Zero ∙ ap (λ m. m.elements)
      c.self.view_is;
  done = λ k l. absurd (omega (arith, l));
}

pub cocircuit_sign-requires-clause-place : goal.cocircuit_sign-requires-clause-place
cocircuit_sign-requires-clause-place c = λ out.
    let low : 1 ≤ c.loop-e.e = c.loop-e.auto.e in
    let n = c.requires.n in
    let same = ap (λ m. m.elements) c.self.view_is in
    let test = c.loop-e-test.true in
    let high : c.loop-e.e ≤ c.args.a.n = omega (arith, n, test, same) in
    c.places_with-places.ensures.places c.loop-e.e low high out

pub cocircuit_sign-requires-clause-list : goal.cocircuit_sign-requires-clause-list
cocircuit_sign-requires-clause-list c = c.places_with-places.ensures.list
