use Rattle.std.proofs.Common.{arith, refl, ap, ◌∙◌, length, map}
use Rattle.std.proofs.lemmas.Bool.{false≢true}
use Rattle.om_chirotope.specs.Map.{cocircuit_vector}
use Rattle.om_signs.specs.Sign.{opposite}
use Rattle.om_chirotope.proofs.Cocircuits.{length-with}
use Rattle.om_chirotope.proofs.Rows.{row_even, row_odd}
use Rattle.om_chirotope.proofs.three_terms.Picture.row_of.Goals as goal

pub cocircuit_at-vector-requires-clause-size : goal.cocircuit_at-vector-requires-clause-size
cocircuit_at-vector-requires-clause-size c =
    let rank = c.args.self.now.rank in
    let size = ap length c.with.ensures.elements ∙ length-with c.args.x c.args.self.now.p.elements c.requires.off in
    omega (arith, rank, size)

pub returns-then-odd_after : goal.returns-then-odd_after
returns-then-odd_after c =
    let m = c.args.self.now.map.now in
    let list = c.requires.list in
    c.neg.ensures ∙ ap (map opposite) (c.cocircuit_at-vector.ensures ∙ ap (cocircuit_vector m) c.with.ensures.elements)
    ∙ row_odd m c.args.self.now.p.elements c.args.x list c.requires.off (c.if-odd_after.ensures.0 refl)

pub returns-else-odd_after : goal.returns-else-odd_after
returns-else-odd_after c =
    let m = c.args.self.now.map.now in
    let list = c.requires.list in
    c.cocircuit_at-vector.ensures ∙ ap (cocircuit_vector m) c.with.ensures.elements
    ∙ row_even m c.args.self.now.p.elements c.args.x list c.requires.off (λ o. false≢true (c.if-odd_after.ensures.1 o))
