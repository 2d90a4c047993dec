use Rattle.std.proofs.Common.{arith, ap, ◌∙◌, length, refl}
use Rattle.std.proofs.lemmas.List.{length-set}
use Rattle.om_chirotope.proofs.Negation.{turned_map, turned_more, rest_more}
use Rattle.om_chirotope.proofs.chirotope.negation.Goals as goal

pub returns : goal.returns
returns c =
    let inv = c.loop-i.invariant in
    let end = c.len-i-end.ensures in
    let over = c.loop-i-test.false in
    turned_map c.args.raw.rank c.args.raw.elements c.loop-i.turned.rank c.loop-i.turned.elements c.args.raw.signs
    c.loop-i.turned.signs inv.rank inv.elements inv.size (λ k l. inv.turned k (omega arith))

pub loop-i-init : goal.loop-i-init
loop-i-init c =
    record { rank = refl; elements = refl; size = refl; turned = λ k l. absurd (omega (arith, l)); rest = λ k l. refl }

pub loop-i-preserved : goal.loop-i-preserved
loop-i-preserved c =
    let inv = c.loop-i.invariant in
    record {
      rank = inv.rank;
      elements = inv.elements;
      size = ap length c.set.ensures ∙ length-set _ _ _ ∙ inv.size;
      turned = turned_more c.args.raw.signs c.loop-i.turned.signs c.set.new.self c.loop-i.i c.at-sign.result
          c.neg.result (let end = c.len-i-end.ensures in let size = inv.size in let test = c.loop-i-test.true in
          omega (arith, end, size, test)) c.at-sign.ensures c.neg.ensures c.set.ensures inv.turned inv.rest;
      rest = rest_more c.args.raw.signs c.loop-i.turned.signs c.set.new.self c.loop-i.i c.neg.result c.set.ensures
          inv.rest;
    }
