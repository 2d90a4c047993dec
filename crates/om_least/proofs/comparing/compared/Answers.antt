use Rattle.std.proofs.Common.{◌≡◌, ◌≤◌, arith, rules}
use Rattle.om_least.proofs.TripleSteps.{old_triple, looked, triples_differ, triples_more, next_second, triples_all}
use Rattle.om_least.proofs.comparing.compared.Goals as goal

pub triple_image-image-requires : goal.triple_image-image-requires
triple_image-image-requires c =
    let m = c.args.chi.now in
    let jk = c.loop-j-test.true in
    let few = c.rank.ensures.few in
    let t = old_triple m c.args.beginning.now c.requires.begun c.requires.few c.loop-i.i c.loop-j.j c.len-last.result
    c.at.result c.at-b.result c.at-c.result c.at.ensures c.at-b.ensures c.at-c.ensures c.len-last.ensures.value
    c.loop-i.auto.i c.loop-i-test.true jk in
    let a = t.0.1 in
    let b = t.1.1 in
    let d = t.2.1 in
    record {
      whole = search rules;
      a = omega (arith, few, a);
      b = omega (arith, few, b);
      c = omega (arith, few, d);
    }

pub returns-in_default : goal.returns-in_default
returns-in_default c =
    let m = c.args.chi.now in
    let w = c.args.beginning.now in
    let value = c.rank.ensures.value in
    let test = c.if-rank-ne3.false in
    let rank : m.rank ≡ 3 = omega (arith, value, test) in
    let l = looked m w c.requires.begun c.requires.few c.loop-i.i c.loop-j.j c.len-last.result c.at.result
    c.at-b.result c.at-c.result c.at.ensures c.at-b.ensures c.at-c.ensures c.len-last.ensures.value c.loop-i.auto.i
    c.loop-i-test.true c.loop-j-test.true c.args.values.now (c.requires.table rank) c.triple_image-image.result
    c.value_at.result c.triple_image-image.ensures c.value_at.ensures in
    triples_differ m w rank c.requires.some c.loop-i.i c.loop-j.j c.triple_image-image.result c.value_at.result
    c.loop-i.auto.i c.loop-i-test.true (omega (arith)) l.image l.own c.loop-i.invariant _ c.cmp.ensures
    c.in_default.not-Equal

pub loop-i-preserved : goal.loop-i-preserved
loop-i-preserved c =
    let m = c.args.chi.now in
    let w = c.args.beginning.now in
    let value = c.rank.ensures.value in
    let test = c.if-rank-ne3.false in
    let rank : m.rank ≡ 3 = omega (arith, value, test) in
    let l = looked m w c.requires.begun c.requires.few c.loop-i.i c.loop-j.j c.len-last.result c.at.result
    c.at-b.result c.at-c.result c.at.ensures c.at-b.ensures c.at-c.ensures c.len-last.ensures.value c.loop-i.auto.i
    c.loop-i-test.true c.loop-j-test.true c.args.values.now (c.requires.table rank) c.triple_image-image.result
    c.value_at.result c.triple_image-image.ensures c.value_at.ensures in
    triples_more m w rank c.requires.some c.loop-i.i c.loop-j.j c.triple_image-image.result c.value_at.result
    c.loop-i.auto.i c.loop-i-test.true (omega (arith)) l.image l.own c.loop-i.invariant c.in-Equal.ensures

pub loop-j-preserved : goal.loop-j-preserved
loop-j-preserved c =
    let m = c.args.chi.now in
    let w = c.args.beginning.now in
    let value = c.rank.ensures.value in
    let test = c.if-rank-ne3.false in
    let rank : m.rank ≡ 3 = omega (arith, value, test) in
    let low = c.loop-j.auto.j in
    let over = c.loop-i-test.false in
    let end = c.loop-i.auto.i-end in
    let one : 1 ≤ c.loop-j.j = omega (arith, low) in
    let last = end one in
    next_second m w rank c.requires.some c.loop-i.i c.loop-j.j one (omega (arith, over, last)) c.loop-i.invariant

pub returns : goal.returns
returns c =
    let m = c.args.chi.now in
    let w = c.args.beginning.now in
    let value = c.rank.ensures.value in
    let test = c.if-rank-ne3.false in
    let rank : m.rank ≡ 3 = omega (arith, value, test) in
    let over = c.loop-j-test.false in
    let size = c.len-last.ensures.value in
    triples_all m w rank c.requires.some c.loop-j.j (omega (arith, over, size)) c.loop-j.invariant
