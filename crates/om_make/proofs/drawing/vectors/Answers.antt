use Rattle.std.proofs.Common.{arith, ap, length}
use Rattle.om_make.proofs.GeneratorLaws.{made_length, words_more, states_more}
use Rattle.om_make.proofs.drawing.vectors.Goals as goal

pub push-requires : goal.push-requires
push-requires c =
    let size = made_length c.args.seed c.loop-place._place c.loop-place.invariant.low in
    let same = ap length c.loop-place.invariant.word in
    omega arith

pub loop-place-preserved : goal.loop-place-preserved
loop-place-preserved c = record {
  low = omega arith;
  word = words_more c.args.seed c.loop-place._place _ _ _ _ c.loop-place.invariant.low c.loop-place.invariant.word
      c.loop-place.invariant.state c.vector.ensures.value c.push.ensures;
  state = states_more c.args.seed c.loop-place._place _ _ c.loop-place.invariant.low c.loop-place.invariant.state
      c.vector.ensures.state;
}
