use Rattle.std.proofs.Common.{rules, length, ◌≡◌, ◌∙◌, ap, arith}
use Rattle.std.proofs.lemmas.List.{length_push}
use Rattle.std.proofs.lemmas.Iterator.Adapters.{YieldsList-from_rev_slice}
use Rattle.std.proofs.lemmas.Iterator.Consumers.{YieldsList-turn}
use Rattle.om_subsets.specs.Subsets.{rank_of}
use Rattle.om_subsets.proofs.Triples.{place_below}
use Rattle.om_certificate.specs.Weights.{bracket_of}
use Rattle.om_certificate.proofs.Filling.{IsTurn, turn_triple, turn_filled, is_of_triple}
use Rattle.om_certificate.proofs.Triples.{increasing_triple}
use Rattle.om_certificate.proofs.weighing.fill.Goals as goal
use Rattle.om_certificate.proofs.weighing.fill.Goals.{In-Some, After-rank}

turn : (c : In-Some) → IsTurn c.args.weights.now (length c.loop-weight.yielded) c.in-Some.weight.now
turn c = YieldsList-turn (YieldsList-from_rev_slice c.args.weights.now cc) c.loop-weight.yielded _
    c.loop-weight.yielded_by _ _ c.in-Some.weight c.in-Some.is c.next.ensures.steps

placed : (c : After-rank)
    → c.rank.result ≡ rank_of c.args.chi.now.elements (bracket_of c.in-Some.weight.now)
placed c =
    let w = c.in-Some.weight.now in
    let t = is_of_triple c.args.chi.now.elements w
    (turn_triple c.args.chi.now c.args.weights.now _ w c.requires.brackets (turn c.before.before.before.before)) in
    c.rank.ensures.value ∙ ap (λ n. rank_of n c.triple-bracket.result.elements)
    (c.triple-bracket.ensures.n ∙ c.elements.ensures.value)
    ∙ ap (rank_of c.args.chi.now.elements) (c.triple-bracket.ensures.elements
    ∙ increasing_triple w.a w.b w.c t.a_b t.b_c)

pub triple-bracket-requires : goal.triple-bracket-requires
triple-bracket-requires c =
    let t = is_of_triple c.args.chi.now.elements c.in-Some.weight.now
    (turn_triple c.args.chi.now c.args.weights.now _ _ c.requires.brackets (turn c.before)) in
    let e = c.elements.ensures.value in
    record {
      small = search rules;
      x_low = omega arith;
      x_high = omega arith;
      y_low = omega arith;
      y_high = omega arith;
      z_low = omega arith;
      z_high = omega arith;
    }

pub bounds-table-rank : goal.bounds-table-rank
bounds-table-rank c =
    let place = placed c in
    let below = place_below c.args.chi.now.elements (bracket_of c.in-Some.weight.now)
    (turn_triple c.args.chi.now c.args.weights.now _ _ c.requires.brackets (turn c.before.before.before.before)) in
    let size = c.loop-weight.auto.table in
    let room = c.requires.room in
    omega (arith, place, below, size, room)

pub loop-weight-preserved : goal.loop-weight-preserved
loop-weight-preserved c =
    turn_filled c.args.chi.now c.args.weights.now _ c.rank.result _ _ c.loop-weight.table c.requires.brackets
    (turn c.before.before.before.before) (placed c) (length_push c.loop-weight.yielded c.in-Some.weight)
    (let e = c.loop-weight.auto.table in let r = c.requires.room in omega arith) c.requires.limits.small
    c.loop-weight.invariant
