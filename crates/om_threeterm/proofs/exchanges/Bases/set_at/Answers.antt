use Rattle.std.proofs.Common.{subst, ap, ◌∙◌, length, arith}
use Rattle.std.proofs.lemmas.List.{get_or_default}
use Rattle.om_subsets.proofs.Order.{listed}
use Rattle.om_subsets.proofs.Table.{choose_most}
use Rattle.om_chirotope.specs.Map.{IsWholeMap}
use Rattle.om_threeterm.proofs.SetLaws.{nothing, of_part}
use Rattle.om_threeterm.proofs.exchanges.Bases.set_at.Goals as goal

pub returns-then-k-sets-clause-n : goal.returns-then-k-sets-clause-n
returns-then-k-sets-clause-n c =
    let m = c.args.self.now.map.now in
    let sets = c.args.self.now.sets.now in
    (of_part m.elements m.rank c.args.k sets c.index-sets-k.result c.args.self.now.filled c.if-k-sets.true c.requires
    (c.index-sets-k.is ∙ get_or_default sets c.args.k _ nothing c.if-k-sets.true)).n_is

pub returns-then-k-sets-clause-elements : goal.returns-then-k-sets-clause-elements
returns-then-k-sets-clause-elements c =
    let m = c.args.self.now.map.now in
    let sets = c.args.self.now.sets.now in
    (of_part m.elements m.rank c.args.k sets c.index-sets-k.result c.args.self.now.filled c.if-k-sets.true c.requires
    (c.index-sets-k.is ∙ get_or_default sets c.args.k _ nothing c.if-k-sets.true)).elements_are

pub returns-then-k-sets-clause-size : goal.returns-then-k-sets-clause-size
returns-then-k-sets-clause-size c =
    let m = c.args.self.now.map.now in
    let sets = c.args.self.now.sets.now in
    let here = of_part m.elements m.rank c.args.k sets c.index-sets-k.result c.args.self.now.filled c.if-k-sets.true
    c.requires (c.index-sets-k.is ∙ get_or_default sets c.args.k _ nothing c.if-k-sets.true) in
    ap length here.elements_are ∙ (listed 1 m.elements m.rank c.args.k c.requires).size

pub overflow_cast-k : goal.overflow_cast-k
overflow_cast-k c =
    let m = c.args.self.now.map.now in
    let few = choose_most m.elements m.rank (subst IsWholeMap c.map.view_is c.map.invariant).high in
    let within = c.requires in
    omega arith
