use Rattle.om_subsets.specs.Subsets.{choose, subset_at}
use Rattle.std.proofs.Common.{◌/◌, ◌<◌, subst, sym, ◌∙◌, ◌-◌, arith, ap, ◌+◌, length}
use Rattle.om_chirotope.specs.Map.{IsWholeMap}
use Rattle.om_subsets.proofs.Table.{choose_most}
use Rattle.om_chirotope.proofs.BlockLaws.{found_in_block, not_none, block_small}
use Rattle.om_chirotope.proofs.Placed.{placed}
use Rattle.om_chirotope.proofs.Tables.{length-table, part_before}
use Rattle.om_chirotope.proofs.threaded_scan.Blocks.pair_of.Goals as goal

pub overflow_cast-k : goal.overflow_cast-k
overflow_cast-k c =
    let listed = c.requires.bad.1.listed in
    let most = choose_most c.args.self.now.map.now.elements (c.args.self.now.map.now.rank + 1) (subst IsWholeMap
    c.map.view_is c.map.invariant).high in
    omega (arith, listed, most)

pub unrank-s-requires-clause-place : goal.unrank-s-requires-clause-place
unrank-s-requires-clause-place c =
    subst (λ m. c.args.k / c.args.self.now.blocks < choose m.elements (m.rank + 1)) (sym c.map.view_is)
    c.requires.bad.1.listed

pub unrank-requires-clause-place : goal.unrank-requires-clause-place
unrank-requires-clause-place c =
    let within = c.in-Some.ensures.within.within in
    let size = ap length c.args.self.now.filled in
    let table = length-table c.args.self.now.map.now in
    let same = ap (λ m. choose m.elements (m.rank - 1)) c.map.view_is in
    omega (arith, within, size, table, same)

pub returns-in-None-clause-some : goal.returns-in-None-clause-some
returns-in-None-clause-some c =
    absurd (not_none c.args.self.now.map.now c.args.self.now.blocks c.args.k c.args.self.now.cocircuits.now
    c.unrank-s.result.elements
    c.args.self.now.filled (c.unrank-s.ensures.elements ∙ ap (λ m. subset_at m.elements (m.rank + 1) (c.args.k /
    c.args.self.now.blocks)) c.map.view_is) c.requires.bad c.in-None.ensures.none)

pub returns-in-Some-clause-first : goal.returns-in-Some-clause-first
returns-in-Some-clause-first c =
    let self = c.args.self.now in
    let s = placed (λ m. m.rank + 1) _ _ _ c.unrank-s.result c.map.view_is c.unrank-s.ensures.n c.unrank-s.ensures.size
    c.unrank-s.ensures.lawful c.unrank-s.ensures.place in
    let a = placed (λ m. m.rank - 1) _ _ _ c.unrank.result c.map.view_is c.unrank.ensures.n c.unrank.ensures.size
    c.unrank.ensures.lawful c.unrank.ensures.place in
    found_in_block self.map.now self.blocks c.args.k c.in-Some.place c.unrank-s.result c.unrank.result
    self.cocircuits.now self.rank_low self.some self.all self.filled c.requires.earlier c.requires.bad.1.listed
    s.n_is (c.unrank-s.ensures.elements ∙ ap (λ m. subset_at m.elements (m.rank + 1) (c.args.k / self.blocks))
    c.map.view_is) s.list s.size s.place a.n_is a.list a.size a.place c.in-Some.ensures.within
    c.in-Some.ensures.here c.in-Some.ensures.before

pub first_in_block-requires-clause-size : goal.first_in_block-requires-clause-size
first_in_block-requires-clause-size c = c.unrank-s.ensures.size ∙ ap (λ m. m.rank + 1) c.map.view_is

pub first_in_block-requires-clause-small : goal.first_in_block-requires-clause-small
first_in_block-requires-clause-small c = block_small c.args.k c.args.self.now.blocks c.args.self.now.some
    c.args.self.now.most

pub unrank-requires-clause-part : goal.unrank-requires-clause-part
unrank-requires-clause-part c = part_before c.map.inside.raw.now.rank c.map.inside.raw.now.elements (subst (λ m.
    m.rank < m.elements) (sym c.map.view_is) c.args.self.now.rank_high)
