use Rattle.om_subsets.specs.Subsets.{subset_at, choose}
use Rattle.std.proofs.Common.{ap, ◌+◌, arith, sym, subst, ◌↔◌, ◌∙◌, ◌≤◌, ◌/◌}
use Rattle.std.specs.Prelude.{IsTrue}
use Rattle.om_chirotope.specs.Blocks.{HasViolatedPair}
use Rattle.om_chirotope.proofs.BlockLaws.{bad_of_block, block_small, not_listed}
use Rattle.om_chirotope.proofs.threaded_scan.BlocksProbe.bad.Goals as goal

pub first_in_block-requires-clause-small : goal.first_in_block-requires-clause-small
first_in_block-requires-clause-small c =
    block_small c.args.k c.args.self.now.blocks c.args.self.now.some c.args.self.now.most

pub returns : goal.returns
returns c =
    let s = c.args.self.now in
    let m = s.map.now in
    let over = c.if-place-from.false in
    let count = c.choose.ensures.value ∙ ap (λ m. choose m.elements (m.rank + 1)) c.map.view_is in
    let cast = c.from.ensures in
    subst (λ b. IsTrue b ↔ HasViolatedPair m s.blocks c.args.k) (sym c.is_some.ensures)
    (bad_of_block m s.blocks c.args.k c.unrank-s.result.elements s.cocircuits.now c.first_in_block.result
    (omega (arith, over, count, cast)) (c.unrank-s.ensures.elements ∙ ap (λ m. subset_at m.elements (m.rank + 1)
    (c.args.k / c.args.self.now.blocks)) c.map.view_is) s.filled c.first_in_block.ensures.none
    c.first_in_block.ensures.within c.first_in_block.ensures.here)

pub returns-then-place-from : goal.returns-then-place-from
returns-then-place-from c =
    not_listed c.args.self.now.map.now c.args.self.now.blocks c.args.k
    (subst (λ n. n ≤ c.args.k / c.args.self.now.blocks) (c.from.ensures ∙ (c.choose.ensures.value ∙ ap (λ m. choose
    m.elements (m.rank + 1)) c.map.view_is)) c.if-place-from.true)

pub first_in_block-requires-clause-size : goal.first_in_block-requires-clause-size
first_in_block-requires-clause-size c = c.unrank-s.ensures.size ∙ ap (λ m. m.rank + 1) c.map.view_is
