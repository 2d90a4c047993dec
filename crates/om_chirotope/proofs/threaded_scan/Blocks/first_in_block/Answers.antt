use Rattle.std.proofs.Common.{ℕ, subst, [], ◌<◌, length, get_or}
use Rattle.std.specs.Prelude.{IfNone, IfSome}
use Rattle.om_signs.specs.SignVec.{IsOrthogonal}
use Rattle.om_chirotope.specs.Blocks.{IsInBlock}
use Rattle.om_chirotope.proofs.BlockLaws.{block_before, block_none, block_within}
use Rattle.om_chirotope.proofs.Tables.{table_lengths}
use Rattle.om_chirotope.proofs.threaded_scan.Blocks.first_in_block.Goals as goal

pub first_not_orthogonal-requires-clause-lengths : goal.first_not_orthogonal-requires-clause-lengths
first_not_orthogonal-requires-clause-lengths c =
    table_lengths c.args.self.now.map.now c.args.s.elements c.circuit_of.result c.args.self.now.cocircuits.now
    c.circuit_of.ensures c.args.self.now.filled

pub returns-clause-none : goal.returns-clause-none
returns-clause-none c =
    let r = c.first_not_orthogonal.result in
    subst (λ v. IfNone r ((j : ℕ) → IsInBlock (length c.args.self.now.cocircuits.now) c.args.block j
    → IsOrthogonal v (get_or c.args.self.now.cocircuits.now j []))) c.circuit_of.ensures
    (block_none (λ j. IsOrthogonal c.circuit_of.result (get_or c.args.self.now.cocircuits.now j [])) c.args.block
    (length c.args.self.now.cocircuits.now) c.min-end.result r c.min-end.ensures c.first_not_orthogonal.ensures.none)

pub returns-clause-within : goal.returns-clause-within
returns-clause-within c = block_within c.args.block (length c.args.self.now.cocircuits.now) c.min-end.result
    c.first_not_orthogonal.result c.min-end.ensures c.first_not_orthogonal.ensures.low
    c.first_not_orthogonal.ensures.within

pub returns-clause-here : goal.returns-clause-here
returns-clause-here c =
    subst (λ v. IfSome c.first_not_orthogonal.result (λ j. IsOrthogonal v (get_or c.args.self.now.cocircuits.now j
    []) → ⊥))
    c.circuit_of.ensures c.first_not_orthogonal.ensures.here

pub returns-clause-before : goal.returns-clause-before
returns-clause-before c =
    let r = c.first_not_orthogonal.result in
    subst (λ v. IfSome r (λ k. (j : ℕ) → IsInBlock (length c.args.self.now.cocircuits.now) c.args.block j → j < k
    → IsOrthogonal v (get_or c.args.self.now.cocircuits.now j []))) c.circuit_of.ensures
    (block_before (λ j. IsOrthogonal c.circuit_of.result (get_or c.args.self.now.cocircuits.now j [])) c.args.block
    (length c.args.self.now.cocircuits.now) r c.first_not_orthogonal.ensures.before)
