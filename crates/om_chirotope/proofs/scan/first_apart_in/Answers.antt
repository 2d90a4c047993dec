use Rattle.std.proofs.Common.{◌∙◌, ◌-◌, ap, arith, length, sym}
use Rattle.om_subsets.specs.Subsets.{choose}
use Rattle.om_chirotope.proofs.Apart.{first_in_table, if_none, none_in_table}
use Rattle.om_chirotope.proofs.Placed.{placed}
use Rattle.om_chirotope.proofs.SupportMarks.{table_length}
use Rattle.om_chirotope.proofs.Tables.{length-table}
use Rattle.om_chirotope.proofs.scan.first_apart_in.Goals as goal

pub first_not_orthogonal-requires-clause-lengths : goal.first_not_orthogonal-requires-clause-lengths
first_not_orthogonal-requires-clause-lengths c = λ k l. c.requires.vector
    ∙ sym (table_length c.args.map.now c.args.cocircuits.now k c.requires.filled l)

pub returns-in_err-k-clause-none : goal.returns-in_err-k-clause-none
returns-in_err-k-clause-none c =
    if_none c.from_residual.result
    (none_in_table c.args.map.now c.args.vector c.args.cocircuits.now c.requires.filled c.in_err-k.ensures.none)

pub unrank-requires-clause-place : goal.unrank-requires-clause-place
unrank-requires-clause-place c =
    let size = ap length c.requires.filled ∙ length-table c.args.map.now in
    let within = c.in_ok-k.ensures.within in
    let same = ap (λ m. choose m.elements (m.rank - 1)) c.map.view_is in
    omega (arith, size, within, same)

pub returns-clause-first : goal.returns-clause-first
returns-clause-first c =
    first_in_table c.args.map.now c.args.vector c.in_ok-k.k c.unrank.result c.args.cocircuits.now c.requires.rank_low
    c.requires.filled
    (placed (λ m. m.rank - 1) _ _ _ c.unrank.result c.map.view_is c.unrank.ensures.n c.unrank.ensures.size
    c.unrank.ensures.lawful c.unrank.ensures.place) c.in_ok-k.ensures.here c.in_ok-k.ensures.before
