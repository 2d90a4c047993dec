use Rattle.om_vectors.proofs.WordTables.{table_back, both}
use Rattle.om_vectors.proofs.word.WordPartialEq.eq.Goals as goal

pub returns : goal.returns
returns c =
    let a = table_back _ _ _ c.t1-1.invariant c.t1-1.view_is in
    let b = table_back _ _ _ c.t2-1.invariant c.t2-1.view_is in
    rw (a.table_is, a.len_is, b.table_is, b.len_is) (both _ _ _ _ c.eq.ensures c.and_eq.ensures)
