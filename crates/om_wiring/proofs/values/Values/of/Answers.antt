use Rattle.om_wiring.proofs.values.Values.of.Goals as goal

pub invariant_of-result : goal.invariant_of-result
invariant_of-result c = record {
  high = c.table_of.ensures.few;
  room = c.table_of.ensures.room;
  rows = c.table_of.ensures.rows;
}
