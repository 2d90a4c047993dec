use Rattle.std.proofs.Math.Pow.{pow_mono}
use Rattle.om_signs.specs.declared.limits.TheConstants.{MAX_ELEMENTS}
use Rattle.om_chirotope.proofs.exchange.has_list_exchange.Goals as goal

pub has_list_exchange_with_table-requires-clause-room : goal.has_list_exchange_with_table-requires-clause-room
has_list_exchange_with_table-requires-clause-room c = pow_mono {j = MAX_ELEMENTS} c.requires.high
