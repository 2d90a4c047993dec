use Rattle.std.proofs.Common.{◌≤◌, subst}
use Rattle.std.proofs.Math.Pow.{pow_mono}
use Rattle.om_signs.specs.declared.limits.TheConstants.{MAX_PLACES}
use Rattle.om_chirotope.proofs.exchange.has_exchange_of_lists.Goals as goal

pub has_exchange_with_table-requires-clause-room : goal.has_exchange_with_table-requires-clause-room
has_exchange_with_table-requires-clause-room c = pow_mono {j = MAX_PLACES}
    (subst (λ m. m.elements ≤ MAX_PLACES) c.map.view_is c.map.invariant.high)
