use Rattle.std.proofs.Common.{rules}
use Rattle.om_threeterm.proofs.exchanges.has_exchange_apart.Goals as goal

pub returns : goal.returns
returns c = rw (← c.map.view_is) (search rules)
