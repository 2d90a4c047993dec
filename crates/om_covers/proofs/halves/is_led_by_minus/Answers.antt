use Rattle.std.proofs.Common.{rules}
use Rattle.om_covers.proofs.halves.is_led_by_minus.Goals as goal

pub returns-in-Some : goal.returns-in-Some
returns-in-Some c = search rules
