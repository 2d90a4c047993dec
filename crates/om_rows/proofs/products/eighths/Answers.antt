use Rattle.om_rows.proofs.Eighths.{eighths_up, eighths_down}
use Rattle.om_rows.proofs.products.eighths.Goals as goal

pub returns-then-rest-lt0 : goal.returns-then-rest-lt0
returns-then-rest-lt0 c = eighths_down c.args.z c.ranges.z c.if-rest-lt0.true

pub returns-else-rest-lt0 : goal.returns-else-rest-lt0
returns-else-rest-lt0 c = eighths_up c.args.z c.ranges.z c.if-rest-lt0.false
