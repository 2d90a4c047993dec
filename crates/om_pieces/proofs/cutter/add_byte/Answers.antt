use Rattle.std.proofs.Common.{◌∙◌, arith, rules}
use Rattle.om_pieces.specs.Making.{most}
use Rattle.om_pieces.proofs.Takes.{byte_added, byte_left_out}
use Rattle.om_pieces.proofs.cutter.add_byte.Goals as goal

pub returns-in_ok-push-clause-added : goal.returns-in_ok-push-clause-added
returns-in_ok-push-clause-added c =
    c.in_ok-push.ensures.items ∙ byte_added most c.args.line.now.items c.args.byte (omega arith)

pub returns-else-len-lt-MOST-clause-added : goal.returns-else-len-lt-MOST-clause-added
returns-else-len-lt-MOST-clause-added c = byte_left_out most c.args.line.now.items c.args.byte c.requires (omega arith)

pub returns-in_ok-push-clause-within : goal.returns-in_ok-push-clause-within
returns-in_ok-push-clause-within c = search rules
