use Rattle.std.proofs.Common.{◌∙◌, ◌++◌, ap, take, arith}
use Rattle.om_pieces.specs.Making.{most}
use Rattle.om_pieces.proofs.Takes.{line_added}
use Rattle.om_pieces.proofs.cutter.add_line.Goals as goal

pub returns-clause-added : goal.returns-clause-added
returns-clause-added c =
    c.in_ok-extend_from_slice.ensures.items ∙
    (ap (λ k. c.args.kept.now.items ++ take k c.args.line.now) (omega arith)
    ∙ line_added most c.args.kept.now.items c.args.line.now c.requires)
