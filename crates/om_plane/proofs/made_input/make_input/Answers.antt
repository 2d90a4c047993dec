use Rattle.std.proofs.Common.{rules}
use Rattle.om_plane.proofs.MadeLaws.{made_units, made_meant}
use Rattle.om_plane.proofs.made_input.make_input.Goals as goal

pub summary-requires : goal.summary-requires
summary-requires g c = (search rules, made_units c.args.seed c.args.count _ c.vectors-made.ensures)

pub returns : goal.returns
returns g c = made_meant c.args.seed c.args.count _ _ c.vectors-made.ensures c.in_ok-tally.ensures.tally
    c.in_ok-tally.ensures.back
