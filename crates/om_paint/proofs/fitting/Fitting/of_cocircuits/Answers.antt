use Rattle.om_laws.specs.Colours.{CocircuitMay}
use Rattle.om_paint.proofs.Fits.{allowed_both, cocircuit_zero}
use Rattle.om_paint.proofs.fitting.Fitting.of_cocircuits.Goals as goal

pub returns-clause-allowed : goal.returns-clause-allowed
returns-clause-allowed c = λ X size. allowed_both CocircuitMay cocircuit_zero c.args.colours.now
    c.open_to_cocircuits.result c.open_to_cocircuits-2.result c.open_to_cocircuits.ensures
    c.open_to_cocircuits-2.ensures X size c.args.e
