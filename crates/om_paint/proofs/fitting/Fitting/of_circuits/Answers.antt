use Rattle.om_laws.specs.Colours.{CircuitMay}
use Rattle.om_paint.proofs.Fits.{allowed_both, circuit_zero}
use Rattle.om_paint.proofs.fitting.Fitting.of_circuits.Goals as goal

pub returns-clause-allowed : goal.returns-clause-allowed
returns-clause-allowed c = λ X size. allowed_both CircuitMay circuit_zero c.args.colours.now c.open_to_circuits.result
    c.open_to_circuits-2.result c.open_to_circuits.ensures c.open_to_circuits-2.ensures X size c.args.e
