use Rattle.om_laws.specs.Circuits.{IsCircuit, IsCocircuit}
use Rattle.om_laws.proofs.DualPairs.{dual_pair}
use Rattle.om_laws.proofs.PaintingLaws as laws
use Rattle.om_laws.proofs.circuits.painting.Goals as goal

pub returns-clause-one : goal.returns-clause-one
returns-clause-one c = λ E chi om col e m i within. laws.painting E (IsCircuit E chi) (IsCocircuit chi)
    (dual_pair E chi om) col e m i within

pub returns-clause-only : goal.returns-clause-only
returns-clause-only c = λ E chi om col e i x y. laws.not_both E (IsCircuit E chi) (IsCocircuit chi) (dual_pair E chi om)
    col e i x y
