use Rattle.om_laws.specs.Circuits.{IsCircuit, IsCocircuit}
use Rattle.om_laws.proofs.DualPairs.{dual_pair}
use Rattle.om_laws.proofs.CovectorLaws.{parts_both}
use Rattle.om_laws.proofs.IncreasingLaws.{orthogonal_both}
use Rattle.om_laws.proofs.denotation.denotations.Goals as goal

pub returns-clause-circuits : goal.returns-clause-circuits
returns-clause-circuits c = λ E chi om X s. orthogonal_both E chi om.alternating X

pub returns-clause-cocircuits : goal.returns-clause-cocircuits
returns-clause-cocircuits c = λ E chi om X s. let t = orthogonal_both E chi om.alternating X in let p =
    parts_both E (IsCircuit E chi) (IsCocircuit chi) (dual_pair E chi om) X in
    (λ o. p.0 (record { orthogonal = t.0 o; supported = s }), λ k. t.1 (p.1 k).orthogonal)
