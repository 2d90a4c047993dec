use Rattle.om_minors.proofs.BasisLaws.{basis_off}
use Rattle.om_minors.proofs.MinorMaps.{deleted_axioms}
use Rattle.om_minors.proofs.minors.general_deletion.Goals as goal

pub normal_by-requires-clause-axioms : goal.normal_by-requires-clause-axioms
normal_by-requires-clause-axioms c = rw (c.rank.ensures.value, c.elements.ensures.value)
    (deleted_axioms c.args.chi.now c.rank.ensures.lawful c.args.e c.requires.several c.requires.low c.requires.high
    (basis_off c.args.chi.now c.args.e c.requires.avoided))
