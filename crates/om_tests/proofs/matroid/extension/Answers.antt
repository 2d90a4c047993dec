use Rattle.om_tests.proofs.matroid.extension.Goals as goal

pub extend_to_basis-requires-clause-independent : goal.extend_to_basis-requires-clause-independent
extend_to_basis-requires-clause-independent c =
    (c.args.basis.elements, c.is_basis.ensures.0 c.if-is_basis.true, c.is_part_of.ensures.0 c.if-is_part_of.true)
