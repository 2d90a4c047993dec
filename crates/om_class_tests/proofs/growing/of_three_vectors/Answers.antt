use Rattle.std.proofs.Common.{All, subst, sym}
use Rattle.om_localize.specs.Extensions.{IsSignature}
use Rattle.om_class_tests.proofs.growing.of_three_vectors.Goals as goal

-- what is listed are signatures
pub count_grown-requires-clause-members : goal.count_grown-requires-clause-members
count_grown-requires-clause-members g c =
    subst (All (IsSignature c.in-Ok.chi)) (sym c.as_slice.ensures) c.in-Ok-extensions.ensures.first.members
