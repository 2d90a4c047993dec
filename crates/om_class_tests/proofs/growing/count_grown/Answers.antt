use Rattle.std.proofs.Common.{subst, sym}
use Rattle.om_localize.specs.Extensions.{IsSignature}
use Rattle.om_class_tests.proofs.growing.count_grown.Goals as goal

-- each line is a signature
pub is_grown-requires-clause-signature : goal.is_grown-requires-clause-signature
is_grown-requires-clause-signature c =
    subst (IsSignature c.args.chi.now) (sym c.signature-item.is)
    (c.requires.members c.loop-signature.signature-index c.signature-item.result c.loop-signature-test.true)
