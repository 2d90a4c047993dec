use Rattle.std.proofs.Common.{◌+◌}
use Rattle.om_covers.specs.Classes.{IsSimpleChirotope, IsUniformChirotope}
use Rattle.om_covers.specs.Covers.{IsSimpleHalf, IsUniformHalf}
use Rattle.om_covers.proofs.Covers.{next_complete}
use Rattle.om_covers.proofs.SimpleSteps.{simple_step}
use Rattle.om_covers.proofs.UniformSteps.{uniform_step}
use Rattle.om_covers.proofs.laws.next_list_is_complete.Goals as goal

pub returns-clause-simple : goal.returns-clause-simple
returns-clause-simple c = λ n classes next large complete cover. next_complete (IsSimpleChirotope n)
    (IsSimpleChirotope (n + 1)) (IsSimpleHalf n) n (simple_step n large) classes next complete cover

pub returns-clause-uniform : goal.returns-clause-uniform
returns-clause-uniform c = λ n classes next large complete cover. next_complete (IsUniformChirotope n)
    (IsUniformChirotope (n + 1)) IsUniformHalf n (uniform_step n large) classes next complete cover
