use Rattle.std.proofs.Common.{◌≡◌, ◌↔◌, List, Option, Some, None, Bool, true, false, not, IsTrue}
use Rattle.std.proofs.Common.{IfSome, IfNone, is_some}
use Rattle.std.proofs.Common.{refl}
use Rattle.std.proofs.lemmas.Bool.{false≢true}
use Rattle.om_chirotope.specs.Map.{SignMap}
use Rattle.om_symmetry.specs.declared.signed_element.SignedElement.{SignedElement}
use Rattle.om_least.specs.Least.{IsLeast}
use Rattle.om_least.specs.Beginnings.{BeginsBefore}
use Rattle.om_least.proofs.Entries.{not_least}
use Rattle.om_least.proofs.search.is_least.Goals as goal

least_if_none : (m : SignMap) (found : Option (List SignedElement)) (b : Bool) → is_some found ≡ not b
    → IfSome found (BeginsBefore m) → IfNone found (IsLeast m) → IsTrue b ↔ IsLeast m
least_if_none m None true e before least = (λ t. least, λ h. refl)
least_if_none m None false e before least = absurd (false≢true e)
least_if_none m (Some w) true e before least = cc
least_if_none m (Some w) false e before least = (λ t. absurd (false≢true t), λ h. absurd (not_least m w before h))

pub returns : goal.returns
returns c =
    least_if_none c.args.chi.now c.lesser_beginning.result c.is_none.result c.is_none.ensures
    c.lesser_beginning.ensures.before c.lesser_beginning.ensures.least
