-- Acyclic chirotopes.
--
-- Main results: a hull without an error is acyclic (acyclic_of_hull); a circuit without a minus as the answer
-- (cyclic_meant).
use Rattle.std.specs.Prelude.{◌≡◌, ◌↔◌, List, Result, Ok, IsErrAnd}
use Rattle.std.proofs.Common.{sym, subst}
use Rattle.om_signs.specs.declared.sign.Sign.{Sign}
use Rattle.om_chirotope.specs.Map.{SignMap}
use Rattle.om_denotation.specs.Covectors.{IsCovectorOfChirotope}
use Rattle.om_paint.specs.declared.hull_error.HullError.{HullError}
use Rattle.om_paint.specs.declared.hull_error.HullError.TheVariants as why_of
use Rattle.om_paint.specs.Paintings.{IsFirst}
use Rattle.om_paint.specs.Hulls.{all_plus, IsPositiveCircuit, IsCyclic, IfCyclic}
use Rattle.om_reply.specs.declared.answer.Answer.{Answer}
use Rattle.om_commands.specs.Hulls.{IsHullOfMap, IsCyclicAnswer, cyclic}

pub acyclic_of_hull : {A : Type 0} (m : SignMap) (result : Result A HullError) (a : A)
    → IsCovectorOfChirotope m (all_plus m.elements) ↔ ((X : List Sign) → IsPositiveCircuit m X → ⊥)
    → IsErrAnd result IsCyclic ↔ (IsCovectorOfChirotope m (all_plus m.elements) → ⊥) → result ≡ Ok a
    → IsCovectorOfChirotope m (all_plus m.elements)
acyclic_of_hull m result a both named is =
    let no_error : IsErrAnd result IsCyclic → ⊥ = λ h. subst (λ r. IsErrAnd r IsCyclic) is h in
    both.1 (λ X positive. no_error (named.1 (λ covector. both.0 covector X positive)))

pub cyclic_meant : (m : SignMap) (why : HullError) (a : Answer) → IsCyclic why
    ↔ (IsCovectorOfChirotope m (all_plus m.elements) → ⊥) → IfCyclic (IsFirst (IsPositiveCircuit m)) why
    → IsCyclicAnswer why a → IsHullOfMap m a
cyclic_meant m (why_of.Cyclic X) a named first same = subst (IsHullOfMap m) (sym same) (cyclic X (named.0 tt) first)
cyclic_meant m why_of.Memory a named first none = absurd none
