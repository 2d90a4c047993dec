use Rattle.std.proofs.Common.{ℕ, ◌≡◌, ◌≢◌, ◌+◌, ◌<◌, ◌≤◌, List, length, arith, rules, tests}
use Rattle.std.specs.Prelude.{Option, Some, None, MatchOption, IsNone}
use Rattle.std.proofs.lemmas.Iterator.{first_from_Range}
use Rattle.om_signs.specs.declared.sign.Sign.{Sign}
use Rattle.om_signs.specs.declared.sign.Sign.TheVariants.{Zero}
use Rattle.om_signs.specs.SignVec.{at_element}
use Rattle.om_localize.proofs.circles.first_element.Goals as goal

-- if no element below n + 1 was found, all signs are 0
all_zero : (vector : List Sign) (n : ℕ) (Q : ℕ → Type 0) (found : Option ℕ) → n ≡ length vector
    → MatchOption found ((g : ℕ) → 1 ≤ g → g < n + 1 → at_element vector g ≡ Zero) Q → IsNone found
    → (g : ℕ) → 1 ≤ g → g ≤ length vector → at_element vector g ≡ Zero
all_zero vector n Q None size none is_none g low high = none g low (omega (arith, size, high))
all_zero vector n Q (Some x) size some is_none g low high = cc

pub returns-clause-none : goal.returns-clause-none
returns-clause-none c = all_zero c.args.vector c.len.result _ c.find.result c.len.ensures.value
    (first_from_Range _ _ _ c.find.result (λ g. at_element c.args.vector g ≢ Zero)
    (λ g. at_element c.args.vector g ≡ Zero) c.find.ensures.ran (λ x q k. search (rules, tests))
    (λ x q k. search (rules, tests)))
