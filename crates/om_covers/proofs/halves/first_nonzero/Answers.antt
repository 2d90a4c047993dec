use Rattle.std.proofs.Common.{ℕ, ◌≡◌, ◌≢◌, ◌≤◌, ◌<◌, List, Option, Some, None, MatchOption, length, arith, rules, tests}
use Rattle.std.proofs.lemmas.Iterator.{first_from_Range}
use Rattle.om_signs.specs.declared.sign.Sign.{Sign}
use Rattle.om_signs.specs.declared.sign.Sign.TheVariants.{Zero}
use Rattle.om_signs.specs.SignVec.{at}
use Rattle.om_covers.specs.Covers.{AreZeroBelow}
use Rattle.om_covers.proofs.halves.first_nonzero.Goals as goal

read : (signs : List Sign) (n : ℕ) (found : Option ℕ) → n ≡ length signs
    → MatchOption found ((k : ℕ) → 0 ≤ k → k < n → at signs k ≡ Zero)
    (λ i. (0 ≤ i) × (i < n) × (at signs i ≢ Zero) × ((k : ℕ) → 0 ≤ k → k < i → at signs k ≡ Zero))
    → MatchOption found (AreZeroBelow signs (length signs))
    (λ i. (i < length signs) × (at signs i ≢ Zero) × AreZeroBelow signs i)
read signs n None e h = λ k l. h k (omega arith) (omega arith)
read signs n (Some i) e (low, high, nonzero, before) = (omega arith, nonzero, λ k l. before k (omega arith) l)

pub returns : goal.returns
returns c =
    let signs = c.args.signature in
    read signs c.len.result c.find.result c.len.ensures.value
    (first_from_Range _ _ _ _ (λ i. at signs i ≢ Zero) (λ i. at signs i ≡ Zero) c.find.ensures.ran
    (λ x q k. search (rules, tests))
    (λ x q k. (search rules, search (rules, tests))))
