use Rattle.std.proofs.Common.{ℕ, ◌≡◌, ◌≢◌, ◌+◌, ◌<◌, ◌↔◌, List, Bool, true, false, All, IsTrue, length, get_or, refl}
use Rattle.std.proofs.Common.{sym, ap, ◌∙◌, arith, rules, tests}
use Rattle.std.specs.Bool.{MatchBool}
use Rattle.std.specs.List.{AllWithin, HoldsAt, range_with_len}
use Rattle.std.proofs.lemmas.Bool.{false≢true}
use Rattle.std.proofs.lemmas.Iterator.{cases_from_all, YieldsList-from_range}
use Rattle.std.proofs.lemmas.List.{get_or_default}
use Rattle.std.proofs.lemmas.List.FromFn.{length-range_with_len, get_or-range_with_len}
use Rattle.om_signs.specs.declared.sign.Sign.{Sign}
use Rattle.om_signs.specs.declared.sign.Sign.TheVariants.{Zero}
use Rattle.om_signs.specs.SignVec.{at}
use Rattle.om_covers.proofs.halves.has_no_zero.Goals as goal

-- the sign at the index that comes at a turn
sign_at : (signs : List Sign) (n k : ℕ) → k < n → at signs (get_or (range_with_len 0 n) k 0) ≡ at signs k
sign_at signs n k l =
    let from_zero : 0 + k ≡ k = omega arith in ap (at signs) (get_or-range_with_len 0 n k 0 l ∙ from_zero)

read : (signs : List Sign) (n : ℕ) (b : Bool) → n ≡ length signs
    → MatchBool b (AllWithin (λ i. at signs i ≢ Zero) (range_with_len 0 n) 0 (length (range_with_len 0 n)))
    ((k : ℕ) × (k < length (range_with_len 0 n)) × HoldsAt (λ i. at signs i ≡ Zero) (range_with_len 0 n) k)
    → IsTrue b ↔ All (λ s. s ≢ Zero) signs
read signs n true e h = (
  λ t k d l z.
      let m = length-range_with_len 0 n in
      h k 0 (omega arith) (omega arith) (sign_at signs n k (omega arith) ∙ get_or_default signs k Zero d l ∙ z),
  λ all. refl,
)
read signs n false e (k, l, z) = (
  λ t. absurd (false≢true t),
  λ all.
      let m = length-range_with_len 0 n in
      absurd (all k Zero (omega arith) (sym (sign_at signs n k (omega arith)) ∙ z 0)),
)

pub returns : goal.returns
returns c =
    let signs = c.args.signature in
    read signs c.len.result c.all.result c.len.ensures.value
    (cases_from_all _ _ _ (λ i. at signs i ≢ Zero) (λ i. at signs i ≡ Zero) c.all.ensures.ran
    (YieldsList-from_range 0 c.len.result c.len.result refl (omega arith))
    (λ x q k. (search rules, search (rules, tests))) (λ x q k. search (rules, tests)))
