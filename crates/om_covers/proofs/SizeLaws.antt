-- Sizes of signatures, and the pair that is left of three elements.
--
-- Main results: few_signs, pair_place.
use Rattle.std.proofs.Common.{ℕ, ◌≡◌, ◌<◌, ◌≤◌, List, length, ap, subst, ◌∙◌, arith}
use Rattle.om_signs.specs.declared.limits.TheConstants.{MAX_ELEMENTS}
use Rattle.om_subsets.specs.Subsets.{IsSubsetFrom, IsMember, choose, without_element}
use Rattle.om_chirotope.proofs.Circuits.{length-without}
use Rattle.om_localize.specs.declared.signature.TheConstants.{MAX_PAIRS}
use Rattle.om_localize.proofs.OpenLaws.{few_pairs}

pub few_signs : (n : ℕ) → n < MAX_ELEMENTS → choose n 2 ≤ MAX_PAIRS
few_signs n l = few_pairs n (omega arith)

pair_size : (n e : ℕ) (xs : List ℕ) → IsSubsetFrom 1 n xs → length xs ≡ 3 → IsMember e xs
    → length (without_element e xs) ≡ 2
pair_size n e xs h l m = let k = length-without 1 n e xs h m in omega arith

-- the place of what is left of three elements without e
pub pair_place : (n sn pn k e : ℕ) (xs pair : List ℕ) → IsSubsetFrom 1 sn xs → length xs ≡ 3 → IsMember e xs
    → pair ≡ without_element e xs → pn ≡ n → k < choose pn (length pair) → k < choose n 2
pair_place n sn pn k e xs pair h l m q qn lt =
    subst (λ j. k < choose n j) (ap length q ∙ pair_size sn e xs h l m) (subst (λ j. k < choose j (length pair)) qn lt)
