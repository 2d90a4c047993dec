-- Each list that is shown exact has one member of each class.
--
-- Main results: one_member_each
use Rattle.std.specs.Prelude.{ℕ, ◌≡◌, ◌+◌, ◌<◌, List, [], length, slice_index_or}
use Rattle.std.proofs.Common.{zero, suc, subst, arith}
use Rattle.om_chirotope.specs.Map.{SignMap}
use Rattle.om_chain.specs.declared.asked.Asked.TheVariants.{Exact}
use Rattle.om_chain.specs.Chains.{IsShown}
use Rattle.om_chain.proofs.Shown.{one_of_each}
use Rattle.om_least.specs.Least.{IsOfOneMember}
use Rattle.om_levels.specs.Families.{IsOfFamily}
use Rattle.om_classification.specs.declared.request.ListRequest.{ListRequest}
use Rattle.om_classification.specs.Lists.{AreShown, no_more, next}

pub one_member_each : (r : ListRequest) (n : ℕ) (lists : List (List SignMap)) (i : ℕ) (m : SignMap) → r.asked ≡ Exact
    → AreShown r n lists → i < length lists → IsOfFamily r.family (i + n) m
    → IsOfOneMember (slice_index_or lists i []) m
one_member_each r n lists i m asked (no_more j) few member = absurd (omega (arith, few))
one_member_each r n lists zero m asked (next j maps others some shown more) few member =
    one_of_each r.family n maps (subst (λ a. IsShown a r.family n maps) asked shown) m
    (subst (λ k. IsOfFamily r.family k m) (let e : zero + n ≡ n = omega arith in e) member)
one_member_each r n lists (suc i) m asked (next j maps others some shown more) few member =
    one_member_each r (n + 1) others i m asked more (omega (arith, few))
    (subst (λ k. IsOfFamily r.family k m) (let e : suc i + n ≡ i + (n + 1) = omega arith in e) member)
