use Rattle.std.proofs.Common.{rules, tests}
use Rattle.std.proofs.lemmas.Bool.{MatchBool-at_true}
use Rattle.std.proofs.lemmas.Iterator.{cases_from_all, YieldsList-from_slice}
use Rattle.std.proofs.lemmas.Iterator.Search.{true_from_All}
use Rattle.std.proofs.lemmas.List.Elements.{All-from_all_within}
use Rattle.om_signs.specs.SignVec.{IsOrthogonal}
use Rattle.om_oriented.proofs.circuits.is_orthogonal_to_all.Goals as goal

pub returns : goal.returns
returns c =
    let r = cases_from_all _ _ _ (IsOrthogonal c.args.x) (λ Y. IsOrthogonal c.args.x Y → ⊥) c.all.ensures.ran
    (YieldsList-from_slice c.args.members.now cc) (λ x q k. search (rules, tests))
    (λ x q k. search (rules, tests)) in (
      λ t. All-from_all_within (IsOrthogonal c.args.x) c.args.members.now (MatchBool-at_true _ _ t r),
      λ h. true_from_All (IsOrthogonal c.args.x) (λ Y. IsOrthogonal c.args.x Y → ⊥) _ _ (λ Y p q. absurd (q p)) r h,
    )
