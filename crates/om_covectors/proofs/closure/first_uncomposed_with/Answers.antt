use Rattle.std.proofs.Common.{ℕ, ◌≡◌, ◌<◌, List, length, get_or, below_more, sym, ◌∙◌, ap, subst}
use Rattle.std.specs.List.{Contains}
use Rattle.om_signs.specs.declared.sign.Sign.{Sign}
use Rattle.om_signs.specs.SignVec.{compose}
use Rattle.om_covectors.specs.Scans.{HasCompositionWith}
use Rattle.om_members.proofs.ScanLaws.{nth_read}
use Rattle.om_covectors.proofs.closure.first_uncomposed_with.Goals as goal

composition_found : (members : List (List Sign)) (k : ℕ) (x y n : List Sign) → k < length members
    → y ≡ get_or members k y → n ≡ compose x y → Contains members n → HasCompositionWith members x k
composition_found members k x y n lt is e h =
    subst (Contains members) (e ∙ ap (compose x) (sym (nth_read members k y lt is))) h

pub loop-j-preserved : goal.loop-j-preserved
loop-j-preserved c = below_more (HasCompositionWith c.args.members.now c.args.x) c.loop-j.j c.loop-j.invariant
    (composition_found c.args.members.now c.loop-j.j c.args.x c.index-members-j.result c.compose.result
    c.loop-j-test.true c.index-members-j.is c.compose.ensures (c.is_member.ensures.0 c.if-not-is_member.false))
