use Rattle.std.proofs.Common.{ℕ, ◌≡◌, ◌<◌, List, length, map, get_or, below_more, sym, ◌∙◌, ap, subst}
use Rattle.std.specs.List.{Contains}
use Rattle.om_signs.specs.declared.sign.Sign.{Sign}
use Rattle.om_signs.specs.Sign.{opposite}
use Rattle.om_members.specs.Vectors.{negated}
use Rattle.om_members.specs.Scans.{HasNegativeAt}
use Rattle.om_members.proofs.ScanLaws.{nth_read}
use Rattle.om_members.proofs.members.first_without_negative.Goals as goal

negative_found : (members : List (List Sign)) (k : ℕ) (x n : List Sign) → k < length members → x ≡ get_or members k x
    → n ≡ map opposite x → Contains members n → HasNegativeAt members k
negative_found members k x n lt is e h = subst (Contains members) (e ∙ ap negated (sym (nth_read members k x lt is))) h

pub loop-k-preserved : goal.loop-k-preserved
loop-k-preserved c = below_more (HasNegativeAt c.args.members.now) c.loop-k.k c.loop-k.invariant
    (negative_found c.args.members.now c.loop-k.k c.index-members-k.result c.neg.result c.loop-k-test.true
    c.index-members-k.is c.neg.ensures (c.is_member.ensures.0 c.if-not-is_member.false))
