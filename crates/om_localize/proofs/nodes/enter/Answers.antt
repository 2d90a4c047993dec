use Rattle.std.proofs.Common.{ℕ, List, ◌≡◌, ◌-◌, ◌<◌, ◌≤◌, ◌∙◌, sym, subst, length, get_or, bit_and}
use Rattle.om_localize.specs.declared.circles.TheConstants.{MAX_OLD}
use Rattle.om_localize.specs.declared.nodes.Node.{Node}
use Rattle.om_signs.specs.Sign.{opposite}
use Rattle.om_localize.specs.Masks.{mask_place, IsNode, IsOpenNode, IsOpenEverywhere}
use Rattle.om_localize.proofs.NarrowedForms.{written}
use Rattle.om_localize.proofs.NodeLaws.{put_back_same}
use Rattle.om_localize.proofs.OpenLaws.{closed_first, closed_second, still_open}
use Rattle.om_localize.proofs.PairLaws.{bounds_within}
use Rattle.om_localize.proofs.nodes.enter.Goals as goal

-- the second element of the next pair has a circle
has_circle : (n : ℕ) (masks forms : List ℕ) (node : Node) → IsOpenNode n masks node forms → node.a < n → n ≤ MAX_OLD
    → node.b ≤ MAX_OLD
has_circle n masks forms node h l m =
    (bounds_within n (length node.signs) node.a node.b MAX_OLD l h.forms.pair m).second_high

pub cut-first-requires-clause-f_high : goal.cut-first-requires-clause-f_high
cut-first-requires-clause-f_high c = has_circle _ _ _ c.args.node.now c.requires.node c.requires.inner c.requires.high

pub cut-second-requires-clause-e_high : goal.cut-second-requires-clause-e_high
cut-second-requires-clause-e_high c = has_circle _ _ _ c.args.node.now c.requires.node c.requires.inner c.requires.high

pub forms_at-requires-2-clause-high : goal.forms_at-requires-2-clause-high
forms_at-requires-2-clause-high c = has_circle _ _ _ c.args.node.now c.requires.node c.requires.inner c.requires.high

pub put-requires-clause-high : goal.put-requires-clause-high
put-requires-clause-high c = has_circle _ _ _ c.args.node.now c.requires.node c.requires.inner c.requires.high

pub returns-then-first-eq0-clause-closed : goal.returns-then-first-eq0-clause-closed
returns-then-first-eq0-clause-closed c = λ _.
    let node = c.args.node.now in
    closed_first c.args.n c.args.masks.now node.signs c.args.forms.now node.a node.b c.args.sign c.requires.high
    c.requires.node.forms c.requires.inner (sym c.cut-first.ensures ∙ c.if-first-eq0.true)

pub returns-then-second-eq0-clause-closed : goal.returns-then-second-eq0-clause-closed
returns-then-second-eq0-clause-closed c = λ _.
    let node = c.args.node.now in
    closed_second c.args.n c.args.masks.now node.signs c.args.forms.now node.a node.b c.args.sign c.requires.high
    c.requires.node.forms c.requires.inner (sym (rw (sym c.neg.ensures) c.cut-second.ensures) ∙ c.if-second-eq0.true)

pub returns-clause-back : goal.returns-clause-back
returns-clause-back c =
    let node = c.args.node.now in
    put_back_same c.args.forms.now c.put.new.forms node.a node.b c.cut-first.result c.cut-second.result
    c.forms_at.result c.forms_at-2.result c.requires.node.forms.pair.low c.requires.node.forms.pair.order
    c.put.ensures c.forms_at.ensures c.forms_at-2.ensures

pub returns-clause-node : goal.returns-clause-node
returns-clause-node c =
    let node = c.args.node.now in
    let n = c.args.n in
    let masks = c.args.masks.now in
    let forms = c.args.forms.now in
    let second : c.cut-second.result ≡ bit_and (get_or forms (node.b - 1) 0)
    (get_or masks (mask_place node.b node.a (opposite c.args.sign)) 0) =
    rw (sym c.neg.ensures) c.cut-second.ensures in
    let same = c.put.ensures
    ∙ written masks forms node.a node.b c.args.sign c.cut-first.result c.cut-second.result
    c.requires.node.forms.pair.low c.requires.node.forms.pair.order c.cut-first.ensures second in
    record {
      forms = subst (λ fs. IsNode n masks c.child.result.signs fs c.child.result.a c.child.result.b) (sym same)
          c.child.ensures.node;
      everywhere = subst (IsOpenEverywhere n) (sym same)
          (still_open n masks node.signs forms node.a node.b c.args.sign c.requires.high c.requires.node.forms
          c.requires.inner (λ z. c.if-first-eq0.false (c.cut-first.ensures ∙ z))
          (λ z. c.if-second-eq0.false (second ∙ z)) c.requires.node.everywhere);
    }
