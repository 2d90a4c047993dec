use Rattle.std.proofs.Common.{◌≡◌, [], ◌∷◌, ◌++◌, map, subst}
use Rattle.std.specs.Prelude.{pos, codes, decimal}
use Rattle.om_reply.specs.VerdictText.{named, lines_text}
use Rattle.om_reply.proofs.BlockTexts.{on_ok, line_whole, lines_after}
use Rattle.om_reply.proofs.verdict_lines.push_pivots.Goals as goal

pub returns : goal.returns
returns c =
    let old = c.args.text.now.items in
    let first = subst (λ n. c.push_named.new.text.items ≡ old ++ lines_text (named (codes "pivots") (pos n ∷ []) ∷ []))
    c.from.ensures c.in_ok-push_named.ensures in
    on_ok c.push-2.result
    (λ e. lines_after (named (codes "pivots") (pos c.args.count ∷ []) ∷ [])
    ((codes "basis" ∷ map decimal c.args.basis.now) ∷ []) old c.push_named.new.text.items c.push-2.new.text.items
    first
    (line_whole (codes "basis") (map decimal c.args.basis.now) c.push_named.new.text.items c.push.new.text.items
    c.push_places.new.text.items c.push-2.new.text.items c.in_ok-push.ensures.ok c.in_ok-push_places.ensures e))
    c.push-2.ensures.ok
