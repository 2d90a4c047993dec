use Rattle.std.proofs.Common.{[], ◌∷◌, sym, append-nil}
use Rattle.std.specs.Prelude.{codes}
use Rattle.std.specs.Fmt.{signed_decimal}
use Rattle.om_reply.proofs.BlockTexts.{on_ok, line_whole, coordinate_next}
use Rattle.om_reply.proofs.verdict_lines.push_vector.Goals as goal

pub returns : goal.returns
returns c =
    let v = c.args.vector in
    let name = c.push.new.text.items in
    let x = coordinate_next [] c.x.result v.x c.from.result name name c.push_signed.new.text.items c.x.ensures.size
    c.x.ensures.value c.from.ensures (sym (append-nil name)) c.in_ok-push_signed.ensures in
    let y = coordinate_next (signed_decimal v.x ∷ []) c.y.result v.y c.from-2.result name c.push_signed.new.text.items
    c.push_signed-2.new.text.items c.y.ensures.size c.y.ensures.value c.from-2.ensures x
    c.in_ok-push_signed-2.ensures in
    let z = coordinate_next (signed_decimal v.x ∷ signed_decimal v.y ∷ []) c.z.result v.z c.from-3.result name
    c.push_signed-2.new.text.items c.push_signed-3.new.text.items c.z.ensures.size c.z.ensures.value
    c.from-3.ensures y c.in_ok-push_signed-3.ensures in
    on_ok c.push-2.result
    (line_whole (codes "vector") (signed_decimal v.x ∷ signed_decimal v.y ∷ signed_decimal v.z ∷ [])
    c.args.text.now.items name c.push_signed-3.new.text.items c.push-2.new.text.items c.in_ok-push.ensures.ok z)
    c.push-2.ensures.ok
