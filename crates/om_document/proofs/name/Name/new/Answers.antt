use Rattle.std.proofs.Common.{sym, ◌∙◌, arith}
use Rattle.om_document.proofs.NameForms.{kept_new, read_again}
use Rattle.om_document.proofs.Printing.{not_empty}
use Rattle.om_document.proofs.name.Name.new.Goals as goal

pub invariant_of-result : goal.invariant_of-result
invariant_of-result c =
    let e = not_empty _ _ c.is_empty.ensures c.if-is_empty.false in
    kept_new c.args.bytes.now c.copy_from_slice.new.self c.copy_from_slice.ensures.after (omega arith) (omega arith)
    (sym c.are_name_bytes.ensures ∙ c.if-not-are_name_bytes.false)

pub returns : goal.returns
returns c =
    let e = not_empty _ _ c.is_empty.ensures c.if-is_empty.false in
    read_again c.args.bytes.now c.copy_from_slice.new.self _ c.copy_from_slice.ensures.after (omega arith) (omega arith)
    (sym c.are_name_bytes.ensures ∙ c.if-not-are_name_bytes.false)
