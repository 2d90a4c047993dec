use Rattle.std.proofs.Common.{◌++◌}
use Rattle.om_printing.specs.Texts.{ended}
use Rattle.om_printing.proofs.FieldTexts.{field_more, fields_done}
use Rattle.om_printing.proofs.texts.text_of.Goals as goal

pub loop-field-preserved : goal.loop-field-preserved
loop-field-preserved c =
    field_more c.args.fields.now c.loop-field.field-index _ c.field-item.result c.loop-field.text.items
    c.push_field.new.text.items (c.args.name.now ++ ended c.args.fields.now) c.loop-field-test.true c.field-item.is
    c.in_ok-push_field.ensures c.loop-field.invariant

pub returns : goal.returns
returns c =
    fields_done c.args.fields.now c.loop-field.field-index c.loop-field.text.items c.push_line_feed.new.text.items
    (c.args.name.now ++ ended c.args.fields.now) c.loop-field-test.false c.in_ok-push_line_feed.ensures.ok
    c.loop-field.invariant
