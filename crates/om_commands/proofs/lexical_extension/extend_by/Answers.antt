use Rattle.std.proofs.Common.{◌+◌, ◌≤◌, sym, subst}
use Rattle.om_signs.specs.declared.limits.TheConstants.{MAX_VALUES}
use Rattle.om_subsets.specs.Subsets.{choose}
use Rattle.om_commands.specs.LexicalExtensions.{extended}
use Rattle.om_commands.proofs.LeadingLaws.{memory_is_cause, refused_values, values_fit}
use Rattle.om_commands.proofs.lexical_extension.extend_by.Goals as goal

pub map_document-requires : goal.map_document-requires
map_document-requires c other =
    let m = c.args.chirotope.now in
    let x = c.in-Ok.ensures.extension in
    let fits = values_fit m.elements m.rank c.requires.few c.in-Ok.ensures.values.1 in
    subst (λ k. choose k c.in-Ok.extension.rank ≤ MAX_VALUES) (sym x.elements)
    (subst (λ r. choose (m.elements + 1) r ≤ MAX_VALUES) (sym x.rank) fits)

pub returns-in-Ok : goal.returns-in-Ok
returns-in-Ok c =
    let d = c.map_document.ensures in
    extended c.in-Ok.extension c.map_document.result
    (values_fit c.args.chirotope.now.elements c.args.chirotope.now.rank c.requires.few c.in-Ok.ensures.values.1)
    c.in-Ok.ensures.extension d.value d.form d.axioms

pub returns-in-Values : goal.returns-in-Values
returns-in-Values c =
    refused_values c.args.list.now c.args.chirotope.now _ c.in-Err.error c.in-Values.is c.in-Err.ensures.values
    c.in-Err.ensures.number

pub memory_alone-requires : goal.memory_alone-requires
memory_alone-requires c =
    memory_is_cause c.args.chirotope.now.elements c.in-Err.error c.in-Err.ensures.full c.requires.few
    c.in_default.not-Values
