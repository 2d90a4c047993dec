use Rattle.std.proofs.Common.{rules}
use Rattle.std.specs.Prelude.{◌≡◌, false, refl}
use Rattle.std.proofs.lemmas.Result.{IfOk-weaker}
use Rattle.om_document.specs.declared.kinds.Kind.TheVariants as kind
use Rattle.om_representation.specs.declared.representation.Representation.TheVariants as representation
use Rattle.om_commands.specs.Conversions.{has_kind, is_direct}
use Rattle.om_representation.specs.Documents.{document_of, circuits_document}
use Rattle.om_commands.proofs.ConversionLaws.{own_converted, from_chirotope, wide_answered, one_of_two}
use Rattle.om_commands.proofs.conversion.to_circuits.Goals as goal

pub returns-in-Circuits : goal.returns-in-Circuits
returns-in-Circuits c =
    let d = c.circuits_document.ensures in
    rw c.in-Circuits.is
    (own_converted kind.Circuits (circuits_document c.in-Circuits.circuits.0) c.circuits_document.result refl
    d.value d.form d.axioms)

pub returns-in-Ok : goal.returns-in-Ok
returns-in-Ok c =
    let other = one_of_two (λ r. has_kind kind.Circuits (document_of r).body ≡ false) c.args.representation
    (λ s. representation.Cocircuits s) (λ s. representation.Covectors s) (λ s. refl) (λ s. refl)
    c.in-Cocircuits.is in
    let e = c.in-Ok.ensures in
    IfOk-weaker _ _ _
    (λ a from. from_chirotope kind.Circuits c.args.representation c.in-Ok.chirotope e.chosen other e.kept a from)
    c.list_circuits-in-Ok.ensures

pub returns-in_ok-width_line-in-Err : goal.returns-in_ok-width_line-in-Err
returns-in_ok-width_line-in-Err c =
    let other = one_of_two (λ r. has_kind kind.Circuits (document_of r).body ≡ false) c.args.representation
    (λ s. representation.Cocircuits s) (λ s. representation.Covectors s) (λ s. refl) (λ s. refl)
    c.in-Cocircuits.is in
    let way = one_of_two (λ r. is_direct kind.Circuits (document_of r).body ≡ false) c.args.representation
    (λ s. representation.Cocircuits s) (λ s. representation.Covectors s) (λ s. refl) (λ s. refl)
    c.in-Cocircuits.is in
    wide_answered kind.Circuits (document_of c.args.representation) c.in-Err.why _ other way c.in-Err.ensures.refused
    c.in_ok-width_line-in-Err.ensures.line

pub returns-in-Chirotope : goal.returns-in-Chirotope
returns-in-Chirotope c = search rules
