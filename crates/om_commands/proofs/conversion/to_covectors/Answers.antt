use Rattle.std.specs.Prelude.{◌≡◌, false, refl}
use Rattle.std.proofs.lemmas.Result.{IfOk-weaker}
use Rattle.om_document.specs.declared.kinds.Kind.TheVariants as kind
use Rattle.om_representation.specs.declared.representation.Representation.TheVariants as representation
use Rattle.om_commands.specs.Conversions.{has_kind, is_direct}
use Rattle.om_representation.specs.Documents.{document_of, covectors_document}
use Rattle.om_commands.proofs.ConversionLaws.{own_converted, from_chirotope, wide_answered, one_of_two}
use Rattle.om_commands.proofs.conversion.to_covectors.Goals as goal

pub returns-in-Covectors : goal.returns-in-Covectors
returns-in-Covectors c =
    let d = c.covectors_document.ensures in
    rw c.in-Covectors.is
    (own_converted kind.Covectors (covectors_document c.in-Covectors.covectors) c.covectors_document.result refl
    d.value d.form d.axioms)

pub returns-in-Ok : goal.returns-in-Ok
returns-in-Ok c =
    let other = one_of_two (λ r. has_kind kind.Covectors (document_of r).body ≡ false) c.args.representation
    (λ s. representation.Circuits s) (λ s. representation.Cocircuits s) (λ s. refl) (λ s. refl) c.in-Circuits.is
    in
    let e = c.in-Ok.ensures in
    IfOk-weaker _ _ _
    (λ a from. from_chirotope kind.Covectors c.args.representation c.in-Ok.chirotope e.chosen other e.kept a from)
    c.list_covectors-in-Ok.ensures

pub returns-in_ok-width_line-in-Err : goal.returns-in_ok-width_line-in-Err
returns-in_ok-width_line-in-Err c =
    let other = one_of_two (λ r. has_kind kind.Covectors (document_of r).body ≡ false) c.args.representation
    (λ s. representation.Circuits s) (λ s. representation.Cocircuits s) (λ s. refl) (λ s. refl) c.in-Circuits.is
    in
    let way = one_of_two (λ r. is_direct kind.Covectors (document_of r).body ≡ false) c.args.representation
    (λ s. representation.Circuits s) (λ s. representation.Cocircuits s) (λ s. refl) (λ s. refl) c.in-Circuits.is
    in
    wide_answered kind.Covectors (document_of c.args.representation) c.in-Err.why _ other way c.in-Err.ensures.refused
    c.in_ok-width_line-in-Err.ensures.line
