use Rattle.std.specs.List.{Contains}
use Rattle.std.proofs.Common.{sym, ◌∙◌, subst}
use Rattle.std.proofs.lemmas.Result.{err_from_is_err_and}
use Rattle.om_denotation.specs.Circuits.{IsCocircuitOfChirotope}
use Rattle.om_denotation.specs.Compositions.{IsCompositionOf}
use Rattle.om_denotation.specs.Covectors.{IsCovectorOfChirotope}
use Rattle.om_denotation.specs.Listings.{AreAllOf}
use Rattle.om_convert.specs.Limits.{IsCause}
use Rattle.om_convert.proofs.CountingLaws.{cause_of_cause}
use Rattle.om_denotation.proofs.FamilyLaws.{cocircuit_covector}
use Rattle.om_convert.proofs.ChirotopeLaws.{cocircuit_lengths, covector_of_composition, covectors_of_compositions}
use Rattle.om_convert.proofs.vectors.all_covectors.Goals as goal

pub returns-in_err-cocircuits-clause-many : goal.returns-in_err-cocircuits-clause-many
returns-in_err-cocircuits-clause-many c =
    let p = err_from_is_err_and c.from_residual.result c.from_residual.ensures.1 in
    rw (p.1, p.2)
    (cause_of_cause (IsCocircuitOfChirotope c.args.chi.now) (IsCovectorOfChirotope c.args.chi.now)
    (cocircuit_covector c.args.chi.now c.all_cocircuits.ensures.lawful) c.in_err-cocircuits.field-0.0
    c.in_err-cocircuits.ensures.many)

pub all_compositions-requires-clause-lengths : goal.all_compositions-requires-clause-lengths
all_compositions-requires-clause-lengths c =
    let all = subst (AreAllOf (IsCocircuitOfChirotope c.args.chi.now)) (sym c.as_slice.ensures)
    c.in_ok-cocircuits.ensures.members in
    λ k d l. cocircuit_lengths c.args.chi.now c.all_cocircuits.ensures.lawful c.as_slice.result.now all k d l
    ∙ sym c.elements.ensures.value

pub returns-in_err-covectors-clause-many : goal.returns-in_err-covectors-clause-many
returns-in_err-covectors-clause-many c =
    let p = err_from_is_err_and c.from_residual-in_err-covectors.result c.from_residual-in_err-covectors.ensures.1 in
    let all = subst (AreAllOf (IsCocircuitOfChirotope c.args.chi.now)) (sym c.as_slice.ensures)
    c.in_ok-cocircuits.ensures.members in
    rw (p.1, p.2)
    (cause_of_cause (IsCompositionOf c.args.chi.now.elements (Contains c.as_slice.result.now))
    (IsCovectorOfChirotope c.args.chi.now)
    (covector_of_composition c.args.chi.now c.all_cocircuits.ensures.lawful c.as_slice.result.now all)
    c.in_err-covectors.field-0.0
    (subst (λ n. IsCause (IsCompositionOf n (Contains c.as_slice.result.now)) c.in_err-covectors.field-0.0)
    c.elements.ensures.value c.in_err-covectors.ensures.many))

pub returns-clause-members : goal.returns-clause-members
returns-clause-members c =
    let all = subst (AreAllOf (IsCocircuitOfChirotope c.args.chi.now)) (sym c.as_slice.ensures)
    c.in_ok-cocircuits.ensures.members in
    covectors_of_compositions c.args.chi.now c.all_cocircuits.ensures.lawful c.as_slice.result.now all
    c.in_ok-covectors.covectors
    (subst (λ n. AreAllOf (IsCompositionOf n (Contains c.as_slice.result.now)) c.in_ok-covectors.covectors)
    c.elements.ensures.value c.in_ok-covectors.ensures.members)
