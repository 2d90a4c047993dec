use Rattle.std.proofs.Common.{◌≤◌, ◌<◌, ◌∙◌, sym, ap, subst, arith, map, string_bytes}
use Rattle.std.proofs.lemmas.List.{length-map}
use Rattle.om_words.specs.declared.limits.TheConstants.{MAX_LISTED}
use Rattle.om_words.specs.ListingSteps.{signed_of}
use Rattle.om_words.proofs.LeadingLaws.{too_many, none_spelt, spelt_before, may_follow}
use Rattle.om_words.proofs.leading.leading_of.Goals as goal

pub returns-then-before-ge-MAX_LISTED-clause-none : goal.returns-then-before-ge-MAX_LISTED-clause-none
returns-then-before-ge-MAX_LISTED-clause-none c =
    too_many (map string_bytes c.args.before.now) (string_bytes c.args.word.now)
    (subst (λ k. MAX_LISTED ≤ k) (sym (length-map c.args.before.now string_bytes)) c.if-before-ge-MAX_LISTED.true)

pub returns-in_err-x-clause-none : goal.returns-in_err-x-clause-none
returns-in_err-x-clause-none c =
    rw c.from_residual.ensures
    (none_spelt (map string_bytes c.args.before.now) (string_bytes c.args.word.now)
    (sym (ap signed_of c.as_bytes.ensures.value) ∙ sym c.signed_of.ensures ∙ c.in_err-x.was))

pub returns-in_err-x-clause-leading : goal.returns-in_err-x-clause-leading
returns-in_err-x-clause-leading c = rw c.from_residual.ensures tt

pub returns-in_err-x-clause-value : goal.returns-in_err-x-clause-value
returns-in_err-x-clause-value c = rw c.from_residual.ensures tt

pub returns-in_err-x-clause-room : goal.returns-in_err-x-clause-room
returns-in_err-x-clause-room c = rw c.from_residual.ensures tt

pub returns-then-is_among-clause-none : goal.returns-then-is_among-clause-none
returns-then-is_among-clause-none c =
    spelt_before (map string_bytes c.args.before.now) (string_bytes c.args.word.now) c.in_ok-x.x
    (sym (ap signed_of c.as_bytes.ensures.value) ∙ sym c.signed_of.ensures ∙ c.in_ok-x.was)
    (sym c.is_among.ensures ∙ c.if-is_among.true)

pub returns-else-is_among-clause-leading : goal.returns-else-is_among-clause-leading
returns-else-is_among-clause-leading c =
    let few = c.if-before-ge-MAX_LISTED.false in
    may_follow (map string_bytes c.args.before.now) (string_bytes c.args.word.now) c.in_ok-x.x
    (subst (λ k. k < MAX_LISTED) (sym (length-map c.args.before.now string_bytes)) (omega (arith, few)))
    (sym (ap signed_of c.as_bytes.ensures.value) ∙ sym c.signed_of.ensures ∙ c.in_ok-x.was)
    (sym c.is_among.ensures ∙ c.if-is_among.false)

pub returns-else-is_among-clause-value : goal.returns-else-is_among-clause-value
returns-else-is_among-clause-value c =
    sym (ap signed_of c.as_bytes.ensures.value) ∙ sym c.signed_of.ensures ∙ c.in_ok-x.was
