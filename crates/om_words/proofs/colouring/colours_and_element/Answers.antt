use Rattle.std.specs.Prelude.{length}
use Rattle.std.proofs.Common.{sym, ap, ◌∙◌}
use Rattle.om_words.specs.ListingSteps.{colours_of}
use Rattle.om_words.proofs.FilledLists.{few_of, some_of}
use Rattle.om_words.proofs.ListingLaws.{colouring_missing, colouring_letters, colouring_element, colouring_long}
use Rattle.om_words.proofs.ListingLaws.{colouring_read}
use Rattle.om_words.proofs.ListingMeaning.{colouring_meant}
use Rattle.om_words.proofs.colouring.colours_and_element.Goals as goal

pub returns-then-is_empty : goal.returns-then-is_empty
returns-then-is_empty c =
    colouring_meant _ _
    (colouring_missing _ _ (few_of _ _ c.is_empty.ensures c.if-is_empty.true))

pub returns-in_default : goal.returns-in_default
returns-in_default c =
    colouring_meant _ _
    (colouring_letters _ _ _ (some_of _ _ c.is_empty.ensures c.if-is_empty.false) c.index-rest-0.is
    (sym (ap colours_of c.as_bytes-word.ensures.value) ∙ sym c.colours_of.ensures ∙ c.in_default.is))

pub returns-in_err-e : goal.returns-in_err-e
returns-in_err-e c =
    colouring_meant _ _
    (colouring_element _ _ _ _ _ _ _ (some_of _ _ c.is_empty.ensures c.if-is_empty.false)
    c.index-rest-0.is (sym (ap colours_of c.as_bytes-word.ensures.value) ∙ sym c.in-Some.ensures)
    c.element_at.ensures.value c.element_at.ensures.fault c.in_err-e.was c.from_residual.ensures.1)

pub returns-then-rest-gt2 : goal.returns-then-rest-gt2
returns-then-rest-gt2 c =
    colouring_meant _ _
    (colouring_long _ _ _ _ _ c.index-rest-0.is
    (sym (ap colours_of c.as_bytes-word.ensures.value) ∙ sym c.in-Some.ensures)
    ((c.element_at.ensures.value c.in_ok-e.e).0 c.in_ok-e.was) c.if-rest-gt2.true)

pub returns : goal.returns
returns c =
    colouring_meant _ _
    (colouring_read _ _ _ _ _ _ c.index-rest-0.is
    (sym (ap colours_of c.as_bytes-word.ensures.value) ∙ sym c.in-Some.ensures)
    (ap length c.as_bytes-word.ensures.value) ((c.element_at.ensures.value c.in_ok-e.e).0 c.in_ok-e.was)
    c.if-rest-gt2.false)
