use Rattle.om_words.proofs.ThreeWords.{at_place_read, at_place_bad}
use Rattle.om_words.proofs.triple.element_at.Goals as goal

pub returns-in-Some-clause-value : goal.returns-in-Some-clause-value
returns-in-Some-clause-value c =
    at_place_read _ _ _ _ _ _ _ _ c.if-rest-place.false c.index-rest-place.is c.element_between.ensures c.in-Some.is

pub returns-in-None-clause-value : goal.returns-in-None-clause-value
returns-in-None-clause-value c =
    at_place_bad _ _ _ _ _ _ _ _ c.if-rest-place.false c.index-rest-place.is c.element_between.ensures c.in-None.is
