use Rattle.std.proofs.Common.{sym, ◌∙◌, subst}
use Rattle.std.proofs.lemmas.Bool.{false≢true}
use Rattle.om_laws.specs.Sorting.{IsElement}
use Rattle.om_wiring.specs.Scans.{position_in}
use Rattle.om_wiring.proofs.OpeningLaws.{none_next, none_next_back}
use Rattle.om_wiring.proofs.opening.may_begin.Goals as goal

pub returns-then-not-is_next : goal.returns-then-not-is_next
returns-then-not-is_next c = λ _.
    let e = c.elements-elements.ensures.value in
    none_next c.args.chi.now (position_in c.args.order.now) c.args.first c.in-Some.x c.in-Some-wire_at.y
    (subst (λ n. IsElement n c.in-Some.x) e c.in-Some.ensures.within)
    (subst (λ n. IsElement n c.in-Some-wire_at.y) e c.in-Some-wire_at.ensures.within)
    c.in-Some.ensures.some c.in-Some-wire_at.ensures.some
    (λ h. false≢true (sym c.if-not-is_next.true ∙ c.is_next.ensures.1 h))

pub returns : goal.returns
returns c = λ none.
    let e = c.elements-elements.ensures.value in
    none_next_back c.args.chi.now (position_in c.args.order.now) c.args.first c.in-Some.x c.in-Some-wire_at.y
    (subst (λ n. IsElement n c.in-Some.x) e c.in-Some.ensures.within)
    (subst (λ n. IsElement n c.in-Some-wire_at.y) e c.in-Some-wire_at.ensures.within)
    c.in-Some.ensures.some c.in-Some-wire_at.ensures.some
    (λ h. false≢true (sym none ∙ c.is_next-2.ensures.1 h))
