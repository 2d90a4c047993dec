use Rattle.om_subsets.specs.Subsets.{choose, subset_at}
use Rattle.std.proofs.Common.{◌-◌, ap, ◌∙◌, sym, subst}
use Rattle.om_threeterm.specs.Violations.{IsUnbalancedList}
use Rattle.om_threeterm.proofs.RelationLaws.{relations_of_none, first_of_least}
use Rattle.om_threeterm.proofs.relations.first_unbalanced_among.Goals as goal

pub returns-in-None-clause-none : goal.returns-in-None-clause-none
returns-in-None-clause-none g c =
    relations_of_none c.args.map.now c.choose-count.result c.requires.low (c.choose-count.ensures.value ∙ ap (λ m.
    choose m.elements (m.rank - 2)) c.map.view_is)
    c.in-None.ensures

pub returns-in_err-q-in-Some-clause-none : goal.returns-in_err-q-in-Some-clause-none
returns-in_err-q-in-Some-clause-none g c =
    let bad = c.in-Some.ensures.is_bad in
    absurd (c.in_err-q-in-Some.ensures.none bad.1.0
    (subst (λ p. IsUnbalancedList c.args.map.now p bad.1.0) (sym (c.unrank-p.ensures.elements ∙ ap (λ m. subset_at
    m.elements (m.rank - 2) c.in-Some.k) c.map.view_is)) bad.1.1))

pub returns-in_ok-q-in-Some-clause-first : goal.returns-in_ok-q-in-Some-clause-first
returns-in_ok-q-in-Some-clause-first g c =
    first_of_least c.args.map.now c.choose-count.result c.in-Some.k c.unrank-p.result c.in_ok-q-in-Some.q
    c.requires.low (c.choose-count.ensures.value ∙ ap (λ m. choose m.elements (m.rank - 2)) c.map.view_is)
    c.in-Some.ensures (c.unrank-p.ensures.n ∙ ap (λ m. m.elements) c.map.view_is) (c.unrank-p.ensures.elements ∙
    ap (λ m. subset_at m.elements (m.rank - 2) c.in-Some.k) c.map.view_is)
    c.in_ok-q-in-Some.ensures.first
