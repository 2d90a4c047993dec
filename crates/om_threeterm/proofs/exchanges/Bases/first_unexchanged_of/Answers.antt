use Rattle.std.proofs.Common.{ap, ◌∙◌, sym, subst, ◌+◌, None}
use Rattle.om_subsets.specs.Subsets.{choose}
use Rattle.om_threeterm.proofs.ExchangePlaces.{IsBestBefore, best_start, best_same, best_new}
use Rattle.om_threeterm.proofs.ExchangeLaws.{place_pair, no_element_zero, none_of_best, first_of_best}
use Rattle.om_threeterm.proofs.exchanges.Bases.first_unexchanged_of.Goals as goal
use Rattle.om_threeterm.proofs.exchanges.Bases.first_unexchanged_of.Goals.{in-Some, in_default}

pub loop-e-init : goal.loop-e-init
loop-e-init c =
    let m = c.args.self.now.map.now in
    let pair = place_pair m c.args.b.elements in
    subst (λ k. IsBestBefore pair (choose m.elements m.rank) k 1 None) (sym (c.choose-limit.ensures.value ∙ ap (λ m.
    choose m.elements m.rank) c.map.view_is))
    (best_start pair (choose m.elements m.rank) (no_element_zero m c.args.b.elements))

pub loop-e-preserved : goal.loop-e-preserved
loop-e-preserved c =
    let m = c.args.self.now.map.now in
    let pair = place_pair m c.args.b.elements in
    let count = choose m.elements m.rank in
    elim c.match-first_unexchanged_by.branch [
      | in-Some w ↦
          subst (λ k. IsBestBefore pair count k (c.loop-e.e + 1) c.match-first_unexchanged_by.found) (sym w.limit-is)
          (subst (λ o. IsBestBefore pair count w.in-Some.k (c.loop-e.e + 1) o) (sym w.found-is)
          (best_new pair count c.loop-e.limit c.loop-e.e w.in-Some.k c.loop-e.found w.in-Some.ensures.within
          w.in-Some.ensures.here w.in-Some.ensures.earlier c.loop-e.invariant))
      | in_default w ↦
          subst (λ k. IsBestBefore pair count k (c.loop-e.e + 1) c.match-first_unexchanged_by.found) (sym w.limit-is)
          (subst (λ o. IsBestBefore pair count c.loop-e.limit (c.loop-e.e + 1) o) (sym w.found-is)
          (best_same pair count c.loop-e.limit c.loop-e.e c.loop-e.found w.in_default.ensures.none c.loop-e.invariant))
    ]

pub returns-in-None-clause-none : goal.returns-in-None-clause-none
returns-in-None-clause-none c =
    let m = c.args.self.now.map.now in
    let pair = place_pair m c.args.b.elements in
    none_of_best m c.args.b.elements c.loop-e.limit c.loop-e.e (rw (← c.map.view_is) c.loop-e-test.false)
    (subst (λ o. IsBestBefore pair (choose m.elements m.rank) c.loop-e.limit c.loop-e.e o) c.in-None.is
    c.loop-e.invariant)

pub set_at-requires : goal.set_at-requires
set_at-requires c =
    let m = c.args.self.now.map.now in
    let best =
    subst (λ o. IsBestBefore (place_pair m c.args.b.elements) (choose m.elements m.rank)
    c.loop-e.limit c.loop-e.e o) c.in-Some-found.is c.loop-e.invariant in
    best.found_is.within

pub returns-in-Some-found-clause-first : goal.returns-in-Some-found-clause-first
returns-in-Some-found-clause-first c =
    let m = c.args.self.now.map.now in
    let best =
    subst (λ o. IsBestBefore (place_pair m c.args.b.elements) (choose m.elements m.rank)
    c.loop-e.limit c.loop-e.e o) c.in-Some-found.is c.loop-e.invariant in
    first_of_best m c.args.b.elements c.loop-e.limit c.loop-e.e c.in-Some-found.e c.set_at.result
    (rw (← c.map.view_is) c.loop-e-test.false) c.set_at.ensures.n c.set_at.ensures.elements best
