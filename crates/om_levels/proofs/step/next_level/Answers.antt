use Rattle.std.proofs.Common.{◌≡◌, ◌≤◌, All, IsNone, true, refl, sym, subst, arith}
use Rattle.om_covers.specs.Classes.{IsComplete}
use Rattle.om_levels.specs.Families.{IsOfFamily, IsHalfOf}
use Rattle.om_levels.specs.Steps.{ArePlaces, IsTried, IsReaching}
use Rattle.om_levels.proofs.Covering.{none_covered, within_marks, more_covered, passed_at, all_covered}
use Rattle.om_levels.proofs.Covering.{places_reached, complete_next}
use Rattle.om_levels.proofs.step.next_level.Given.{Over}
use Rattle.om_levels.proofs.step.next_level.Goals as goal
use Rattle.om_levels.proofs.step.next_level.Goals.{After-as_slice}

pub loop-member-init : goal.loop-member-init
loop-member-init g c =
    none_covered (IsHalfOf c.args.family c.args.level.now.elements) c.args.level.now.maps c.args.next.now.maps
    c.len.result c.in_ok-met.met.items c.len.ensures c.in_ok-met.ensures

-- the places that are marked, if the extensions of a member are all found
places : (g : Over) (c : After-as_slice g)
    → ArePlaces (IsHalfOf c.args.family c.args.level.now.elements) c.in_ok-chi.chi c.args.next.now.maps
    c.as_slice.result.now
places g c =
    let n = c.args.level.now.elements in
    let chi = c.in_ok-chi.chi in
    let next = c.args.next.now.maps in
    let kind = c.in_ok-chi.ensures.kind in
    let r = subst (λ v. IsReaching c.args.family chi v.maps c.in_ok-places.field-0) c.in_ok-table.ensures
    c.in_ok-places.ensures in
    subst (ArePlaces (IsHalfOf c.args.family n) chi next) (sym c.as_slice.ensures)
    (places_reached c.args.family n chi next c.in_ok-places.field-0 c.in-Places.places c.in-Places.is kind.elements r)

pub mark-requires : goal.mark-requires
mark-requires g c =
    within_marks (IsHalfOf c.args.family c.args.level.now.elements) c.args.level.now.maps c.args.next.now.maps
    c.loop-member.member c.loop-member.met.items c.in_ok-chi.chi c.as_slice.result.now c.loop-member.invariant
    (places g c)

pub loop-member-preserved : goal.loop-member-preserved
loop-member-preserved g c =
    more_covered (IsHalfOf c.args.family c.args.level.now.elements) c.args.level.now.maps c.args.next.now.maps
    c.loop-member.member c.loop-member.met.items c.mark.new.marks.items c.in_ok-chi.chi c.as_slice.result.now
    c.loop-member.invariant (places g (goal.at.loop-member-preserved g c).After-as_slice) c.in_ok-chi.ensures.value
    c.mark.ensures.len c.mark.ensures.marked c.mark.ensures.kept c.mark.ensures.set

pub returns-in-Missing-clause-verdict : goal.returns-in-Missing-clause-verdict
returns-in-Missing-clause-verdict g c =
    let chi = c.in_ok-chi.chi in
    let kind = c.in_ok-chi.ensures.kind in
    let tried = subst (λ k. IsTried (IsHalfOf c.args.family k) chi c.in-Missing.signature) kind.elements
    (subst (IsReaching c.args.family chi c.in_ok-table.table.maps) c.in-Missing.is c.in_ok-places.ensures) in
    (chi, c.in_ok-chi.ensures.value, tried)

pub returns-in-TooMany-clause-verdict : goal.returns-in-TooMany-clause-verdict
returns-in-TooMany-clause-verdict g c =
    let chi = c.in_ok-chi.chi in (
      chi,
      c.in_ok-chi.ensures.value,
      subst (IsReaching c.args.family chi c.in_ok-table.table.maps) c.in-TooMany.is c.in_ok-places.ensures,
    )

pub returns-in-Some-clause-verdict : goal.returns-in-Some-clause-verdict
returns-in-Some-clause-verdict g c =
    passed_at (IsHalfOf c.args.family c.args.level.now.elements) c.args.level.now.maps c.args.next.now.maps
    c.loop-member.member c.in-Some.member c.loop-member.met.items c.as_slice-2.result.now c.first_unmarked.result
    c.loop-member.invariant (let e = c.len-member-end.ensures in let t = c.loop-member-test.false in omega arith)
    c.as_slice-2.ensures.value c.in-Some.is c.first_unmarked.ensures.some c.first_unmarked.ensures.unset

pub returns-clause-verdict : goal.returns-clause-verdict
returns-clause-verdict g c =
    let v = c.args.level.now in
    let all = subst (All (λ b. b ≡ true)) c.as_slice-2.ensures.value
    (c.first_unmarked.ensures.none (subst IsNone (sym c.in-None.is) refl)) in
    all_covered (IsHalfOf c.args.family v.elements) v.maps c.args.next.now.maps v.elements c.loop-member.member
    c.loop-member.met.items c.elements.ensures.members c.loop-member.invariant
    (let e = c.len-member-end.ensures in let t = c.loop-member-test.false in omega arith) all

pub returns-clause-complete : goal.returns-clause-complete
returns-clause-complete g c = λ q complete.
    let v = c.args.level.now in
    let low : 3 ≤ v.elements = (let e = c.elements.ensures.value in let l = c.elements.ensures.low in omega arith) in
    subst (λ k. IsComplete (IsOfFamily c.args.family k) c.args.next.now.maps) (sym c.requires.elements)
    (complete_next c.args.family v.elements v.maps c.args.next.now.maps low (returns-clause-verdict g c) complete)
