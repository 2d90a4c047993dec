use Rattle.std.proofs.Common.{refl, sym, ap, subst, ◌∙◌, ◌+◌, arith, length}
use Rattle.std.proofs.lemmas.Bool.{false≢true}
use Rattle.om_subsets.specs.Subsets.{IsMember, with_element, without_element}
use Rattle.om_subsets.proofs.Places.{members-zero}
use Rattle.om_subsets.proofs.Statements.{members_without}
use Rattle.om_chirotope.specs.ThreeTerm.{IsBasis}
use Rattle.om_chirotope.proofs.Circuits.{length-without}
use Rattle.om_chirotope.proofs.Cocircuits.{length-with}
use Rattle.om_threeterm.proofs.ExchangePlaces.{AreInPlaceBelow, in_place_start, in_place_same, in_place_more}
use Rattle.om_threeterm.proofs.ExchangePlaces.{in_place_end}
use Rattle.om_threeterm.proofs.exchanges.in_place_of.Goals as goal
use Rattle.om_threeterm.proofs.exchanges.in_place_of.Goals.{then-not-has+then-is_basis, else-not-has}
use Rattle.om_threeterm.proofs.exchanges.in_place_of.Goals.{else-not-has-via-then-not-has+else-is_basis}
use Rattle.om_threeterm.proofs.exchanges.in_place_of.Goals.{else-not-has-via-else-not-has}

pub loop-f-init : goal.loop-f-init
loop-f-init c = in_place_start c.args.map.now c.args.b.elements c.args.e c.from_mask.result
    c.with-others.result (c.from_mask.ensures.elements ∙ members-zero 1 c.map.inside.raw.now.elements)
    (c.with-others.ensures.n ∙ c.from_mask.ensures.n ∙ ap (λ m. m.elements) c.map.view_is)
    c.with-others.ensures.elements

pub is_basis-requires-clause-size : goal.is_basis-requires-clause-size
is_basis-requires-clause-size c =
    let basis = c.requires.basis in
    let off : IsMember c.loop-f.f c.args.b.elements → ⊥ = λ k. false≢true (c.if-not-has.ensures.1 k) in
    let fresh : IsMember c.loop-f.f (without_element c.args.e c.args.b.elements) → ⊥ =
    λ k. off ((members_without c.args.e c.loop-f.f c.args.b.elements).0 k).1 in
    let same = c.with.ensures.elements ∙ ap (with_element c.loop-f.f) c.without-rest.ensures.elements in
    ap length same ∙ length-with c.loop-f.f (without_element c.args.e c.args.b.elements) fresh
    ∙ length-without 1 c.args.map.now.elements c.args.e c.args.b.elements basis.list c.requires.inside ∙ basis.size

pub loop-f-preserved : goal.loop-f-preserved
loop-f-preserved c =
    let m = c.args.map.now in
    let b = c.args.b.elements in
    elim c.if-not-has.branch [
      | then-not-has+then-is_basis w ↦
          let same = w.with.ensures.elements ∙ ap (with_element c.loop-f.f) c.without-rest.ensures.elements in
          subst (λ s. AreInPlaceBelow m b c.args.e (c.loop-f.f + 1) s) (sym w.others-is)
          (in_place_more m b c.args.e c.loop-f.f c.loop-f.others w.with-others-then-is_basis.result
          (λ k. false≢true (w.if-not-has.ensures.1 k))
          (subst (IsBasis m) same (w.if-is_basis.ensures.0 refl))
          w.with-others-then-is_basis.ensures.n w.with-others-then-is_basis.ensures.elements c.loop-f.invariant)
      | else-not-has w ↦
          subst (λ s. AreInPlaceBelow m b c.args.e (c.loop-f.f + 1) s) (sym w.others-is)
          (in_place_same m b c.args.e c.loop-f.f c.loop-f.others
          (elim w.else-not-has.branch [
            | else-not-has-via-then-not-has+else-is_basis v ↦
                let same = v.with.ensures.elements ∙ ap (with_element c.loop-f.f) c.without-rest.ensures.elements in
                λ off basis. false≢true (v.if-is_basis.ensures.1 (subst (IsBasis m) (sym same) basis))
            | else-not-has-via-else-not-has v ↦ λ off basis. off (v.if-not-has.ensures.0 refl)
          ])
          c.loop-f.invariant)
    ]

pub returns-clause-each : goal.returns-clause-each
returns-clause-each c =
    let over = c.loop-f-test.false in
    let same = ap (λ m. m.elements) c.map.view_is in
    in_place_end c.args.map.now c.args.b.elements c.args.e c.loop-f.f c.loop-f.others (omega arith)
    c.loop-f.invariant
