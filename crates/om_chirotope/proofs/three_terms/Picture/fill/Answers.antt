use Rattle.std.proofs.Common.{ap, arith, refl, sym, ◌∙◌, subst, ◌+◌, ◌≤◌}
use Rattle.std.proofs.lemmas.Bool.{false≢true}
use Rattle.om_subsets.specs.Subsets.{IsSubsetFrom}
use Rattle.om_chirotope.specs.Map.{IsWholeMap}
use Rattle.om_chirotope.proofs.Rows.{AreWritten, none_written, rows_more, rows_skip}
use Rattle.om_chirotope.proofs.three_terms.Picture.fill.Goals as goal
use Rattle.om_chirotope.proofs.three_terms.Picture.fill.Goals.{then-not-has, else-not-has}

pub loop-x-init : goal.loop-x-init
loop-x-init c =
    none_written c.args.self.now.map.now c.args.self.now.p.elements c.args.rows.now c.requires.room c.requires.zero

pub loop-x-preserved : goal.loop-x-preserved
loop-x-preserved c =
    let self = c.args.self.now in
    let m = self.map.now in
    let p = self.p.elements in
    let low = c.loop-x.auto.x in
    let over = c.loop-x-test.true in
    let few = (subst IsWholeMap c.map.view_is c.map.invariant).high in
    let room = c.loop-x.invariant.room in
    elim c.if-not-has.branch [
      | then-not-has w ↦
          subst (λ rs. AreWritten m p rs (c.loop-x.x + 1)) (sym w.rows-is)
          (rows_more m p c.loop-x.rows c.loop-x.x w.row_of.result low (omega (arith, low, over, few, room))
          w.row_of.ensures c.loop-x.invariant)
      | else-not-has w ↦
          let list = subst (λ n. IsSubsetFrom 1 n p) self.n c.places_with-places.ensures.list in
          subst (λ rs. AreWritten m p rs (c.loop-x.x + 1)) (sym w.rows-is)
          (rows_skip m p c.loop-x.rows c.loop-x.x low (omega (arith, low, over, few, room)) list
          (w.if-not-has.ensures.0 refl) c.loop-x.invariant)
    ]

pub returns : goal.returns
returns c =
    let over = c.loop-x-test.false in
    let same = ap (λ m. m.elements) c.map.view_is in
    let low = c.loop-x.auto.x in
    let below = c.loop-x.invariant.below in
    record { lengths = below.lengths; row = λ x xl xh. below.row x xl (omega (arith, over, xh, same)) }

pub row_of-requires-clause-list : goal.row_of-requires-clause-list
row_of-requires-clause-list c =
    subst (λ n. IsSubsetFrom 1 n c.args.self.now.p.elements) c.args.self.now.n c.places_with-places.ensures.list

pub row_of-requires-clause-off : goal.row_of-requires-clause-off
row_of-requires-clause-off c = λ k. false≢true (sym c.if-not-has.true ∙ c.has.ensures.1 k)

pub row_of-requires-clause-place : goal.row_of-requires-clause-place
row_of-requires-clause-place c =
    let n = c.args.self.now.n in
    let same = ap (λ m. m.elements) c.map.view_is in
    let over = c.loop-x-test.true in
    let high : c.loop-x.x ≤ c.args.self.now.p.n = omega (arith, n, over, same) in
    c.places_with-places.ensures.places c.loop-x.x c.loop-x.auto.x high
    (λ k. false≢true (sym c.if-not-has.true ∙ c.has.ensures.1 k))

pub listed : goal.listed
listed c =
    let low = c.loop-x.auto.x in
    let over = c.loop-x-test.true in
    let few = (subst IsWholeMap c.map.view_is c.map.invariant).high in
    let room = c.loop-x.invariant.room in
    omega (arith, low, over, few, room)
