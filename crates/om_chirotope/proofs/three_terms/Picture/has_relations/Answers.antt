use Rattle.om_chirotope.specs.Pictures.{IsLive, AreLong}
use Rattle.om_signs.specs.SignVec.{IsMaskOf}
use Rattle.std.proofs.Common.{sym, subst, arith, refl, w32}
use Rattle.std.specs.Int.{trailing_zeros}
use Rattle.om_signs.proofs.Bits.{bit_within}
use Rattle.om_chirotope.specs.Map.{IsWholeMap}
use Rattle.om_chirotope.proofs.FirstRow.{relations_of_first_row, relations_of_zeros, triple_from_relations}
use Rattle.om_chirotope.proofs.RowMasks.{IsLowest, dead_rows, lowest_bit, other_rows, left_bit}
use Rattle.om_chirotope.proofs.Rows.{filled_zero}
use Rattle.om_chirotope.proofs.three_terms.Picture.has_relations.Goals as goal

pub returns-then-live-eq0 : goal.returns-then-live-eq0
returns-then-live-eq0 c = (
  λ t. relations_of_zeros c.args.self.now.map.now c.args.self.now.p.elements c.fill.new.rows c.fill.ensures
      (dead_rows c.args.self.now.map.now.elements c.live_rows-live.result _ c.if-live-eq0.true (subst (λ m. IsMaskOf
      m.elements (λ j. IsLive c.fill.new.rows j) c.live_rows-live.result) c.map.view_is
      c.live_rows-live.ensures)),
  λ all. refl,
)

pub are_balanced_from-requires-clause-x : goal.are_balanced_from-requires-clause-x
are_balanced_from-requires-clause-x c =
    let low : IsLowest c.live_rows-live.result c.map.inside.raw.now.elements (trailing_zeros w32
    c.live_rows-live.result) =
    lowest_bit c.live_rows-live.result c.map.inside.raw.now.elements c.map.invariant.high
    c.live_rows-live.ensures.within
    c.if-live-eq0.false in
    low.here

pub are_balanced_from-requires-clause-later : goal.are_balanced_from-requires-clause-later
are_balanced_from-requires-clause-later c =
    let low : IsLowest c.live_rows-live.result c.map.inside.raw.now.elements (trailing_zeros w32
    c.live_rows-live.result) =
    lowest_bit c.live_rows-live.result c.map.inside.raw.now.elements c.map.invariant.high
    c.live_rows-live.ensures.within
    c.if-live-eq0.false in
    let smaller = low.smaller in
    let within = c.live_rows-live.ensures.within in
    omega (arith, smaller, within)

pub returns : goal.returns
returns c =
    let m = c.args.self.now.map.now in
    let live = c.live_rows-live.result in
    let first = trailing_zeros w32 live in
    let rows = c.fill.new.rows in
    let low : IsLowest live m.elements first =
    lowest_bit live m.elements (subst IsWholeMap c.map.view_is c.map.invariant).high (subst (λ m. IsMaskOf m.elements
    (λ j. IsLive c.fill.new.rows j) c.live_rows-live.result) c.map.view_is c.live_rows-live.ensures).within
    c.if-live-eq0.false in (
      λ t. relations_of_first_row m c.args.self.now.p.elements rows c.fill.ensures first _ low.here
          (((subst (λ m. IsMaskOf m.elements (λ j. IsLive c.fill.new.rows j) c.live_rows-live.result)
          c.map.view_is c.live_rows-live.ensures).holds first low.here).0 low.bit)
          (other_rows m.elements live first _ (subst IsWholeMap c.map.view_is c.map.invariant).high low (subst (λ m.
          IsMaskOf m.elements (λ j. IsLive c.fill.new.rows j) c.live_rows-live.result) c.map.view_is
          c.live_rows-live.ensures))
          (c.are_balanced_from.ensures.0 t),
      λ all. c.are_balanced_from.ensures.1 (λ j k l o b.
          let within = (subst (λ m. IsMaskOf m.elements (λ j. IsLive c.fill.new.rows j) c.live_rows-live.result)
          c.map.view_is c.live_rows-live.ensures).within in
          let bj = left_bit live m.elements first j (subst IsWholeMap c.map.view_is c.map.invariant).high low within
          o in
          let bk = left_bit live m.elements first k (subst IsWholeMap c.map.view_is c.map.invariant).high low within
          b in
          triple_from_relations m c.args.self.now.p.elements rows c.fill.ensures first j k low.here
          (bit_within live m.elements j within bj.0) (bit_within live m.elements k within bk.0) all),
    )

pub fill-requires-clause-zero : goal.fill-requires-clause-zero
fill-requires-clause-zero c = rw (← c.map.view_is) (filled_zero c.map.inside.raw.now.elements c.zero-rows.result
    c.zero-rows.ensures)

pub live_rows-live-requires-clause-rows : goal.live_rows-live-requires-clause-rows
live_rows-live-requires-clause-rows c = subst (λ m. AreLong c.fill.new.rows m.elements) (sym c.map.view_is)
    c.fill.ensures.lengths

pub are_balanced_from-requires-clause-rows : goal.are_balanced_from-requires-clause-rows
are_balanced_from-requires-clause-rows c = subst (λ m. AreLong c.fill.new.rows m.elements) (sym c.map.view_is)
    c.fill.ensures.lengths
