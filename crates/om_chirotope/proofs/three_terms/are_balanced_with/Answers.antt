use Rattle.std.proofs.Common.{arith, refl, w32, rules}
use Rattle.std.proofs.lemmas.Bool.{false≢true}
use Rattle.std.specs.Int.{trailing_zeros}
use Rattle.om_chirotope.specs.Pictures.{IsTriple}
use Rattle.om_chirotope.proofs.ThreeRows.{triple_of_rows, triple_to_rows, same_lengths, place_in_row, row_inside}
use Rattle.om_chirotope.proofs.ThreeRows.{row_read}
use Rattle.om_chirotope.proofs.RowMasks.{all_cleared, cleared_more, lowest_bit, uncleared}
use Rattle.om_chirotope.proofs.three_terms.are_balanced_with.Goals as goal

pub loop-rest-init : goal.loop-rest-init
loop-rest-init c = uncleared c.args.later c.args.elements _ c.requires.later

pub listed-in-loop-rest : goal.listed-in-loop-rest
listed-in-loop-rest c =
    row_inside (lowest_bit _ _ c.requires.high c.loop-rest.invariant.within c.loop-rest-test.true).here
    c.requires.high c.type_inv.rows

pub bounds-rows-z : goal.bounds-rows-z
bounds-rows-z c =
    let here = (lowest_bit _ _ c.requires.high c.loop-rest.invariant.within c.loop-rest-test.true).here in
    let few = c.requires.high in omega (arith, here, few)

pub are_balanced-requires : goal.are_balanced-requires
are_balanced-requires c =
    let x = row_inside c.requires.x c.requires.high c.type_inv.rows in
    let here = (lowest_bit _ _ c.requires.high c.loop-rest.invariant.within c.loop-rest-test.true).here in
    record {
      second = same_lengths c.args.rows.now c.args.elements c.args.y c.args.x _ _ c.requires.rows
          (row_inside c.requires.y c.requires.high c.type_inv.rows) x;
      third = same_lengths c.args.rows.now c.args.elements (trailing_zeros w32 c.loop-rest.rest) c.args.x _ _
          c.requires.rows (row_inside here c.requires.high c.type_inv.rows) x;
      y_low = search rules;
      y_high = place_in_row c.args.rows.now c.args.elements c.args.y c.args.x _ c.requires.rows x c.requires.y;
      z_low = search rules;
      z_high = place_in_row c.args.rows.now c.args.elements (trailing_zeros w32 c.loop-rest.rest) c.args.x _
          c.requires.rows x here;
    }

pub loop-rest-smaller : goal.loop-rest-smaller
loop-rest-smaller c = (lowest_bit _ _ c.requires.high c.loop-rest.invariant.within c.loop-rest-test.true).smaller

pub loop-rest-preserved : goal.loop-rest-preserved
loop-rest-preserved c =
    let low = (lowest_bit _ _ c.requires.high c.loop-rest.invariant.within c.loop-rest-test.true) in
    cleared_more _ _ _ _ (λ k. IsTriple c.args.rows.now c.args.x c.args.y k) c.requires.high low
    (triple_of_rows _ _ _ _ _ _ _
    (row_read _ _ c.requires.x c.requires.high c.type_inv.rows)
    (row_read _ _ c.requires.y c.requires.high c.type_inv.rows)
    (row_read _ _ low.here c.requires.high c.type_inv.rows) (c.if-not-are_balanced.ensures.0 refl))
    c.loop-rest.invariant

pub returns-then-not-are_balanced : goal.returns-then-not-are_balanced
returns-then-not-are_balanced c =
    let low = (lowest_bit _ _ c.requires.high c.loop-rest.invariant.within c.loop-rest-test.true) in (
      λ t. absurd (false≢true t),
      λ all. absurd (false≢true (c.if-not-are_balanced.ensures.1
          (triple_to_rows _ _ _ _ _ _ _
          (row_read _ _ c.requires.x c.requires.high c.type_inv.rows)
          (row_read _ _ c.requires.y c.requires.high c.type_inv.rows)
          (row_read _ _ low.here c.requires.high c.type_inv.rows)
          (all _ (c.loop-rest.invariant.part _ low.bit))))),
    )

pub returns : goal.returns
returns c = (
  λ t. all_cleared c.args.later c.loop-rest.rest c.args.elements (λ k. IsTriple c.args.rows.now c.args.x c.args.y k)
      c.loop-rest-test.false c.loop-rest.invariant,
  λ all. refl,
)

pub listed : goal.listed
listed c = row_inside c.requires.x c.requires.high c.type_inv.rows

pub listed-2 : goal.listed-2
listed-2 c = row_inside c.requires.y c.requires.high c.type_inv.rows
