use Rattle.std.proofs.Common.{ℕ, arith, refl, w32, ◌≡◌, ◌<◌}
use Rattle.std.proofs.lemmas.Bool.{false≢true}
use Rattle.std.specs.Int.{bit_at, trailing_zeros}
use Rattle.om_chirotope.specs.Pictures.{IsTriple}
use Rattle.om_chirotope.proofs.RowMasks.{IsLowest, all_cleared, cleared_more, lowest_bit, left_later, others_left}
use Rattle.om_chirotope.proofs.RowMasks.{uncleared}
use Rattle.om_chirotope.proofs.three_terms.are_balanced_from.Goals as goal

pub loop-rest-init : goal.loop-rest-init
loop-rest-init c = uncleared c.args.later c.args.elements _ c.requires.later

pub are_balanced_with-requires-clause-y : goal.are_balanced_with-requires-clause-y
are_balanced_with-requires-clause-y c =
    let low : IsLowest c.loop-rest.rest c.args.elements (trailing_zeros w32 c.loop-rest.rest) =
    lowest_bit c.loop-rest.rest c.args.elements c.requires.high c.loop-rest.invariant.within c.loop-rest-test.true
    in
    low.here

pub are_balanced_with-requires-clause-later : goal.are_balanced_with-requires-clause-later
are_balanced_with-requires-clause-later c =
    let low : IsLowest c.loop-rest.rest c.args.elements (trailing_zeros w32 c.loop-rest.rest) =
    lowest_bit c.loop-rest.rest c.args.elements c.requires.high c.loop-rest.invariant.within c.loop-rest-test.true
    in
    let smaller = low.smaller in
    let within = c.loop-rest.invariant.within in
    omega (arith, smaller, within)

pub loop-rest-smaller : goal.loop-rest-smaller
loop-rest-smaller c =
    let low : IsLowest c.loop-rest.rest c.args.elements (trailing_zeros w32 c.loop-rest.rest) =
    lowest_bit c.loop-rest.rest c.args.elements c.requires.high c.loop-rest.invariant.within c.loop-rest-test.true
    in
    low.smaller

pub loop-rest-preserved : goal.loop-rest-preserved
loop-rest-preserved c =
    let tz = trailing_zeros w32 c.loop-rest.rest in
    let low : IsLowest c.loop-rest.rest c.args.elements tz =
    lowest_bit c.loop-rest.rest c.args.elements c.requires.high c.loop-rest.invariant.within c.loop-rest-test.true
    in
    cleared_more c.args.later c.loop-rest.rest c.args.elements tz
    (λ j. (k : ℕ) → j < k → bit_at c.args.later k ≡ 1 → IsTriple c.args.rows.now c.args.x j k) c.requires.high low
    (λ k l o. c.if-not-are_balanced_with.ensures.0 refl k
    (others_left c.args.later c.loop-rest.rest c.args.elements tz k _ c.requires.high low c.loop-rest.invariant l
    o))
    c.loop-rest.invariant

pub returns-then-not-are_balanced_with : goal.returns-then-not-are_balanced_with
returns-then-not-are_balanced_with c =
    let tz = trailing_zeros w32 c.loop-rest.rest in
    let low : IsLowest c.loop-rest.rest c.args.elements tz =
    lowest_bit c.loop-rest.rest c.args.elements c.requires.high c.loop-rest.invariant.within c.loop-rest-test.true
    in (
      λ t. absurd (false≢true t),
      λ all. absurd (false≢true (c.if-not-are_balanced_with.ensures.1 (λ k o.
          let b = left_later c.args.later c.loop-rest.rest c.args.elements tz k _ c.requires.high low
          c.loop-rest.invariant o in
          all tz k b.0 (c.loop-rest.invariant.part tz low.bit) b.1))),
    )

pub returns : goal.returns
returns c = (
  λ t j k l o b. all_cleared c.args.later c.loop-rest.rest c.args.elements
      (λ j. (k : ℕ) → j < k → bit_at c.args.later k ≡ 1 → IsTriple c.args.rows.now c.args.x j k) c.loop-rest-test.false
      c.loop-rest.invariant j o k l b,
  λ all. refl,
)
