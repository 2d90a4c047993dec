use Rattle.std.proofs.Common.{◌∙◌, sym, arith}
use Rattle.std.proofs.lemmas.Bool.{false≢true}
use Rattle.om_mutate.proofs.TriangleTests.{flippable, no_flip_at_zero, no_flip_past_end, no_flip_of_others}
use Rattle.om_mutate.proofs.TriangleTests.{triangle_found}
use Rattle.om_mutate.proofs.triangles.triangle_at.Goals as goal

pub returns-then-place-eq0-clause-none : goal.returns-then-place-eq0-clause-none
returns-then-place-eq0-clause-none c =
    λ other. no_flip_at_zero c.args.blocks.now other c.args.step c.if-place-eq0.true

pub returns-then-place-blocks-clause-none : goal.returns-then-place-blocks-clause-none
returns-then-place-blocks-clause-none c =
    λ other. no_flip_past_end c.args.blocks.now other c.args.step (record { first = 0; last = 0 })
    c.if-place-blocks.true

pub returns-then-ne-clause-none : goal.returns-then-ne-clause-none
returns-then-ne-clause-none c =
    λ other. no_flip_of_others c.args.blocks.now other c.args.step _ c.ne.result c.ne.ensures c.if-ne.true

pub returns-then-not-are_triangle-clause-none : goal.returns-then-not-are_triangle-clause-none
returns-then-not-are_triangle-clause-none c =
    λ other f. absurd
    (false≢true (sym c.if-not-are_triangle.true
    ∙ c.are_triangle.ensures.1 (flippable c.args.blocks.now other c.args.step _ f).triangle))

pub returns-clause-some : goal.returns-clause-some
returns-clause-some c =
    let low = c.if-place-blocks.false in
    triangle_found c.args.blocks.now c.args.step _ c.ne.result c.if-place-eq0.false (omega (arith, low)) c.ne.ensures
    c.if-ne.false (c.are_triangle.ensures.0 c.if-not-are_triangle.false)
