use Rattle.std.proofs.Common.{◌≤◌, subst, ◌∙◌, arith}
use Rattle.om_subsets.proofs.Firsts.{first_below_second, two_behind_first, one_behind_second, three_firsts}
use Rattle.om_subsets.proofs.subset.Subset.three_elements.Goals as goal

pub least-a-requires : goal.least-a-requires
least-a-requires c = let l = c.requires in omega arith

pub without-later-requires-clause-low : goal.without-later-requires-clause-low
without-later-requires-clause-low c = c.least-a.ensures.low

pub without-later-requires-clause-high : goal.without-later-requires-clause-high
without-later-requires-clause-high c = c.least-a.ensures.high

pub least-b-requires : goal.least-b-requires
least-b-requires c =
    let l = two_behind_first _ _ _ _ c.requires c.least-a.ensures.first c.without-later.ensures.elements in omega arith

pub without-requires-clause-low : goal.without-requires-clause-low
without-requires-clause-low c = c.least-b.ensures.low

pub without-requires-clause-high : goal.without-requires-clause-high
without-requires-clause-high c = c.least-b.ensures.high

pub least-c-requires : goal.least-c-requires
least-c-requires c =
    let l = two_behind_first _ _ _ _ c.requires c.least-a.ensures.first c.without-later.ensures.elements in
    let m = one_behind_second _ _ _ _ l c.least-b.ensures.first c.without.ensures.elements in omega arith

pub returns-clause-elements : goal.returns-clause-elements
returns-clause-elements c =
    let l = two_behind_first _ _ _ _ c.requires c.least-a.ensures.first c.without-later.ensures.elements in
    let m = one_behind_second _ _ _ _ l c.least-b.ensures.first c.without.ensures.elements in
    three_firsts _ _ _ _ _ _ _ _ _ m c.least-a.ensures.first c.without-later.ensures.elements c.least-b.ensures.first
    c.without.ensures.elements c.least-c.ensures.first

pub returns-clause-low : goal.returns-clause-low
returns-clause-low c = c.least-a.ensures.low

pub returns-clause-second : goal.returns-clause-second
returns-clause-second c = first_below_second c.args.self.n c.least-a.result c.least-b.result c.args.self.elements
    c.without-later.result.elements _ c.least-a.ensures.lawful c.least-a.ensures.first
    c.without-later.ensures.elements c.least-b.ensures.first

pub returns-clause-third : goal.returns-clause-third
returns-clause-third c =
    first_below_second c.without-later.result.n c.least-b.result c.least-c.result c.without-later.result.elements
    c.without.result.elements _ c.without-later.ensures.lawful c.least-b.ensures.first c.without.ensures.elements
    c.least-c.ensures.first

pub returns-clause-high : goal.returns-clause-high
returns-clause-high c = subst (λ n. c.least-c.result ≤ n) (c.without.ensures.n ∙ c.without-later.ensures.n)
    c.least-c.ensures.high
