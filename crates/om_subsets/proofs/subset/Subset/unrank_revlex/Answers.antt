use Rattle.std.proofs.Common.{◌≡◌, ◌-◌, ◌+◌, ◌<◌, ◌≤◌, suc, ap, ◌∙◌, arith, length}
use Rattle.om_subsets.specs.Subsets.{choose}
use Rattle.om_subsets.specs.Members.{members-subset}
use Rattle.om_subsets.specs.Reverse.{revlex_rank_of}
use Rattle.om_subsets.proofs.Places.{bits_fit}
use Rattle.om_subsets.proofs.ReversePlaces.{reverse_listed}
use Rattle.om_subsets.proofs.ReverseSets.{IsReverseBegun, reverse_skip, reverse_take, reverse_end}
use Rattle.om_subsets.proofs.subset.Subset.unrank_revlex.Goals as goal
use Rattle.om_subsets.proofs.subset.Subset.unrank_revlex.Goals.{then-without-rest, else-without-rest}

pub loop-j-preserved : goal.loop-j-preserved
loop-j-preserved c =
    let t = c.loop-j-test.true in
    let e : c.args.n - c.loop-j.j ≡ suc (c.args.n - 1 - c.loop-j.j) = omega arith in
    let f : c.args.n - (c.loop-j.j + 1) ≡ c.args.n - 1 - c.loop-j.j = omega arith in
    let b : IsReverseBegun c.loop-j.mask (suc (c.args.n - 1 - c.loop-j.j)) c.loop-j.left c.loop-j.rest c.args.r c.args.k
    c.args.n = rw e at c.loop-j.invariant in
    let value = c.choose-without.ensures.value in
    elim c.if-without-rest.branch [
      | then-without-rest w ↦
          let many : choose (c.args.n - 1 - c.loop-j.j) c.loop-j.left ≤ c.loop-j.rest = let q =
          w.if-without-rest.true in omega arith in
          rw (w.left-is, w.rest-is, w.mask-is, value, f)
          (reverse_take _ _ _ _ _ _ _ (omega arith) (bits_fit _ c.requires.small) many b)
      | else-without-rest w ↦
          let few : c.loop-j.rest < choose (c.args.n - 1 - c.loop-j.j) c.loop-j.left = let q =
          w.if-without-rest.false in omega arith in
          rw (w.left-is, w.rest-is, w.mask-is, f) (reverse_skip _ _ _ _ _ _ _ (omega arith) few b)
    ]

pub returns-clause-elements : goal.returns-clause-elements
returns-clause-elements c =
    let e : c.loop-j.j ≡ c.args.n = let t = c.loop-j-test.false in omega arith in
    let z : c.args.n - c.loop-j.j ≡ 0 = omega arith in
    let b : IsReverseBegun c.loop-j.mask 0 c.loop-j.left c.loop-j.rest c.args.r c.args.k c.args.n =
    rw z at c.loop-j.invariant in
    let same = reverse_end c.loop-j.mask c.loop-j.left c.loop-j.rest c.args.r c.args.k c.args.n b in
    same

pub returns-clause-size : goal.returns-clause-size
returns-clause-size c =
    let e : c.loop-j.j ≡ c.args.n = let t = c.loop-j-test.false in omega arith in
    let z : c.args.n - c.loop-j.j ≡ 0 = omega arith in
    let b : IsReverseBegun c.loop-j.mask 0 c.loop-j.left c.loop-j.rest c.args.r c.args.k c.args.n =
    rw z at c.loop-j.invariant in
    let same = reverse_end c.loop-j.mask c.loop-j.left c.loop-j.rest c.args.r c.args.k c.args.n b in
    ap length same ∙ (reverse_listed c.args.n c.args.r c.args.k c.requires.place).size

pub returns-clause-place : goal.returns-clause-place
returns-clause-place c =
    let e : c.loop-j.j ≡ c.args.n = let t = c.loop-j-test.false in omega arith in
    let z : c.args.n - c.loop-j.j ≡ 0 = omega arith in
    let b : IsReverseBegun c.loop-j.mask 0 c.loop-j.left c.loop-j.rest c.args.r c.args.k c.args.n =
    rw z at c.loop-j.invariant in
    let same = reverse_end c.loop-j.mask c.loop-j.left c.loop-j.rest c.args.r c.args.k c.args.n b in
    ap revlex_rank_of same ∙ (reverse_listed c.args.n c.args.r c.args.k c.requires.place).place

pub returns-clause-lawful : goal.returns-clause-lawful
returns-clause-lawful c = members-subset c.loop-j.mask 1 c.args.n
