use Rattle.std.proofs.Common.{ℕ, ◌≡◌, ◌≢◌, ◌+◌, ◌-◌, ◌<◌, ◌≤◌, ◌^◌, ◌∙◌, ap, ap₂, sym, arith, length, w32}
use Rattle.std.specs.Int.{trailing_zeros}
use Rattle.om_signs.specs.declared.limits.TheConstants.{MAX_PLACES}
use Rattle.om_subsets.specs.Subsets.{choose, rank_of}
use Rattle.om_subsets.proofs.Order.{rank_from-lt, get_or-rank_from}
use Rattle.om_subsets.proofs.Lowest.{IsTurn, later, turn, no_turn, rank_start}
use Rattle.om_subsets.proofs.subset.Subset.rank.Goals as goal

-- all sets of this size are those before this one, this one, and those after it
all_sets : (c : goal.After-choose-rank) → (c.choose-rank.result
    ≡ rank_of c.args.self.n c.args.self.elements + 1 + later c.args.self.n c.args.self.elements)
all_sets c =
    c.choose-rank.ensures.value ∙ ap₂ choose (ap (λ v. v.n) c.self.view_is) c.size-left.ensures.value
    ∙ sym (rank_start c.args.self.n c.args.self.elements c.size-left.ensures.lawful)

-- while a member is left, a turn takes the lowest one off
turned : (mask n : ℕ) → mask ≢ 0 → mask < 2 ^ n → n ≤ MAX_PLACES → IsTurn mask n
turned mask n some within few = turn mask n (omega arith) within few

pub overflow_sub-rank : goal.overflow_sub-rank
overflow_sub-rank c = let all = all_sets c in omega arith

pub loop-rest-init : goal.loop-rest-init
loop-rest-init c =
    let all = all_sets c in
    let same = ap (λ v. later v.n v.elements) c.self.view_is in
    record {
      within = c.self.invariant.within;
      left_is = c.size-left.ensures.value ∙ sym (ap (λ v. length v.elements) c.self.view_is);
      rank_is = omega arith;
    }

pub overflow_sub-self-inside : goal.overflow_sub-self-inside
overflow_sub-self-inside c = (turned _ _ c.loop-rest-test.true c.loop-rest.invariant.within c.self.invariant.few).small

pub overflow_sub-rank-in-loop-rest : goal.overflow_sub-rank-in-loop-rest
overflow_sub-rank-in-loop-rest c =
    let inv = c.loop-rest.invariant in
    let step = c.choose-rank-in-loop-rest.ensures.value
    ∙ ap (choose (c.self.inside.n - (trailing_zeros w32 c.loop-rest.rest + 1))) inv.left_is in
    let place = (turned _ _ c.loop-rest-test.true c.loop-rest.invariant.within c.self.invariant.few).place in
    omega arith

pub overflow_sub-left : goal.overflow_sub-left
overflow_sub-left c =
    let size = (turned _ _ c.loop-rest-test.true c.loop-rest.invariant.within c.self.invariant.few).size in
    let inv = c.loop-rest.invariant.left_is in
    omega arith

pub loop-rest-preserved : goal.loop-rest-preserved
loop-rest-preserved c =
    let t = turned _ _ c.loop-rest-test.true c.loop-rest.invariant.within c.self.invariant.few in
    let inv = c.loop-rest.invariant in
    let step = c.choose-rank-in-loop-rest.ensures.value
    ∙ ap (choose (c.self.inside.n - (trailing_zeros w32 c.loop-rest.rest + 1))) inv.left_is in
    let size = t.size in
    let place = t.place in
    record { within = t.within; left_is = omega arith; rank_is = omega arith }

pub returns-clause-value : goal.returns-clause-value
returns-clause-value c =
    let none = no_turn c.loop-rest.rest c.self.inside.n c.loop-rest-test.false in
    let inv = c.loop-rest.invariant.rank_is in
    omega arith

pub returns-clause-small : goal.returns-clause-small
returns-clause-small c =
    let value = returns-clause-value c in
    let bound = rank_from-lt 1 c.args.self.n c.args.self.elements c.size-left.ensures.lawful in
    omega arith

pub returns-clause-back : goal.returns-clause-back
returns-clause-back c =
    rw (returns-clause-value c) (get_or-rank_from 1 c.args.self.n c.args.self.elements c.size-left.ensures.lawful)
