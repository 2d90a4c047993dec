use Rattle.std.proofs.Common.{◌≡◌, ◌+◌, ◌<◌, ◌^◌, ◌∙◌, ap, sym, subst, arith, length}
use Rattle.om_subsets.specs.Subsets.{IsSubsetFrom}
use Rattle.om_subsets.specs.Members.{members, members-subset}
use Rattle.om_subsets.specs.Reverse.{revlex_rank_of}
use Rattle.om_subsets.proofs.Places.{length-members}
use Rattle.om_subsets.proofs.ReversePlaces.{reverse_small, at_reverse_rank}
use Rattle.om_subsets.proofs.Reverse.{IsReverseTurn, reverse_turn, no_reverse_turn, reverse_small_of}
use Rattle.om_subsets.proofs.subset.Subset.rank_revlex.Goals.{In-loop-rest}
use Rattle.om_subsets.proofs.subset.Subset.rank_revlex.Goals as goal

-- a turn takes the lowest member off
turned : (c : In-loop-rest) → IsReverseTurn c.loop-rest.rest c.args.self.n c.loop-rest.place
turned c =
    let some = c.loop-rest-test.true in
    let n_is = ap (λ v. v.n) c.self.view_is in
    let few = c.self.invariant.few in
    reverse_turn c.loop-rest.rest c.args.self.n c.loop-rest.place (omega arith) c.loop-rest.invariant.within
    (omega arith)

pub loop-rest-init : goal.loop-rest-init
loop-rest-init c =
    let n_is = ap (λ v. v.n) c.self.view_is in
    let all = ap (members c.self.inside.mask 1) (sym n_is) ∙ ap (λ v. v.elements) c.self.view_is in
    let o : 0 + 1 ≡ 1 = omega arith in
    record {
      within = subst (λ k. c.self.inside.mask < 2 ^ k) n_is c.self.invariant.within;
      place_is = omega (arith, ap length all);
      rank_is = rw o (omega (arith, ap revlex_rank_of all));
    }

pub overflow_add-place : goal.overflow_add-place
overflow_add-place c =
    let size = (turned c).size in
    let all = ap (λ v. length v.elements) c.self.view_is in
    let most = length-members c.self.inside.mask 1 c.self.inside.n in
    let few = c.self.invariant.few in
    let inv = c.loop-rest.invariant.place_is in
    omega arith

pub choose-rank-requires : goal.choose-rank-requires
choose-rank-requires c =
    let n_is = ap (λ v. v.n) c.self.view_is in
    omega (arith, (turned c).small, c.self.invariant.few)

pub overflow_add-rank : goal.overflow_add-rank
overflow_add-rank c =
    let rank = (turned c.before).rank in
    let all = ap (λ v. revlex_rank_of v.elements) c.self.view_is in
    let most = reverse_small_of c.self.inside.mask c.self.inside.n c.self.invariant.few in
    let inv = c.loop-rest.invariant.rank_is in
    let step = c.choose-rank.ensures.value in
    omega arith

pub loop-rest-preserved : goal.loop-rest-preserved
loop-rest-preserved c =
    let t = turned c.before in
    let size = t.size in
    let rank = t.rank in
    let inv = c.loop-rest.invariant in
    let step = c.choose-rank.ensures.value in
    record { within = t.within; place_is = omega arith; rank_is = omega arith }

pub returns-clause-lawful : goal.returns-clause-lawful
returns-clause-lawful c =
    subst (λ v. IsSubsetFrom 1 v.n v.elements) c.self.view_is (members-subset c.self.inside.mask 1 c.self.inside.n)

pub returns-clause-value : goal.returns-clause-value
returns-clause-value c =
    let none = no_reverse_turn c.loop-rest.rest c.args.self.n c.loop-rest.place c.loop-rest-test.false in
    let inv = c.loop-rest.invariant.rank_is in
    omega arith

pub returns-clause-small : goal.returns-clause-small
returns-clause-small c =
    omega (arith, returns-clause-value c, reverse_small _ _ (returns-clause-lawful c))

pub returns-clause-back : goal.returns-clause-back
returns-clause-back c =
    rw (returns-clause-value c) (at_reverse_rank c.args.self.n c.args.self.elements (returns-clause-lawful c))
