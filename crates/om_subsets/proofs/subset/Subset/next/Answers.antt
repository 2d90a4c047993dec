use Rattle.std.proofs.Common.{◌+◌, ◌∙◌, sym, ap, length, arith, subst}
use Rattle.om_subsets.specs.Subsets.{rank_of, choose, IsSubsetFrom}
use Rattle.om_subsets.specs.Members.{Chosen, members-subset}
use Rattle.om_subsets.proofs.Places.{bits_fit}
use Rattle.om_subsets.proofs.NextSets.{next_made, not_last}
use Rattle.om_subsets.proofs.LastSets.{tail_more, tail_same, tail_small}
use Rattle.om_subsets.proofs.subset.Subset.next.Goals as goal
use Rattle.om_subsets.proofs.subset.Subset.next.Goals.{then-self-i-eq1+else-tail-k, else-self-i-eq1}

pub invariant_of-result : goal.invariant_of-result
invariant_of-result c =
    let h = next_made c.self.inside.mask c.self.inside.n c.loop-k.k c.loop-k.tail (bits_fit _ c.self.invariant.few)
    c.loop-k-test.true c.if-self-i-eq1.true c.if-tail-k.true c.loop-k.invariant.tail_is c.loop-k.invariant.last in
    record { within = h.below; few = c.self.invariant.few }

pub returns-then-tail-k-clause-none : goal.returns-then-tail-k-clause-none
returns-then-tail-k-clause-none c =
    let h = next_made c.self.inside.mask c.self.inside.n c.loop-k.k c.loop-k.tail (bits_fit _ c.self.invariant.few)
    c.loop-k-test.true c.if-self-i-eq1.true c.if-tail-k.true c.loop-k.invariant.tail_is c.loop-k.invariant.last in (
      λ e. cc,
      λ e. absurd
          (not_last c.self.inside.mask c.self.inside.n _ h
          (ap (λ v. rank_of v.n v.elements + 1) c.self.view_is ∙ e
          ∙ sym (ap (λ v. choose v.n (length v.elements)) c.self.view_is))),
    )

pub returns-then-tail-k-clause-size : goal.returns-then-tail-k-clause-size
returns-then-tail-k-clause-size c =
    let h = next_made c.self.inside.mask c.self.inside.n c.loop-k.k c.loop-k.tail (bits_fit _ c.self.invariant.few)
    c.loop-k-test.true c.if-self-i-eq1.true c.if-tail-k.true c.loop-k.invariant.tail_is c.loop-k.invariant.last in
    sym h.size ∙ ap (λ v. length v.elements) c.self.view_is

pub returns-then-tail-k-clause-rank : goal.returns-then-tail-k-clause-rank
returns-then-tail-k-clause-rank c =
    let h = next_made c.self.inside.mask c.self.inside.n c.loop-k.k c.loop-k.tail (bits_fit _ c.self.invariant.few)
    c.loop-k-test.true c.if-self-i-eq1.true c.if-tail-k.true c.loop-k.invariant.tail_is c.loop-k.invariant.last in
    h.rank ∙ ap (λ v. rank_of v.n v.elements + 1) c.self.view_is

pub overflow_add-tail : goal.overflow_add-tail
overflow_add-tail c =
    let l = tail_small c.self.inside.mask c.self.inside.n c.loop-k.k c.loop-k.tail (bits_fit _ c.self.invariant.few)
    c.loop-k.invariant.tail_is in
    record { fits = omega arith }

pub loop-k-preserved : goal.loop-k-preserved
loop-k-preserved c = elim c.if-self-i-eq1.branch [
  | then-self-i-eq1+else-tail-k w ↦
      let t = tail_more c.self.inside.mask c.self.inside.n c.loop-k.k c.loop-k.tail c.loop-k-test.true
      w.if-self-i-eq1.true w.if-tail-k.false c.loop-k.invariant.tail_is c.loop-k.invariant.last in
      record { tail_is = w.tail-is ∙ t.tail_is; last = t.last }
  | else-self-i-eq1 w ↦
      let t = tail_same c.self.inside.mask c.self.inside.n c.loop-k.k c.loop-k.tail c.loop-k-test.true
      w.if-self-i-eq1.false c.loop-k.invariant.tail_is c.loop-k.invariant.last in
      record { tail_is = w.tail-is ∙ t.tail_is; last = t.last }
]

pub returns-then-tail-k-clause-lawful : goal.returns-then-tail-k-clause-lawful
returns-then-tail-k-clause-lawful c = members-subset _ 1 c.self.inside.n

pub returns-then-tail-k-clause-here : goal.returns-then-tail-k-clause-here
returns-then-tail-k-clause-here c =
    let P : Chosen → Type 0 = λ v. IsSubsetFrom 1 v.n v.elements in
    subst P c.self.view_is (members-subset c.self.inside.mask 1 c.self.inside.n)

pub returns-clause-here : goal.returns-clause-here
returns-clause-here c =
    let P : Chosen → Type 0 = λ v. IsSubsetFrom 1 v.n v.elements in
    subst P c.self.view_is (members-subset c.self.inside.mask 1 c.self.inside.n)
