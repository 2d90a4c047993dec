use Rattle.std.proofs.Common.{◌+◌, ◌-◌, ◌∙◌, length, drop, refl, sym, subst, ap}
use Rattle.std.proofs.lemmas.Bool.{false≢true}
use Rattle.std.proofs.lemmas.Iterator.Adapters.{YieldsList-from_rev_slice}
use Rattle.std.proofs.lemmas.Iterator.Consumers.{YieldsList-turn}
use Rattle.std.proofs.lemmas.List.{length_push}
use Rattle.om_subsets.specs.Subsets.{IsMember, with_element}
use Rattle.om_laws.specs.Tuples.{before_sign, sorted}
use Rattle.om_chirotope.specs.Map.{chi_of}
use Rattle.om_chirotope.proofs.Cocircuits.{length-with}
use Rattle.om_chirotope.proofs.SortedTuples.{value_repeat, next_element, from_end, bounds_from_end}
use Rattle.om_chirotope.proofs.whole_map.WholeMap.value_at.Goals as goal

pub has-requires : goal.has-requires
has-requires c =
    let t = from_end _ _ _ _
    (YieldsList-turn (YieldsList-from_rev_slice c.args.tuple.now cc) c.loop-e.yielded _ c.loop-e.yielded_by _ _
    c.in-Some.e c.in-Some.is c.next.ensures.steps) in
    let b = bounds_from_end _ _ _ _ _ t c.requires.within c.loop-e.invariant.n in record { low = b.0; high = b.1 }

pub sorting_sign-requires : goal.sorting_sign-requires
sorting_sign-requires c =
    let t = from_end _ _ _ _
    (YieldsList-turn (YieldsList-from_rev_slice c.args.tuple.now cc) c.loop-e.yielded _ c.loop-e.yielded_by _ _
    c.in-Some.e c.in-Some.is c.next.ensures.steps) in
    let b = bounds_from_end _ _ _ _ _ t c.requires.within c.loop-e.invariant.n in
    record { low = b.0; high = b.1; new = λ k. false≢true (c.if-has.ensures.1 k) }

pub with-set-requires : goal.with-set-requires
with-set-requires c =
    let t = from_end _ _ _ _
    (YieldsList-turn (YieldsList-from_rev_slice c.args.tuple.now cc) c.loop-e.yielded _ c.loop-e.yielded_by _ _
    c.in-Some.e c.in-Some.is c.next.ensures.steps) in
    let b = bounds_from_end _ _ _ _ _ t c.requires.within c.loop-e.invariant.n in record { low = b.0; high = b.1 }

pub returns-then-has : goal.returns-then-has
returns-then-has c =
    let t = from_end _ _ _ _
    (YieldsList-turn (YieldsList-from_rev_slice c.args.tuple.now cc) c.loop-e.yielded _ c.loop-e.yielded_by _ _
    c.in-Some.e c.in-Some.is c.next.ensures.steps) in
    value_repeat (chi_of c.args.self.now) c.args.tuple.now (length c.loop-e.yielded) t.within
    (subst (λ e. IsMember e (sorted (drop (length c.args.tuple.now - length c.loop-e.yielded) c.args.tuple.now)))
    t.here (subst (IsMember c.in-Some.e.now) c.loop-e.invariant.elements (c.if-has.ensures.0 refl)))

pub loop-e-preserved : goal.loop-e-preserved
loop-e-preserved c =
    let inv = c.loop-e.invariant in
    let t = from_end _ _ _ _
    (YieldsList-turn (YieldsList-from_rev_slice c.args.tuple.now cc) c.loop-e.yielded _ c.loop-e.yielded_by _ _
    c.in-Some.e c.in-Some.is c.next.ensures.steps) in
    let fresh : IsMember c.in-Some.e.now c.loop-e.set.elements → ⊥ = (λ k. false≢true (c.if-has.ensures.1 k)) in
    let next = next_element c.args.tuple.now (length c.loop-e.yielded) c.loop-e.set.elements c.loop-e.sign
    c.sorting_sign.result t.within (subst (λ e. IsMember e c.loop-e.set.elements → ⊥) t.here fresh) inv.elements
    inv.sign (c.sorting_sign.ensures ∙ ap (λ e. before_sign e c.loop-e.set.elements) t.here) in
    let more = length_push c.loop-e.yielded c.in-Some.e in
    record {
      n = c.with-set.ensures.n ∙ inv.n;
      size = ap length c.with-set.ensures.elements ∙ length-with c.in-Some.e.now c.loop-e.set.elements fresh
          ∙ ap (λ k. k + 1) inv.size ∙ sym more;
      elements = rw more (c.with-set.ensures.elements ∙ ap (λ e. with_element e c.loop-e.set.elements) t.here
          ∙ next.elements);
      sign = rw more (c.times-sign.ensures ∙ next.sign_is);
    }
