use Rattle.std.proofs.Common.{ℕ, ◌≡◌, ◌∙◌, sym, subst, inl, inr, arith}
use Rattle.std.proofs.lemmas.Bool.{cases_lt}
use Rattle.om_signs.specs.OrderLaws.{same_from_order}
use Rattle.om_laws.specs.Members.{IsMember}
use Rattle.om_symmetry.specs.Permutations.{elements_of}
use Rattle.om_least.specs.Beginnings.{IsLeastBehind}
use Rattle.om_least.proofs.Entries.{IsTried, IsComparable, passed_over, least_at_end, least_by_entries}
use Rattle.om_least.proofs.Entries.{comparable, longer, next_requires}
use Rattle.om_least.proofs.search.+walk.Goals as goal
use Rattle.om_least.proofs.search.+walk.Goals.{lesser_behind-else-not-has, lesser_behind-Then-not-has}
use Rattle.om_least.proofs.search.+walk.Goals.{lesser_with-After-followed_by-longer}
use Rattle.om_least.proofs.search.+walk.Goals.{lesser_behind-then-not-has+in_default+in_default-lesser_with}

pub lesser_behind-returns-then-len-elements-clause-least : goal.lesser_behind-returns-then-len-elements-clause-least
lesser_behind-returns-then-len-elements-clause-least t c =
    least_at_end c.args.chi.now c.args.beginning.now
    (sym c.len.ensures.value ∙ c.if-len-elements.true ∙ c.elements-elements.ensures.value) c.requires.tied

pub lesser_behind-lesser_with-requires : goal.lesser_behind-lesser_with-requires
lesser_behind-lesser_with-requires t c =
    let r = next_requires c.args.chi.now c.args.beginning.now _ _ _ _ c.elements-elements.ensures.value
    c.elements-elements.ensures.high c.len.ensures.value c.if-len-elements.false c.requires.few
    c.loop-element.auto.element c.loop-element-test.true c.if-not-has.true c.has.ensures.1 in
    let tied = c.requires.tied in
    (omega (arith, c.decreases, r.0), (c.requires.begun, (r.0, (r.1, (tied, (r.2, (r.3, c.requires.table)))))))

pub lesser_behind-lesser_with-requires-then-not-has : goal.lesser_behind-lesser_with-requires-then-not-has
lesser_behind-lesser_with-requires-then-not-has t c =
    lesser_behind-lesser_with-requires t (goal.at.lesser_behind-lesser_with-requires-then-not-has t c).Then-not-has

pub lesser_behind-loop-element-preserved : goal.lesser_behind-loop-element-preserved
lesser_behind-loop-element-preserved t c = λ e i lt off.
    elim (cases_lt e c.loop-element.element) [
      | inl before ↦ c.loop-element.invariant e i before off
      | inr ge ↦
          let here : c.loop-element.element ≡ e = omega (arith, lt, ge) in
          elim c.if-not-has.branch [
            | lesser_behind-then-not-has+in_default+in_default-lesser_with b ↦
                subst (IsTried c.args.chi.now c.args.beginning.now) here
                (record { plain = b.in_default.ensures.least; negative = b.in_default-lesser_with.ensures.least })
            | lesser_behind-else-not-has b ↦
                absurd (off (subst (λ f. IsMember f (elements_of c.args.beginning.now)) here
                (c.has.ensures.0 b.if-not-has.false)))
          ]
    ]

pub lesser_behind-returns-clause-least : goal.lesser_behind-returns-clause-least
lesser_behind-returns-clause-least t c =
    least_by_entries c.args.chi.now c.args.beginning.now
    (omega (arith, c.elements-elements.ensures.value, c.len.ensures.value, c.if-len-elements.false, c.requires.few))
    (λ e i off. c.loop-element.invariant e i
    (omega (arith, c.elements-elements.ensures.value, c.loop-element-test.false, i.1)) off)

next : (t : ℕ) (c : lesser_with-After-followed_by-longer t) → IsComparable c.args.chi.now c.followed_by-longer.result
next t c = comparable c.args.chi.now c.args.beginning.now c.followed_by-longer.result c.args.a
    c.followed_by-longer.ensures c.requires.few c.requires.begun c.requires.tied c.requires.element c.requires.off

pub lesser_with-compared-requires : goal.lesser_with-compared-requires
lesser_with-compared-requires t c =
    let r = next t (goal.at.lesser_with-compared-requires t c).After-followed_by-longer in
    record { begun = r.begun; some = r.some; few = r.few; tied = r.tied; table = c.requires.table }

pub lesser_with-lesser_behind-requires : goal.lesser_with-lesser_behind-requires
lesser_with-lesser_behind-requires t c =
    let u = c.followed_by-longer.result in
    let more = longer c.args.chi.now c.args.beginning.now u c.args.a c.followed_by-longer.ensures in
    let r = next t (goal.at.lesser_with-lesser_behind-requires t c).After-followed_by-longer in
    let e = sym c.in-Equal.ensures in
    (omega (arith, c.decreases, more, c.requires.few), (r.begun, (r.few, (same_from_order _ _ e, c.requires.table))))

pub lesser_with-returns-in-Less-clause-before : goal.lesser_with-returns-in-Less-clause-before
lesser_with-returns-in-Less-clause-before t c =
    let r = next t (goal.at.lesser_with-returns-in-Less-clause-before t c).After-followed_by-longer in
    record { begun = r.begun; few = r.few; before = sym c.in-Less.ensures }

pub lesser_with-returns-in-Greater-clause-least : goal.lesser_with-returns-in-Greater-clause-least
lesser_with-returns-in-Greater-clause-least t c =
    let r = next t (goal.at.lesser_with-returns-in-Greater-clause-least t c).After-followed_by-longer in
    subst (IsLeastBehind c.args.chi.now) c.followed_by-longer.ensures
    (passed_over c.args.chi.now c.followed_by-longer.result r.few (sym c.in-Greater.ensures))
