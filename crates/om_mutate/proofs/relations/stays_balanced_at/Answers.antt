use Rattle.std.proofs.Common.{◌≤◌, ◌∙◌, ap, sym, subst, refl, arith}
use Rattle.std.proofs.lemmas.Bool.{false≢true}
use Rattle.om_laws.specs.Sorting.{IsElement}
use Rattle.om_wiring.proofs.OpeningLaws.{each_more}
use Rattle.om_mutate.specs.Turns.{StaysBalancedWith, turned_row}
use Rattle.om_mutate.proofs.relations.stays_balanced_at.Goals as goal
use Rattle.om_mutate.proofs.relations.stays_balanced_at.Goals.{In-loop-z}

pub row-requires : goal.row-requires
row-requires c = record { p = c.requires.p; x = c.requires.x }

pub turned-first-requires : goal.turned-first-requires
turned-first-requires c =
    record { low = c.requires.y.0; high = subst (λ k. c.args.y ≤ k) (sym c.row.ensures.size) c.requires.y.1 }

pub row-requires-2 : goal.row-requires-2
row-requires-2 c = record { p = c.requires.p; x = c.requires.y }

pub turned-second-requires : goal.turned-second-requires
turned-second-requires c =
    record { low = c.requires.x.0; high = subst (λ k. c.args.x ≤ k) (sym c.row-2.ensures.size) c.requires.x.1 }

pub loop-z-init : goal.loop-z-init
loop-z-init c = λ z i l. let low = i.0 in absurd (omega (arith, low, l))

-- the element of a turn
within : (c : In-loop-z) → IsElement c.args.chi.now.elements c.loop-z.z
within c =
    let e = c.elements-elements.ensures.value in let t = c.loop-z-test.true in (omega arith, omega (arith, e, t))

pub stays_balanced_with-requires : goal.stays_balanced_with-requires
stays_balanced_with-requires c =
    record {
      rank = c.requires.rank;
      p = c.requires.p;
      x = c.requires.x;
      y = c.requires.y;
      z = within (goal.at.stays_balanced_with-requires c).In-loop-z;
      first = c.turned-first.ensures ∙ ap (λ row. turned_row row c.args.y) c.row.ensures.row;
      second = c.turned-second.ensures ∙ ap (λ row. turned_row row c.args.x) c.row-2.ensures.row;
    }

pub returns-then-not-stays_balanced_with : goal.returns-then-not-stays_balanced_with
returns-then-not-stays_balanced_with c = (
  λ t. absurd (false≢true t),
  λ h. sym c.if-not-stays_balanced_with.true
      ∙ c.stays_balanced_with.ensures.1
      (h c.loop-z.z (within (goal.at.returns-then-not-stays_balanced_with c).In-loop-z)),
)

pub loop-z-preserved : goal.loop-z-preserved
loop-z-preserved c =
    each_more c.args.chi.now.elements c.loop-z.z (StaysBalancedWith c.args.chi.now c.args.p c.args.x c.args.y)
    c.loop-z.invariant
    (c.stays_balanced_with.ensures.0 c.if-not-stays_balanced_with.false)

pub returns : goal.returns
returns c =
    let e = c.elements-elements.ensures.value in
    let t = c.loop-z-test.false in (
      λ _ z i. let high = i.1 in c.loop-z.invariant z i (omega (arith, high, e, t)),
      λ _. refl,
    )
