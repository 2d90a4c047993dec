use Rattle.std.proofs.Common.{◌+◌, ◌≤◌, ◌∙◌, ◌/◌, ◌%◌, refl, sym, subst}
use Rattle.std.proofs.lemmas.Bool.{false≢true}
use Rattle.om_laws.specs.Sorting.{IsElement}
use Rattle.om_signs.specs.declared.limits.TheConstants.{MAX_ELEMENTS}
use Rattle.om_least.proofs.Tables.{IsFilledTo, filled_none, filled_with, filled_past}
use Rattle.om_least.proofs.values.values_of.Goals as goal
use Rattle.om_least.proofs.values.values_of.Goals.{then-are_elements, else-are_elements}

pub loop-place-preserved : goal.loop-place-preserved
loop-place-preserved c =
    let m = c.args.chi.now in
    let k = c.loop-place.place in
    let n = c.elements-n.ensures.value in
    let few = subst (λ j. j ≤ MAX_ELEMENTS) n c.elements-n.ensures.high in
    elim c.if-are_elements.branch [
      | then-are_elements w ↦
          subst (λ t. IsFilledTo m t (k + 1)) (sym w.values-is)
          (filled_with m few c.loop-place.values k (k / 21 / 21) (k / 21 % 21) (k % 21) w.value.result
          c.loop-place-test.true refl refl refl w.value.ensures c.loop-place.invariant)
      | else-are_elements w ↦
          subst (λ t. IsFilledTo m t (k + 1)) (sym w.values-is)
          (filled_past m few c.loop-place.values k (k / 21 / 21) (k / 21 % 21) (k % 21) refl refl refl
          (λ h. false≢true (sym w.if-are_elements.false ∙ c.are_elements.ensures.1
          (subst (λ j. IsElement j (k / 21 / 21) × IsElement j (k / 21 % 21) × IsElement j (k % 21)) (sym n) h)))
          c.loop-place.invariant)
    ]

pub loop-place-init : goal.loop-place-init
loop-place-init c =
    let few = subst (λ j. j ≤ MAX_ELEMENTS) c.elements-n.ensures.value c.elements-n.ensures.high in
    filled_none c.args.chi.now few _ refl
