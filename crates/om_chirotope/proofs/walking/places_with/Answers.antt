use Rattle.std.proofs.Common.{arith, rules, refl, sym, ap, subst, ◌∙◌, length, ◌+◌, ◌-◌, ◌≡◌}
use Rattle.std.proofs.lemmas.Bool.{false≢true}
use Rattle.std.proofs.lemmas.List.{length-set}
use Rattle.om_subsets.specs.Subsets.{choose}
use Rattle.om_chirotope.proofs.WithPlaces.{IsWalk, HasPlacesBelow, walk_start, walk_in, walk_off}
use Rattle.om_chirotope.proofs.WithPlaces.{places_in, places_off}
use Rattle.om_chirotope.proofs.walking.places_with.Goals as goal
use Rattle.om_chirotope.proofs.walking.places_with.Goals.{then-has, else-has}

pub loop-e-init : goal.loop-e-init
loop-e-init c =
    let all : c.choose.result ≡ choose c.args.set.n (length c.args.set.elements) = c.choose.ensures.value
    ∙ ap (λ n. choose n c.size-left.result) c.n.ensures.value
    ∙ ap (λ k. choose c.args.set.n k) c.size-left.ensures.value in
    let place = c.rank.ensures.value in
    let small = c.rank.ensures.small in
    record {
      walk = rw c.size-left.ensures.value
          (walk_start c.args.set.n c.args.set.elements _ c.size-left.ensures.lawful
          (omega (arith, all, place, small)));
      bound = search rules;
      room = refl;
      done = λ f low l. absurd (omega (arith, low, l));
    }

pub overflow_sub-places : goal.overflow_sub-places
overflow_sub-places c =
    let over = c.loop-e-test.true in
    let end = c.n-e-end.ensures.value in
    (walk_off c.args.set.n c.args.set.elements c.loop-e.e c.loop-e.left c.loop-e.passed _ c.choose-passed.result
    c.n-in-loop-e.result (omega (arith, over, end)) (λ k. false≢true (c.if-has.ensures.1 k))
    c.n-in-loop-e.ensures.value c.choose-passed.ensures.value c.loop-e.invariant.walk).room

pub loop-e-preserved : goal.loop-e-preserved
loop-e-preserved c =
    let set = c.args.set in
    let passed = c.loop-e.passed + c.choose-passed.result in
    let later = c.choose.result - c.rank.result in
    let over = c.loop-e-test.true in
    let low = c.loop-e.auto.e in
    let end = c.n-e-end.ensures.value in
    let few = c.n-e-end.ensures.small in
    let room = c.loop-e.invariant.room in
    let bound = c.loop-e.invariant.bound in
    let most = c.choose-passed.ensures.most in
    elim c.if-has.branch [
      | then-has w ↦ record {
        walk = subst (λ k. IsWalk set.n set.elements (c.loop-e.e + 1) k passed later) (sym w.left-is)
            (walk_in set.n set.elements c.loop-e.e c.loop-e.left c.loop-e.passed _ c.choose-passed.result
            c.n-in-loop-e.result (w.if-has.ensures.0 refl) c.n-in-loop-e.ensures.value c.choose-passed.ensures.value
            c.loop-e.invariant.walk).1;
        bound = omega (arith, bound, most);
        room = ap length w.places-is ∙ room;
        done = subst (λ ps. HasPlacesBelow set.n set.elements ps (c.loop-e.e + 1)) (sym w.places-is)
            (places_in set.n set.elements c.loop-e.places c.loop-e.e (w.if-has.ensures.0 refl)
            c.loop-e.invariant.done);
      }
      | else-has w ↦
          let step = walk_off set.n set.elements c.loop-e.e c.loop-e.left c.loop-e.passed _ c.choose-passed.result
          c.n-in-loop-e.result (omega (arith, over, end)) (λ k. false≢true (w.if-has.ensures.1 k))
          c.n-in-loop-e.ensures.value c.choose-passed.ensures.value c.loop-e.invariant.walk in
          record {
            walk = subst (λ k. IsWalk set.n set.elements (c.loop-e.e + 1) k passed later) (sym w.left-is) step.walk;
            bound = omega (arith, bound, most);
            room = ap length w.places-is ∙ length-set _ _ _ ∙ room;
            done = subst (λ ps. HasPlacesBelow set.n set.elements ps (c.loop-e.e + 1)) (sym w.places-is)
                (places_off set.n set.elements c.loop-e.places c.loop-e.e _ low (omega (arith, over, end, few, room))
                step.here c.loop-e.invariant.done);
          }
    ]

pub overflow_sub-left : goal.overflow_sub-left
overflow_sub-left c =
    (walk_in c.args.set.n c.args.set.elements c.loop-e.e c.loop-e.left c.loop-e.passed _ c.choose-passed.result
    c.n-in-loop-e.result (c.if-has.ensures.0 refl) c.n-in-loop-e.ensures.value c.choose-passed.ensures.value
    c.loop-e.invariant.walk).0
