use Rattle.std.proofs.Common.{◌≡◌, ◌*◌, ◌≤◌, length}
use Rattle.om_signs.specs.declared.limits.TheConstants.{MAX_PLACES}
use Rattle.om_subsets.specs.declared.binomials.TheConstants.{MOST_SUBSETS}
use Rattle.om_chirotope.proofs.WithPlaces.{IsWalk, HasPlacesBelow}
use Rattle.om_chirotope.proofs.walking.places_with.Given as goal

abbrev pub invariant-loop-e : goal.invariant-loop-e
invariant-loop-e l = record {
  walk : IsWalk l.set.n l.set.elements l.e l.left l.passed l.later;
  bound : l.passed ≤ l.e * MOST_SUBSETS;
  room : length l.places ≡ MAX_PLACES;
  done : HasPlacesBelow l.set.n l.set.elements l.places l.e;
}
