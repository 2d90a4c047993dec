use Rattle.om_subsets.specs.Subsets.{choose}
use Rattle.om_threeterm.proofs.ExchangePlaces.{IsBestBefore}
use Rattle.om_threeterm.proofs.ExchangeLaws.{place_pair}
use Rattle.om_threeterm.proofs.exchanges.Bases.first_unexchanged_of.Given as goal

abbrev pub invariant-loop-e : goal.invariant-loop-e
invariant-loop-e l = IsBestBefore (place_pair l.self.map.now l.b.elements)
    (choose l.self.map.now.elements l.self.map.now.rank) l.limit l.e l.found
