use Rattle.om_threeterm.proofs.ExchangePlaces.{AreInPlaceBelow}
use Rattle.om_threeterm.proofs.exchanges.in_place_of.Given as goal

abbrev pub invariant-loop-f : goal.invariant-loop-f
invariant-loop-f l = AreInPlaceBelow l.map l.b.elements l.e l.f l.others
