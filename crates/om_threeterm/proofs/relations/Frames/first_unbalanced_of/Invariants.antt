use Rattle.om_matroid.proofs.WalkLaws.{HasNoneBefore}
use Rattle.om_threeterm.specs.Violations.{IsUnbalancedList}
use Rattle.om_threeterm.proofs.relations.Frames.first_unbalanced_of.Given as goal

abbrev pub invariant-loop-q : goal.invariant-loop-q
invariant-loop-q l = HasNoneBefore (IsUnbalancedList l.self.map.now l.p.elements) l.self.map.now.elements 4 l.q-index
