use Rattle.std.proofs.Common.{ℕ, ◌≤◌, ◌<◌, ◌∷◌, []}
use Rattle.om_matroid.specs.Bases.{IsIndependent}
use Rattle.om_chain.proofs.fitting.first_dependent.Given as goal

abbrev pub invariant-loop-e : goal.invariant-loop-e
invariant-loop-e l = (g h : ℕ) → 1 ≤ g → g < h → h ≤ l.chi.elements → g < l.e → IsIndependent l.chi (g ∷ h ∷ [])

abbrev pub invariant-loop-f : goal.invariant-loop-f
invariant-loop-f l = (h : ℕ) → l.e < h → h < l.f → IsIndependent l.chi (l.e ∷ h ∷ [])
