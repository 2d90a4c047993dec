use Rattle.std.proofs.Common.{◌≡◌, ◌≤◌, ◌∙◌, sym, subst}
use Rattle.std.proofs.lemmas.Result.{IfOk-weaker}
use Rattle.om_chirotope.specs.Map.{SignMap}
use Rattle.om_chirotope.specs.Chirotope.{IsChirotope}
use Rattle.om_denotation.proofs.DualMaps.{dual_axioms}
use Rattle.om_denotation.proofs.Uniqueness.{normal_axioms}
use Rattle.om_denotation.specs.Circuits.{IsCircuitOfChirotope}
use Rattle.om_denotation.specs.Covectors.{IsCovectorOfChirotope, IsCovectorOfCircuits}
use Rattle.om_denotation.specs.Denotation.{DenoteTheSame}
use Rattle.om_denotation.specs.Listings.{AreAllOf}
use Rattle.om_denotation.specs.Maps.{IsNormalFormOf}
use Rattle.om_denotation.specs.Dual.{dual_of}
use Rattle.om_convert.proofs.NormalSigns.{has_circuits}
use Rattle.om_convert.proofs.RankLaws.{rank_of_dual}
use Rattle.om_convert.proofs.propagation.chirotope_of_circuits.Goals as goal

pub overflow_sub-elements : goal.overflow_sub-elements
overflow_sub-elements c = subst (λ n. c.args.rank ≤ n) (sym c.elements.ensures.value) c.requires.part

pub chirotope_of-requires : goal.chirotope_of-requires
chirotope_of-requires c = rank_of_dual c.args.c.now.0 c.args.rank c.requires.part c.requires.rank c.elements.result
    c.elements.ensures.value

pub returns-clause-elements : goal.returns-clause-elements
returns-clause-elements c =
    IfOk-weaker c.dual.result (λ d. d.elements ≡ c.in_ok-other.other.elements)
    (λ d. d.elements ≡ c.args.c.now.0.elements) (λ d e. e ∙ c.in_ok-other.ensures.elements) c.dual.ensures.elements

pub returns-clause-circuits : goal.returns-clause-circuits
returns-clause-circuits c =
    let P : SignMap → Type 0 = λ m. AreAllOf (IsCircuitOfChirotope m) c.args.c.now.0.members in
    IfOk-weaker c.dual.result (IsNormalFormOf (dual_of c.in_ok-other.other)) P
    (λ d n. (has_circuits c.args.c.now.0 c.in_ok-other.other d c.in_ok-other.ensures n).members)
    c.dual.ensures.value

pub returns-clause-same : goal.returns-clause-same
returns-clause-same c =
    let P : SignMap → Type 0 =
    λ m. DenoteTheSame c.args.c.now.0.elements (IsCovectorOfCircuits c.args.c.now.0) (IsCovectorOfChirotope m) in
    IfOk-weaker c.dual.result (IsNormalFormOf (dual_of c.in_ok-other.other)) P
    (λ d n. (has_circuits c.args.c.now.0 c.in_ok-other.other d c.in_ok-other.ensures n).same) c.dual.ensures.value

pub returns-clause-lawful : goal.returns-clause-lawful
returns-clause-lawful c =
    IfOk-weaker c.dual.result (IsNormalFormOf (dual_of c.in_ok-other.other)) IsChirotope
    (λ d n. normal_axioms (dual_of c.in_ok-other.other) d (dual_axioms c.in_ok-other.other c.in_ok-other.ensures.axioms)
    n) c.dual.ensures.value

pub returns-clause-normal : goal.returns-clause-normal
returns-clause-normal c = c.dual.ensures.normal

pub returns-clause-unique : goal.returns-clause-unique
returns-clause-unique c = c.dual.ensures.unique
