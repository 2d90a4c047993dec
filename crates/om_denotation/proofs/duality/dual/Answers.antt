use Rattle.std.proofs.Common.{◌-◌}
use Rattle.std.proofs.lemmas.Result.{IfOk-weaker}
use Rattle.om_laws.specs.Dual.{dual_on_increasing}
use Rattle.om_chirotope.specs.Map.{SignMap, chi_of}
use Rattle.om_denotation.specs.Covectors.{IsCovectorOfChirotope}
use Rattle.om_denotation.specs.Operations.{IsDual}
use Rattle.om_denotation.specs.Maps.{map_by, IsNormalFormOf}
use Rattle.om_denotation.specs.Dual.{dual_of}
use Rattle.om_denotation.specs.Only.{IsOnlyChirotope}
use Rattle.om_denotation.proofs.DualMaps.{dual_axioms, is_dual}
use Rattle.om_denotation.proofs.OnlyLaws.{only_chirotope}
use Rattle.om_denotation.proofs.Uniqueness.{normal_axioms}
use Rattle.om_denotation.proofs.duality.dual.Goals as goal

pub normal_by-requires-clause-axioms : goal.normal_by-requires-clause-axioms
normal_by-requires-clause-axioms c =
    rw (c.elements.ensures.value, c.elements-2.ensures.value, c.rank.ensures.value)
    (dual_axioms c.args.chi.now c.rank.ensures.lawful)

pub returns-clause-dual : goal.returns-clause-dual
returns-clause-dual c =
    let P : SignMap → Type 0 =
    λ d. IsDual c.args.chi.now.elements (IsCovectorOfChirotope c.args.chi.now) (IsCovectorOfChirotope d) in
    let Q : SignMap → Type 0 =
    IsNormalFormOf
    (map_by (c.elements.result - c.rank.result) c.elements-2.result
    (dual_on_increasing c.args.chi.now.elements (chi_of c.args.chi.now))) in
    IfOk-weaker c.normal_by.result Q P
    (λ d h. is_dual c.args.chi.now c.rank.ensures.lawful d
    (rw (c.elements.ensures.value, c.elements-2.ensures.value, c.rank.ensures.value) at h)) c.normal_by.ensures

pub returns-clause-unique : goal.returns-clause-unique
returns-clause-unique c =
    let Q : SignMap → Type 0 =
    IsNormalFormOf
    (map_by (c.elements.result - c.rank.result) c.elements-2.result
    (dual_on_increasing c.args.chi.now.elements (chi_of c.args.chi.now))) in
    IfOk-weaker c.normal_by.result Q IsOnlyChirotope
    (λ d h. only_chirotope d
    (normal_axioms (dual_of c.args.chi.now) d (dual_axioms c.args.chi.now c.rank.ensures.lawful)
    (rw (c.elements.ensures.value, c.elements-2.ensures.value, c.rank.ensures.value) at h))) c.normal_by.ensures
