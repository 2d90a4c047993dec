use Rattle.std.proofs.Common.{◌≡◌, ap, refl, subst, ◌∙◌}
use Rattle.om_signs.specs.declared.limits.TheConstants.{MAX_MEMBERS}
use Rattle.om_signs.specs.declared.raw_map.RawMap.{RawMap}
use Rattle.om_subsets.specs.Members.{Chosen}
use Rattle.om_chirotope.specs.Chirotope.{IsAllZero, IsFirstViolated}
use Rattle.om_chirotope.specs.Map.{SignMap, map_of}
use Rattle.om_chirotope.specs.declared.map_refused.MapRefused.{MapRefused}
use Rattle.om_chirotope.specs.declared.map_refused.MapRefused.TheVariants.{AllZero, Relation}
use Rattle.om_denotation.specs.Covectors.{IsCovectorOfChirotope}
use Rattle.om_denotation.specs.Listings.{AreAllOf, HasMoreThan}
use Rattle.om_convert.specs.Limits.{IsCause}
use Rattle.om_convert.specs.declared.convert_error.ConvertError.TheVariants.{TooMany}
use Rattle.om_convert.proofs.MemoryCauses.{memory_is_cause}
use Rattle.om_callers.specs.Readings.{IsViolated}
use Rattle.om_callers.proofs.reading.covectors_of_map.Goals as goal

pub returns-in-Ok-chirotope_to_covectors : goal.returns-in-Ok-chirotope_to_covectors
returns-in-Ok-chirotope_to_covectors _ c =
    let listed = c.in-Ok-chirotope_to_covectors.covectors in
    let said = c.chirotope_to_covectors.ensures in
    record {
      covectors = record {
        axioms = c.in-Ok.ensures.accepted.0 refl;
        elements = c.in-Ok-chirotope_to_covectors.ensures.elements ∙ ap (λ m. m.elements) c.in-Ok.ensures.value;
        members = subst (λ (m : SignMap). AreAllOf (IsCovectorOfChirotope m) listed.members) c.in-Ok.ensures.value
            c.in-Ok-chirotope_to_covectors.ensures.members;
      };
      cause = tt;
    }

pub returns-in-TooMany : goal.returns-in-TooMany
returns-in-TooMany _ c =
    let P = IsCovectorOfChirotope c.in-Ok.chirotope in
    let many : IsCause P (TooMany c.in-TooMany.limit) =
    subst (IsCause P) c.in-TooMany.is c.in-Err-chirotope_to_covectors.ensures.many in
    record {
      covectors = tt;
      cause = record {
        axioms = c.in-Ok.ensures.accepted.0 refl;
        named = many.0;
        more = subst (λ (m : SignMap). HasMoreThan MAX_MEMBERS (IsCovectorOfChirotope m)) c.in-Ok.ensures.value many.1;
      };
    }

pub memory_alone-requires : goal.memory_alone-requires
memory_alone-requires _ c =
    memory_is_cause (IsCovectorOfChirotope c.in-Ok.chirotope) c.in-Err-chirotope_to_covectors.error
    c.in-Err-chirotope_to_covectors.ensures.many c.in_default.not-TooMany

-- a reason of which both clauses of check hold is one that the map gives
violated : (m : RawMap) (why : MapRefused) → (why ≡ AllZero → IsAllZero m.signs)
    → ((s a : Chosen) → why ≡ Relation s a → IsFirstViolated (map_of m) s a) → IsViolated m why
violated m AllZero zero _ = zero refl
violated m (Relation s a) _ relation = relation s a refl

pub returns : goal.returns
returns _ c = record {
  covectors = tt;
  cause = violated c.args.raw c.in-Err.bad.why c.in-Err.ensures.all_zero.0 c.in-Err.ensures.relation;
}
