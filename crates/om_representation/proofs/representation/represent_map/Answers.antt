use Rattle.std.specs.Prelude.{◌≡◌, ◌↔◌, refl}
use Rattle.om_signs.specs.declared.raw_map.RawMap.{RawMap}
use Rattle.om_subsets.specs.Members.{Chosen}
use Rattle.om_chirotope.specs.Map.{map_of}
use Rattle.om_chirotope.specs.Chirotope as maps
use Rattle.om_chirotope.specs.declared.map_refused.MapRefused.{MapRefused}
use Rattle.om_chirotope.specs.declared.map_refused.MapRefused.TheVariants.{AllZero, Relation}
use Rattle.om_representation.specs.Axioms.{IsViolatedMap}
use Rattle.om_representation.proofs.representation.represent_map.Goals as goal

violated : (m : RawMap) (why : MapRefused) → ((why ≡ AllZero) ↔ maps.IsAllZero m.signs)
    → ((s a : Chosen) → why ≡ Relation s a → maps.IsFirstViolated (map_of m) s a) → IsViolatedMap m why
violated m AllZero all_zero relation = all_zero.0 refl
violated m (Relation s a) all_zero relation = ((λ zero. let same = all_zero.1 zero in cc), relation s a refl)

pub returns-in-Err-clause-refused : goal.returns-in-Err-clause-refused
returns-in-Err-clause-refused g c =
    (c.in-Err.bad.why, (refl, violated c.args.raw c.in-Err.bad.why c.in-Err.ensures.all_zero c.in-Err.ensures.relation))
