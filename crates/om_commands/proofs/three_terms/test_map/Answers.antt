use Rattle.std.specs.Prelude.{ℕ, ◌≡◌, ◌↔◌, refl}
use Rattle.om_signs.specs.declared.raw_map.RawMap.{RawMap}
use Rattle.om_subsets.specs.Members.{Chosen}
use Rattle.om_chirotope.specs.Map.{map_of}
use Rattle.om_chirotope.specs.Chirotope.{IsAllZero}
use Rattle.om_chirotope.specs.ThreeTerm.{HasExchange}
use Rattle.om_threeterm.specs.Violations.{IsFirstUnexchanged, IsFirstUnbalanced}
use Rattle.om_threeterm.specs.declared.three_refused.ThreeRefused.{ThreeRefused}
use Rattle.om_threeterm.specs.declared.three_refused.ThreeRefused.TheVariants.{AllZero, NoExchange, ThreeTerm}
use Rattle.om_commands.specs.ThreeTermTests.{IsFirstFailure, fails, meets}
use Rattle.om_commands.proofs.three_terms.test_map.Goals as goal

-- the refusal of the test is the first part that fails
first_failure : (m : RawMap) (why : ThreeRefused) → ((why ≡ AllZero) ↔ IsAllZero m.signs)
    → ((b c : Chosen) (e : ℕ) → why ≡ NoExchange b c e → IsFirstUnexchanged (map_of m) b c e)
    → ((p q : Chosen) → why ≡ ThreeTerm p q → HasExchange (map_of m) × IsFirstUnbalanced (map_of m) p q)
    → IsFirstFailure m why
first_failure m AllZero all_zero exchange relation = all_zero.0 refl
first_failure m (NoExchange b c e) all_zero exchange relation =
    ((λ zero. let same = all_zero.1 zero in cc), exchange b c e refl)
first_failure m (ThreeTerm p q) all_zero exchange relation =
    ((λ zero. let same = all_zero.1 zero in cc), relation p q refl)

pub returns-in-Ok : goal.returns-in-Ok
returns-in-Ok g c = meets (c.in-Ok.ensures.tested.0 refl) (c.in-Ok.ensures.accepted.0 refl)

pub returns : goal.returns
returns g c =
    rw c.failure_line.ensures
    (fails c.in-Err.bad.why
    (first_failure c.args.raw c.in-Err.bad.why c.in-Err.ensures.all_zero c.in-Err.ensures.exchange
    c.in-Err.ensures.relation)
    (λ om. let no = c.in-Err.ensures.accepted.1 om in cc))
