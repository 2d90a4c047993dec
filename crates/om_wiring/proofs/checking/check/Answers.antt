use Rattle.std.proofs.Common.{rules, subst}
use Rattle.std.proofs.lemmas.Bool.{false≢true}
use Rattle.om_wiring.specs.Wirings.{IsWiring}
use Rattle.om_wiring.specs.Refusals.{IsRefusal}
use Rattle.om_wiring.proofs.RefusalLaws.{refused_is_none}
use Rattle.om_wiring.proofs.checking.check.Goals as goal

pub lawful-requires-clause-wiring : goal.lawful-requires-clause-wiring
lawful-requires-clause-wiring c = subst (IsWiring c.args.elements) c.as_slice.ensures c.in-None.ensures.none

pub returns-in-None-clause-accepted : goal.returns-in-None-clause-accepted
returns-in-None-clause-accepted c = (
  λ ok. subst (IsWiring c.args.elements) c.as_slice.ensures c.in-None.ensures.none,
  λ w. search rules,
)

pub returns-in-Some-clause-refused : goal.returns-in-Some-clause-refused
returns-in-Some-clause-refused c =
    subst (λ bs. IsRefusal c.args.elements bs c.in-Some.why) c.as_slice.ensures c.in-Some.ensures.some

pub returns-in-Some-clause-accepted : goal.returns-in-Some-clause-accepted
returns-in-Some-clause-accepted c = (
  λ ok. absurd (false≢true ok),
  λ w. absurd (refused_is_none c.args.elements c.args.blocks c.in-Some.why
      (subst (λ bs. IsRefusal c.args.elements bs c.in-Some.why) c.as_slice.ensures c.in-Some.ensures.some) w),
)
