use Rattle.std.proofs.Common.{refl, sym, subst}
use Rattle.std.proofs.lemmas.Bool.{false≢true}
use Rattle.om_chirotope.specs.Map.{IsWholeMap, IsMap}
use Rattle.om_chirotope.specs.Chirotope.{IsAllZero}
use Rattle.om_chirotope.proofs.Axioms.{nonzero_value, not_all_zero}
use Rattle.om_threeterm.proofs.checking.first_failure.Goals as goal

pub returns-in-None-clause-none : goal.returns-in-None-clause-none
returns-in-None-clause-none g c =
    let whole : IsMap c.args.map.now = record {
      part = (subst IsWholeMap c.map.view_is c.map.invariant).rank;
      whole =
          (subst IsWholeMap c.map.view_is c.map.invariant).whole;
    } in
    record {
      whole = whole;
      nonzero =
          nonzero_value c.args.map.now whole
          (λ z. false≢true (c.if-is_all_zero.ensures.1 (subst IsAllZero (sym c.as_slice.ensures) (subst (λ m.
          IsAllZero m.signs) (sym c.map.view_is) z))));
      exchange = c.in_default.ensures.none;
      relations = c.in-None.ensures.none;
    }

pub returns-then-is_all_zero-clause-some : goal.returns-then-is_all_zero-clause-some
returns-then-is_all_zero-clause-some g c = λ t.
    not_all_zero c.args.map.now t.whole (subst (λ m. IsAllZero m.signs) c.map.view_is (subst IsAllZero
    c.as_slice.ensures (c.if-is_all_zero.ensures.0 refl)))
    t.nonzero

pub returns-in-Some-clause-some : goal.returns-in-Some-clause-some
returns-in-Some-clause-some g c = λ t.
    let v = c.in-Some.ensures.first.first.violated in
    v.violated (t.exchange _ _ _ v.first v.second v.inside v.outside)

pub returns-in-Some-first_unbalanced-clause-some : goal.returns-in-Some-first_unbalanced-clause-some
returns-in-Some-first_unbalanced-clause-some g c = λ t.
    let v = c.in-Some-first_unbalanced.ensures.first.first.violated.5 in v.violated (t.relations _ _ _ _ _ v.frame)
