use Rattle.std.specs.Prelude.{Option, None, Some, IfSome, IsNone, IsSome}
use Rattle.std.proofs.Common.{refl, subst}
use Rattle.om_subsets.specs.Subsets.{IsMember}
use Rattle.om_matroid.specs.Search.{IsFirstBetween}
use Rattle.om_matroid.proofs.bases.extend_to_basis.Goals as goal

-- what isn't None is Some
some_else : {T : Type 0} (o : Option T) → (IsNone o → ⊥) → IsSome o
some_else None other = absurd (other refl)
some_else (Some x) other = refl

pub unwrap-requires : goal.unwrap-requires
unwrap-requires c =
    let some = c.requires.independent in
    some_else c.first_between.result
    (λ none. c.first_between.ensures.none.0 none some.0
    (record {
      basis = some.1;
      contains = some.2;
      avoids = λ e m _. subst (IsMember e) c.first-nothing.ensures.elements m;
    }))

pub returns-clause-first : goal.returns-clause-first
returns-clause-first c =
    let found =
    subst
    (λ o. IfSome o
    (λ b. IsFirstBetween c.args.chi.now c.args.independent.elements c.first-nothing.result.elements b.elements))
    c.unwrap.ensures c.first_between.ensures.first in
    record {
      basis = found.between.basis;
      contains = found.between.contains;
      first = λ d basis part. found.first d
          (record {
            basis = basis;
            contains = part;
            avoids = λ e m _. subst (IsMember e) c.first-nothing.ensures.elements m;
          });
    }
