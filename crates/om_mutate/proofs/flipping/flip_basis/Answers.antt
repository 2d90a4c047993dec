use Rattle.std.proofs.Common.{◌≡◌, ◌∙◌, ap, false, true, refl, rules, subst, sym}
use Rattle.om_subsets.specs.Subsets.{IsTriple}
use Rattle.om_chirotope.specs.Map.{map_of}
use Rattle.om_chirotope.specs.Chirotope.{IsChirotope, HasOrthogonalPairs}
use Rattle.om_mutate.specs.Mutations.{flipped}
use Rattle.om_mutate.proofs.FlipLaws.{flipped_axioms, flipped_twice}
use Rattle.om_mutate.proofs.flipping.flip_basis.Goals as goal
use Rattle.om_mutate.proofs.flipping.flip_basis.Goals.{After-turn, After-turn-in-Some}

triple : (c : After-turn) → IsTriple c.args.chi.elements c.args.triple.elements
triple c = subst (λ m. IsTriple m.elements c.args.triple.elements) c.into_raw-raw.ensures.value c.turn.ensures.triple

-- the sign is negated
turned : (c : After-turn) → map_of c.turn.new.raw ≡ flipped c.args.chi c.args.triple.elements
turned c = c.turn.ensures.turned ∙ ap (λ m. flipped m c.args.triple.elements) c.into_raw-raw.ensures.value

-- and negated once more
restored : (c : After-turn-in-Some) → map_of c.turn-in-Some.new.raw ≡ c.args.chi
restored c =
    let w = c.before.before.before.before.before in
    c.turn-in-Some.ensures.turned ∙ ap (λ m. flipped m c.args.triple.elements) (turned w)
    ∙ flipped_twice _ _ c.into_raw-raw.ensures.lawful.whole c.requires.rank (triple w)

pub lawful-requires-clause-axioms : goal.lawful-requires-clause-axioms
lawful-requires-clause-axioms c =
    let w = (goal.at.lawful-requires-clause-axioms c).After-turn in
    subst IsChirotope (sym (turned w))
    (flipped_axioms _ _ c.into_raw-raw.ensures.lawful.whole c.requires.rank (triple w) c.requires.basis
    (subst HasOrthogonalPairs (turned w) (c.in-None.ensures.none.0 refl)))

pub lawful-requires-in-Some-clause-axioms : goal.lawful-requires-in-Some-clause-axioms
lawful-requires-in-Some-clause-axioms c = subst IsChirotope (sym (restored c)) c.into_raw-raw.ensures.lawful

pub returns-in-Some-clause-accepted : goal.returns-in-Some-clause-accepted
returns-in-Some-clause-accepted c =
    let w = (goal.at.returns-in-Some-clause-accepted c).After-turn in (
      λ d. let k : false ≡ true = d in cc k,
      λ h. absurd
          (c.in-Some.ensures.first.violated
          (subst HasOrthogonalPairs (sym (turned w)) h.axioms.orthogonal _ _ c.in-Some.ensures.first.pair)),
    )

pub returns-in-Some-clause-unchanged : goal.returns-in-Some-clause-unchanged
returns-in-Some-clause-unchanged c =
    c.lawful-in-Some.ensures ∙ restored (goal.at.returns-in-Some-clause-unchanged c).After-turn-in-Some

pub returns-in-Some-clause-refused : goal.returns-in-Some-clause-refused
returns-in-Some-clause-refused c =
    let e = turned (goal.at.returns-in-Some-clause-refused c).After-turn in search (rules, e)
