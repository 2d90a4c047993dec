use Rattle.std.proofs.Common.{◌≢◌, refl, sym, rules, tests}
use Rattle.std.proofs.lemmas.Option.{IfSome_then}
use Rattle.om_subsets.proofs.SetChains.{all_sets_of, callable_at_sets, finds_first, FindsFirst}
use Rattle.om_chirotope.specs.Map.{chi_of}
use Rattle.om_vectors.specs.Realizations.{triple_sign}
use Rattle.om_vectors.proofs.Triples.{HasItsSign, none_when_realized}
use Rattle.om_vectors.proofs.realizing.first_other.Goals as goal
use Rattle.om_vectors.proofs.realizing.first_other.Goals.{After-find}

pub find-requires-clause-callable : goal.find-requires-clause-callable
find-requires-clause-callable c =
    callable_at_sets c.args.chi.now.elements 3
    (all_sets_of {r = 3} {q = 3} c.all.ensures.sets c.elements.ensures.value refl) (λ x q k. search (rules, tests))
    (λ x set. let n = set.n_is in let s = set.size in let r = c.requires.rank in let e = c.requires.elements in
    search rules)

-- the call of `find` gives the first triple with another sign
found : (c : After-find) → FindsFirst c.args.chi.now.elements 3
    (λ t. triple_sign c.args.vectors.now t ≢ chi_of c.args.chi.now t) (HasItsSign c.args.vectors.now c.args.chi.now)
    c.find.result
found c =
    finds_first c.args.chi.now.elements 3 (λ t. triple_sign c.args.vectors.now t ≢ chi_of c.args.chi.now t)
    (HasItsSign c.args.vectors.now c.args.chi.now)
    (all_sets_of {r = 3} {q = 3} c.all.ensures.sets c.elements.ensures.value refl) _ _ c.find.result c.find.ensures.ran
    (λ x q k. search (rules, tests)) (λ x q k. search (rules, tests))

pub returns-clause-none : goal.returns-clause-none
returns-clause-none c =
    none_when_realized c.args.vectors.now c.args.chi.now c.find.result c.requires.rank (sym c.requires.elements)
    (found c)

pub returns-clause-first : goal.returns-clause-first
returns-clause-first c = IfSome_then c.find.result (found c).first
    (λ s h. record {
      n = h.set.n_is;
      triple = record { list = h.set.list; size = h.set.size };
      other = h.yes;
      earlier = λ t i b. h.earlier t i.list i.size b;
    })
