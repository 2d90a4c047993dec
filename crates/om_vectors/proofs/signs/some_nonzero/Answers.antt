use Rattle.std.proofs.Common.{◌≢◌, length, rules, tests}
use Rattle.std.proofs.lemmas.Option.{IfSome_then}
use Rattle.om_signs.specs.declared.sign.Sign.TheVariants.{Zero}
use Rattle.om_subsets.proofs.SetChains.{callable_at_sets, finds_first, FindsFirst}
use Rattle.om_vectors.specs.Realizations.{triple_sign}
use Rattle.om_vectors.proofs.Triples.{HasSignZero, none_when_low}
use Rattle.om_vectors.proofs.signs.some_nonzero.Goals as goal

pub find-requires-clause-callable : goal.find-requires-clause-callable
find-requires-clause-callable c =
    callable_at_sets (length c.args.vectors.now) 3 c.all.ensures.sets (λ x q k. search (rules, tests))
    (λ x set. let n = set.n_is in let s = set.size in search rules)

-- the call of `find` gives the first triple whose product isn't zero
found : (c : goal.After-find) → FindsFirst (length c.args.vectors.now) 3 (λ t. triple_sign c.args.vectors.now t ≢ Zero)
    (HasSignZero c.args.vectors.now) c.find.result
found c =
    finds_first (length c.args.vectors.now) 3 (λ t. triple_sign c.args.vectors.now t ≢ Zero)
    (HasSignZero c.args.vectors.now) c.all.ensures.sets _ _ c.find.result c.find.ensures.ran
    (λ x q k. search (rules, tests)) (λ x q k. search (rules, tests))

pub returns-clause-none : goal.returns-clause-none
returns-clause-none c = none_when_low c.args.vectors.now c.find.result (found c)

pub returns-clause-triple : goal.returns-clause-triple
returns-clause-triple c =
    IfSome_then c.find.result (found c).first (λ x h. record { list = h.set.list; size = h.set.size })

pub returns-clause-nonzero : goal.returns-clause-nonzero
returns-clause-nonzero c = IfSome_then c.find.result (found c).first (λ x h. h.yes)
