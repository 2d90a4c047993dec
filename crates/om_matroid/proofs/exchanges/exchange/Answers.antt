use Rattle.std.specs.Prelude.{ℕ, ◌<◌, ◌≤◌, Option, Some, None, MatchOption, IsSome}
use Rattle.std.proofs.Common.{◌+◌, inl, inr, arith, refl, rules, tests, subst}
use Rattle.std.proofs.lemmas.Bool.{cases_lt}
use Rattle.std.proofs.lemmas.Iterator.{first_from_Range, serves_from_Range}
use Rattle.om_subsets.proofs.Order.{members_from}
use Rattle.om_matroid.specs.Bases.{IsExchange}
use Rattle.om_matroid.proofs.ExchangeLaws.{symmetric_exchange}
use Rattle.om_matroid.proofs.exchanges.exchange.Goals as goal
use Rattle.om_matroid.proofs.exchanges.exchange.Goals.{After-find}

pub find-requires-clause-callable : goal.find-requires-clause-callable
find-requires-clause-callable c =
    let bound =
    members_from 1 c.args.chi.now.elements c.args.e c.args.b.elements c.requires.b_basis.list c.requires.inside in
    let size = c.elements.ensures.value in
    serves_from_Range (λ x q k. search (rules, tests))
    (λ x low high.
    let e_high : c.args.e ≤ c.args.chi.now.elements = omega arith in
    let x_high : x ≤ c.args.chi.now.elements = omega arith in search rules)

-- the first element that can take the place of e, if there is one
abbrev IsFound : After-find → Option ℕ → Type 0
IsFound c o = MatchOption o
    ((f : ℕ) → 1 ≤ f → f < c.elements.result + 1
    → IsExchange c.args.chi.now c.args.b.elements c.args.c.elements c.args.e f → ⊥)
    (λ f. (1 ≤ f) × (f < c.elements.result + 1)
    × IsExchange c.args.chi.now c.args.b.elements c.args.c.elements c.args.e f
    × ((g : ℕ) → 1 ≤ g → g < f → IsExchange c.args.chi.now c.args.b.elements c.args.c.elements c.args.e g → ⊥))

found : (c : After-find) → IsFound c c.find.result
found c =
    first_from_Range _ _ _ c.find.result (IsExchange c.args.chi.now c.args.b.elements c.args.c.elements c.args.e)
    (λ f. IsExchange c.args.chi.now c.args.b.elements c.args.c.elements c.args.e f → ⊥) c.find.ensures.ran
    (λ x q k. search (rules, tests)) (λ x q k. search (rules, tests))

-- by exchange of bases, some element can take its place
some_found : (c : After-find) (o : Option ℕ) → IsFound c o → IsSome o
some_found c None none =
    let s = symmetric_exchange c.args.chi.now c.elements.ensures.lawful c.args.b.elements c.args.c.elements c.args.e
    c.requires.b_basis c.requires.c_basis c.requires.inside c.requires.outside in
    let bound = members_from 1 c.args.chi.now.elements s.0 c.args.c.elements c.requires.c_basis.list s.1.inside in
    let size = c.elements.ensures.value in
    absurd (none s.0 (omega arith) (omega arith) s.1)
some_found c (Some f) some = refl

pub unwrap-requires : goal.unwrap-requires
unwrap-requires c = some_found c c.find.result (found c)

pub returns : goal.returns
returns c =
    let first = subst (IsFound c.before) c.unwrap.ensures (found c.before) in
    record {
      exchange = first.2;
      least = λ g x. elim (cases_lt g c.unwrap.result) [
        | inl lt ↦
            let low = members_from 1 c.args.chi.now.elements g c.args.c.elements c.requires.c_basis.list x.inside in
            absurd (first.3 g (omega arith) lt x)
        | inr ge ↦ ge
      ];
    }
