use Rattle.std.proofs.Common.{IsNone, IfSome, ◌∙◌, refl, sym, ap, subst}
use Rattle.std.proofs.lemmas.Bool.{false≢true}
use Rattle.std.proofs.lemmas.Result.{err_from_is_err_and}
use Rattle.om_chain.specs.Chains.{ChainOfLists, IsFit, IsUnfit, added}
use Rattle.om_chain.proofs.Steps.{kept_chain, kept_same, pushed_chain, pushed_same}
use Rattle.om_chain.proofs.chain.Chain.add.Goals as goal
use Rattle.om_chain.proofs.chain.Chain.add.Goals.{In_ok-push}

pub invariant_of-self : goal.invariant_of-self
invariant_of-self c =
    let a = c.self.inside in
    let v : ChainOfLists = record { asked = a.asked; family = a.family; shown = a.shown; current = a.current } in
    kept_chain v c.push.new.self c.push.ensures.elements c.in_err-push.ensures.err c.self.invariant

pub returns-in_err-push-clause-err : goal.returns-in_err-push-clause-err
returns-in_err-push-clause-err c =
    let a = c.self.inside in
    let v : ChainOfLists = record { asked = a.asked; family = a.family; shown = a.shown; current = a.current } in
    let p = err_from_is_err_and c.from_residual-in_err-push.result c.from_residual-in_err-push.ensures.1 in
    rw p.1 (kept_same v c.push.new.self c.push.ensures.elements c.in_err-push.ensures.err ∙ c.self.view_is)

-- the chirotope can be the next member
fit : (c : In_ok-push) → IsFit c.args.self.now c.args.chi.now
fit c = c.in_ok-unfit.ensures.fit (subst IsNone (sym c.in_default.is) refl)

pub invariant_of-self-2 : goal.invariant_of-self-2
invariant_of-self-2 c =
    let a = c.self.inside in
    let v : ChainOfLists = record { asked = a.asked; family = a.family; shown = a.shown; current = a.current } in
    let m = c.args.chi.now in
    pushed_chain v c.push.new.self c.push.ensures.elements m c.in_ok-push.ensures.ok c.self.invariant
    (subst (λ u. IsFit u m) (sym c.self.view_is) (fit c))

pub returns-clause-fit : goal.returns-clause-fit
returns-clause-fit c = λ none. fit c

pub returns-clause-added : goal.returns-clause-added
returns-clause-added c = λ none.
    let a = c.self.inside in
    let v : ChainOfLists = record { asked = a.asked; family = a.family; shown = a.shown; current = a.current } in
    let m = c.args.chi.now in
    pushed_same v c.push.new.self c.push.ensures.elements m c.in_ok-push.ensures.ok
    ∙ ap (λ u. added u m) c.self.view_is

pub returns-in-Some-clause-fit : goal.returns-in-Some-clause-fit
returns-in-Some-clause-fit c = λ none. absurd (false≢true (sym none))

pub returns-in-Some-clause-added : goal.returns-in-Some-clause-added
returns-in-Some-clause-added c = λ none. absurd (false≢true (sym none))

pub returns-in-Some-clause-unfit : goal.returns-in-Some-clause-unfit
returns-in-Some-clause-unfit c =
    subst (λ r. IfSome r (IsUnfit c.args.self.now c.args.chi.now)) c.in-Some.is c.in_ok-unfit.ensures.unfit

pub returns-in_err-unfit-clause-err : goal.returns-in_err-unfit-clause-err
returns-in_err-unfit-clause-err c =
    let p = err_from_is_err_and c.from_residual.result c.from_residual.ensures.1 in rw p.1 refl
