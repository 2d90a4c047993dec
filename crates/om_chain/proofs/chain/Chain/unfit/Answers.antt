use Rattle.std.proofs.Common.{◌≡◌, ◌∙◌, refl, sym, ap, subst}
use Rattle.std.proofs.lemmas.Bool.{false≢true}
use Rattle.om_levels.specs.Families.{IsOfFamily}
use Rattle.om_chain.specs.declared.asked.Asked.{Asked}
use Rattle.om_chain.specs.declared.asked.Asked.TheVariants.{Complete, Exact}
use Rattle.om_chain.specs.declared.unfit.Unfit.TheVariants.{Order, NotLeast}
use Rattle.om_chain.specs.Chains.{ChainOfLists, IsFit, IsUnfit}
use Rattle.om_chain.proofs.chain.Chain.unfit.Goals as goal

not_both : (asked : Asked) → asked ≡ Complete → asked ≡ Exact → ⊥
not_both asked p q = cc

pub returns-in-Some-clause-unfit : goal.returns-in-Some-clause-unfit
returns-in-Some-clause-unfit c =
    c.in-Some.ensures.some c.args.self.now (sym (ap (λ (v : ChainOfLists). v.family) c.self.view_is))

pub is_behind-requires-clause-elements : goal.is_behind-requires-clause-elements
is_behind-requires-clause-elements c =
    c.requires.elements ∙ sym (ap (λ (v : ChainOfLists). v.current.elements) c.self.view_is)

pub returns-then-not-branch-clause-unfit : goal.returns-then-not-branch-clause-unfit
returns-then-not-branch-clause-unfit c =
    let a = c.self.inside in
    let m = c.args.chi.now in
    let e = c.requires.elements ∙ sym (ap (λ (v : ChainOfLists). v.current.elements) c.self.view_is) in
    let member = subst (λ n. IsOfFamily a.family n m) e (c.in_default.ensures.none refl) in
    subst (λ u. IsUnfit u m Order) c.self.view_is (
      c.in-Exact.is,
      member,
      λ b. false≢true (sym c.if-not-branch.true ∙ c.in_ok-is_behind-in-Exact.ensures.1 b),
    )

pub returns-then-not-is_least-clause-unfit : goal.returns-then-not-is_least-clause-unfit
returns-then-not-is_least-clause-unfit c =
    let a = c.self.inside in
    let m = c.args.chi.now in
    let e = c.requires.elements ∙ sym (ap (λ (v : ChainOfLists). v.current.elements) c.self.view_is) in
    let member = subst (λ n. IsOfFamily a.family n m) e (c.in_default.ensures.none refl) in
    subst (λ u. IsUnfit u m NotLeast) c.self.view_is (
      c.in-Exact.is,
      member,
      c.in_ok-is_behind-in-Exact.ensures.0 c.if-not-branch.false,
      λ l. false≢true (sym c.if-not-is_least.true ∙ c.is_least.ensures.1 l),
    )

pub returns-in-Complete-clause-fit : goal.returns-in-Complete-clause-fit
returns-in-Complete-clause-fit c = λ none.
    let a = c.self.inside in
    let m = c.args.chi.now in
    let e = c.requires.elements ∙ sym (ap (λ (v : ChainOfLists). v.current.elements) c.self.view_is) in
    let member = subst (λ n. IsOfFamily a.family n m) e (c.in_default.ensures.none refl) in
    subst (λ u. IsFit u m) c.self.view_is
    (record {
      admitted = record { member = member; least = λ q. absurd (not_both a.asked c.in-Complete.is q) };
      behind = λ q. absurd (not_both a.asked c.in-Complete.is q);
    })

pub returns-else-not-is_least-clause-fit : goal.returns-else-not-is_least-clause-fit
returns-else-not-is_least-clause-fit c = λ none.
    let a = c.self.inside in
    let m = c.args.chi.now in
    let e = c.requires.elements ∙ sym (ap (λ (v : ChainOfLists). v.current.elements) c.self.view_is) in
    let member = subst (λ n. IsOfFamily a.family n m) e (c.in_default.ensures.none refl) in
    subst (λ u. IsFit u m) c.self.view_is
    (record {
      admitted = record { member = member; least = λ q. c.is_least.ensures.0 c.if-not-is_least.false };
      behind = λ q. c.in_ok-is_behind-in-Exact.ensures.0 c.if-not-branch.false;
    })

pub returns-in-Some-clause-fit : goal.returns-in-Some-clause-fit
returns-in-Some-clause-fit c = λ none. absurd (false≢true (sym none))

pub returns-then-not-branch-clause-fit : goal.returns-then-not-branch-clause-fit
returns-then-not-branch-clause-fit c = λ none. absurd (false≢true (sym none))

pub returns-then-not-is_least-clause-fit : goal.returns-then-not-is_least-clause-fit
returns-then-not-is_least-clause-fit c = λ none. absurd (false≢true (sym none))
