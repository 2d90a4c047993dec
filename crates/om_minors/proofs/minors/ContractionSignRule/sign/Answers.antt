use Rattle.std.proofs.Common.{sym, ◌∙◌, ap, arith, subst, ◌≡◌, ◌+◌, ◌-◌}
use Rattle.std.proofs.lemmas.Bool.{false≢true}
use Rattle.om_signs.specs.Sign.{opposite}
use Rattle.om_subsets.specs.Subsets.{IsSubsetFrom}
use Rattle.om_minors.proofs.Skips.{behind_even, behind_odd, behind_size}
use Rattle.om_minors.proofs.minors.ContractionSignRule.sign.Goals as goal

pub at-sign-requires-clause-size : goal.at-sign-requires-clause-size
at-sign-requires-clause-size c =
    let o = c.skipping-others.ensures in
    behind_size c.args.self.now.e c.args.s.elements c.skipping-others.result.elements c.with.result.elements
    c.args.self.now.chi.now.rank o.elements c.with.ensures.elements (o.size ∙ c.requires.size) c.requires.valid.3

pub returns-then-odd_after : goal.returns-then-odd_after
returns-then-odd_after c =
    let o = c.skipping-others.ensures in
    let low = c.requires.valid.1 in
    let high = c.requires.valid.2 in
    let back : c.args.self.now.chi.now.elements - 1 + 1 ≡ c.args.self.now.chi.now.elements = omega (arith, low, high) in
    let n = o.n ∙ ap (λ k. k + 1) c.requires.n ∙ back in
    behind_odd c.args.self.now.chi.now c.args.self.now.e c.args.s.elements c.skipping-others.result.elements
    c.with.result.elements c.neg.result o.elements
    (subst (λ k. IsSubsetFrom 1 k c.skipping-others.result.elements) n o.lawful) c.with.ensures.elements
    (subst (λ k. IsSubsetFrom 1 k c.with.result.elements) (c.with.ensures.n ∙ n) c.with.ensures.lawful)
    (c.odd_after.ensures.0 c.if-odd_after.true) (c.neg.ensures ∙ ap opposite c.at-sign.ensures.value)

pub returns-else-odd_after : goal.returns-else-odd_after
returns-else-odd_after c =
    let o = c.skipping-others.ensures in
    let low = c.requires.valid.1 in
    let high = c.requires.valid.2 in
    let back : c.args.self.now.chi.now.elements - 1 + 1 ≡ c.args.self.now.chi.now.elements = omega (arith, low, high) in
    let n = o.n ∙ ap (λ k. k + 1) c.requires.n ∙ back in
    behind_even c.args.self.now.chi.now c.args.self.now.e c.args.s.elements c.skipping-others.result.elements
    c.with.result.elements c.at-sign.result o.elements
    (subst (λ k. IsSubsetFrom 1 k c.skipping-others.result.elements) n o.lawful) c.with.ensures.elements
    (subst (λ k. IsSubsetFrom 1 k c.with.result.elements) (c.with.ensures.n ∙ n) c.with.ensures.lawful)
    (λ odd. false≢true (sym c.if-odd_after.false ∙ c.odd_after.ensures.1 odd)) c.at-sign.ensures.value
