use Rattle.std.proofs.Common.{◌<◌, ◌+◌, ◌∙◌, sym, ap, subst}
use Rattle.om_signs.specs.declared.limits.TheConstants.{MAX_ELEMENTS}
use Rattle.om_levels.specs.Levels.{Members}
use Rattle.om_levels.specs.Steps.{IsVerdict}
use Rattle.om_chain.specs.declared.gap.Gap.TheVariants.{Missing, Unmet, TooMany}
use Rattle.om_chain.specs.Chains.{ChainOfLists, IsClosed, IsGap}
use Rattle.om_chain.proofs.Steps.{after, closed_chain, is_closed}
use Rattle.om_chain.proofs.chain.Chain.close.Goals as goal

pub invariant_of-self : goal.invariant_of-self
invariant_of-self g c =
    let a = c.self.inside in
    let v : ChainOfLists = record { asked = a.asked; family = a.family; shown = a.shown; current = a.current } in
    let room : a.current.elements < MAX_ELEMENTS =
    subst (λ (u : ChainOfLists). u.current.elements < MAX_ELEMENTS) (sym c.self.view_is) c.requires.room in
    let more = ap (λ (l : Members). l.elements) c.replace.ensures.after ∙ c.new-next.ensures.elements
    ∙ ap (λ k. k + 1) c.elements.ensures.value in
    let empty = ap (λ (l : Members). l.maps) c.replace.ensures.after ∙ c.new-next.ensures.maps in
    closed_chain v c.replace.result c.replace.new.dest c.self.invariant room
    (c.in_ok-next_level.ensures.complete c.in-Complete.is) c.replace.ensures.value more empty

pub returns-in-Complete-clause-closed : goal.returns-in-Complete-clause-closed
returns-in-Complete-clause-closed g c = λ none.
    let a = c.self.inside in
    let v : ChainOfLists = record { asked = a.asked; family = a.family; shown = a.shown; current = a.current } in
    let room : a.current.elements < MAX_ELEMENTS =
    subst (λ (u : ChainOfLists). u.current.elements < MAX_ELEMENTS) (sym c.self.view_is) c.requires.room in
    let more = ap (λ (l : Members). l.elements) c.replace.ensures.after ∙ c.new-next.ensures.elements
    ∙ ap (λ k. k + 1) c.elements.ensures.value in
    let empty = ap (λ (l : Members). l.maps) c.replace.ensures.after ∙ c.new-next.ensures.maps in
    subst (λ u. IsClosed u (after v c.replace.result c.replace.new.dest)) c.self.view_is
    (is_closed v c.replace.result c.replace.new.dest c.self.invariant room
    (c.in_ok-next_level.ensures.complete c.in-Complete.is) c.replace.ensures.value more empty)

pub returns-in-Missing-clause-gap : goal.returns-in-Missing-clause-gap
returns-in-Missing-clause-gap g c =
    let a = c.self.inside in
    subst (λ u. IsGap u (Missing c.in-Missing.member c.in-Missing.signature)) c.self.view_is
    (subst (IsVerdict a.family a.shown a.current) c.in-Missing.is c.in_ok-next_level.ensures.verdict)

pub returns-in-Unmet-clause-gap : goal.returns-in-Unmet-clause-gap
returns-in-Unmet-clause-gap g c =
    let a = c.self.inside in
    subst (λ u. IsGap u (Unmet c.in-Unmet.member)) c.self.view_is
    (subst (IsVerdict a.family a.shown a.current) c.in-Unmet.is c.in_ok-next_level.ensures.verdict)

pub returns-in-TooMany-clause-gap : goal.returns-in-TooMany-clause-gap
returns-in-TooMany-clause-gap g c =
    let a = c.self.inside in
    subst (λ u. IsGap u (TooMany c.in-TooMany.member)) c.self.view_is
    (subst (IsVerdict a.family a.shown a.current) c.in-TooMany.is c.in_ok-next_level.ensures.verdict)
