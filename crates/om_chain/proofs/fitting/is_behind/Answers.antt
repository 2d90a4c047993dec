use Rattle.std.proofs.Common.{◌∙◌, refl, sym, arith}
use Rattle.om_chain.proofs.Pairs.{behind_by}
use Rattle.om_chain.proofs.fitting.is_behind.Goals as goal

pub returns-then-len-eq0 : goal.returns-then-len-eq0
returns-then-len-eq0 c =
    let e = c.len-len.ensures in
    let t = c.if-len-eq0.true in
    (λ true one. absurd (omega arith), λ b. refl)

pub is_before-requires-clause-rank : goal.is_before-requires-clause-rank
is_before-requires-clause-rank c = c.in_ok-last.ensures.kind.rank ∙ sym c.requires.rank

pub is_before-requires-clause-elements : goal.is_before-requires-clause-elements
is_before-requires-clause-elements c = c.in_ok-last.ensures.kind.elements ∙ sym c.requires.elements

pub returns : goal.returns
returns c = behind_by c.args.list.now.maps c.args.chi.now c.in_ok-last.last c.len-len.result c.is_before.result
    c.len-len.ensures c.if-len-eq0.false c.in_ok-last.ensures.value c.is_before.ensures
