use Rattle.om_chirotope.specs.Marks.{IsMarked}
use Rattle.std.proofs.Common.{sym, ◌^◌, ◌*◌, ◌≤◌, length, subst, arith, refl}
use Rattle.std.proofs.lemmas.Bool.{false≢true}
use Rattle.om_chirotope.specs.Map.{IsWholeMap}
use Rattle.om_chirotope.proofs.SupportMarks.{met_of_mark, met_of_zero, not_met, off_support, off_support_lt}
use Rattle.om_chirotope.proofs.exchange.is_met.Goals as goal

pub is_marked-requires : goal.is_marked-requires
is_marked-requires c =
    let small = off_support_lt c.map.inside.raw.now.elements c.support-support.result c.map.invariant.high in
    let room = subst (λ m. 2 ^ m.elements ≤ 64 * length c.args.marks.now) (sym c.map.view_is) c.requires.marked.room in
    omega (arith, small, room)

pub returns-then-support-eq0 : goal.returns-then-support-eq0
returns-then-support-eq0 c = (
  λ t. met_of_zero c.args.map.now c.args.u c.support-support.result c.requires.length
      c.support-support.ensures c.if-support-eq0.true,
  λ h. refl,
)

pub returns-then-is_marked : goal.returns-then-is_marked
returns-then-is_marked c = (
  λ t. absurd (false≢true t),
  λ met. absurd
      (not_met c.args.map.now c.args.u c.support-support.result (subst IsWholeMap c.map.view_is c.map.invariant).high
      c.requires.length
      c.support-support.ensures c.if-support-eq0.false
      (c.requires.marked.only (off_support c.args.map.now.elements c.support-support.result)
      (subst (λ m. IsMarked c.args.marks.now (off_support m.elements c.support-support.result)) c.map.view_is
      (c.if-is_marked.ensures.0 refl))) met),
)

pub returns : goal.returns
returns c = (
  λ t. met_of_mark c.args.map.now c.args.marks.now c.args.u c.support-support.result (subst IsWholeMap c.map.view_is
      c.map.invariant).high
      c.requires.length c.support-support.ensures c.requires.marked (λ h. false≢true (c.if-is_marked.ensures.1
      (subst (λ m. IsMarked c.args.marks.now (off_support m.elements c.support-support.result)) (sym c.map.view_is)
      h))),
  λ h. refl,
)
