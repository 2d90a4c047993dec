use Rattle.std.specs.List.{Contains}
use Rattle.std.proofs.Common.{◌≡◌, true, false, refl, sym, ◌∙◌, subst}
use Rattle.om_members.proofs.ScanLaws.{nth_read, contains_nth}
use Rattle.om_convert.proofs.SameMembers.{equal_numbers, same_members, contained_more, contained_all}
use Rattle.om_convert.proofs.member_set.MemberSet.is_set_of.Goals as goal

pub returns-then-len-list : goal.returns-then-len-list
returns-then-len-list c = (
  λ f. let q : false ≡ true = f in cc,
  λ h. absurd
      (c.if-len-list.true
      (c.len.ensures.value ∙ equal_numbers c.args.self.now c.args.list.now c.len.ensures.lawful.distinct c.requires h)),
)

pub returns-then-not-contains : goal.returns-then-not-contains
returns-then-not-contains c = (
  λ f. let q : false ≡ true = f in cc,
  λ h.
      let here =
      subst (Contains c.args.list.now)
      (nth_read c.args.list.now c.loop-x.x-index c.x-item.result c.loop-x-test.true c.x-item.is)
      (contains_nth c.args.list.now c.loop-x.x-index c.loop-x-test.true) in
      let q : false ≡ true = sym c.if-not-contains.true ∙ c.contains.ensures.1 ((h c.x-item.result).1 here) in
      cc,
)

pub loop-x-preserved : goal.loop-x-preserved
loop-x-preserved c = contained_more c.args.self.now c.args.list.now c.loop-x.x-index c.x-item.result c.loop-x-test.true
    c.x-item.is c.loop-x.invariant (c.contains.ensures.0 c.if-not-contains.false)

pub returns : goal.returns
returns c = (
  λ _. same_members c.args.self.now c.args.list.now c.requires (sym c.len.ensures.value ∙ c.if-len-list.false)
      (contained_all c.args.self.now c.args.list.now c.loop-x.x-index c.loop-x-test.false c.loop-x.invariant),
  λ _. refl,
)
