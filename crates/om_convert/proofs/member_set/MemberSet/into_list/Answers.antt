use Rattle.std.proofs.Common.{ℕ, List, ◌∷◌, [], ◌++◌, ◌≡◌, ◌<◌, ◌+◌, ◌∙◌, ap, sym, subst, get_or, length, take}
use Rattle.std.proofs.lemmas.List.{take_all, take_more}
use Rattle.om_signs.specs.declared.sign.Sign.{Sign}
use Rattle.om_convert.specs.Gathering.{IsMemberSet}
use Rattle.om_convert.proofs.member_set.MemberSet.into_list.Goals as goal

-- the next vector is pushed to the copy of those before it
next_pushed : (xs list new : List (List Sign)) (i : ℕ) (x : List Sign) → i < length xs → x ≡ get_or xs i x
    → list ≡ take i xs → new ≡ list ++ x ∷ [] → new ≡ take (i + 1) xs
next_pushed xs list new i x l e old n =
    n ∙ ap (λ s. s ++ x ∷ []) old ∙ ap (λ y. take i xs ++ y ∷ []) e ∙ sym (take_more xs i x l)

pub loop-x-init : goal.loop-x-init
loop-x-init c = c.new-list.ensures

pub loop-x-preserved : goal.loop-x-preserved
loop-x-preserved c =
    next_pushed c.as_slice-x-items.result.now c.loop-x.list c.push.new.self c.loop-x.x-index c.x-item.result
    c.loop-x-test.true c.x-item.is c.loop-x.invariant c.in_ok-push.ensures.ok

pub returns-clause-value : goal.returns-clause-value
returns-clause-value c = c.loop-x.invariant
    ∙ take_all c.loop-x.x-index c.as_slice-x-items.result.now c.loop-x-test.false ∙ c.as_slice-x-items.ensures.keys
    ∙ c.self.view_is

pub returns-clause-lawful : goal.returns-clause-lawful
returns-clause-lawful c = subst IsMemberSet c.self.view_is c.self.invariant
