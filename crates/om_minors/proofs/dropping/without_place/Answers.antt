use Rattle.std.proofs.Common.{◌≡◌, ◌+◌, ◌-◌, ◌++◌, [], ◌∷◌, List, sym, ◌∙◌, ap, subst}
use Rattle.std.specs.List.{Contains, remove}
use Rattle.std.proofs.lemmas.Bool.{not-true, not-false}
use Rattle.om_signs.specs.declared.sign.Sign.{Sign}
use Rattle.om_convert.proofs.KeyLaws.{contained, not_contained, new_key, old_key}
use Rattle.om_minors.proofs.GatheringLaws.{AreGathered, gathered_kept, gathered_more, gathered_all}
use Rattle.om_minors.proofs.dropping.without_place.Goals as goal
use Rattle.om_minors.proofs.dropping.without_place.Goals.{then-branch+in_ok-push, else-branch}

pub loop-x-preserved : goal.loop-x-preserved
loop-x-preserved c =
    let R : List Sign → List Sign → Type 0 = λ W X. remove W (c.args.e - 1) ≡ X in
    let y = c.drop_place-y.result in
    let made = c.drop_place-y.ensures in
    let inv = c.loop-x.invariant in
    elim c.if-branch.branch [
      | then-branch+in_ok-push w ↦
          let absent = not-true _ (sym c.in_ok-insert.ensures.added ∙ w.if-branch.true) in
          let none = not_contained c.loop-x.seen.keys c.drop_place-y.result absent in
          let pushed = w.list-is ∙ w.in_ok-push.ensures.ok in
          record {
            gathered =
                subst (λ l. AreGathered (λ W X. remove W (c.args.e - 1) ≡ X) c.args.vectors.now l
                (c.loop-x.x-index + 1)) (sym pushed)
                (gathered_more (λ W X. remove W (c.args.e - 1) ≡ X) c.args.vectors.now c.loop-x.x-index c.x-item.result
                c.loop-x-test.true c.x-item.is c.loop-x.list c.drop_place-y.result inv.gathered
                (sym made) (λ X r. sym r ∙ sym made)
                (λ k. none (subst (λ l. Contains l c.drop_place-y.result) (sym inv.keys) k)));
            keys = new_key c.loop-x.seen.keys c.insert.new.self.keys c.drop_place-y.result absent
                c.in_ok-insert.ensures.keys ∙ ap (λ l. l ++ c.drop_place-y.result ∷ []) inv.keys ∙ sym pushed;
          }
      | else-branch w ↦
          let there = not-false _ (sym c.in_ok-insert.ensures.added ∙ w.if-branch.false) in
          let found = contained c.loop-x.seen.keys c.drop_place-y.result there in
          record {
            gathered =
                subst (λ l. AreGathered (λ W X. remove W (c.args.e - 1) ≡ X) c.args.vectors.now l
                (c.loop-x.x-index + 1)) (sym w.list-is)
                (gathered_kept (λ W X. remove W (c.args.e - 1) ≡ X) c.args.vectors.now c.loop-x.x-index c.x-item.result
                c.loop-x-test.true c.x-item.is c.loop-x.list inv.gathered
                (λ X r. subst (Contains c.loop-x.list) (made ∙ r)
                (subst (λ l. Contains l c.drop_place-y.result) inv.keys found)));
            keys = old_key c.loop-x.seen.keys c.insert.new.self.keys c.drop_place-y.result there
                c.in_ok-insert.ensures.keys ∙ inv.keys ∙ sym w.list-is;
          }
    ]

pub returns-clause-members : goal.returns-clause-members
returns-clause-members c = gathered_all (λ W X. remove W (c.args.e - 1) ≡ X) c.args.vectors.now c.loop-x.x-index
    c.loop-x.list c.loop-x-test.false c.loop-x.invariant.gathered
