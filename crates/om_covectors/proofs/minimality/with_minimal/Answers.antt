use Rattle.std.proofs.Common.{ℕ, ◌≡◌, ◌+◌, ◌<◌, List, [], ◌∷◌, ◌++◌, length, take, get_or}
use Rattle.std.proofs.Common.{sym, ◌∙◌, ap, subst}
use Rattle.std.proofs.lemmas.List.{take_more}
use Rattle.std.proofs.lemmas.Bool.{iff_false}
use Rattle.om_signs.specs.declared.sign.Sign.{Sign}
use Rattle.om_covectors.specs.Minimality.{IsMinimal, AreThose}
use Rattle.om_covectors.proofs.MinimalityLaws.{those_taken, those_left}
use Rattle.om_covectors.proofs.minimality.with_minimal.Goals as goal
use Rattle.om_covectors.proofs.minimality.with_minimal.Goals.{then-is_minimal+in_ok-push, else-is_minimal}

module _ (P : List Sign → Type 0) (xs ys zs : List (List Sign)) (k : ℕ) (x : List Sign) (lt : k < length xs)
    (is : x ≡ get_or xs k x) (h : AreThose P (take k xs) ys) where
  one_more : take k xs ++ x ∷ [] ≡ take (k + 1) xs
  one_more = sym (take_more xs k x lt ∙ ap (λ y. take k xs ++ y ∷ []) (sym is))

  taken : P x → zs ≡ ys ++ x ∷ [] → AreThose P (take (k + 1) xs) zs
  taken p e =
      subst (λ l. AreThose P l zs) one_more
      (subst (AreThose P (take k xs ++ x ∷ [])) (sym e) (those_taken P (take k xs) ys x h p))

  left : (P x → ⊥) → zs ≡ ys → AreThose P (take (k + 1) xs) zs
  left p e =
      subst (λ l. AreThose P l zs) one_more
      (subst (AreThose P (take k xs ++ x ∷ [])) (sym e) (those_left P (take k xs) ys x h p))

pub loop-x-preserved : goal.loop-x-preserved
loop-x-preserved c = elim c.if-is_minimal.branch [
  | then-is_minimal+in_ok-push w ↦
      taken (IsMinimal c.args.vectors.now) c.args.vectors.now c.loop-x.minimal c.if-is_minimal.minimal c.loop-x.x-index
      c.x-item.result c.loop-x-test.true c.x-item.is c.loop-x.invariant
      (c.is_minimal.ensures.0 w.if-is_minimal.true) (w.minimal-is ∙ w.in_ok-push.ensures.ok)
  | else-is_minimal w ↦ left (IsMinimal c.args.vectors.now) c.args.vectors.now c.loop-x.minimal c.if-is_minimal.minimal
      c.loop-x.x-index c.x-item.result c.loop-x-test.true c.x-item.is c.loop-x.invariant
      (iff_false c.is_minimal.ensures w.if-is_minimal.false) w.minimal-is
]
