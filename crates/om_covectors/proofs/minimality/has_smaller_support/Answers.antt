use Rattle.std.proofs.Common.{◌≡◌, ◌↔◌, List, Bool, true, false, not, IsTrue, MatchBool, nat_eq, bit_and, ◌-◌, refl}
use Rattle.std.proofs.Common.{sym, ◌∙◌}
use Rattle.std.proofs.lemmas.Bool.{eq-eqb, eqb-true, both_ways}
use Rattle.om_signs.specs.declared.sign.Sign.{Sign}
use Rattle.om_members.specs.Vectors.{IsZero, HasSupportIn}
use Rattle.om_covectors.specs.Minimality.{HasSmallerSupport, HasNoSmallerSupport}
use Rattle.om_members.proofs.MaskLaws.{zero_support, support_test}
use Rattle.om_covectors.proofs.minimality.has_smaller_support.Goals as goal
use Rattle.om_covectors.proofs.minimality.has_smaller_support.Goals.{then-inner-ne0, else-inner-ne0}

-- the last test: whether the supports are the same
strictly : (ys xs : List Sign) (t : Bool) → (IsTrue t ↔ HasSupportIn xs ys) → (IsZero ys → ⊥) → HasSupportIn ys xs
    → MatchBool (not t) (HasSmallerSupport ys xs) (HasNoSmallerSupport ys xs)
strictly ys xs true h n w = λ _ _. h.0 refl
strictly ys xs false h n w = record { nonzero = n; within = w; other = λ d. let q : false ≡ true = h.1 d in cc }

not_smaller : (v : Bool) (ys xs : List Sign) → v ≡ false → HasNoSmallerSupport ys xs
    → MatchBool v (HasSmallerSupport ys xs) (HasNoSmallerSupport ys xs)
not_smaller true ys xs e h = cc
not_smaller false ys xs e h = h

not_zero : (t v : Bool) → v ≡ not t → v ≡ true → t ≡ true → ⊥
not_zero true v e o z = let q : false ≡ true = sym e ∙ o in cc
not_zero false v e o z = cc

pub returns-then-inner-outer-eq0 : goal.returns-then-inner-outer-eq0
returns-then-inner-outer-eq0 c = elim c.if-inner-ne0.branch [
  | then-inner-ne0 w ↦
      let back = support_test c.args.x c.args.y c.support-outer.result c.support-inner.result c.support-outer.type_inv
      c.support-inner.type_inv c.support-outer.ensures c.support-inner.ensures in
      strictly c.args.y c.args.x (nat_eq (bit_and c.support-outer.result (4294967295 - c.support-inner.result)) 0)
      (λ t. back.0 (eqb-true _ 0 t), λ h. eq-eqb _ 0 (back.1 h))
      (λ z. w.if-inner-ne0.true ((zero_support c.args.y c.support-inner.result c.support-inner.ensures).1 z))
      ((support_test c.args.y c.args.x c.support-inner.result c.support-outer.result c.support-inner.type_inv
      c.support-outer.type_inv c.support-inner.ensures c.support-outer.ensures).0
      (eqb-true _ 0 (sym w.value-is ∙ c.if-inner-outer-eq0.true)))
  | else-inner-ne0 w ↦
      absurd (not_zero (nat_eq c.support-inner.result 0) c.if-inner-ne0.value w.value-is c.if-inner-outer-eq0.true
      (eq-eqb _ 0 w.if-inner-ne0.false))
]

pub returns-else-inner-outer-eq0 : goal.returns-else-inner-outer-eq0
returns-else-inner-outer-eq0 c =
    not_smaller c.if-inner-ne0.value c.args.y c.args.x c.if-inner-outer-eq0.false (elim c.if-inner-ne0.branch [
      | then-inner-ne0 w ↦ λ n h. absurd (both_ways _ (sym w.value-is ∙ c.if-inner-outer-eq0.false)
          (eq-eqb _ 0
          ((support_test c.args.y c.args.x c.support-inner.result c.support-outer.result c.support-inner.type_inv
          c.support-outer.type_inv c.support-inner.ensures c.support-outer.ensures).1 h)))
      | else-inner-ne0 w ↦
          λ n h. absurd (n ((zero_support c.args.y c.support-inner.result c.support-inner.ensures).0
          w.if-inner-ne0.false))
    ])
