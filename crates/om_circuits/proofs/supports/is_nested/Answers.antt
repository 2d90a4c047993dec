use Rattle.std.proofs.Common.{◌≡◌, ◌≢◌, ◌↔◌, List, Bool, true, false, not, IsTrue, MatchBool, refl, sym, ◌∙◌, inl, inr}
use Rattle.std.proofs.lemmas.Bool.{eqb-true, both_ways, not-true, not-false}
use Rattle.om_signs.specs.declared.sign.Sign.{Sign}
use Rattle.om_members.specs.Vectors.{negated, HasSupportIn}
use Rattle.om_circuits.specs.Instances.{IsNestedIn}
use Rattle.om_circuits.specs.Scans.{IsUnnestedIn}
use Rattle.om_members.proofs.MaskLaws.{support_test}
use Rattle.om_circuits.proofs.supports.is_nested.Goals as goal
use Rattle.om_circuits.proofs.supports.is_nested.Goals.{then-support-eq0, else-support-eq0}

-- the last test: whether the two are negatives
negatives : (xs ys ns : List Sign) (s : Bool) → HasSupportIn xs ys → xs ≢ ys → ns ≡ negated ys → (IsTrue s ↔ (xs ≡ ns))
    → MatchBool (not s) (IsNestedIn xs ys) (IsUnnestedIn xs ys)
negatives xs ys ns true h n e o = λ _. inr (o.0 refl ∙ e)
negatives xs ys ns false h n e o =
    record { within = h; other = n; not_negative = λ d. let q : false ≡ true = o.1 (d ∙ sym e) in cc }

unnested : (v : Bool) (xs ys : List Sign) → v ≡ false → IsUnnestedIn xs ys
    → MatchBool v (IsNestedIn xs ys) (IsUnnestedIn xs ys)
unnested true xs ys e h = cc
unnested false xs ys e h = h

pub returns-then-not-are_same : goal.returns-then-not-are_same
returns-then-not-are_same c = elim c.if-support-eq0.branch [
  | then-support-eq0 w ↦
      negatives c.args.x c.args.y c.neg.result c.are_same-then-not-are_same.result
      ((support_test c.args.x c.args.y c.support.result c.support-2.result c.support.type_inv c.support-2.type_inv
      c.support.ensures c.support-2.ensures).0 w.if-support-eq0.true)
      (λ e. both_ways w.are_same.result (not-true w.are_same.result (sym w.value-is ∙ c.if-not-are_same.true))
      (w.are_same.ensures.1 e))
      c.neg.ensures
      c.are_same-then-not-are_same.ensures
  | else-support-eq0 w ↦ absurd (w.if-support-eq0.false (eqb-true _ 0 (sym w.value-is ∙ c.if-not-are_same.true)))
]

pub returns-else-not-are_same : goal.returns-else-not-are_same
returns-else-not-are_same c =
    unnested c.if-support-eq0.value c.args.x c.args.y c.if-not-are_same.false (elim c.if-support-eq0.branch [
      | then-support-eq0 w ↦
          λ _. inl (w.are_same.ensures.0 (not-false w.are_same.result (sym w.value-is ∙ c.if-not-are_same.false)))
      | else-support-eq0 w ↦
          λ h. absurd
          (w.if-support-eq0.false
          ((support_test c.args.x c.args.y c.support.result c.support-2.result c.support.type_inv c.support-2.type_inv
          c.support.ensures c.support-2.ensures).1 h))
    ])
