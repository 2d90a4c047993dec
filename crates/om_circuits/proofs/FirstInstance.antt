-- A list has one first violated instance at most.
--
-- Main results: one_first.
use Rattle.std.proofs.Common.{◌≡◌, List, refl, inl, inr}
use Rattle.std.specs.Prelude.{max}
use Rattle.om_signs.specs.declared.sign.Sign.{Sign}
use Rattle.om_members.proofs.OrderLaws.{IsKey, ordered_keys}
use Rattle.om_circuits.specs.declared.set_refused.SetRefused.{SetRefused}
use Rattle.om_circuits.specs.declared.set_refused.SetRefused.TheVariants.{Zero, NoNegative, Nested, NoElimination}
use Rattle.om_circuits.specs.Instances.{key, IsFirstViolated}

keyed : (a : SetRefused) → IsKey (λ k. max 1 k) (key a)
keyed (Zero i) = refl
keyed (NoNegative i) = refl
keyed (Nested i j) = refl
keyed (NoElimination i j e) = refl

-- an instance is known by its key
same_key : (a b : SetRefused) → key a ≡ key b → a ≡ b
same_key (Zero i) (Zero k) e = cc
same_key (NoNegative i) (NoNegative k) e = cc
same_key (Nested i j) (Nested k l) e = cc
same_key (NoElimination i j x) (NoElimination k l y) e = cc
same_key a b e = cc

pub one_first : (members : List (List Sign)) (a b : SetRefused) → IsFirstViolated members a → IsFirstViolated members b
    → a ≡ b
one_first members a b f g = elim (ordered_keys (λ k. max 1 k) (key a) (key b) (keyed a) (keyed b)) [
  | inl before ↦ absurd (g.first a before f.violated)
  | inr (inl after) ↦ absurd (f.first b after g.violated)
  | inr (inr same) ↦ same_key a b same
]
