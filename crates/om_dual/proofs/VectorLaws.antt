-- The covectors of the dual are the vectors.
--
-- Main results: vectors_both, dual_of_vectors.
use Rattle.std.proofs.Common.{ℕ, ◌≡◌, ◌↔◌, List, sym, subst, ◌∙◌}
use Rattle.om_signs.specs.declared.sign.Sign.{Sign}
use Rattle.om_chirotope.specs.Map.{SignMap}
use Rattle.om_denotation.specs.Covectors.{IsCovectorOfChirotope}
use Rattle.om_denotation.specs.Denotation.{DenoteTheSame}
use Rattle.om_denotation.specs.Operations.{IsDual}
use Rattle.om_denotation.specs.Vectors.{IsVectorOf}

module _ (n : ℕ) (P : List Sign → Type 0) (m d : SignMap) (q : m.elements ≡ n) (e : d.elements ≡ m.elements)
    (same : DenoteTheSame n P (IsCovectorOfChirotope m))
    (dual : IsDual m.elements (IsCovectorOfChirotope m) (IsCovectorOfChirotope d)) where
  at_n : IsDual n (IsCovectorOfChirotope m) (IsCovectorOfChirotope d)
  at_n = subst (λ k. IsDual k (IsCovectorOfChirotope m) (IsCovectorOfChirotope d)) q dual

  pub vectors_both : (Y : List Sign) → IsCovectorOfChirotope d Y ↔ IsVectorOf n P Y
  vectors_both Y = (
    λ y. let l = y.size ∙ e ∙ q in (l, λ Z lz z. (at_n Y l).0 y Z lz ((same Z lz).0 z)),
    λ v. (at_n Y v.0).1 (λ Z lz z. v.1 Z lz ((same Z lz).1 z)),
  )

  pub dual_of_vectors : (Q : List Sign → Type 0) → DenoteTheSame d.elements (IsCovectorOfChirotope d) Q → IsDual n P Q
  dual_of_vectors Q other Y l = (
    λ y. ((vectors_both Y).0 ((other Y (l ∙ sym (e ∙ q))).1 y)).1,
    λ all. (other Y (l ∙ sym (e ∙ q))).0 ((vectors_both Y).1 (l, all)),
  )
