use Rattle.std.proofs.Common.{refl, inl, inr, [], ◌∷◌}
use Rattle.om_vectors.proofs.TripleSigns.{realized_value}
use Rattle.om_vectors.proofs.laws.values_of_a_realized_map.Goals as goal

pub returns : goal.returns
returns c = λ vs m h x y z w. realized_value vs m h (x ∷ y ∷ z ∷ [])
    (record { size = refl; within = (w x (inl refl), (w y (inr (inl refl)), (w z (inr (inr (inl refl))), tt))) })
