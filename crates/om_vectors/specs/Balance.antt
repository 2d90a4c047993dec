-- Sums of finitely many integers, and the signs of their terms.
use Rattle.std.specs.Prelude.{◌≡◌, ◌⊎◌, List, [], ◌∷◌, ℤ, pos, ◌+ℤ◌}
use Rattle.om_signs.specs.declared.sign.Sign.{Sign}
use Rattle.om_vectors.specs.WholeVectors.{sign_of}

-- the sum of some integers
abbrev pub total : List ℤ → ℤ
total [] = pos 0
total (z ∷ zs) = z +ℤ total zs

-- some of the numbers has this sign
abbrev pub HasSign : List ℤ → Sign → Type 0
HasSign [] s = ⊥
HasSign (z ∷ zs) s = (sign_of z ≡ s) ⊎ HasSign zs s
