-- Members of minimal support.
--
-- Reference: Björner, Las Vergnas, Sturmfels, White and Ziegler, Oriented Matroids, chapters 3 and 4.
use Rattle.std.specs.Prelude.{◌≡◌, ◌⊎◌, List, [], ◌∷◌}
use Rattle.std.specs.List.{Contains}
use Rattle.om_signs.specs.declared.sign.Sign.{Sign}
use Rattle.om_members.specs.Vectors.{IsZero, HasSupportIn}

-- Y is nonzero, and its support lies strictly in that of X
pub record HasSmallerSupport (Y X : List Sign) : Type 0 where
  pub nonzero : IsZero Y → ⊥
  pub within : HasSupportIn Y X
  pub other : HasSupportIn X Y → ⊥

-- if Y is nonzero and its support lies in that of X, the two supports are the same
abbrev pub HasNoSmallerSupport : List Sign → List Sign → Type 0
HasNoSmallerSupport Y X = (IsZero Y → ⊥) → HasSupportIn Y X → HasSupportIn X Y

-- X is nonzero, and each nonzero member whose support lies in that of X has the same support
pub record IsMinimal (members : List (List Sign)) (X : List Sign) : Type 0 where
  pub nonzero : IsZero X → ⊥
  pub least : (Y : List Sign) → Contains members Y → HasNoSmallerSupport Y X

-- the second list has exactly the vectors of the first that have the property, in their order
abbrev pub AreThose : (List Sign → Type 0) → List (List Sign) → List (List Sign) → Type 0
AreThose P [] ys = ys ≡ []
AreThose P (X ∷ xs) ys = (P X × (zs : List (List Sign)) × (ys ≡ X ∷ zs) × AreThose P xs zs)
    ⊎ ((P X → ⊥) × AreThose P xs ys)
