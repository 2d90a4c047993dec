-- The maps of deletions, contractions and reorientations.
--
-- Reference: Björner, Las Vergnas, Sturmfels, White and Ziegler, Oriented Matroids, chapters 3 and 4.
use Rattle.std.specs.Prelude.{ℕ, ◌≡◌, ◌+◌, ◌-◌, Bool, nat_eq}
use Rattle.std.specs.Int.{bit_at}
use Rattle.om_signs.specs.declared.sign.Sign.TheVariants.{Plus}
use Rattle.om_laws.specs.Minors.{deletion, contraction}
use Rattle.om_laws.specs.Reorientation.{reoriented}
use Rattle.om_chirotope.specs.Map.{SignMap, IsLedBy, chi_of, value_of}
use Rattle.om_matroid.specs.Bases.{IsColoop, IsLoop}
use Rattle.om_denotation.specs.Covectors.{IsCovectorOfChirotope}
use Rattle.om_denotation.specs.Maps.{IsNormalFormOf, map_by}
use Rattle.om_denotation.specs.Operations.{IsContraction, IsDeletion}

-- the signs of the lists without e, with the elements after e moved down by one
abbrev pub deleted : ℕ → SignMap → SignMap
deleted e m = map_by m.rank (m.elements - 1) (deletion e (value_of m))

-- the values of the tuples that end with e, with the elements after e moved down by one
abbrev pub contracted : ℕ → SignMap → SignMap
contracted e m = map_by (m.rank - 1) (m.elements - 1) (contraction e (value_of m))

-- the normal chirotope of the deletion of e, where other elements are left
pub record IsNormalDeletion (e : ℕ) (m d : SignMap) : Type 0 where
  pub elements : d.elements + 1 ≡ m.elements
  pub deletion : IsDeletion m.elements e (IsCovectorOfChirotope m) (IsCovectorOfChirotope d)
  pub normal : IsLedBy Plus d.signs
  pub value : (IsColoop m e → ⊥) → IsNormalFormOf (deleted e m) d
  pub at_coloop : IsColoop m e → IsNormalFormOf (contracted e m) d
  pub rank : (IsColoop m e → ⊥) → d.rank ≡ m.rank
  pub rank_at_coloop : IsColoop m e → d.rank + 1 ≡ m.rank

-- the normal chirotope of the contraction of e, where other elements are left
pub record IsNormalContraction (e : ℕ) (m d : SignMap) : Type 0 where
  pub elements : d.elements + 1 ≡ m.elements
  pub contraction : IsContraction m.elements e (IsCovectorOfChirotope m) (IsCovectorOfChirotope d)
  pub normal : IsLedBy Plus d.signs
  pub value : (IsLoop m e → ⊥) → IsNormalFormOf (contracted e m) d
  pub at_loop : IsLoop m e → IsNormalFormOf (deleted e m) d
  pub rank : (IsLoop m e → ⊥) → d.rank + 1 ≡ m.rank
  pub rank_at_loop : IsLoop m e → d.rank ≡ m.rank

-- bit e - 1 of the mask is set
abbrev pub names : ℕ → ℕ → Bool
names mask e = nat_eq (bit_at mask (e - 1)) 1

-- the signs, each negated once for each element of its list that the mask names
abbrev pub reoriented_on : ℕ → SignMap → SignMap
reoriented_on mask m = map_by m.rank m.elements (reoriented (names mask) (chi_of m))
