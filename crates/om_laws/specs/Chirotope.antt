-- Chirotopes over a list of elements, the form in which later proofs use them.
--
-- Reference: Björner, Las Vergnas, Sturmfels, White and Ziegler, Oriented Matroids, chapter 3.
use Rattle.std.specs.Prelude.{ℕ, List}
use Rattle.std.specs.List.{range_with_len}
use Rattle.om_signs.specs.declared.sign.Sign.{Sign}
use Rattle.om_laws.specs.Signs.{IsNonzero}
use Rattle.om_laws.specs.Members.{IsMember}
use Rattle.om_laws.specs.Tuples.{IsAlternating}
use Rattle.om_laws.specs.Relations.{HasRelations}

-- the elements 1 to n, in order
abbrev pub elements_to : ℕ → List ℕ
elements_to n = range_with_len 1 n

-- an alternating map on the tuples of some elements, with the relations, and with a nonzero value
pub record IsChirotope (E : List ℕ) (chi : List ℕ → Sign) : Type 0 where
  pub alternating : IsAlternating chi
  pub within : (t : List ℕ) → IsNonzero (chi t) → (e : ℕ) → IsMember e t → IsMember e E
  pub relations : HasRelations chi
  pub base : (t : List ℕ) × IsNonzero (chi t)
