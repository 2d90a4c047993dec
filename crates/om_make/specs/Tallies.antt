-- The counts of a summary.
--
-- Reference: Björner, Las Vergnas, Sturmfels, White and Ziegler, Oriented Matroids, chapters 1, 3, 6 and 8.
use Rattle.std.specs.Prelude.{ℕ, ◌≡◌, List, length, take}
use Rattle.std.specs.List.{count_by}
use Rattle.om_signs.specs.declared.sign.Sign.{Sign}
use Rattle.om_signs.specs.declared.sign.Sign.TheVariants.{Minus, Zero, Plus}
use Rattle.om_signs.specs.Sign.{equal_signs}
use Rattle.om_subsets.specs.Members.{Chosen}
use Rattle.om_chirotope.specs.Map.{SignMap, IsLedBy}
use Rattle.om_chirotope.specs.Chirotope.{IsChirotope}
use Rattle.om_members.specs.Listings.{AreDistinct}
use Rattle.om_denotation.specs.Circuits.{IsCocircuitOfChirotope}
use Rattle.om_denotation.specs.Covectors.{IsCovectorOfChirotope}
use Rattle.om_denotation.specs.Denotation.{DenoteTheSame}
use Rattle.om_denotation.specs.Listings.{AreAllOf}
use Rattle.om_denotation.specs.Maps.{IsNormalFormOf}
use Rattle.om_mutate.specs.Mutations.{ListsMutations}
use Rattle.om_vectors.specs.WholeVectors.{WholeVector}
use Rattle.om_vectors.specs.Realizations.{signs_map}
use Rattle.om_vectors.specs.declared.tally.Tally.{Tally}
use Rattle.om_make.specs.Generator.{unit_vectors}

-- the list begins with the unit vectors, in their order
abbrev pub BeginsWithUnits : List WholeVector → Type 0
BeginsWithUnits vs = take 3 vs ≡ unit_vectors

-- how often a sign occurs in a list
abbrev pub count_of : Sign → List Sign → ℕ
count_of s signs = count_by (equal_signs s) signs

-- the family has exactly k members: some list of k different sign vectors has them all, and no others
pub record HasExactly (k : ℕ) (P : List Sign → Type 0) : Type 0 where
  pub members : List (List Sign)
  pub many : length members ≡ k
  pub distinct : AreDistinct members
  pub all : AreAllOf P members

-- the map has exactly k mutations
pub record HasMutations (k : ℕ) (m : SignMap) : Type 0 where
  pub sets : List Chosen
  pub many : length sets ≡ k
  pub all : ListsMutations m sets

-- The counts of a map of rank 3: of the signs of its increasing triples, with one sign for each; of its cocircuits
-- and its covectors; and of its mutations.
pub record IsTallyOfMap (m : SignMap) (t : Tally) : Type 0 where
  pub plus : t.plus ≡ count_of Plus m.signs
  pub zero : t.zero ≡ count_of Zero m.signs
  pub minus : t.minus ≡ count_of Minus m.signs
  pub cocircuits : HasExactly t.cocircuits (IsCocircuitOfChirotope m)
  pub covectors : HasExactly t.covectors (IsCovectorOfChirotope m)
  pub mutations : HasMutations t.mutations m

-- the counts of the map of the signs of the triple products
abbrev pub IsTally : List WholeVector → Tally → Type 0
IsTally vs t = IsTallyOfMap (signs_map vs) t

-- converting back: each chirotope that denotes what the map denotes, and whose first nonzero sign is plus, is the
-- normal form of the map
abbrev pub ComesBack : SignMap → Type 0
ComesBack m = (k : SignMap) → IsChirotope k → k.elements ≡ m.elements
    → DenoteTheSame m.elements (IsCovectorOfChirotope m) (IsCovectorOfChirotope k)
    → IsLedBy Plus k.signs → IsNormalFormOf m k
