-- The least maps of the classes of the documents of a stream, and the first document at fault.
--
-- Reference: Björner, Las Vergnas, Sturmfels, White and Ziegler, Oriented Matroids, chapters 3 and 7; Finschi and
-- Fukuda, Generation of oriented matroids, Discrete and Computational Geometry 27 (2002).
use Rattle.std.specs.Prelude.{ℕ, ◌≡◌, ◌+◌, List, [], ◌∷◌, ◌++◌, length, flat_map}
use Rattle.om_chirotope.specs.Map.{SignMap}
use Rattle.om_document.specs.Print.{printed, unnamed_map}
use Rattle.om_least.specs.Least.{IsLeast}
use Rattle.om_reply.specs.declared.status.Status.{Status}
use Rattle.om_reply.specs.declared.status.Status.TheVariants.{Done, Refused}
use Rattle.om_symmetry.specs.Permutations.{AreIsomorphic}
use Rattle.om_classification.specs.declared.fault.Fault.{Fault as DocumentFault}
use Rattle.om_classification.specs.declared.line.Line.TheVariants.{Fault}
use Rattle.om_classification.specs.Documents.{IsAtFault}
use Rattle.om_classification.specs.Lists.{AreDocuments}
use Rattle.om_classification.specs.Texts.{line_text}

-- each map is the least of the class of the one at the same place
pub data AreLeastMaps : List SignMap → List SignMap → Type 0 where
  no_map : AreLeastMaps [] []
  next_map : (m k : SignMap) (maps least : List SignMap) → AreIsomorphic m k → IsLeast k → AreLeastMaps maps least
      → AreLeastMaps (m ∷ maps) (k ∷ least)

-- the documents of maps, in version 1 and without names
abbrev pub documents_text : List SignMap → List ℕ
documents_text maps = flat_map (λ m. printed (unnamed_map m.rank m.elements m.signs)) maps

-- the pieces are documents of chirotopes of rank 3, and this is the text of the documents of the least maps of their
-- classes, in the same order
pub record IsTextOfLeast (pieces : List (List ℕ)) (text : List ℕ) : Type 0 where
  pub maps : List SignMap
  pub least : List SignMap
  pub documents : AreDocuments pieces maps
  pub images : AreLeastMaps maps least
  pub written : text ≡ documents_text least

-- this is such a text of the first pieces
pub record IsTextOfFirstLeast (pieces : List (List ℕ)) (text : List ℕ) : Type 0 where
  pub front : List (List ℕ)
  pub left : List (List ℕ)
  pub parts : pieces ≡ front ++ left
  pub first : IsTextOfLeast front text

-- this is such a text, and a line that says what is at fault with the next piece
pub record IsTextUpToFault (pieces : List (List ℕ)) (s : Status) (text : List ℕ) : Type 0 where
  pub front : List (List ℕ)
  pub piece : List ℕ
  pub left : List (List ℕ)
  pub why : DocumentFault
  pub before : List ℕ
  pub parts : pieces ≡ front ++ piece ∷ left
  pub first : IsTextOfLeast front before
  pub fault : IsAtFault piece why
  pub status : s ≡ Refused
  pub lines : text ≡ before ++ line_text (Fault (length front + 1) why)

-- of all pieces the first ones were read, as many as k, which led to this text, and these pieces are left
pub record IsLeastBetween (all : List (List ℕ)) (text : List ℕ) (k : ℕ) (left : List (List ℕ)) : Type 0 where
  pub front : List (List ℕ)
  pub parts : all ≡ front ++ left
  pub first : IsTextOfLeast front text
  pub count : k ≡ length front

-- after one more piece: the run goes on, or ends with the line that says what is at fault
abbrev pub IsLeastStep : List (List ℕ) → List ℕ → Status → ℕ → List (List ℕ) → Type 0
IsLeastStep all text Done k left = IsLeastBetween all text k left
IsLeastStep all text t k left = IsTextUpToFault all t text
