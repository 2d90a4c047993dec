-- The documents of a stream as the members of lists on 4, 5, and so on elements, what is shown of these lists, and the
-- first thing that is wrong.
--
-- Reference: Björner, Las Vergnas, Sturmfels, White and Ziegler, Oriented Matroids, chapters 3 and 7; Finschi and
-- Fukuda, Generation of oriented matroids, Discrete and Computational Geometry 27 (2002).
use Rattle.std.specs.Prelude.{ℕ, ◌≡◌, ◌≢◌, ◌⊎◌, ◌+◌, ◌≤◌, List, [], ◌∷◌, ◌++◌, length, flat_map}
use Rattle.om_signs.specs.declared.limits.TheConstants.{MAX_ELEMENTS}
use Rattle.om_chirotope.specs.Map.{SignMap}
use Rattle.om_chain.specs.declared.gap.Gap.{Gap}
use Rattle.om_chain.specs.declared.unfit.Unfit.{Unfit as Misfit}
use Rattle.om_chain.specs.Chains.{ChainOfLists, IsShown, IsUnfit, IsGap, first_list}
use Rattle.om_reply.specs.declared.status.Status.{Status}
use Rattle.om_classification.specs.declared.fault.Fault.{Fault as DocumentFault}
use Rattle.om_classification.specs.declared.line.Line.{Line}
use Rattle.om_classification.specs.declared.line.Line.TheVariants.{Shown, Empty, Fault, Elements, Unfit, Gap as GapIn}
use Rattle.om_classification.specs.declared.request.ListRequest.{ListRequest}
use Rattle.om_classification.specs.Documents.{IsMember, IsAtFault}
use Rattle.om_classification.specs.Texts.{line_text, line_status}

-- ---- documents and lists

-- the pieces are documents of these chirotopes of rank 3, one after the other
pub data AreDocuments : List (List ℕ) → List SignMap → Type 0 where
  none : AreDocuments [] []
  one_more : (piece : List ℕ) (pieces : List (List ℕ)) (m : SignMap) (maps : List SignMap) → IsMember piece m
      → AreDocuments pieces maps → AreDocuments (piece ∷ pieces) (m ∷ maps)

-- lists on n, n + 1, and so on elements, each with some member, and each shown: complete or exact, as is asked
pub data AreShown (r : ListRequest) : ℕ → List (List SignMap) → Type 0 where
  no_more : (n : ℕ) → AreShown r n []
  next : (n : ℕ) (maps : List SignMap) (lists : List (List SignMap)) → 1 ≤ length maps
      → IsShown r.asked r.family n maps → AreShown r (n + 1) lists → AreShown r n (maps ∷ lists)

-- the members of lists, one list after the other
abbrev pub members_of : List (List SignMap) → List SignMap
members_of = flat_map (λ maps. maps)

-- the number of elements of the first list of a stream
abbrev pub first : ℕ
first = 4

-- The pieces are documents of the members of lists on 4, 5, and so on elements, each of them shown, and then of the
-- maps of the list that is being read.
pub record AreRead (r : ListRequest) (pieces : List (List ℕ)) (lists : List (List SignMap)) (maps : List SignMap)
    : Type 0 where
  pub documents : AreDocuments pieces (members_of lists ++ maps)
  pub shown : AreShown r first lists

-- the last of some lists, or the one before them if there are none
abbrev pub last_behind : List SignMap → List (List SignMap) → List SignMap
last_behind before [] = before
last_behind before (maps ∷ lists) = last_behind maps lists

-- the chain behind these lists with these maps in the list that is being read; the list on three elements is built in
abbrev pub chain_behind : ListRequest → List (List SignMap) → List SignMap → ChainOfLists
chain_behind r lists maps = record {
  asked = r.asked;
  family = r.family;
  shown = record { elements = length lists + 3; maps = last_behind first_list.maps lists };
  current = record { elements = length lists + first; maps = maps };
}

-- ---- what is wrong

-- a number of elements that is neither that of the list on n elements that is being read, nor that of the next list,
-- which may begin only behind a member and below the limit on elements
pub record IsElsewhere (n : ℕ) (maps : List SignMap) (elements : ℕ) : Type 0 where
  pub other : elements ≢ n
  pub not_next : (elements ≢ n + 1) ⊎ ((length maps ≡ 0) ⊎ (elements ≡ MAX_ELEMENTS))

-- the list on n elements that is being read ends: at the end of the stream, or before a document on one element more
pub data IsEnded (n : ℕ) : List (List ℕ) → Type 0 where
  at_end : IsEnded n []
  before : (piece : List ℕ) (left : List (List ℕ)) (m : SignMap) → IsMember piece m → m.elements ≡ n + 1
      → IsEnded n (piece ∷ left)

-- The lists are shown, the maps are those that are read of the next one, k documents are read, and these pieces are
-- left. This line says what is wrong.
pub data IsWrong (r : ListRequest) (lists : List (List SignMap)) (maps : List SignMap) (k : ℕ) : List (List ℕ) → Line
    → Type 0 where
  -- there is no document
  empty : k ≡ 0 → IsWrong r lists maps k [] Empty
  -- the next piece is no document of a chirotope of rank 3
  fault : (piece : List ℕ) (left : List (List ℕ)) (why : DocumentFault) → IsAtFault piece why
      → IsWrong r lists maps k (piece ∷ left) (Fault (k + 1) why)
  -- it has another number of elements
  elements : (piece : List ℕ) (left : List (List ℕ)) (m : SignMap) → IsMember piece m
      → IsElsewhere (length lists + first) maps m.elements → IsWrong r lists maps k (piece ∷ left) (Elements (k + 1))
  -- it can't be the next member: it isn't simple or uniform, isn't behind the last one, or isn't least
  unfit : (piece : List ℕ) (left : List (List ℕ)) (m : SignMap) (why : Misfit) → IsMember piece m
      → m.elements ≡ length lists + first → IsUnfit (chain_behind r lists maps) m why
      → IsWrong r lists maps k (piece ∷ left) (Unfit (k + 1) why)
  -- the list has ended, and isn't shown by the list before it
  gap : (left : List (List ℕ)) (why : Gap) → IsEnded (length lists + first) left
      → IsGap (chain_behind r lists maps) why
      → IsWrong r lists maps k left (GapIn (length lists + first) why)

-- ---- texts

-- the lines of lists on n, n + 1, and so on elements
abbrev pub shown_text : ListRequest → ℕ → List (List SignMap) → List ℕ
shown_text r n [] = []
shown_text r n (maps ∷ lists) = line_text (Shown r.asked n (length maps)) ++ shown_text r (n + 1) lists

-- the pieces are documents of the members of lists, of one at least, each of them shown, and this is the text of the
-- lists' lines
pub record IsTextOfAll (r : ListRequest) (pieces : List (List ℕ)) (text : List ℕ) : Type 0 where
  pub lists : List (List SignMap)
  pub some : 1 ≤ length lists
  pub read : AreRead r pieces lists []
  pub lines : text ≡ shown_text r first lists

-- the first pieces are documents of the members of lists, each of them shown, and of further maps; this is the text of
-- the lists' lines
pub record IsTextOfFirst (r : ListRequest) (pieces : List (List ℕ)) (text : List ℕ) : Type 0 where
  pub lists : List (List SignMap)
  pub maps : List SignMap
  pub front : List (List ℕ)
  pub left : List (List ℕ)
  pub parts : pieces ≡ front ++ left
  pub read : AreRead r front lists maps
  pub lines : text ≡ shown_text r first lists

-- this is the text of the lines of such lists and of a line that says what is wrong then, with its status
pub record IsTextUpToWrong (r : ListRequest) (pieces : List (List ℕ)) (s : Status) (text : List ℕ) : Type 0 where
  pub lists : List (List SignMap)
  pub maps : List SignMap
  pub front : List (List ℕ)
  pub left : List (List ℕ)
  pub line : Line
  pub parts : pieces ≡ front ++ left
  pub read : AreRead r front lists maps
  pub wrong : IsWrong r lists maps (length front) left line
  pub status : s ≡ line_status line
  pub lines : text ≡ shown_text r first lists ++ line_text line
