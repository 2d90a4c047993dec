-- How far a run over lists has come: between two pieces, and after the last one.
use Rattle.std.specs.Prelude.{ℕ, ◌≡◌, ◌≤◌, List, ◌++◌, length}
use Rattle.om_chirotope.specs.Map.{SignMap}
use Rattle.om_chain.specs.declared.asked.Asked.{Asked}
use Rattle.om_chain.specs.declared.gap.Gap.{Gap}
use Rattle.om_chain.specs.Chains.{ChainOfLists, IsClosed, IsGap, begun}
use Rattle.om_reply.specs.declared.status.Status.{Status}
use Rattle.om_reply.specs.declared.status.Status.TheVariants.{Done}
use Rattle.om_classification.specs.declared.line.Line.TheVariants.{Shown, Gap as GapIn}
use Rattle.om_classification.specs.declared.request.ListRequest.{ListRequest}
use Rattle.om_classification.specs.Texts.{gap_status, line_text}
use Rattle.om_classification.specs.Lists.{AreRead, chain_behind, first, shown_text, IsTextOfAll}
use Rattle.om_classification.specs.Lists.{IsTextUpToWrong}

-- the chain, and how many documents were read
pub record State : Type 0 where
  pub chain : ChainOfLists
  pub documents : ℕ

-- the state before the first document
abbrev pub started_lists : ListRequest → State
started_lists r = record { chain = begun r.asked r.family; documents = 0 }

-- the list that was being read is shown, with its line; or it has a gap, with the line of this, and nothing changes
pub data IsClosing (asked : Asked) (old new : ChainOfLists) : Status → List ℕ → Type 0 where
  shown : IsClosed old new
      → IsClosing asked old new Done (line_text (Shown asked old.current.elements (length old.current.maps)))
  not_shown : (why : Gap) → IsGap old why → new ≡ old
      → IsClosing asked old new (gap_status why) (line_text (GapIn old.current.elements why))

-- of all pieces the first ones were read, which led to this state and to this text, and these pieces are left
pub record IsUnderway (r : ListRequest) (all : List (List ℕ)) (text : List ℕ) (s : State) (left : List (List ℕ))
    : Type 0 where
  pub lists : List (List SignMap)
  pub maps : List SignMap
  pub front : List (List ℕ)
  pub parts : all ≡ front ++ left
  pub read : AreRead r front lists maps
  pub state : s ≡ record { chain = chain_behind r lists maps; documents = length front }
  pub lines : text ≡ shown_text r first lists

-- between two pieces: if a document was read, the list that is being read has a member
pub record IsBetween (r : ListRequest) (all : List (List ℕ)) (text : List ℕ) (s : State) (left : List (List ℕ))
    : Type 0 where
  pub underway : IsUnderway r all text s left
  pub some : 1 ≤ s.documents → 1 ≤ length s.chain.current.maps

-- after one more piece: the run goes on, or ends with the line that says what is wrong
abbrev pub IsStep : ListRequest → List (List ℕ) → List ℕ → Status → State → List (List ℕ) → Type 0
IsStep r all text Done s left = IsBetween r all text s left
IsStep r all text t s left = IsTextUpToWrong r all t text

-- after the last piece
abbrev pub IsEnd : ListRequest → List (List ℕ) → List ℕ → Status → Type 0
IsEnd r all text Done = IsTextOfAll r all text
IsEnd r all text t = IsTextUpToWrong r all t text
