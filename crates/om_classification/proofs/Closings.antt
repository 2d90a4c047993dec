-- A list that ends, with the end of the stream or before the next document.
--
-- Main results: closing_replied, closing_done, closing_other, wrong_step, closing_ends, closing_goes, closing_stops
use Rattle.std.specs.Prelude.{ℕ, ◌≡◌, ◌≤◌, List, [], ◌++◌, length}
use Rattle.std.proofs.Common.{refl}
use Rattle.om_chain.specs.declared.asked.Asked.{Asked}
use Rattle.om_chain.specs.declared.gap.Gap.{Gap}
use Rattle.om_chain.specs.declared.gap.Gap.TheVariants.{Missing, Unmet, TooMany}
use Rattle.om_chain.specs.Chains.{ChainOfLists, IsClosed}
use Rattle.om_reply.specs.declared.status.Status.{Status}
use Rattle.om_reply.specs.declared.status.Status.TheVariants.{Done, Refused, Usage, Limit, ReadFault, WriteFault}
use Rattle.om_reply.specs.declared.status.Status.TheVariants.{NoMemory}
use Rattle.om_reply.specs.Statuses.{IsReplied}
use Rattle.om_classification.specs.declared.request.ListRequest.{ListRequest}
use Rattle.om_classification.specs.Texts.{gap_status}
use Rattle.om_classification.specs.Lists.{IsTextUpToWrong, IsEnded, at_end}
use Rattle.om_classification.specs.Progress.{State, IsUnderway, IsClosing, shown, not_shown, IsStep, IsEnd}
use Rattle.om_classification.proofs.Steps.{all_shown, closes, gap_stops}

gap_replied : (why : Gap) → IsReplied (gap_status why)
gap_replied (Missing member signs) = tt
gap_replied (Unmet member) = tt
gap_replied (TooMany member) = tt

pub closing_replied : (asked : Asked) (old new : ChainOfLists) (t : Status) (more : List ℕ)
    → IsClosing asked old new t more → IsReplied t
closing_replied asked old new t more (shown h) = tt
closing_replied asked old new t more (not_shown why w e) = gap_replied why

gap_not_done : (why : Gap) → gap_status why ≡ Done → ⊥
gap_not_done (Missing member signs) e = cc
gap_not_done (Unmet member) e = cc
gap_not_done (TooMany member) e = cc

-- a run that ended with a line that says what is wrong
pub wrong_ends : (r : ListRequest) (all : List (List ℕ)) (text : List ℕ) (t : Status) → (t ≡ Done → ⊥)
    → IsTextUpToWrong r all t text → IsEnd r all text t
wrong_ends r all text Done other w = absurd (other refl)
wrong_ends r all text Refused other w = w
wrong_ends r all text Usage other w = w
wrong_ends r all text Limit other w = w
wrong_ends r all text ReadFault other w = w
wrong_ends r all text WriteFault other w = w
wrong_ends r all text NoMemory other w = w

pub wrong_step : (r : ListRequest) (all : List (List ℕ)) (text : List ℕ) (t : Status) (s : State) (left : List (List ℕ))
    → (t ≡ Done → ⊥) → IsTextUpToWrong r all t text → IsStep r all text t s left
wrong_step r all text Done s left other w = absurd (other refl)
wrong_step r all text Refused s left other w = w
wrong_step r all text Usage s left other w = w
wrong_step r all text Limit s left other w = w
wrong_step r all text ReadFault s left other w = w
wrong_step r all text WriteFault s left other w = w
wrong_step r all text NoMemory s left other w = w

-- with the end of the stream
pub closing_ends : (asked : Asked) (s : State) (new : ChainOfLists) (t : Status) (more : List ℕ)
    → IsClosing asked s.chain new t more → asked ≡ s.chain.asked → 1 ≤ length s.chain.current.maps
    → (r : ListRequest) (all : List (List ℕ)) (text : List ℕ) → IsUnderway r all text s []
    → IsEnd r all (text ++ more) t
closing_ends asked s new t more (shown h) same some r all text u = all_shown r all text s new asked u h some same
closing_ends asked s new t more (not_shown why w e) same some r all text u =
    wrong_ends r all _ (gap_status why) (gap_not_done why) (gap_stops r all text s [] why u at_end w)

-- before a document on one element more, if the list isn't shown
pub closing_stops : (asked : Asked) (s : State) (new : ChainOfLists) (t : Status) (more : List ℕ)
    → IsClosing asked s.chain new t more → (t ≡ Done → ⊥)
    → (r : ListRequest) (all : List (List ℕ)) (text : List ℕ) (left : List (List ℕ)) → IsUnderway r all text s left
    → IsEnded s.chain.current.elements left → IsTextUpToWrong r all t (text ++ more)
closing_stops asked s new t more (shown h) other r all text left u over = absurd (other refl)
closing_stops asked s new t more (not_shown why w e) other r all text left u over =
    gap_stops r all text s left why u over w

-- the next list begins
pub closing_done : (asked : Asked) (old new : ChainOfLists) (t : Status) (more : List ℕ)
    → IsClosing asked old new t more → t ≡ Done → IsClosed old new
closing_done asked old new t more (shown h) is = h
closing_done asked old new t more (not_shown why w e) is = absurd (gap_not_done why is)

pub closing_other : (asked : Asked) (old new : ChainOfLists) (t : Status) (more : List ℕ)
    → IsClosing asked old new t more → (t ≡ Done → ⊥) → new ≡ old
closing_other asked old new t more (shown h) other = absurd (other refl)
closing_other asked old new t more (not_shown why w e) other = e

pub closing_goes : (asked : Asked) (s : State) (new : ChainOfLists) (t : Status) (more : List ℕ)
    → IsClosing asked s.chain new t more → t ≡ Done → asked ≡ s.chain.asked → 1 ≤ length s.chain.current.maps
    → (r : ListRequest) (all : List (List ℕ)) (text : List ℕ) (left : List (List ℕ)) → IsUnderway r all text s left
    → IsUnderway r all (text ++ more) (record { chain = new; documents = s.documents }) left
closing_goes asked s new t more (shown h) is same some r all text left u =
    closes r all text s left new asked u h some same
closing_goes asked s new t more (not_shown why w e) is same some r all text left u = absurd (gap_not_done why is)
