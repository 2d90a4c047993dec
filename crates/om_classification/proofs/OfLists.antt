-- A run over lists as a run: after a piece, and after the last one.
--
-- Main results: lists_taken, lists_over
use Rattle.std.specs.Prelude.{ℕ, List, [], ◌∷◌, ◌++◌}
use Rattle.om_reply.specs.declared.status.Status.{Status}
use Rattle.om_reply.specs.declared.status.Status.TheVariants.{Done, Refused, Usage, Limit, ReadFault, WriteFault}
use Rattle.om_reply.specs.declared.status.Status.TheVariants.{NoMemory}
use Rattle.om_classification.specs.declared.progress.Progress.TheVariants.{Lists as OfLists}
use Rattle.om_classification.specs.declared.request.ListRequest.{ListRequest}
use Rattle.om_classification.specs.declared.request.Request.{Request}
use Rattle.om_classification.specs.declared.request.Request.TheVariants.{Lists, Least}
use Rattle.om_classification.specs.Answers.{IsReached, IsTaken, IsOver}
use Rattle.om_classification.specs.Progress.{State, IsBetween, IsStep, IsEnd}

step_taken : (r : ListRequest) (all : List (List ℕ)) (text : List ℕ) (t : Status) (s : State) (left : List (List ℕ))
    → IsStep r all text t s left → IsTaken (Lists r) all text t (OfLists s) left
step_taken r all text Done s left h = h
step_taken r all text Refused s left h = h
step_taken r all text Usage s left h = h
step_taken r all text Limit s left h = h
step_taken r all text ReadFault s left h = h
step_taken r all text WriteFault s left h = h
step_taken r all text NoMemory s left h = h

end_over : (r : ListRequest) (all : List (List ℕ)) (text : List ℕ) (t : Status) → IsEnd r all text t
    → IsOver (Lists r) all text t
end_over r all text Done h = h
end_over r all text Refused h = h
end_over r all text Usage h = h
end_over r all text Limit h = h
end_over r all text ReadFault h = h
end_over r all text WriteFault h = h
end_over r all text NoMemory h = h

pub lists_taken : (r : Request) (all : List (List ℕ)) (text more : List ℕ) (t : Status) (s new : State)
    (piece : List ℕ) (left : List (List ℕ))
    → ((q : ListRequest) (a : List (List ℕ)) (x : List ℕ) (l : List (List ℕ)) → IsBetween q a x s (piece ∷ l)
    → IsStep q a (x ++ more) t new l)
    → IsReached r all text (OfLists s) (piece ∷ left) → IsTaken r all (text ++ more) t (OfLists new) left
lists_taken (Lists q) all text more t s new piece left f b =
    step_taken q all (text ++ more) t new left (f q all text left b)
lists_taken Least all text more t s new piece left f b = absurd b

pub lists_over : (r : Request) (all : List (List ℕ)) (text more : List ℕ) (t : Status) (s : State)
    → ((q : ListRequest) (a : List (List ℕ)) (x : List ℕ) → IsBetween q a x s [] → IsEnd q a (x ++ more) t)
    → IsReached r all text (OfLists s) [] → IsOver r all (text ++ more) t
lists_over (Lists q) all text more t s f b = end_over q all (text ++ more) t (f q all text b)
lists_over Least all text more t s f b = absurd b
