-- Texts that are written, whole or in part, and runs that go on or stop.
--
-- Main definitions: IsOneWritten
-- Main results: still, stopped, going_first, piece_outcome, end_stopped, usage_not_read, usage_not_done, begins
use Rattle.std.specs.Prelude.{ℕ, ◌≡◌, ◌⊎◌, ◌+◌, List, [], ◌∷◌, ◌++◌, Option, length, take}
use Rattle.std.proofs.Common.{zero, suc, refl, sym, ap, subst, ◌∙◌, append-nil, length-append, arith, inl, inr}
use Rattle.std.specs.Io.KnownBytes.{Appends}
use Rattle.om_port.proofs.Known.{Appends-then}
use Rattle.om_port.proofs.Taking.{appended_none}
use Rattle.om_reply.specs.declared.status.Status.{Status}
use Rattle.om_reply.specs.declared.status.Status.TheVariants.{Done, Refused, Usage, Limit, ReadFault, WriteFault}
use Rattle.om_reply.specs.declared.status.Status.TheVariants.{NoMemory}
use Rattle.om_reply.specs.Statuses.{IsReplied}
use Rattle.om_reply.specs.Written.{IsFront}
use Rattle.om_classification.specs.declared.progress.Progress.{Progress}
use Rattle.om_classification.specs.declared.progress.Progress.TheVariants.{Lists as OfLists, Least as OfLeast}
use Rattle.om_classification.specs.declared.request.ListRequest.{ListRequest}
use Rattle.om_classification.specs.declared.request.Request.{Request}
use Rattle.om_classification.specs.declared.request.Request.TheVariants.{Lists, Least}
use Rattle.om_classification.specs.Answers.{IsAnswer, IsAnswerToFirst, IsRight, IsReached, IsTaken, IsOver, IsWritten}
use Rattle.om_classification.specs.Answers.{IsGoing, IsStopped, IsOutcome, started}
use Rattle.om_classification.specs.LeastMaps.{no_map}
use Rattle.om_classification.specs.Lists.{IsTextOfFirst, no_more, none}
use Rattle.om_classification.specs.Progress.{State, IsUnderway}

-- ---- statuses

pub still : (r : Request) (all : List (List ℕ)) (t : Status) (s new : Progress) (left other : List (List ℕ))
    (o p : Option (List ℕ)) → (t ≡ Done → ⊥) → IsOutcome r all t s left o p → IsOutcome r all t new other o p
still r all Done s new left other o p n h = absurd (n refl)
still r all Refused s new left other o p n h = h
still r all Usage s new left other o p n h = h
still r all Limit s new left other o p n h = h
still r all ReadFault s new left other o p n h = h
still r all WriteFault s new left other o p n h = h
still r all NoMemory s new left other o p n h = h

pub stopped : (r : Request) (all : List (List ℕ)) (t : Status) (s : Progress) (left : List (List ℕ))
    (o p : Option (List ℕ)) → (t ≡ Done → ⊥) → IsOutcome r all t s left o p → IsStopped r all t o p
stopped r all Done s left o p n h = absurd (n refl)
stopped r all Refused s left o p n h = h
stopped r all Usage s left o p n h = h
stopped r all Limit s left o p n h = h
stopped r all ReadFault s left o p n h = h
stopped r all WriteFault s left o p n h = h
stopped r all NoMemory s left o p n h = h

-- ---- texts

pub first_lists : (r : ListRequest) (all : List (List ℕ)) (text : List ℕ) (s : State) (left : List (List ℕ))
    → IsUnderway r all text s left → IsTextOfFirst r all text
first_lists r all text s left u =
    record {
      lists = u.lists;
      maps = u.maps;
      front = u.front;
      left = left;
      parts = u.parts;
      read = u.read;
      lines = u.lines;
    }

first_part : (r : Request) (all : List (List ℕ)) (text : List ℕ) (s : Progress) (left : List (List ℕ))
    → IsReached r all text s left → IsAnswerToFirst r all text
first_part (Lists r) all text (OfLists s) left b = first_lists r all text s left b.underway
first_part (Lists r) all text (OfLeast s) left b = absurd b
first_part Least all text (OfLists s) left b = absurd b
first_part Least all text (OfLeast s) left b =
    record { front = b.front; left = left; parts = b.parts; first = b.first }

pub going_first : (r : Request) (all : List (List ℕ)) (s : Progress) (left : List (List ℕ)) (o p : Option (List ℕ))
    → IsGoing r all s left o p → IsWritten (IsAnswerToFirst r all) o p
going_first r all s left o p (text, (b, w)) = (text, (first_part r all text s left b, w))

all_first : (r : Request) (all : List (List ℕ)) (text : List ℕ) → IsAnswer r all text → IsAnswerToFirst r all text
all_first (Lists r) all text a =
    record {
      lists = a.lists;
      maps = [];
      front = all;
      left = [];
      parts = sym (append-nil all);
      read = a.read;
      lines = a.lines;
    }
all_first Least all text a = record { front = all; left = []; parts = sym (append-nil all); first = a }

take_behind : (text more : List ℕ) (k j : ℕ) → j ≡ length text + k → take j (text ++ more) ≡ text ++ take k more
take_behind [] more k j e = ap (λ i. take i more) (let f : j ≡ k = omega (arith, e) in f)
take_behind (x ∷ xs) more k zero e = absurd (omega (arith, e))
take_behind (x ∷ xs) more k (suc j) e =
    ap (λ l. x ∷ l) (take_behind xs more k j (let f : j ≡ length xs + k = omega (arith, e) in f))

-- a part of a text behind one that was written
front_behind : (o p q : Option (List ℕ)) (text more : List ℕ) → Appends o p text → IsFront p q more
    → IsFront o q (text ++ more)
front_behind o p q text more w (k, (short, v)) = (
  length text + k,
  (
    (let l = length-append text more in omega (arith, l, short)),
    subst (λ x. Appends o q x) (sym (take_behind text more k (length text + k) refl))
        (Appends-then o p q text (take k more) w v),
  ),
)

-- ---- one piece

step_right : (r : Request) (all : List (List ℕ)) (text : List ℕ) (t : Status) (s : Progress) (left : List (List ℕ))
    → IsReplied t → IsTaken r all text t s left → IsRight r all text
step_right r all text Done s left h b = inl (first_part r all text s left b)
step_right r all text Refused s left h w = inr (Refused, w)
step_right r all text Usage s left h w = absurd h
step_right r all text Limit s left h w = inr (Limit, w)
step_right r all text ReadFault s left h w = absurd h
step_right r all text WriteFault s left h w = absurd h
step_right r all text NoMemory s left h w = absurd h

step_written : (r : Request) (all : List (List ℕ)) (text : List ℕ) (t : Status) (s : Progress) (left : List (List ℕ))
    (o p : Option (List ℕ)) → IsReplied t → IsTaken r all text t s left → Appends o p text
    → IsOutcome r all t s left o p
step_written r all text Done s left o p h b w = (text, (b, w))
step_written r all text Refused s left o p h b w = (text, (b, w))
step_written r all text Usage s left o p h b w = absurd h
step_written r all text Limit s left o p h b w = (text, (b, w))
step_written r all text ReadFault s left o p h b w = absurd h
step_written r all text WriteFault s left o p h b w = absurd h
step_written r all text NoMemory s left o p h b w = absurd h

-- what was written for a piece: its text, or a part of it
abbrev pub IsOneWritten : Status → Status → List ℕ → Option (List ℕ) → Option (List ℕ) → Type 0
IsOneWritten t result more o p =
    ((result ≡ t) × Appends o p more) ⊎ ((result ≡ WriteFault) × IsFront o p more)

pub piece_outcome : (r : Request) (all : List (List ℕ)) (s new : Progress) (piece : List ℕ) (left : List (List ℕ))
    (t result : Status) (more : List ℕ) (o p q : Option (List ℕ)) → IsReplied t
    → ((text : List ℕ) → IsReached r all text s (piece ∷ left) → IsTaken r all (text ++ more) t new left)
    → IsOneWritten t result more p q → IsGoing r all s (piece ∷ left) o p → IsOutcome r all result new left o q
piece_outcome r all s new piece left t result more o p q h f (inl (e, v)) (text, (b, w)) =
    subst (λ x. IsOutcome r all x new left o q) (sym e)
    (step_written r all (text ++ more) t new left o q h (f text b) (Appends-then o p q text more w v))
piece_outcome r all s new piece left t result more o p q h f (inr (e, v)) (text, (b, w)) =
    subst (λ x. IsOutcome r all x new left o q) (sym e)
    (text ++ more, (step_right r all (text ++ more) t new left h (f text b), front_behind o p q text more w v))

-- ---- the end of the stream

end_right : (r : Request) (all : List (List ℕ)) (text : List ℕ) (t : Status) → IsReplied t → IsOver r all text t
    → IsRight r all text
end_right r all text Done h a = inl (all_first r all text a)
end_right r all text Refused h w = inr (Refused, w)
end_right r all text Usage h w = absurd h
end_right r all text Limit h w = inr (Limit, w)
end_right r all text ReadFault h w = absurd h
end_right r all text WriteFault h w = absurd h
end_right r all text NoMemory h w = absurd h

end_written : (r : Request) (all : List (List ℕ)) (text : List ℕ) (t : Status) (o p : Option (List ℕ)) → IsReplied t
    → IsOver r all text t → Appends o p text → IsStopped r all t o p
end_written r all text Done o p h b w = (text, (b, w))
end_written r all text Refused o p h b w = (text, (b, w))
end_written r all text Usage o p h b w = absurd h
end_written r all text Limit o p h b w = (text, (b, w))
end_written r all text ReadFault o p h b w = absurd h
end_written r all text WriteFault o p h b w = absurd h
end_written r all text NoMemory o p h b w = absurd h

pub end_stopped : (r : Request) (all : List (List ℕ)) (s : Progress) (t result : Status) (more : List ℕ)
    (o p q : Option (List ℕ)) → IsReplied t
    → ((text : List ℕ) → IsReached r all text s [] → IsOver r all (text ++ more) t)
    → IsOneWritten t result more p q → IsGoing r all s [] o p → IsStopped r all result o q
end_stopped r all s t result more o p q h f (inl (e, v)) (text, (b, w)) =
    subst (λ x. IsStopped r all x o q) (sym e)
    (end_written r all (text ++ more) t o q h (f text b) (Appends-then o p q text more w v))
end_stopped r all s t result more o p q h f (inr (e, v)) (text, (b, w)) =
    subst (λ x. IsStopped r all x o q) (sym e)
    (text ++ more, (end_right r all (text ++ more) t h (f text b), front_behind o p q text more w v))

-- ---- other words

-- the end of a run that has only its usage to write
pub usage_not_read : (s : Status) → (s ≡ Usage) ⊎ (s ≡ WriteFault) → s ≡ ReadFault → ⊥
usage_not_read s (inl is) fault = let f : Usage ≡ ReadFault = sym is ∙ fault in cc
usage_not_read s (inr is) fault = let f : WriteFault ≡ ReadFault = sym is ∙ fault in cc

pub usage_not_done : (s : Status) → (s ≡ Usage) ⊎ (s ≡ WriteFault) → s ≡ Done → ⊥
usage_not_done s (inl is) done = let f : Usage ≡ Done = sym is ∙ done in cc
usage_not_done s (inr is) done = let f : WriteFault ≡ Done = sym is ∙ done in cc

-- ---- the beginning

-- no document was read
pub none_reached : (r : Request) (all : List (List ℕ)) → IsReached r all [] (started r) all
none_reached (Lists r) all =
    record {
      underway =
          record {
            lists = [];
            maps = [];
            front = [];
            parts = refl;
            read = record { documents = none; shown = no_more 4 };
            state = refl;
            lines = refl;
          };
      some = λ few. absurd (omega (arith, few));
    }
none_reached Least all =
    record {
      front = [];
      parts = refl;
      first = record { maps = []; least = []; documents = none; images = no_map; written = refl };
      count = refl;
    }

pub begins : (r : Request) (all : List (List ℕ)) (s : Progress) (o : Option (List ℕ)) → s ≡ started r
    → IsGoing r all s all o o
begins r all s o e = subst (λ x. IsGoing r all x all o o) (sym e) ([], (none_reached r all, appended_none o))
