-- How far a run over many pieces has come after a reading.
--
-- Main definitions: Reaches, KeepsUp
-- Main results: reach_start, starts, reach_further, reach_stops, reach_stops_later, reach_breaks_later, reach_end,
-- reach_end_stops, reach_end_breaks, keeps_up_start, keeps_up_further, keeps_up_at_fault, no_first
use Rattle.std.specs.Prelude.{ℕ, ◌≡◌, ◌⊎◌, ◌++◌, List, [], Option, Some, None, IfSome}
use Rattle.std.proofs.Common.{refl, sym, ◌∙◌, subst, append-nil, append_assoc, inl, inr}
use Rattle.std.specs.Io.KnownBytes.{Consumes, IsAtEnd, Keeps}
use Rattle.om_port.proofs.Known.{Consumes-then, taken_kept}
use Rattle.om_reply.specs.declared.answer.Answer.{Answer}
use Rattle.om_reply.specs.declared.status.Status.{Status}
use Rattle.om_pieces.specs.Making.{Making, completed, made, nothing}
use Rattle.om_program.specs.Answered.{AreAnswered, IsUpToDate, GoesOn, Stops, Breaks}
use Rattle.om_program.proofs.Chaining.{goes_on, goes_further, all_answered, stops_later, breaks_later, stops_here}
use Rattle.om_program.proofs.Chaining.{nothing_yet}

-- how far the pieces that are made with all bytes were answered, where the source tells the bytes that it had left
abbrev pub Reaches : (List ℕ → Answer → Type 0) → Making → Option (List ℕ) → Making → Option (List ℕ) → Status → Status
    → Option (List ℕ) → Option (List ℕ) → Type 0
Reaches Meaning first None now left before s old new = Unit {0}
Reaches Meaning first (Some all) now None before s old new = ⊥
Reaches Meaning first (Some all) now (Some rest) before s old new =
    GoesOn Meaning (made first all) (made now rest) before s old new

pub reach_start : (M : List ℕ → Answer → Type 0) (m : Making) (left : Option (List ℕ)) (s : Status)
    (o : Option (List ℕ)) → Reaches M m left m left s s o o
reach_start M m None s o = tt
reach_start M m (Some all) s o = nothing_yet M (made m all) s o

pub starts : (M : List ℕ → Answer → Type 0) (m first : Making) (left : Option (List ℕ)) (s : Status)
    (o : Option (List ℕ)) → m ≡ first → Reaches M first left m left s s o o
starts M m first left s o e = subst (λ k. Reaches M first left k left s s o o) (sym e) (reach_start M first left s o)

-- what was reached, with the bytes of one more reading answered
pub reach_further : (M : List ℕ → Answer → Type 0) (first now later : Making) (all left rest : Option (List ℕ))
    (bytes : List ℕ) (s t u : Status) (o p q : Option (List ℕ)) → Reaches M first all now left s t o p
    → Consumes left rest bytes
    → ((more : List ℕ) → GoesOn M (made now (bytes ++ more)) (made later more) t u p q)
    → Reaches M first all later rest s u o q
reach_further M first now later None left rest bytes s t u o p q r c g = tt
reach_further M first now later (Some all) None rest bytes s t u o p q r c g = absurd r
reach_further M first now later (Some all) (Some left) None bytes s t u o p q r c g = absurd c
reach_further M first now later (Some all) (Some left) (Some rest) bytes s t u o p q r c g =
    goes_further M (made first all) (made now left) (made later rest) s t u o p q r
    (subst (λ l. GoesOn M (made now l) (made later rest) t u p q) (sym c) (g rest))

pub reach_stops : (M : List ℕ → Answer → Type 0) (first now : Making) (all left : Option (List ℕ)) (s t : Status)
    (o p : Option (List ℕ)) → Reaches M first all now left s t o p
    → IfSome all (λ bytes. Stops M (made first bytes) o p)
reach_stops M first now None left s t o p r = tt
reach_stops M first now (Some all) None s t o p r = absurd r
reach_stops M first now (Some all) (Some left) s t o p r = stops_here M (made first all) (made now left) s t o p r

pub reach_stops_later : (M : List ℕ → Answer → Type 0) (first now : Making) (all left rest : Option (List ℕ))
    (bytes : List ℕ) (s t : Status) (o p q : Option (List ℕ)) → Reaches M first all now left s t o p
    → Consumes left rest bytes
    → ((more : List ℕ) → Stops M (made now (bytes ++ more)) p q) → IfSome all (λ bytes. Stops M (made first bytes) o q)
reach_stops_later M first now None left rest bytes s t o p q r c g = tt
reach_stops_later M first now (Some all) None rest bytes s t o p q r c g = absurd r
reach_stops_later M first now (Some all) (Some left) None bytes s t o p q r c g = absurd c
reach_stops_later M first now (Some all) (Some left) (Some rest) bytes s t o p q r c g =
    stops_later M (made first all) (made now left) s t o p q r (subst (λ l. Stops M (made now l) p q) (sym c) (g rest))

pub reach_breaks_later : (M : List ℕ → Answer → Type 0) (first now : Making) (all left rest : Option (List ℕ))
    (bytes : List ℕ) (s t : Status) (o p q : Option (List ℕ)) → Reaches M first all now left s t o p
    → Consumes left rest bytes
    → ((more : List ℕ) → Breaks M (made now (bytes ++ more)) p q)
    → IfSome all (λ bytes. Breaks M (made first bytes) o q)
reach_breaks_later M first now None left rest bytes s t o p q r c g = tt
reach_breaks_later M first now (Some all) None rest bytes s t o p q r c g = absurd r
reach_breaks_later M first now (Some all) (Some left) None bytes s t o p q r c g = absurd c
reach_breaks_later M first now (Some all) (Some left) (Some rest) bytes s t o p q r c g =
    breaks_later M (made first all) (made now left) s t o p q r
    (subst (λ l. Breaks M (made now l) p q) (sym c) (g rest))

-- at the end nothing is left
nothing_left : (left rest : List ℕ) → left ≡ [] ++ rest → rest ≡ [] → left ≡ []
nothing_left left rest c e = c ∙ e

pub reach_end : (M : List ℕ → Answer → Type 0) (first now : Making) (all left rest : Option (List ℕ)) (s t u : Status)
    (o p q : Option (List ℕ)) → Reaches M first all now left s t o p → Consumes left rest [] → IsAtEnd rest
    → AreAnswered M (made now []) t u p q → IfSome all (λ bytes. AreAnswered M (made first bytes) s u o q)
reach_end M first now None left rest s t u o p q r c e a = tt
reach_end M first now (Some all) None rest s t u o p q r c e a = absurd r
reach_end M first now (Some all) (Some left) None s t u o p q r c e a = absurd c
reach_end M first now (Some all) (Some left) (Some rest) s t u o p q r c e a =
    all_answered M (made first all) s u o q
    (goes_further M (made first all) (made now left) [] s t u o p q r
    (subst (λ l. GoesOn M (made now l) [] t u p q) (sym (nothing_left left rest c e))
    (subst (λ l. GoesOn M l [] t u p q) (append-nil (made now [])) (goes_on M (made now []) [] t u p q a))))

pub reach_end_stops : (M : List ℕ → Answer → Type 0) (first now : Making) (all left rest : Option (List ℕ))
    (s t : Status) (o p q : Option (List ℕ)) → Reaches M first all now left s t o p → Consumes left rest []
    → IsAtEnd rest
    → Stops M (made now []) p q → IfSome all (λ bytes. Stops M (made first bytes) o q)
reach_end_stops M first now None left rest s t o p q r c e a = tt
reach_end_stops M first now (Some all) None rest s t o p q r c e a = absurd r
reach_end_stops M first now (Some all) (Some left) None s t o p q r c e a = absurd c
reach_end_stops M first now (Some all) (Some left) (Some rest) s t o p q r c e a =
    stops_later M (made first all) (made now left) s t o p q r
    (subst (λ l. Stops M (made now l) p q) (sym (nothing_left left rest c e)) a)

pub reach_end_breaks : (M : List ℕ → Answer → Type 0) (first now : Making) (all left rest : Option (List ℕ))
    (s t : Status) (o p q : Option (List ℕ)) → Reaches M first all now left s t o p → Consumes left rest []
    → IsAtEnd rest
    → Breaks M (made now []) p q → IfSome all (λ bytes. Breaks M (made first bytes) o q)
reach_end_breaks M first now None left rest s t o p q r c e a = tt
reach_end_breaks M first now (Some all) None rest s t o p q r c e a = absurd r
reach_end_breaks M first now (Some all) (Some left) None s t o p q r c e a = absurd c
reach_end_breaks M first now (Some all) (Some left) (Some rest) s t o p q r c e a =
    breaks_later M (made first all) (made now left) s t o p q r
    (subst (λ l. Breaks M (made now l) p q) (sym (nothing_left left rest c e)) a)

-- ---- the pieces that are whole in the bytes taken

-- whatever bytes follow those that were taken, the pieces that are whole in these were answered
abbrev pub KeepsUp : (List ℕ → Answer → Type 0) → Making → Option (List ℕ) → Making → Option (List ℕ) → Status → Status
    → Option (List ℕ) → Option (List ℕ) → Type 0
KeepsUp Meaning first all now left before s old new =
    (bytes : List ℕ) × (Consumes all left bytes ×
    ((rest : List ℕ) → GoesOn Meaning (completed first (bytes ++ rest)) (completed now rest) before s old new))

consumed_none : (left : Option (List ℕ)) → Consumes left left []
consumed_none None = tt
consumed_none (Some left) = refl

pub keeps_up_start : (M : List ℕ → Answer → Type 0) (m first : Making) (left : Option (List ℕ)) (s : Status)
    (o : Option (List ℕ)) → m ≡ first → KeepsUp M first left m left s s o o
keeps_up_start M m first left s o e =
    subst (λ k. KeepsUp M first left k left s s o o) (sym e)
    ([], (consumed_none left, λ rest. nothing_yet M (completed first rest) s o))

pub keeps_up_further : (M : List ℕ → Answer → Type 0) (first now later : Making) (all left rest : Option (List ℕ))
    (bytes : List ℕ) (s t u : Status) (o p q : Option (List ℕ)) → KeepsUp M first all now left s t o p
    → Consumes left rest bytes
    → ((more : List ℕ) → GoesOn M (completed now (bytes ++ more)) (completed later more) t u p q)
    → KeepsUp M first all later rest s u o q
keeps_up_further M first now later all left rest bytes s t u o p q (bs, (c, f)) d g = (
  bs ++ bytes,
  (
    Consumes-then all left rest bs bytes c d,
    λ more. subst (λ l. GoesOn M (completed first l) (completed later more) s u o q)
        (sym (append_assoc bs bytes more))
        (goes_further M (completed first (bs ++ (bytes ++ more))) (completed now (bytes ++ more))
        (completed later more) s t u o p q (f (bytes ++ more)) (g more)),
  ),
)

pub keeps_up_at_fault : (M : List ℕ → Answer → Type 0) (n : ℕ) (now : Making) (all left rest : Option (List ℕ))
    (s t : Status) (o p : Option (List ℕ)) → KeepsUp M (nothing n) all now left s t o p → Keeps left rest
    → IsUpToDate M n all rest o p
keeps_up_at_fault M n now None left rest s t o p r k = tt
keeps_up_at_fault M n now (Some all) left rest s t o p (bs, (c, f)) k =
    let a = all_answered M (completed (nothing n) bs) s t o p
    (subst (λ l. GoesOn M (completed (nothing n) l) [] s t o p) (append-nil bs) (f [])) in
    (bs, (taken_kept (Some all) left rest bs c k, (a.0, (a.1.0, a.1.1.0))))

pub no_first : (A B : Type 0) → A ⊎ B → (A → ⊥) → B
no_first A B (inl a) n = absurd (n a)
no_first A B (inr b) n = b
