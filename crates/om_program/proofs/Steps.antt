-- The steps of a run over many pieces: one piece, one byte, the bytes of a reading, and the end of the input.
--
-- Main results: replied_not, answered_replied, replied_answered, only_own, next_answers, no_piece, next_breaks,
-- byte_goes, byte_breaks, byte_completes, loop_goes, loop_stops, loop_breaks, loop_ends, end_answers, end_breaks_later,
-- end_breaks, end_stops
use Rattle.std.specs.Prelude.{ℕ, ◌≡◌, ◌≢◌, ◌⊎◌, ◌+◌, ◌<◌, ◌≤◌, ◌++◌, List, [], ◌∷◌, Option, max, drop, length}
use Rattle.std.specs.Prelude.{get_or}
use Rattle.std.proofs.Common.{refl, sym, ap, ◌∙◌, subst, append-nil, arith, inl, inr}
use Rattle.std.specs.Io.KnownBytes.{Appends}
use Rattle.std.proofs.lemmas.List.{drop_all}
use Rattle.om_reply.specs.declared.answer.Answer.{Answer}
use Rattle.om_reply.specs.declared.status.Status.{Status}
use Rattle.om_reply.specs.declared.status.Status.TheVariants.{Done, Refused, Usage, Limit, ReadFault, WriteFault}
use Rattle.om_reply.specs.declared.status.Status.TheVariants.{NoMemory}
use Rattle.om_reply.specs.Answers.{status_of, text_of}
use Rattle.om_reply.specs.Written.{IsFront}
use Rattle.om_reply.specs.Statuses.{code_of, IsAnswered, IsReplied}
use Rattle.om_pieces.specs.Making.{Making, completed, fed, last_ended, rest_of, option_list, made}
use Rattle.om_pieces.proofs.Steps.{bytes_at, made_byte, made_end}
use Rattle.om_port.proofs.Taking.{appended_none}
use Rattle.om_program.specs.Answered.{none, one_more, AreAnswered, GoesOn, Stops, Breaks}
use Rattle.om_program.proofs.Chaining.{goes_on, goes_further, all_answered, stops_later, breaks_later}
use Rattle.om_program.proofs.Chaining.{breaks_among, stops_here}

-- ---- statuses

-- a status with which the whole answer was written isn't one of the others
pub replied_not : (s x : Status) → IsReplied s → (IsReplied x → ⊥) → s ≢ x
replied_not s x replied other e = other (subst IsReplied e replied)

answered_small : (s : Status) → IsAnswered s → code_of s ≤ 3
answered_small Done a = omega arith
answered_small Refused a = omega arith
answered_small Usage a = omega arith
answered_small Limit a = omega arith
answered_small ReadFault a = absurd a
answered_small WriteFault a = absurd a
answered_small NoMemory a = absurd a

small_answered : (s : Status) → code_of s ≤ 3 → IsAnswered s
small_answered Done h = tt
small_answered Refused h = tt
small_answered Usage h = tt
small_answered Limit h = tt
small_answered ReadFault h = absurd (omega (arith, h))
small_answered WriteFault h = absurd (omega (arith, h))
small_answered NoMemory h = absurd (omega (arith, h))

pub answered_replied : (s : Status) → IsAnswered s → s ≢ Usage → IsReplied s
answered_replied Done a n = tt
answered_replied Refused a n = tt
answered_replied Usage a n = absurd (n refl)
answered_replied Limit a n = tt
answered_replied ReadFault a n = absurd a
answered_replied WriteFault a n = absurd a
answered_replied NoMemory a n = absurd a

pub replied_answered : (s : Status) → IsReplied s → IsAnswered s
replied_answered Done a = tt
replied_answered Refused a = tt
replied_answered Usage a = absurd a
replied_answered Limit a = tt
replied_answered ReadFault a = absurd a
replied_answered WriteFault a = absurd a
replied_answered NoMemory a = absurd a

-- a status that is none before is the own one
pub only_own : (before s result x : Status) → IsReplied before → (IsReplied x → ⊥) → (result ≡ before) ⊎ (result ≡ s)
    → result ≡ x → s ≡ x
only_own before s result x replied other (inl e) is = absurd (other (subst IsReplied (sym e ∙ is) replied))
only_own before s result x replied other (inr e) is = sym e ∙ is

-- ---- one piece

pub next_answers : (M : List ℕ → Answer → Type 0) (piece : List ℕ) (before s result : Status) (o n : Option (List ℕ))
    → IsAnswered result → code_of result ≡ max (code_of before) (code_of s)
    → (IsAnswered s → (answer : Answer) × (M piece answer × ((s ≡ status_of answer) × Appends o n (text_of answer))))
    → AreAnswered M (piece ∷ []) before result o n
next_answers M piece before s result o n a e f =
    go (f (small_answered s (let k = answered_small result a in omega (arith, k, e))))
  where
    go : (answer : Answer) × (M piece answer × ((s ≡ status_of answer) × Appends o n (text_of answer)))
        → AreAnswered M (piece ∷ []) before result o n
    go (answer, (m, (is, w))) =
        let q = ap code_of is in
        let k : code_of s ≡ max (code_of (status_of answer)) 0 = omega (arith, q) in (
          answer ∷ [],
          (
            one_more piece [] answer [] m none,
            (
              subst (λ xs. Appends o n xs) (sym (append-nil (text_of answer))) w,
              e
                  ∙ ap (λ c. max (code_of before) c) k,
            ),
          ),
        )

pub no_piece : (M : List ℕ → Answer → Type 0) (s : Status) (o : Option (List ℕ)) → AreAnswered M [] s s o o
no_piece M s o = ([], (none, (appended_none o, omega arith)))

pub next_breaks : (M : List ℕ → Answer → Type 0) (piece : List ℕ) (o n : Option (List ℕ))
    → (answer : Answer) × (M piece answer × IsFront o n (text_of answer)) → Breaks M (piece ∷ []) o n
next_breaks M piece o n (answer, (m, (k, (short, w)))) =
    ([], (piece, ([], (refl, ([], (none, (answer, (m, (k, (short, w))))))))))

-- ---- one byte

pub byte_goes : (M : List ℕ → Answer → Type 0) (m now : Making) (piece : Option (List ℕ)) (b : ℕ) (rest : List ℕ)
    (s t : Status) (o n : Option (List ℕ)) → ◌≡◌ {A = Making × Option (List ℕ)} (now, piece) (fed m b)
    → AreAnswered M (option_list piece) s t o n → GoesOn M (made m (b ∷ rest)) (made now rest) s t o n
byte_goes M m now piece b rest s t o n e a =
    subst (λ all. GoesOn M all (made now rest) s t o n) (sym (made_byte m now piece b rest e))
    (goes_on M (option_list piece) (made now rest) s t o n a)

pub byte_breaks : (M : List ℕ → Answer → Type 0) (m now : Making) (piece : Option (List ℕ)) (b : ℕ) (rest : List ℕ)
    (o n : Option (List ℕ)) → ◌≡◌ {A = Making × Option (List ℕ)} (now, piece) (fed m b)
    → Breaks M (option_list piece) o n → Breaks M (made m (b ∷ rest)) o n
byte_breaks M m now piece b rest o n e a =
    subst (λ all. Breaks M all o n) (sym (made_byte m now piece b rest e))
    (breaks_among M (option_list piece) (made now rest) o n a)

completed_byte : (m now : Making) (piece : Option (List ℕ)) (b : ℕ) (rest : List ℕ)
    → ◌≡◌ {A = Making × Option (List ℕ)} (now, piece) (fed m b)
    → completed m (b ∷ rest) ≡ option_list piece ++ completed now rest
completed_byte m now piece b rest e =
    sym (ap (λ (k : Making × Option (List ℕ)). option_list (k.1) ++ completed (k.0) rest) e)

pub byte_completes : (M : List ℕ → Answer → Type 0) (m now : Making) (piece : Option (List ℕ)) (b : ℕ) (rest : List ℕ)
    (s t : Status) (o n : Option (List ℕ)) → ◌≡◌ {A = Making × Option (List ℕ)} (now, piece) (fed m b)
    → AreAnswered M (option_list piece) s t o n → GoesOn M (completed m (b ∷ rest)) (completed now rest) s t o n
byte_completes M m now piece b rest s t o n e a =
    subst (λ all. GoesOn M all (completed now rest) s t o n) (sym (completed_byte m now piece b rest e))
    (goes_on M (option_list piece) (completed now rest) s t o n a)

-- ---- the bytes of a reading

-- for pieces that are made, and for those that are completed
pub loop_goes : (M : List ℕ → Answer → Type 0) (pieces : Making → List ℕ → List (List ℕ)) (first now next : Making)
    (bytes rest : List ℕ) (i : ℕ) (s t u : Status) (o p q : Option (List ℕ)) → i < length bytes
    → GoesOn M (pieces first (bytes ++ rest)) (pieces now (drop i bytes ++ rest)) s t o p
    → ((more : List ℕ) → GoesOn M (pieces now (get_or bytes i 0 ∷ more)) (pieces next more) t u p q)
    → GoesOn M (pieces first (bytes ++ rest)) (pieces next (drop (i + 1) bytes ++ rest)) s u o q
loop_goes M pieces first now next bytes rest i s t u o p q h a g =
    goes_further M (pieces first (bytes ++ rest)) (pieces now (drop i bytes ++ rest))
    (pieces next (drop (i + 1) bytes ++ rest)) s t u o p q a
    (subst (λ l. GoesOn M (pieces now l) (pieces next (drop (i + 1) bytes ++ rest)) t u p q)
    (sym (bytes_at bytes rest i h)) (g (drop (i + 1) bytes ++ rest)))

pub loop_stops : (M : List ℕ → Answer → Type 0) (first now : Making) (bytes rest : List ℕ) (i : ℕ) (s t : Status)
    (o p q : Option (List ℕ)) → i < length bytes
    → GoesOn M (made first (bytes ++ rest)) (made now (drop i bytes ++ rest)) s t o p
    → ((more : List ℕ) → Stops M (made now (get_or bytes i 0 ∷ more)) p q)
    → Stops M (made first (bytes ++ rest)) o q
loop_stops M first now bytes rest i s t o p q h a g =
    stops_later M (made first (bytes ++ rest)) (made now (drop i bytes ++ rest)) s t o p q a
    (subst (λ l. Stops M (made now l) p q) (sym (bytes_at bytes rest i h)) (g (drop (i + 1) bytes ++ rest)))

pub loop_breaks : (M : List ℕ → Answer → Type 0) (first now : Making) (bytes rest : List ℕ) (i : ℕ) (s t : Status)
    (o p q : Option (List ℕ)) → i < length bytes
    → GoesOn M (made first (bytes ++ rest)) (made now (drop i bytes ++ rest)) s t o p
    → ((more : List ℕ) → Breaks M (made now (get_or bytes i 0 ∷ more)) p q)
    → Breaks M (made first (bytes ++ rest)) o q
loop_breaks M first now bytes rest i s t o p q h a g =
    breaks_later M (made first (bytes ++ rest)) (made now (drop i bytes ++ rest)) s t o p q a
    (subst (λ l. Breaks M (made now l) p q) (sym (bytes_at bytes rest i h)) (g (drop (i + 1) bytes ++ rest)))

-- for pieces that are made, and for those that are completed
pub loop_ends : (M : List ℕ → Answer → Type 0) (pieces : Making → List ℕ → List (List ℕ)) (first now : Making)
    (bytes rest : List ℕ) (i : ℕ) (s t : Status) (o p : Option (List ℕ)) → length bytes ≤ i
    → GoesOn M (pieces first (bytes ++ rest)) (pieces now (drop i bytes ++ rest)) s t o p
    → GoesOn M (pieces first (bytes ++ rest)) (pieces now rest) s t o p
loop_ends M pieces first now bytes rest i s t o p h a =
    subst (λ l. GoesOn M (pieces first (bytes ++ rest)) (pieces now l) s t o p)
    (ap (λ l. l ++ rest) (drop_all i bytes h)) a

-- ---- the end of the input

pub end_answers : (M : List ℕ → Answer → Type 0) (m now : Making) (piece left : Option (List ℕ)) (s t u : Status)
    (o p q : Option (List ℕ)) → ◌≡◌ {A = Making × Option (List ℕ)} (now, piece) (last_ended m) → left ≡ rest_of now
    → AreAnswered M (option_list piece) s t o p → AreAnswered M (option_list left) t u p q
    → AreAnswered M (made m []) s u o q
end_answers M m now piece left s t u o p q e f a b =
    subst (λ all. AreAnswered M all s u o q) (sym (made_end m now piece left e f))
    (all_answered M (option_list piece ++ option_list left) s u o q
    (goes_further M (option_list piece ++ option_list left) (option_list left) [] s t u o p q
    (goes_on M (option_list piece) (option_list left) s t o p a)
    (subst (λ l. GoesOn M l [] t u p q) (append-nil (option_list left)) (goes_on M (option_list left) [] t u p q b))))

pub end_breaks_later : (M : List ℕ → Answer → Type 0) (m now : Making) (piece left : Option (List ℕ)) (s t : Status)
    (o p q : Option (List ℕ)) → ◌≡◌ {A = Making × Option (List ℕ)} (now, piece) (last_ended m) → left ≡ rest_of now
    → AreAnswered M (option_list piece) s t o p → Breaks M (option_list left) p q → Breaks M (made m []) o q
end_breaks_later M m now piece left s t o p q e f a b =
    subst (λ all. Breaks M all o q) (sym (made_end m now piece left e f))
    (breaks_later M (option_list piece ++ option_list left) (option_list left) s t o p q
    (goes_on M (option_list piece) (option_list left) s t o p a) b)

pub end_breaks : (M : List ℕ → Answer → Type 0) (m now : Making) (piece : Option (List ℕ)) (o p : Option (List ℕ))
    → ◌≡◌ {A = Making × Option (List ℕ)} (now, piece) (last_ended m) → Breaks M (option_list piece) o p
    → Breaks M (made m []) o p
end_breaks M m now piece o p e b =
    subst (λ all. Breaks M all o p) (sym (made_end m now piece (rest_of now) e refl))
    (breaks_among M (option_list piece) (option_list (rest_of now)) o p b)

pub end_stops : (M : List ℕ → Answer → Type 0) (m now : Making) (piece : Option (List ℕ)) (s t : Status)
    (o p : Option (List ℕ)) → ◌≡◌ {A = Making × Option (List ℕ)} (now, piece) (last_ended m)
    → AreAnswered M (option_list piece) s t o p → Stops M (made m []) o p
end_stops M m now piece s t o p e a =
    subst (λ all. Stops M all o p) (sym (made_end m now piece (rest_of now) e refl))
    (stops_here M (option_list piece ++ option_list (rest_of now)) (option_list (rest_of now)) s t o p
    (goes_on M (option_list piece) (option_list (rest_of now)) s t o p a))
