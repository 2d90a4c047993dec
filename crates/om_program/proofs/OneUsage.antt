-- Words have one usage at most, and those of a command have none.
--
-- Main results: one_usage, no_usage.
use Rattle.std.specs.Prelude.{ℕ, ◌≡◌, ◌<◌, ◌≤◌, ◌+◌, List, [], ◌∷◌, ◌++◌, length, take, drop, refl}
use Rattle.std.proofs.Common.{sym, ◌∙◌, ap, subst, arith, append_assoc, inl, inr}
use Rattle.std.proofs.lemmas.Bool.{cases_lt}
use Rattle.std.proofs.lemmas.List.{length-append, take-append-drop, take-take, take_all, take_at}
use Rattle.om_lines.specs.Lines.{Begins}
use Rattle.om_words.specs.declared.task.Task.{Task}
use Rattle.om_words.specs.Words.{Names, AreCommand, IsUsage, at_word, at_end}

-- the word behind the first j is the one at fault: these begin a command, and with one word more, where there is one,
-- they begin none
record StopsAt (words : List (List ℕ)) (j : ℕ) : Type 0 where
  within : j ≤ length words
  begins : Begins AreCommand (take j words)
  stops : j < length words → Begins AreCommand (take (j + 1) words) → ⊥
  ends : j ≡ length words → AreCommand words → ⊥

fewer_begin : (words : List (List ℕ)) (i j : ℕ) → i ≤ j → Begins AreCommand (take j words)
    → Begins AreCommand (take i words)
fewer_begin words i j l (more, command) =
    let whole : take i words ++ drop i (take j words) ≡ take j words =
    ap (λ u. u ++ drop i (take j words)) (sym (take-take i j words l)) ∙ take-append-drop i (take j words) in (
      drop i (take j words) ++ more,
      subst AreCommand (ap (λ u. u ++ more) (sym whole) ∙ append_assoc (take i words) (drop i (take j words)) more)
          command,
    )

command_begins : (words : List (List ℕ)) (i : ℕ) → AreCommand words → Begins AreCommand (take i words)
command_begins words i command = (drop i words, subst AreCommand (sym (take-append-drop i words)) command)

stops_at : (words : List (List ℕ)) (k : ℕ) → IsUsage words k → (j : ℕ) × (k ≡ j + 1) × StopsAt words j
stops_at words k (at_word before word after begins none) = (
  length before,
  refl,
  record {
    within = omega (arith, size);
    begins = subst (Begins AreCommand) (sym (take_at before (word ∷ after) (length before) refl)) begins;
    stops = λ l more. none (subst (Begins AreCommand) taken more);
    ends = λ same command. absurd (omega (arith, size));
  },
)
  where
    size : length (before ++ word ∷ after) ≡ length before + length (word ∷ after)
    size = length-append before (word ∷ after)

    taken : take (length before + 1) (before ++ word ∷ after) ≡ before ++ word ∷ []
    taken = ap (take (length before + 1)) (sym (append_assoc before (word ∷ []) after))
        ∙ take_at (before ++ word ∷ []) after (length before + 1) (length-append before (word ∷ []))
stops_at words k (at_end all begins none) = (
  length words,
  refl,
  record {
    within = omega arith;
    begins = subst (Begins AreCommand) (sym (take_all (length words) words (omega arith))) begins;
    stops = λ l more. absurd (omega arith);
    ends = λ same command. none command;
  },
)

none_later : (words : List (List ℕ)) (i j : ℕ) → i < j → StopsAt words i → StopsAt words j → ⊥
none_later words i j l p q =
    p.stops (let within = q.within in omega arith) (fewer_begin words (i + 1) j (omega arith) q.begins)

pub one_usage : (words : List (List ℕ)) (j k : ℕ) → IsUsage words j → IsUsage words k → j ≡ k
one_usage words j k u v = both (stops_at words j u) (stops_at words k v)
  where
    both : (i : ℕ) × (j ≡ i + 1) × StopsAt words i → (l : ℕ) × (k ≡ l + 1) × StopsAt words l → j ≡ k
    both (i, p, at_i) (l, q, at_l) = elim (cases_lt i l) [
      | inl less ↦ absurd (none_later words i l less at_i at_l)
      | inr more ↦ elim (cases_lt l i) [
        | inl less ↦ absurd (none_later words l i less at_l at_i)
        | inr same ↦ omega arith
      ]
    ]

pub no_usage : (words : List (List ℕ)) (k : ℕ) (task : Task) → IsUsage words k → Names words task → ⊥
no_usage words k task u names = at (stops_at words k u)
  where
    at : (j : ℕ) × (k ≡ j + 1) × StopsAt words j → ⊥
    at (j, p, stop) = elim (cases_lt j (length words)) [
      | inl less ↦ stop.stops less (command_begins words (j + 1) (task, names))
      | inr more ↦ stop.ends (let within = stop.within in omega arith) (task, names)
    ]
