-- What no words, and one word alone, behind the first one of a command are read as.
--
-- Main results: no_value, bare_read, bare_fault, alone_empty, alone_bad, alone_many, alone_read, none_some
use Rattle.std.specs.Prelude.{ℕ, ◌≡◌, ◌<◌, length, map, List, [], ◌∷◌, refl, true, false, ◌==◌, suc, Ok, Err, Option}
use Rattle.std.specs.Prelude.{Some, None}
use Rattle.std.proofs.Common.{arith, ap, subst, sym, ◌∙◌}
use Rattle.std.proofs.lemmas.Bool.{false≢true, ne_eqb}
use Rattle.om_printing.specs.declared.usage.Usage.{Usage}
use Rattle.om_words.specs.declared.task.Task.{Task}
use Rattle.om_words.specs.Words.{IsBare, IsAlone, at_word, at_end, IsRead}
use Rattle.om_words.proofs.WordLaws.{first_of, tail_of}

too_long : (word : List ℕ) (words : List (List ℕ)) → word ∷ words ≡ [] → ⊥
too_long word words same = cc

more_than_none : (n : ℕ) → true ≡ (suc n == 0) → ⊥
more_than_none n same = false≢true (sym (ne_eqb (suc n) 0 (λ e. omega (arith, e))) ∙ sym same)

pub no_value : {A : Type 0} (u : Usage) (a : A) → Err u ≡ Ok a → ⊥
no_value u a same = cc

-- ---- no word

pub bare_read : {X : Type 0} (f : X → List ℕ) (task : Task) (words : List X) → true ≡ (length words == 0)
    → IsRead (IsBare task) (map f words) (Ok task)
bare_read f task [] empty =
    record { value = λ t. (λ same. let one : task ≡ t = cc in (refl, sym one), λ is. ap Ok (sym is.1)); fault = tt }
bare_read f task (word ∷ words) empty = absurd (more_than_none (length words) empty)

pub bare_fault : {X : Type 0} (f : X → List ℕ) (task : Task) (words : List X) → false ≡ (length words == 0)
    → IsRead (IsBare task) (map f words) (Err (record { word = 2 }))
bare_fault f task [] some = absurd (false≢true some)
bare_fault f task (word ∷ words) some = record {
  value = λ t. (λ same. absurd (no_value _ t same), λ is. absurd (too_long (f word) (map f words) is.0));
  fault = (
    1,
    (refl, at_word [] (f word) (map f words) ([], (task, (refl, refl))) (λ b. too_long (f word) b.0 b.1.1.0)),
  );
}

-- ---- one word alone

pub alone_empty : {X A : Type 0} (Spelling : List ℕ → A → Type 0) (f : X → List ℕ) (words : List X)
    → ((word : List ℕ) × ((a : A) × Spelling word a)) → length words < 1
    → IsRead (IsAlone Spelling) (map f words) (Err (record { word = 2 }))
alone_empty Spelling f [] sample few = record {
  value = λ a. (λ same. absurd (no_value _ a same), λ alone. absurd (too_long alone.0 [] (sym alone.1.0)));
  fault = (
    1,
    (
      refl,
      at_end [] (sample.0 ∷ [], (sample.1.0, (sample.0, (refl, sample.1.1))))
          (λ h. too_long h.1.0 [] (sym h.1.1.0)),
    ),
  );
}
alone_empty Spelling f (word ∷ words) sample few = absurd (omega arith)

same_word : {A : Type 0} (Spelling : List ℕ → A → Type 0) (word : List ℕ) (more : List (List ℕ)) (a : A)
    → IsAlone Spelling (word ∷ more) a → Spelling word a
same_word Spelling word more a (other, (same, spells)) = subst (λ w. Spelling w a) (sym (ap first_of same)) spells

pub alone_bad : {A : Type 0} (Spelling : List ℕ → A → Type 0) (word : List ℕ) (more : List (List ℕ))
    → ((word : List ℕ) × ((a : A) × Spelling word a)) → ((a : A) → Spelling word a → ⊥)
    → IsRead (IsAlone Spelling) (word ∷ more) (Err (record { word = 2 }))
alone_bad Spelling word more sample none = record {
  value = λ a. (λ same. absurd (no_value _ a same), λ alone. absurd (none a (same_word Spelling word more a alone)));
  fault = (
    1,
    (
      refl,
      at_word [] word more (sample.0 ∷ [], (sample.1.0, (sample.0, (refl, sample.1.1))))
          (λ b. none b.1.0 (same_word Spelling word b.0 b.1.0 b.1.1)),
    ),
  );
}

pub alone_many : {X A : Type 0} (Spelling : List ℕ → A → Type 0) (f : X → List ℕ) (word : List ℕ) (more : List X)
    (a : A) → Spelling word a → false ≡ (length more == 0)
    → IsRead (IsAlone Spelling) (word ∷ map f more) (Err (record { word = 3 }))
alone_many Spelling f word [] a spells some = absurd (false≢true some)
alone_many Spelling f word (next ∷ more) a spells some = record {
  value = λ b. (
    λ same. absurd (no_value _ b same),
    λ alone. absurd (too_long (f next) (map f more) (ap tail_of alone.1.0)),
  );
  fault = (
    2,
    (
      refl,
      at_word (word ∷ []) (f next) (map f more) ([], (a, (word, (refl, spells))))
          (λ b. too_long (f next) b.0 (ap tail_of b.1.1.1.0)),
    ),
  );
}

pub alone_read : {X A : Type 0} (Spelling : List ℕ → A → Type 0) (f : X → List ℕ) (word : List ℕ) (more : List X)
    (a : A) → Spelling word a → ((b : A) → Spelling word b → a ≡ b) → true ≡ (length more == 0)
    → IsRead (IsAlone Spelling) (word ∷ map f more) (Ok a)
alone_read Spelling f word (next ∷ more) a spells one empty = absurd (more_than_none (length more) empty)
alone_read Spelling f word [] a spells one empty = record {
  value = λ b. (
    λ same. let e : a ≡ b = cc in (word, (refl, subst (Spelling word) e spells)),
    λ alone. ap Ok (one b (same_word Spelling word [] b alone)),
  );
  fault = tt;
}

-- ---- options

pub none_some : {A : Type 0} {o : Option A} (a : A) → o ≡ None → o ≡ Some a → ⊥
none_some {A = A} a none some = let same : ◌≡◌ {A = Option A} None (Some a) = sym none ∙ some in cc
