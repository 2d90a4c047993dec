-- Which words are at fault, and what the words with `--complete` ask.
--
-- Main results: none_at_fault, first_at_fault, second_at_fault, third_at_fault, least_at_fault, complete_named,
-- exact_named, least_named
use Rattle.std.specs.Prelude.{ℕ, ◌≡◌, ◌<◌, ◌≤◌, ◌↔◌, List, [], ◌∷◌, codes, length, map, Result, Ok}
use Rattle.std.proofs.Common.{refl, sym, ap, subst, ◌∙◌, arith}
use Rattle.om_lines.specs.Lines.{Begins}
use Rattle.om_words.specs.Words.{IsFault, at_word, at_end}
use Rattle.om_printing.specs.declared.usage.Usage.{Usage}
use Rattle.om_levels.specs.declared.family.Family.{Family}
use Rattle.om_levels.specs.declared.family.Family.TheVariants.{Simple, Uniform}
use Rattle.om_chain.specs.declared.asked.Asked.{Asked}
use Rattle.om_chain.specs.declared.asked.Asked.TheVariants.{Complete, Exact}
use Rattle.om_classification.specs.declared.request.Request.{Request}
use Rattle.om_classification.specs.declared.request.Request.TheVariants.{Lists, Least}
use Rattle.om_classification.specs.Requests.{IsRequest, Names, family_word, asking_words}
use Rattle.om_classification.specs.Requests.{least_word}

abbrev tail_of : List (List ℕ) → List (List ℕ)
tail_of [] = []
tail_of (word ∷ words) = words

abbrev first_of : List (List ℕ) → List ℕ
first_of [] = []
first_of (word ∷ words) = word

abbrev asking : Family → Asked → Request
asking family asked = Lists (record { family = family; asked = asked })

empty_begins : Begins IsRequest []
empty_begins = (codes "all" ∷ [], (asking Simple Exact, refl))

no_words : IsRequest [] → ⊥
no_words (Lists r, e) = cc
no_words (Least, e) = cc

pub none_at_fault : {X : Type 0} (f : X → List ℕ) (words : List X) → length words < 1
    → IsFault IsRequest (map f words) 1
none_at_fault f [] few = at_end [] empty_begins no_words
none_at_fault f (word ∷ words) few = absurd (omega arith)

pub first_at_fault : (first : List ℕ) (rest : List (List ℕ)) → (first ≡ least_word → ⊥)
    → ((family : Family) → first ≡ family_word family → ⊥) → IsFault IsRequest (first ∷ rest) 1
first_at_fault first rest other none = at_word [] first rest empty_begins refused
  where
    refused : Begins IsRequest (first ∷ []) → ⊥
    refused (more, (Lists r, e)) = none r.family (ap first_of e)
    refused (more, (Least, e)) = other (ap first_of e)

-- a word behind `least`
not_least : (family : Family) → least_word ≡ family_word family → ⊥
not_least Simple e = cc
not_least Uniform e = cc

none_behind : (word : List ℕ) (more : List (List ℕ)) → ◌≡◌ {A = List (List ℕ)} (word ∷ more) [] → ⊥
none_behind word more e = cc

pub least_at_fault : {X : Type 0} (f : X → List ℕ) (more : List X) → 1 ≤ length more
    → IsFault IsRequest (least_word ∷ map f more) 2
least_at_fault f [] some = absurd (omega arith)
least_at_fault f (word ∷ more) some = at_word (least_word ∷ []) (f word) (map f more) ([], (Least, refl)) refused
  where
    refused : Begins IsRequest (least_word ∷ f word ∷ []) → ⊥
    refused (rest, (Lists r, e)) = not_least r.family (ap first_of e)
    refused (rest, (Least, e)) = none_behind (f word) rest (ap tail_of e)

same_request : (a b : Request) → ◌≡◌ {A = Result Request Usage} (Ok a) (Ok b) → a ≡ b
same_request a b e = cc

least_alone : (r : Request) → ◌≡◌ {A = Result Request Usage} (Ok Least) (Ok r) ↔ Names (least_word ∷ []) r
least_alone (Lists r) = (
  λ same. let e = same_request Least (Lists r) same in cc,
  λ named. absurd (not_least r.family (ap first_of named)),
)
least_alone Least = (λ same. refl, λ named. refl)

pub least_named : {X : Type 0} (f : X → List ℕ) (more : List X) → length more < 1 → (r : Request)
    → ◌≡◌ {A = Result Request Usage} (Ok Least) (Ok r) ↔ Names (least_word ∷ map f more) r
least_named f [] few r = least_alone r
least_named f (word ∷ more) few r = absurd (omega arith)

-- the second word is `--complete`
second_word : (asked : Asked) (option : List ℕ) (more : List (List ℕ)) → option ∷ more ≡ asking_words asked
    → option ≡ codes "--complete"
second_word Exact option more e = absurd (full option more e)
  where
    full : (x : List ℕ) (xs : List (List ℕ)) → ◌≡◌ {A = List (List ℕ)} (x ∷ xs) [] → ⊥
    full x xs e = cc
second_word Complete option more e = ap first_of e

-- no third word follows
third_word : (asked : Asked) (option word : List ℕ) (more : List (List ℕ))
    → option ∷ word ∷ more ≡ asking_words asked → ⊥
third_word Exact option word more e = full option (word ∷ more) e
  where
    full : (x : List ℕ) (xs : List (List ℕ)) → ◌≡◌ {A = List (List ℕ)} (x ∷ xs) [] → ⊥
    full x xs e = cc
third_word Complete option word more e = full word more (ap tail_of e)
  where
    full : (x : List ℕ) (xs : List (List ℕ)) → ◌≡◌ {A = List (List ℕ)} (x ∷ xs) [] → ⊥
    full x xs e = cc

pub second_at_fault : (family : Family) (option : List ℕ) (more : List (List ℕ))
    → (option ≡ codes "--complete" → ⊥) → IsFault IsRequest (family_word family ∷ option ∷ more) 2
second_at_fault family option more other =
    at_word (family_word family ∷ []) option more ([], (asking family Exact, refl)) refused
  where
    refused : Begins IsRequest (family_word family ∷ option ∷ []) → ⊥
    refused (rest, (Lists r, e)) = other (second_word r.asked option rest (ap tail_of e))
    refused (rest, (Least, e)) = none_behind option rest (ap tail_of e)

third_behind : (family : Family) (option word : List ℕ) (more : List (List ℕ)) → option ≡ codes "--complete"
    → IsFault IsRequest (family_word family ∷ option ∷ word ∷ more) 3
third_behind family option word more complete =
    at_word (family_word family ∷ option ∷ []) word more
    ([], (asking family Complete, ap (λ o. family_word family ∷ o ∷ []) complete)) refused
  where
    refused : Begins IsRequest (family_word family ∷ option ∷ word ∷ []) → ⊥
    refused (rest, (Lists r, e)) = third_word r.asked option word rest (ap tail_of e)
    refused (rest, (Least, e)) = none_behind option (word ∷ rest) (ap tail_of e)

pub third_at_fault : {X : Type 0} (f : X → List ℕ) (family : Family) (option : List ℕ) (more : List X)
    → option ≡ codes "--complete" → 1 ≤ length more
    → IsFault IsRequest (family_word family ∷ option ∷ map f more) 3
third_at_fault f family option [] complete some = absurd (omega arith)
third_at_fault f family option (word ∷ more) complete some =
    third_behind family option (f word) (map f more) complete

same_family : (a b : Family) → family_word a ≡ family_word b → a ≡ b
same_family Simple Simple e = refl
same_family Simple Uniform e = cc
same_family Uniform Simple e = cc
same_family Uniform Uniform e = refl

same_asked : (asked : Asked) (option : List ℕ) → option ∷ [] ≡ asking_words asked → Complete ≡ asked
same_asked Exact option e = absurd (full option [] e)
  where
    full : (x : List ℕ) (xs : List (List ℕ)) → ◌≡◌ {A = List (List ℕ)} (x ∷ xs) [] → ⊥
    full x xs e = cc
same_asked Complete option e = refl

complete_alone : (family : Family) (option : List ℕ) → option ≡ codes "--complete" → (r : Request)
    → ◌≡◌ {A = Result Request Usage} (Ok (asking family Complete)) (Ok r)
    ↔ Names (family_word family ∷ option ∷ []) r
complete_alone family option complete (Lists r) = (
  λ same. subst (λ x. Names (family_word family ∷ option ∷ []) x) (same_request (asking family Complete) (Lists r) same)
      (ap (λ o. family_word family ∷ o ∷ []) complete),
  λ named.
      let f : family ≡ r.family = same_family _ _ (ap first_of named) in
      let a : Complete ≡ r.asked = same_asked r.asked option (ap tail_of named) in
      ap Ok (ap (λ x. asking x Complete) f ∙ ap (λ x. asking r.family x) a),
)
complete_alone family option complete Least = (
  λ same. let e = same_request (asking family Complete) Least same in cc,
  λ named. absurd (none_behind option [] (ap tail_of named)),
)

exact_asked : (asked : Asked) → ◌≡◌ {A = List (List ℕ)} [] (asking_words asked) → Exact ≡ asked
exact_asked Exact e = refl
exact_asked Complete e = cc

exact_alone : (family : Family) (r : Request)
    → ◌≡◌ {A = Result Request Usage} (Ok (asking family Exact)) (Ok r) ↔ Names (family_word family ∷ []) r
exact_alone family (Lists r) = (
  λ same. subst (λ x. Names (family_word family ∷ []) x) (same_request (asking family Exact) (Lists r) same) refl,
  λ named.
      let f : family ≡ r.family = same_family _ _ (ap first_of named) in
      let a : Exact ≡ r.asked = exact_asked r.asked (ap tail_of named) in
      ap Ok (ap (λ x. asking x Exact) f ∙ ap (λ x. asking r.family x) a),
)
exact_alone family Least = (
  λ same. let e = same_request (asking family Exact) Least same in cc,
  λ named. absurd (not_least family (sym (ap first_of named))),
)

pub exact_named : {X : Type 0} (f : X → List ℕ) (family : Family) (more : List X) → length more < 1 → (r : Request)
    → ◌≡◌ {A = Result Request Usage} (Ok (asking family Exact)) (Ok r) ↔ Names (family_word family ∷ map f more) r
exact_named f family [] few r = exact_alone family r
exact_named f family (word ∷ more) few r = absurd (omega arith)

pub complete_named : {X : Type 0} (f : X → List ℕ) (family : Family) (option : List ℕ) (more : List X)
    → option ≡ codes "--complete" → length more < 1 → (r : Request)
    → ◌≡◌ {A = Result Request Usage} (Ok (asking family Complete)) (Ok r)
    ↔ Names (family_word family ∷ option ∷ map f more) r
complete_named f family option [] complete few r = complete_alone family option complete r
complete_named f family option (word ∷ more) complete few r = absurd (omega arith)
