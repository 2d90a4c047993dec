-- What commands with options, and with a number before them, are read as.
--
-- Main definitions: AreSeedBefore
-- Main results: set_read, set_fault, set_passed, budgets_same, seed_read, seed_missing, seed_bad, seed_fault,
-- seed_passed
use Rattle.std.specs.Prelude.{ℕ, ◌≡◌, ◌↔◌, ◌<◌, ◌+◌, List, [], ◌∷◌, length, map, Some, None, Result, Ok, Err}
use Rattle.std.specs.Prelude.{IfErr, IsErrAnd, codes, refl}
use Rattle.std.proofs.Common.{arith, ap, subst, sym, ◌∙◌}
use Rattle.std.proofs.lemmas.Option.{same_Some}
use Rattle.om_lines.specs.Lines.{Begins}
use Rattle.om_printing.specs.declared.usage.Usage.{Usage}
use Rattle.om_words.specs.declared.setting.Setting.{Setting}
use Rattle.om_words.specs.declared.setting.Setting.TheVariants.{BoxSize, Steps, Pivots, Count}
use Rattle.om_words.specs.Words.{IsFault, at_word, at_end, HasValue, IsRead}
use Rattle.om_words.specs.Readings.{IsReadBehind}
use Rattle.om_words.specs.Options.{AreOptions, number_of, number_within, AreSet, AreSeedAndCount, budgets_of}
use Rattle.om_words.proofs.ArgumentLaws.{no_value, none_some}
use Rattle.om_words.proofs.WordLaws.{first_of, tail_of, fault_behind, fault_of}

-- ---- commands with options

pub set_read : {A : Type 0} (settings : List Setting) (amount : List (List ℕ) → A) (words : List (List ℕ))
    (result : Result (Unit {0}) Usage) (a : A) → IsReadBehind 1 (AreOptions settings) words result → result ≡ Ok tt
    → a ≡ amount words → IsRead (AreSet settings amount) words (Ok a)
set_read settings amount words result a read is made = record {
  value = λ b. (
    λ same. let e : a ≡ b = cc in ((read.value tt).0 is, sym e ∙ made),
    λ set. ap Ok (made ∙ sym set.1),
  );
  fault = tt;
}

pub set_fault : {A : Type 0} (settings : List Setting) (amount : List (List ℕ) → A) (words : List (List ℕ))
    (result : Result (Unit {0}) Usage) (u : Usage) → IsReadBehind 1 (AreOptions settings) words result → result ≡ Err u
    → IsRead (AreSet settings amount) words (Err u)
set_fault settings amount words result u read is = record {
  value = λ a. (λ made. absurd (no_value _ a made), λ set. let again = (read.value tt).1 set.0 in cc);
  fault =
      let fault =
      subst (λ r. IfErr r
      (λ usage. (k : ℕ) × ((usage.word ≡ k + 1) × IsFault (HasValue (AreOptions settings)) words k))) is
      read.fault in (
        fault.0,
        (fault.1.0, fault_of (HasValue (AreOptions settings)) (HasValue (AreSet settings amount)) same fault.1.1),
      );
}
  where
    same : (ws : List (List ℕ)) → HasValue (AreOptions settings) ws ↔ HasValue (AreSet settings amount) ws
    same ws = (λ h. (amount ws, (h.1, refl)), λ h. (tt, h.1.0))

-- the same where an error is passed on
pub set_passed : {A : Type 0} (settings : List Setting) (amount : List (List ℕ) → A) (words : List (List ℕ))
    (result : Result (Unit {0}) Usage) (u : Usage) (passed : Result A Usage)
    → IsReadBehind 1 (AreOptions settings) words result → result ≡ Err u → IsErrAnd passed (λ e. e ≡ u)
    → IsRead (AreSet settings amount) words passed
set_passed settings amount words result u (Ok a) read is err = absurd err
set_passed settings amount words result u (Err e) read is err =
    rw err (set_fault settings amount words result u read is)

pub budgets_same : (words : List (List ℕ)) (b s p : ℕ) → b ≡ number_of words BoxSize → s ≡ number_of words Steps
    → p ≡ number_of words Pivots → record { box_size = b; steps = s; pivots = p } ≡ budgets_of words
budgets_same words b s p box steps pivots = rw (box, steps, pivots) refl

-- ---- a number before options

-- what the two parts are
pub record AreSeedBefore (word : List ℕ) (more : List (List ℕ)) (made : ℕ × ℕ) : Type 0 where
  pub seed : number_within 0 4294967295 word ≡ Some made.0
  pub count : AreSet (Count ∷ []) (λ ws. number_of ws Count) more made.1

seed_parts : (word : List ℕ) (more : List (List ℕ)) (made : ℕ × ℕ) → AreSeedAndCount (word ∷ more) made
    → AreSeedBefore word more made
seed_parts word more made (other, (options, (same, seed, set))) = record {
  seed = subst (λ w. number_within 0 4294967295 w ≡ Some made.0) (sym (ap first_of same)) seed;
  count = subst (λ ws. AreSet (Count ∷ []) (λ ws. number_of ws Count) ws made.1) (sym (ap tail_of same)) set;
}

parts_seed : (word : List ℕ) (more : List (List ℕ)) (made : ℕ × ℕ) → AreSeedBefore word more made
    → AreSeedAndCount (word ∷ more) made
parts_seed word more made parts = (word, (more, (refl, parts.seed, parts.count)))

pub seed_read : (word : List ℕ) (more : List (List ℕ)) (result : Result (Unit {0}) Usage) (n k : ℕ)
    → number_within 0 4294967295 word ≡ Some n → IsReadBehind 2 (AreOptions (Count ∷ [])) more result → result ≡ Ok tt
    → k ≡ number_of more Count → IsRead AreSeedAndCount (word ∷ more) (Ok (n, k))
seed_read word more result n k seed read is made = record {
  value = λ b. (
    λ same. let e : (n, k) ≡ b = cc in
        subst (AreSeedAndCount (word ∷ more)) e
        (parts_seed word more (n, k) (record { seed = seed; count = ((read.value tt).0 is, made) })),
    λ other.
        let parts = seed_parts word more b other in
        let first : n ≡ b.0 = same_Some _ _ (sym seed ∙ parts.seed) in
        let second : k ≡ b.1 = made ∙ sym parts.count.1 in
        ap Ok (ap (λ x. let p : ℕ × ℕ = (x, k) in p) first ∙ ap (λ y. let p : ℕ × ℕ = (b.0, y) in p) second),
  );
  fault = tt;
}

seed_begins : Begins (HasValue AreSeedAndCount) []
seed_begins = (codes "0" ∷ [], ((0, 16), (codes "0", ([], (refl, refl, (λ i l. absurd (omega (arith, l)), refl))))))

pub seed_missing : {X : Type 0} (f : X → List ℕ) (words : List X) → length words < 1
    → IsRead AreSeedAndCount (map f words) (Err (record { word = 2 }))
seed_missing f [] few = record {
  value = λ b. (λ made. absurd (no_value _ b made), λ other. absurd (none (b, other)));
  fault = (1, (refl, at_end [] seed_begins none));
}
  where
    none : HasValue AreSeedAndCount [] → ⊥
    none h = let same = h.1.1.1.0 in cc
seed_missing f (word ∷ words) few = absurd (omega arith)

pub seed_bad : (word : List ℕ) (more : List (List ℕ)) → number_within 0 4294967295 word ≡ None
    → IsRead AreSeedAndCount (word ∷ more) (Err (record { word = 2 }))
seed_bad word more bad = record {
  value = λ b. (
    λ made. absurd (no_value _ b made),
    λ other. absurd (none_some b.0 bad (seed_parts word more b other).seed),
  );
  fault = (
    1,
    (refl, at_word [] word more seed_begins (λ b. none_some b.1.0.0 bad (seed_parts word b.0 b.1.0 b.1.1).seed)),
  );
}

pub seed_fault : (word : List ℕ) (more : List (List ℕ)) (result : Result (Unit {0}) Usage) (n : ℕ) (u : Usage)
    → number_within 0 4294967295 word ≡ Some n → IsReadBehind 2 (AreOptions (Count ∷ [])) more result → result ≡ Err u
    → IsRead AreSeedAndCount (word ∷ more) (Err u)
seed_fault word more result n u seed read is = record {
  value = λ b. (
    λ made. absurd (no_value _ b made),
    λ other. let again =
        (read.value tt).1 (seed_parts word more b other).count.0 in cc,
  );
  fault =
      let fault =
      subst (λ r. IfErr r
      (λ usage. (k : ℕ) × ((usage.word ≡ k + 2) × IsFault (HasValue (AreOptions (Count ∷ []))) more k))) is
      read.fault in
      let place = fault.1.0 in (
        fault.0 + 1,
        (
          omega (arith, place),
          fault_behind (HasValue (AreOptions (Count ∷ []))) (HasValue AreSeedAndCount) word same fault.1.1,
        ),
      );
}
  where
    same : (ws : List (List ℕ)) → HasValue (AreOptions (Count ∷ [])) ws ↔ HasValue AreSeedAndCount (word ∷ ws)
    same ws = (
      λ h. (
        (n, number_of ws Count),
        parts_seed word ws (n, number_of ws Count) (record { seed = seed; count = (h.1, refl) }),
      ),
      λ h. (tt, (seed_parts word ws h.0 h.1).count.0),
    )

-- the same where an error is passed on
pub seed_passed : (word : List ℕ) (more : List (List ℕ)) (result : Result (Unit {0}) Usage) (n : ℕ) (u : Usage)
    (passed : Result (ℕ × ℕ) Usage) → number_within 0 4294967295 word ≡ Some n
    → IsReadBehind 2 (AreOptions (Count ∷ [])) more result → result ≡ Err u → IsErrAnd passed (λ e. e ≡ u)
    → IsRead AreSeedAndCount (word ∷ more) passed
seed_passed word more result n u (Ok a) seed read is err = absurd err
seed_passed word more result n u (Err e) seed read is err = rw err (seed_fault word more result n u seed read is)
