-- Words that are three increasing elements: the word at fault where one of them isn't such an element or a fourth word
-- follows, and what the three are read as.
--
-- Main results: none_at, word_of, first_bad, second_bad, third_bad, triple_long, triple_read
use Rattle.std.specs.Prelude.{ℕ, ◌≡◌, ◌<◌, ◌≤◌, ◌+◌, ◌-◌, ◌↔◌, List, [], ◌∷◌, length, map, Result, Ok, Err, IfErr}
use Rattle.std.specs.Prelude.{IsErrAnd, refl}
use Rattle.std.proofs.Common.{arith, ap, subst, sym}
use Rattle.om_signs.specs.declared.limits.TheConstants.{MAX_ELEMENTS}
use Rattle.om_printing.specs.declared.usage.Usage.{Usage}
use Rattle.om_words.specs.Words.{IsFault, at_word, at_end, HasValue, IsRead}
use Rattle.om_words.specs.Triples.{AreTriple, IsElementWithin, IsElementAt}
use Rattle.om_words.proofs.WordLaws.{tail_of}
use Rattle.om_words.proofs.ArgumentLaws.{no_value, none_some}
use Rattle.om_words.proofs.ElementNumbers.{one_element}
use Rattle.om_words.proofs.ThreeWords.{first_of_three, second_of_three, third_of_three, same_there, three, begin_none}
use Rattle.om_words.proofs.ThreeWords.{begin_one, begin_two}

-- ---- the word at fault

first_fault : (words : List (List ℕ)) → ((e : ℕ) → IsElementAt words 0 1 (MAX_ELEMENTS - 2) e → ⊥)
    → IsFault (HasValue AreTriple) words 1
first_fault [] none = at_end [] begin_none (λ h. none h.0.0 (first_of_three [] h.0 h.1))
first_fault (u ∷ words) none =
    at_word [] u words begin_none
    (λ b. none b.1.0.0 (let at = first_of_three (u ∷ b.0) b.1.0 b.1.1 in
    record { word = u; there = refl; within = same_there (u ∷ b.0) 0 1 (MAX_ELEMENTS - 2) b.1.0.0 u refl at }))

second_fault : (words : List (List ℕ)) (a : ℕ) → IsElementAt words 0 1 (MAX_ELEMENTS - 2) a
    → ((e : ℕ) → IsElementAt words 1 (a + 1) (MAX_ELEMENTS - 1) e → ⊥) → IsFault (HasValue AreTriple) words 2
second_fault [] a p none = absurd (none_some p.word refl p.there)
second_fault (u ∷ []) a p none =
    at_end (u ∷ []) (begin_one u a (same_there (u ∷ []) 0 1 (MAX_ELEMENTS - 2) a u refl p))
    (λ h. let at = second_of_three (u ∷ []) h.0 h.1 in none_some at.word refl at.there)
second_fault (u ∷ v ∷ words) a p none =
    let here : IsElementWithin u 1 (MAX_ELEMENTS - 2) a =
    same_there (u ∷ v ∷ words) 0 1 (MAX_ELEMENTS - 2) a u refl p in
    at_word (u ∷ []) v words (begin_one u a here) (λ b. refused b.0 b.1.0 b.1.1 here)
  where
    refused : (more : List (List ℕ)) (t : ℕ × ℕ × ℕ) → AreTriple (u ∷ v ∷ more) t
        → IsElementWithin u 1 (MAX_ELEMENTS - 2) a → ⊥
    refused more t h here =
        let first = same_there (u ∷ v ∷ more) 0 1 (MAX_ELEMENTS - 2) t.0 u refl (first_of_three (u ∷ v ∷ more) t h) in
        let same : t.0 ≡ a = one_element u t.0 a first.element here.element in
        let second = same_there (u ∷ v ∷ more) 1 (t.0 + 1) (MAX_ELEMENTS - 1) t.1 v refl
        (second_of_three (u ∷ v ∷ more) t h) in
        none t.1 (record {
          word = v;
          there = refl;
          within =
              subst (λ e. IsElementWithin v (e + 1) (MAX_ELEMENTS - 1) t.1) same second;
        })

third_fault : (words : List (List ℕ)) (a b : ℕ) → IsElementAt words 0 1 (MAX_ELEMENTS - 2) a
    → IsElementAt words 1 (a + 1) (MAX_ELEMENTS - 1) b → ((e : ℕ) → IsElementAt words 2 (b + 1) MAX_ELEMENTS e → ⊥)
    → IsFault (HasValue AreTriple) words 3
third_fault [] a b p q none = absurd (none_some p.word refl p.there)
third_fault (u ∷ []) a b p q none = absurd (none_some q.word refl q.there)
third_fault (u ∷ v ∷ []) a b p q none =
    let first = same_there (u ∷ v ∷ []) 0 1 (MAX_ELEMENTS - 2) a u refl p in
    let second = same_there (u ∷ v ∷ []) 1 (a + 1) (MAX_ELEMENTS - 1) b v refl q in
    at_end (u ∷ v ∷ []) (begin_two u v a b first.element second)
    (λ h. let at = third_of_three (u ∷ v ∷ []) h.0 h.1 in none_some at.word refl at.there)
third_fault (u ∷ v ∷ w ∷ words) a b p q none =
    let first = same_there (u ∷ v ∷ w ∷ words) 0 1 (MAX_ELEMENTS - 2) a u refl p in
    let second = same_there (u ∷ v ∷ w ∷ words) 1 (a + 1) (MAX_ELEMENTS - 1) b v refl q in
    at_word (u ∷ v ∷ []) w words (begin_two u v a b first.element second) (λ h. refused h.0 h.1.0 h.1.1 second)
  where
    refused : (more : List (List ℕ)) (t : ℕ × ℕ × ℕ) → AreTriple (u ∷ v ∷ w ∷ more) t
        → IsElementWithin v (a + 1) (MAX_ELEMENTS - 1) b → ⊥
    refused more t h here =
        let second = same_there (u ∷ v ∷ w ∷ more) 1 (t.0 + 1) (MAX_ELEMENTS - 1) t.1 v refl
        (second_of_three (u ∷ v ∷ w ∷ more) t h) in
        let same : t.1 ≡ b = one_element v t.1 b second.element here.element in
        let third = same_there (u ∷ v ∷ w ∷ more) 2 (t.1 + 1) MAX_ELEMENTS t.2 w refl
        (third_of_three (u ∷ v ∷ w ∷ more) t h) in
        none t.2 (record {
          word = w;
          there = refl;
          within =
              subst (λ e. IsElementWithin w (e + 1) MAX_ELEMENTS t.2) same third;
        })

-- ---- the elements are one

same_first : (words : List (List ℕ)) (t : ℕ × ℕ × ℕ) (a : ℕ) → AreTriple words t
    → IsElementAt words 0 1 (MAX_ELEMENTS - 2) a → t.0 ≡ a
same_first words t a h p =
    let other = first_of_three words t h in
    one_element p.word t.0 a (same_there words 0 1 (MAX_ELEMENTS - 2) t.0 p.word p.there other).element p.within.element

same_second : (words : List (List ℕ)) (t : ℕ × ℕ × ℕ) (b low : ℕ) → AreTriple words t
    → IsElementAt words 1 low (MAX_ELEMENTS - 1) b → t.1 ≡ b
same_second words t b low h q =
    let other = second_of_three words t h in
    one_element q.word t.1 b (same_there words 1 (t.0 + 1) (MAX_ELEMENTS - 1) t.1 q.word q.there other).element
    q.within.element

triple_of : (u v w : List ℕ) (rest : List (List ℕ)) (a b c : ℕ)
    → IsElementAt (u ∷ v ∷ w ∷ rest) 0 1 (MAX_ELEMENTS - 2) a
    → IsElementAt (u ∷ v ∷ w ∷ rest) 1 (a + 1) (MAX_ELEMENTS - 1) b
    → IsElementAt (u ∷ v ∷ w ∷ rest) 2 (b + 1) MAX_ELEMENTS c → AreTriple (u ∷ v ∷ w ∷ []) (a, b, c)
triple_of u v w rest a b c p q r =
    let first = same_there (u ∷ v ∷ w ∷ rest) 0 1 (MAX_ELEMENTS - 2) a u refl p in
    let second = same_there (u ∷ v ∷ w ∷ rest) 1 (a + 1) (MAX_ELEMENTS - 1) b v refl q in
    let third = same_there (u ∷ v ∷ w ∷ rest) 2 (b + 1) MAX_ELEMENTS c w refl r in
    three u v w a b c first.element second.element third.element (let h = second.above in omega (arith, h))
    (let h = third.above in omega (arith, h))

-- ---- what the words are read as

fault_read : (words : List (List ℕ)) (k : ℕ) (u : Usage) → u.word ≡ k + 1 → ((t : ℕ × ℕ × ℕ) → AreTriple words t → ⊥)
    → IsFault (HasValue AreTriple) words k → IsRead AreTriple words (Err u)
fault_read words k u is none fault =
    record { value = λ t. (λ made. absurd (no_value _ t made), λ h. absurd (none t h)); fault = (k, (is, fault)) }

pub none_at : {result : Result ℕ Usage} {u : Usage} (P : ℕ → Type 0) → ((e : ℕ) → (result ≡ Ok e) ↔ P e)
    → result ≡ Err u → (e : ℕ) → P e → ⊥
none_at P value is e p = let made = (value e).1 p in cc

pub word_of : (result : Result ℕ Usage) (u : Usage) (k : ℕ) → IfErr result (λ usage. usage.word ≡ k) → result ≡ Err u
    → u.word ≡ k
word_of result u k fault is = subst (λ r. IfErr r (λ usage. usage.word ≡ k)) is fault

passed_on : (words : List (List ℕ)) (u : Usage) (passed : Result (ℕ × ℕ × ℕ) Usage) → IsErrAnd passed (λ e. e ≡ u)
    → IsRead AreTriple words (Err u) → IsRead AreTriple words passed
passed_on words u (Ok t) err read = absurd err
passed_on words u (Err e) err read = rw err read

pub first_bad : (words : List (List ℕ)) (result : Result ℕ Usage) (u : Usage) (passed : Result (ℕ × ℕ × ℕ) Usage)
    → ((e : ℕ) → (result ≡ Ok e) ↔ IsElementAt words 0 1 (MAX_ELEMENTS - 2) e) → IfErr result (λ usage. usage.word ≡ 2)
    → result ≡ Err u → IsErrAnd passed (λ e. e ≡ u) → IsRead AreTriple words passed
first_bad words result u passed value fault is err =
    let none = none_at (IsElementAt words 0 1 (MAX_ELEMENTS - 2)) value is in
    passed_on words u passed err
    (fault_read words 1 u (word_of result u 2 fault is) (λ t h. none t.0 (first_of_three words t h))
    (first_fault words none))

pub second_bad : (words : List (List ℕ)) (result : Result ℕ Usage) (u : Usage) (passed : Result (ℕ × ℕ × ℕ) Usage)
    (a : ℕ) → IsElementAt words 0 1 (MAX_ELEMENTS - 2) a
    → ((e : ℕ) → (result ≡ Ok e) ↔ IsElementAt words 1 (a + 1) (MAX_ELEMENTS - 1) e)
    → IfErr result (λ usage. usage.word ≡ 3) → result ≡ Err u → IsErrAnd passed (λ e. e ≡ u)
    → IsRead AreTriple words passed
second_bad words result u passed a p value fault is err =
    let none = none_at (IsElementAt words 1 (a + 1) (MAX_ELEMENTS - 1)) value is in
    passed_on words u passed err
    (fault_read words 2 u (word_of result u 3 fault is)
    (λ t h. none t.1
    (subst (λ e. IsElementAt words 1 (e + 1) (MAX_ELEMENTS - 1) t.1) (same_first words t a h p)
    (second_of_three words t h))) (second_fault words a p none))

pub third_bad : (words : List (List ℕ)) (result : Result ℕ Usage) (u : Usage) (passed : Result (ℕ × ℕ × ℕ) Usage)
    (a b : ℕ) → IsElementAt words 0 1 (MAX_ELEMENTS - 2) a → IsElementAt words 1 (a + 1) (MAX_ELEMENTS - 1) b
    → ((e : ℕ) → (result ≡ Ok e) ↔ IsElementAt words 2 (b + 1) MAX_ELEMENTS e) → IfErr result (λ usage. usage.word ≡ 4)
    → result ≡ Err u → IsErrAnd passed (λ e. e ≡ u) → IsRead AreTriple words passed
third_bad words result u passed a b p q value fault is err =
    let none = none_at (IsElementAt words 2 (b + 1) MAX_ELEMENTS) value is in
    passed_on words u passed err
    (fault_read words 3 u (word_of result u 4 fault is)
    (λ t h. none t.2
    (subst (λ e. IsElementAt words 2 (e + 1) MAX_ELEMENTS t.2) (same_second words t b (a + 1) h q)
    (third_of_three words t h))) (third_fault words a b p q none))

pub triple_long : {X : Type 0} (f : X → List ℕ) (xs : List X) (a b c : ℕ)
    → IsElementAt (map f xs) 0 1 (MAX_ELEMENTS - 2) a → IsElementAt (map f xs) 1 (a + 1) (MAX_ELEMENTS - 1) b
    → IsElementAt (map f xs) 2 (b + 1) MAX_ELEMENTS c → 3 < length xs
    → IsRead AreTriple (map f xs) (Err (record { word = 5 }))
triple_long f [] a b c p q r l = absurd (omega arith)
triple_long f (u ∷ []) a b c p q r l = absurd (omega arith)
triple_long f (u ∷ v ∷ []) a b c p q r l = absurd (omega arith)
triple_long f (u ∷ v ∷ w ∷ []) a b c p q r l = absurd (omega arith)
triple_long f (u ∷ v ∷ w ∷ x ∷ more) a b c p q r l =
    let words : List (List ℕ) = map f (u ∷ v ∷ w ∷ x ∷ more) in
    fault_read words 4 (record { word = 5 }) refl (λ t h. too_long (map f more) t h)
    (at_word (f u ∷ f v ∷ f w ∷ []) (f x) (map f more)
    ([], ((a, b, c), triple_of (f u) (f v) (f w) (f x ∷ map f more) a b c p q r)) (λ h. too_long h.0 h.1.0 h.1.1))
  where
    too_long : (rest : List (List ℕ)) (t : ℕ × ℕ × ℕ) → AreTriple (f u ∷ f v ∷ f w ∷ f x ∷ rest) t → ⊥
    too_long rest t h = let same : f x ∷ rest ≡ [] = ap (λ ws. tail_of (tail_of (tail_of ws))) h.digits in cc

pub triple_read : {X : Type 0} (f : X → List ℕ) (xs : List X) (a b c : ℕ)
    → IsElementAt (map f xs) 0 1 (MAX_ELEMENTS - 2) a → IsElementAt (map f xs) 1 (a + 1) (MAX_ELEMENTS - 1) b
    → IsElementAt (map f xs) 2 (b + 1) MAX_ELEMENTS c → length xs ≤ 3 → IsRead AreTriple (map f xs) (Ok (a, b, c))
triple_read f [] a b c p q r l = absurd (none_some p.word refl p.there)
triple_read f (u ∷ []) a b c p q r l = absurd (none_some q.word refl q.there)
triple_read f (u ∷ v ∷ []) a b c p q r l = absurd (none_some r.word refl r.there)
triple_read f (u ∷ v ∷ w ∷ x ∷ more) a b c p q r l = absurd (omega arith)
triple_read f (u ∷ v ∷ w ∷ []) a b c p q r l =
    let words : List (List ℕ) = f u ∷ f v ∷ f w ∷ [] in
    record {
      value = λ t. (
        λ made. let same : (a, b, c) ≡ t = cc in
            subst (AreTriple words) same (triple_of (f u) (f v) (f w) [] a b c p q r),
        λ h.
            let first : a ≡ t.0 = sym (same_first words t a h p) in
            let second : b ≡ t.1 = sym (same_second words t b (a + 1) h q) in
            let third : c ≡ t.2 =
            one_element (f w) c t.2 (same_there words 2 (b + 1) MAX_ELEMENTS c (f w) refl r).element
            (same_there words 2 (t.1 + 1) MAX_ELEMENTS t.2 (f w) refl (third_of_three words t h)).element in
            ap Ok (same_triple a b c t first second third),
      );
      fault = tt;
    }
  where
    same_triple : (a b c : ℕ) (t : ℕ × ℕ × ℕ) → a ≡ t.0 → b ≡ t.1 → c ≡ t.2 → (a, b, c) ≡ t
    same_triple a b c t first second third = rw (first, second, third) refl
