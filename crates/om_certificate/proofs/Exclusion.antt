-- What certificates and weights exclude.
--
-- Main results: certificate_excludes, that a map with a certificate is realized by no vectors; weights_exclude, that a
-- map with weights has no certificate.
use Rattle.std.specs.Prelude.{ℕ, ◌≡◌, ◌+◌, ◌*◌, ◌<◌, ◌≤◌, Bool, true, false, cond, nat_eq, ℤ, ◌<ℤ◌, ◌≤ℤ◌, List, [], ◌∷◌}
use Rattle.std.specs.Prelude.{length, sum_by, Any, IsTrue}
use Rattle.std.specs.List.{AllByRecursion as Each}
use Rattle.std.proofs.Common.{refl, sym, ◌∙◌, ap, subst, zero, suc, arith, inl, inr}
use Rattle.std.proofs.Math.ListN.{get_or}
use Rattle.std.proofs.lemmas.List.Elements.{recursion_from_All}
use Rattle.std.proofs.lemmas.List.Sums.{sum_by-cons}
use Rattle.std.proofs.lemmas.Int.{ints}
use Rattle.om_subsets.specs.Subsets.{choose, rank_of, subset_at, IsTriple}
use Rattle.om_subsets.proofs.Triples.{place_below, triple_at_place, triple_of_place, place_of_place}
use Rattle.om_chirotope.specs.Map.{SignMap}
use Rattle.om_vectors.specs.WholeVectors.{WholeVector}
use Rattle.om_vectors.specs.Realizations.{Realizes}
use Rattle.om_grassmann.specs.declared.statement.Statement.{Statement}
use Rattle.om_grassmann.specs.Statements.{IsLawful}
use Rattle.om_grassmann.specs.Sides.{first_bracket, second_bracket}
use Rattle.om_grassmann.proofs.BracketLaws.{nonzero_sides}
use Rattle.om_certificate.specs.declared.entry.Entry.{Entry}
use Rattle.om_certificate.specs.declared.weight.Weight.{Weight}
use Rattle.om_certificate.specs.BracketSizes.{bracket_size}
use Rattle.om_certificate.specs.Certificates.{IsCertificate, times_in, is_same}
use Rattle.om_certificate.specs.Weights.{AreWeights, IsMetBy, Compares, weight_of, term_weight}
use Rattle.om_certificate.proofs.Combinations.{Combination, here}
use Rattle.om_certificate.proofs.Orders.{products, sums}
use Rattle.om_certificate.proofs.Sizes.{ordered_sizes}
use Rattle.om_certificate.proofs.Tallies.{AnyByRecursion, tally, IsBelow, IsOrdered, IsStrict, unbalanced}
use Rattle.om_certificate.proofs.Triples.{same-place}

-- the brackets of both sides of a lawful statement are increasing triples
pub record HasTriples (n : ℕ) (st : Statement) : Type 0 where
  pub small_first : IsTriple n (first_bracket st st.small)
  pub small_second : IsTriple n (second_bracket st st.small)
  pub big_first : IsTriple n (first_bracket st st.big)
  pub big_second : IsTriple n (second_bracket st st.big)

pub lawful_triples : (m : SignMap) (st : Statement) → IsLawful m st → HasTriples m.elements st
lawful_triples m st h =
    let s = nonzero_sides m st h in
    record {
      small_first = record { list = s.0.first.increasing; size = s.0.first.size };
      small_second = record { list = s.0.second.increasing; size = s.0.second.size };
      big_first = record { list = s.1.first.increasing; size = s.1.first.size };
      big_second = record { list = s.1.second.increasing; size = s.1.second.size };
    }

-- ---- lists by recursion

any_by_recursion : {X : Type 0} (P : X → Type 0) (xs : List X) → Any P xs → AnyByRecursion P xs
any_by_recursion {X} P xs (k, x, l, e, p) = go xs k l e
  where
    go : (xs : List X) (k : ℕ) → k < length xs → get_or xs k x ≡ x → AnyByRecursion P xs
    go [] k l e = absurd (omega arith)
    go (y ∷ ys) zero l e = inl (subst P (sym e) p)
    go (y ∷ ys) (suc k) l e = inr (go ys k (omega arith) e)

each_weaker : {X : Type 0} (P Q : X → Type 0) → ((x : X) → P x → Q x) → (xs : List X) → Each P xs → Each Q xs
each_weaker P Q f [] h = tt
each_weaker P Q f (x ∷ xs) h = (f x h.0, each_weaker P Q f xs h.1)

any_stronger : {X : Type 0} (P Q R : X → Type 0) → ((x : X) → P x → Q x → R x) → (xs : List X) → Each P xs
    → AnyByRecursion Q xs → AnyByRecursion R xs
any_stronger P Q R f [] h a = absurd a
any_stronger P Q R f (x ∷ xs) h (inl q) = inl (f x h.0 q)
any_stronger P Q R f (x ∷ xs) h (inr a) = inr (any_stronger P Q R f xs h.1 a)

-- ---- counts by places

here-same : (n k : ℕ) (c : List ℕ) → k < choose n 3 → IsTriple n c
    → cond (is_same (subset_at n 3 k) c) 1 0 ≡ here k (rank_of n c)
here-same n k c l hc =
    ap (λ t. cond t 1 0) (same-place n (subset_at n 3 k) c (triple_of_place n k l) hc
    ∙ ap (λ j. nat_eq j (rank_of n c)) (place_of_place n k l))

-- the counts of the brackets of one side, of the term that side names, are those of their places
module _ (n : ℕ) (side : Entry → ℕ) where
  abbrev pub first_place : Entry → ℕ
  first_place e = rank_of n (first_bracket e.statement (side e))

  abbrev pub second_place : Entry → ℕ
  second_place e = rank_of n (second_bracket e.statement (side e))

  pub record HasSide (e : Entry) : Type 0 where
    pub first : IsTriple n (first_bracket e.statement (side e))
    pub second : IsTriple n (second_bracket e.statement (side e))

  below : (es : List Entry) → Each HasSide es → Each (IsBelow first_place second_place (choose n 3)) es
  below = each_weaker HasSide (IsBelow first_place second_place (choose n 3))
      (λ e h. record { first = place_below n _ h.first; second = place_below n _ h.second })

  tally-times : (k : ℕ) → k < choose n 3 → (es : List Entry) → Each HasSide es
      → tally (λ e. e.times) first_place second_place es k
      ≡ sum_by (λ e. e.times * times_in (subset_at n 3 k) e.statement (side e)) es
  tally-times k l [] h = refl
  tally-times k l (e ∷ es) (s, h) =
      let a = here-same n k (first_bracket e.statement (side e)) l s.first in
      let b = here-same n k (second_bracket e.statement (side e)) l s.second in
      ap (λ t. e.times * t + tally (λ e. e.times) first_place second_place es k)
      (let t : here k (first_place e) + here k (second_place e) ≡ times_in (subset_at n 3 k) e.statement (side e) =
      omega (arith, a, b) in t)
      ∙ ap (λ t. e.times * times_in (subset_at n 3 k) e.statement (side e) + t) (tally-times k l es h)
      ∙ sym (sum_by-cons (λ e. e.times * times_in (subset_at n 3 k) e.statement (side e)) e es)

-- ---- a certificate, and values of the brackets that order its statements

abbrev small_of : Entry → ℕ
small_of e = e.statement.small

abbrev big_of : Entry → ℕ
big_of e = e.statement.big

-- the values of the term of a statement that has a number, combined
abbrev pub term_value : (C : Combination) → (List ℕ → C.Value) → Statement → ℕ → C.Value
term_value C f st i = C.join (f (first_bracket st i)) (f (second_bracket st i))

-- the value of the small side is positive and at most that of the big side, and less where the statement is strict
pub record AreOrdered (C : Combination) (f : List ℕ → C.Value) (st : Statement) : Type 0 where
  pub positive : C.IsPositive (term_value C f st st.small)
  pub at_most : C.IsAtMost (term_value C f st st.small) (term_value C f st st.big)
  pub less : IsTrue st.strict → C.IsLess (term_value C f st st.small) (term_value C f st st.big)

module _ (C : Combination) (m : SignMap) (f : List ℕ → C.Value)
    (ordered : (st : Statement) → IsLawful m st → AreOrdered C f st) where
  abbrev at_place : ℕ → C.Value
  at_place k = f (subset_at m.elements 3 k)

  abbrev placed_value : (Entry → ℕ) → Entry → C.Value
  placed_value side e = C.join (at_place (first_place m.elements side e)) (at_place (second_place m.elements side e))

  value-place : (side : Entry → ℕ) (e : Entry) → HasSide m.elements side e
      → placed_value side e ≡ term_value C f e.statement (side e)
  value-place side e h =
      ap (λ b. C.join (f b) (at_place (second_place m.elements side e)))
      (triple_at_place m.elements (first_bracket e.statement (side e)) h.first)
      ∙ ap (λ b. C.join (f (first_bracket e.statement (side e))) (f b))
      (triple_at_place m.elements (second_bracket e.statement (side e)) h.second)

  small_side : (e : Entry) → IsLawful m e.statement → HasSide m.elements small_of e
  small_side e h = let t = lawful_triples m e.statement h in record { first = t.small_first; second = t.small_second }

  big_side : (e : Entry) → IsLawful m e.statement → HasSide m.elements big_of e
  big_side e h = let t = lawful_triples m e.statement h in record { first = t.big_first; second = t.big_second }

  abbrev IsOrderedEntry : Entry → Type 0
  IsOrderedEntry = IsOrdered C Entry (λ e. e.times) at_place (choose m.elements 3) (first_place m.elements small_of)
      (second_place m.elements small_of) (first_place m.elements big_of) (second_place m.elements big_of)

  abbrev IsStrictEntry : Entry → Type 0
  IsStrictEntry = IsStrict C Entry (λ e. e.times) at_place (choose m.elements 3) (first_place m.elements small_of)
      (second_place m.elements small_of) (first_place m.elements big_of) (second_place m.elements big_of)

  ordered_entry : (e : Entry) → IsLawful m e.statement → IsOrderedEntry e
  ordered_entry e h =
      let o = ordered e.statement h in
      let s = sym (value-place small_of e (small_side e h)) in
      let b = sym (value-place big_of e (big_side e h)) in
      record {
        positive = subst C.IsPositive s o.positive;
        at_most = subst (λ x. C.IsAtMost x (placed_value big_of e)) s
            (subst (λ x. C.IsAtMost (term_value C f e.statement (small_of e)) x) b o.at_most);
      }

  strict_entry : (e : Entry) → IsLawful m e.statement → 1 ≤ e.times → IsTrue e.statement.strict → IsStrictEntry e
  strict_entry e h l t =
      let o = ordered e.statement h in
      let s = sym (value-place small_of e (small_side e h)) in
      let b = sym (value-place big_of e (big_side e h)) in
      record {
        less = subst (λ x. C.IsLess x (placed_value big_of e)) s
            (subst (λ x. C.IsLess (term_value C f e.statement (small_of e)) x) b (o.less t));
        counted = l;
      }

  pub excluded : (es : List Entry) → IsCertificate m es → ⊥
  excluded es c =
      unbalanced C Entry (λ e. e.times) at_place (choose m.elements 3) (first_place m.elements small_of)
      (second_place m.elements small_of) (first_place m.elements big_of) (second_place m.elements big_of) es
      (below m.elements small_of es small)
      (below m.elements big_of es big)
      (each_weaker (λ e. IsLawful m e.statement) IsOrderedEntry ordered_entry es lawful)
      (any_stronger (λ e. IsLawful m e.statement × (1 ≤ e.times)) (λ e. IsTrue e.statement.strict) IsStrictEntry
      (λ e h t. strict_entry e h.0 h.1 t) es both (any_by_recursion (λ e. IsTrue e.statement.strict) es c.strict))
      (λ k l. tally-times m.elements small_of k l es small
      ∙ c.balanced (subset_at m.elements 3 k) (triple_of_place m.elements k l)
      ∙ sym (tally-times m.elements big_of k l es big))
    where
      lawful : Each (λ e. IsLawful m e.statement) es
      lawful = recursion_from_All (λ e. IsLawful m e.statement) es c.lawful

      both : Each (λ e. IsLawful m e.statement × (1 ≤ e.times)) es
      both = recursion_from_All (λ e. IsLawful m e.statement × (1 ≤ e.times)) es
          (λ k d l. (c.lawful k d l, c.counted k d l))

      small : Each (HasSide m.elements small_of) es
      small = each_weaker (λ e. IsLawful m e.statement) (HasSide m.elements small_of) small_side es
          (recursion_from_All (λ e. IsLawful m e.statement) es c.lawful)

      big : Each (HasSide m.elements big_of) es
      big = each_weaker (λ e. IsLawful m e.statement) (HasSide m.elements big_of) big_side es
          (recursion_from_All (λ e. IsLawful m e.statement) es c.lawful)

-- ---- the two theorems

-- a map with a certificate is realized by no vectors
pub certificate_excludes : (m : SignMap) (es : List Entry) → IsCertificate m es → (vs : List WholeVector)
    → Realizes vs m → ⊥
certificate_excludes m es c vs r =
    excluded products m (bracket_size vs) (λ st h. let o = ordered_sizes vs m r st h in
    record { positive = o.positive; at_most = o.at_most; less = o.less }) es c

pub weights_exclude : (m : SignMap) (ws : List Weight) → AreWeights m ws → (es : List Entry) → IsCertificate m es → ⊥
weights_exclude m ws w = excluded sums m (weight_of ws) (λ st h. ordered st (w.met st h))
  where
    compared : (strict : Bool) (small big : ℤ) → Compares strict small big → (small ≤ℤ big)
        × (IsTrue strict → small <ℤ big)
    compared true small big h = (omega (arith, ints), λ t. h)
    compared false small big h = (omega (arith, ints), λ t. absurd (let f : false ≡ true = t in cc))

    ordered : (st : Statement) → IsMetBy ws st → AreOrdered sums (weight_of ws) st
    ordered st h =
        let c = compared st.strict (term_weight ws st st.small) (term_weight ws st st.big) h in
        record { positive = tt; at_most = c.0; less = c.1 }
