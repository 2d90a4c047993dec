-- The loop over the elements of a basis, and the elements that may stand in the place of another.
--
-- Main definitions: IsFoundAt, IsBestBefore, AreInPlaceBelow
-- Main results: best_start, best_same, best_new, none_so, some_so, in_place_start, in_place_same, in_place_more,
-- in_place_end, unexchanged_of_apart, apart_of_unexchanged
use Rattle.std.specs.Prelude.{ℕ, ◌≡◌, ◌+◌, ◌<◌, ◌≤◌, ◌↔◌, ◌⊎◌, List, [], ◌∷◌, Option, Some, None, MatchOption, IfNone}
use Rattle.std.specs.Prelude.{IfSome}
use Rattle.std.proofs.Common.{refl, sym, ◌∙◌, ap, arith, inl, inr, subst}
use Rattle.std.proofs.lemmas.Bool.{cases_eq}
use Rattle.om_subsets.specs.Subsets.{AreApart, IsMember, with_element, without_element}
use Rattle.om_subsets.specs.Members.{Chosen}
use Rattle.om_subsets.proofs.Order.{members_from}
use Rattle.om_subsets.proofs.Statements.{members_with}
use Rattle.om_chirotope.specs.Map.{SignMap}
use Rattle.om_chirotope.specs.ThreeTerm.{IsBasis}
use Rattle.om_threeterm.specs.Violations.{IsUnexchanged}
use Rattle.om_threeterm.specs.Sets.{IsInPlace}

-- ---- the loop over the elements e of a basis, each of which is tried with the bases below the place of the first so
-- far

-- the pair of a place and an element is the first with a property, of those with an element below e
pub record IsFoundAt (B : ℕ → ℕ → Type 0) (count limit e x : ℕ) : Type 0 where
  pub within : limit < count
  pub before : x < e
  pub here : B limit x
  pub earlier : (y : ℕ) → y < x → B limit y → ⊥

pub record IsBestBefore (B : ℕ → ℕ → Type 0) (count limit e : ℕ) (found : Option ℕ) : Type 0 where
  pub room : limit ≤ count
  pub none_below : (j x : ℕ) → j < limit → x < e → B j x → ⊥
  pub found_is : MatchOption found (limit ≡ count) (λ x. IsFoundAt B count limit e x)

module _ (B : ℕ → ℕ → Type 0) (count : ℕ) where
  pub best_start : ((j x : ℕ) → x < 1 → B j x → ⊥) → IsBestBefore B count count 1 None
  best_start none = record { room = omega arith; none_below = λ j x jl xl. none j x xl; found_is = refl }

  pub best_same : (limit e : ℕ) (found : Option ℕ) → ((j : ℕ) → j < limit → B j e → ⊥)
      → IsBestBefore B count limit e found → IsBestBefore B count limit (e + 1) found
  best_same limit e found none h = record {
    room = h.room;
    none_below = λ j x jl xl b. elim (cases_eq x e) [
      | inl q ↦ none j jl (subst (B j) q b)
      | inr n ↦ h.none_below j x jl (omega arith) b
    ];
    found_is = later found h.found_is;
  }
    where
      later : (o : Option ℕ) → MatchOption o (limit ≡ count) (λ x. IsFoundAt B count limit e x)
          → MatchOption o (limit ≡ count) (λ x. IsFoundAt B count limit (e + 1) x)
      later None f = f
      later (Some x) f = let before = f.before in
          record { within = f.within; before = omega arith; here = f.here; earlier = f.earlier }

  pub best_new : (limit e k : ℕ) (found : Option ℕ) → k < limit → B k e → ((j : ℕ) → j < k → B j e → ⊥)
      → IsBestBefore B count limit e found → IsBestBefore B count k (e + 1) (Some e)
  best_new limit e k found l here none h =
      let room = h.room in
      record {
        room = omega arith;
        none_below = λ j x jl xl b. elim (cases_eq x e) [
          | inl q ↦ none j jl (subst (B j) q b)
          | inr n ↦ h.none_below j x (omega arith) (omega arith) b
        ];
        found_is =
            record {
              within = omega arith;
              before = omega arith;
              here = here;
              earlier =
                  λ y yl b. h.none_below k y l yl b;
            };
      }

-- what follows of a value, if there is one, and of there being none
pub none_so : (o : Option ℕ) (P Q : Type 0) → (P → Q) → IfNone o P → IfNone o Q
none_so None P Q f h = f h
none_so (Some k) P Q f h = h

pub some_so : (o : Option ℕ) (A B C : ℕ → Type 0) → ((k : ℕ) → A k → B k → C k) → IfSome o A → IfSome o B → IfSome o C
some_so None A B C f a b = a
some_so (Some k) A B C f a b = f k a b

module _ (m : SignMap) where
  -- ---- the elements that may stand in the place of e

  -- the elements of a set are those below a limit that may stand in the place of e, and e
  pub record AreInPlaceBelow (b : List ℕ) (e limit : ℕ) (s : Chosen) : Type 0 where
    pub n_is : s.n ≡ m.elements
    pub each : (f : ℕ) → IsMember f s.elements ↔ ((f ≡ e) ⊎ ((f < limit) × IsInPlace m b e f))

  pub in_place_start : (b : List ℕ) (e : ℕ) (none s : Chosen) → none.elements ≡ [] → s.n ≡ m.elements
      → s.elements ≡ with_element e none.elements → AreInPlaceBelow b e 1 s
  in_place_start b e none s empty sn se = record {
    n_is = sn;
    each = λ f. (
      λ k. inl (only f (subst (IsMember f) (se ∙ ap (with_element e) empty) k)),
      λ h. subst (IsMember f) (sym (se ∙ ap (with_element e) empty)) (inl (low f h)),
    );
  }
    where
      only : (f : ℕ) → IsMember f (e ∷ []) → f ≡ e
      only f (inl q) = q
      only f (inr k) = absurd k

      low : (f : ℕ) → (f ≡ e) ⊎ ((f < 1) × IsInPlace m b e f) → f ≡ e
      low f (inl q) = q
      low f (inr (l, inl q)) = q
      low f (inr (l, inr x)) = let small =
          (members_from 1 m.elements f (with_element f (without_element e b)) x.1.list
          ((members_with f f (without_element e b)).1 (inl refl))).0 in absurd (omega arith)

  pub in_place_same : (b : List ℕ) (e x : ℕ) (s : Chosen)
      → ((IsMember x b → ⊥) → IsBasis m (with_element x (without_element e b)) → ⊥) → AreInPlaceBelow b e x s
      → AreInPlaceBelow b e (x + 1) s
  in_place_same b e x s none h = record {
    n_is = h.n_is;
    each = λ f. (λ k. more f ((h.each f).0 k), λ k. (h.each f).1 (less f k));
  }
    where
      more : (f : ℕ) → (f ≡ e) ⊎ ((f < x) × IsInPlace m b e f) → (f ≡ e) ⊎ ((f < x + 1) × IsInPlace m b e f)
      more f (inl q) = inl q
      more f (inr (l, p)) = inr (omega arith, p)

      less : (f : ℕ) → (f ≡ e) ⊎ ((f < x + 1) × IsInPlace m b e f) → (f ≡ e) ⊎ ((f < x) × IsInPlace m b e f)
      less f (inl q) = inl q
      less f (inr (l, inl q)) = inl q
      less f (inr (l, inr p)) = elim (cases_eq f x) [
        | inl q ↦
            absurd (subst (λ g. (IsMember g b → ⊥) → IsBasis m (with_element g (without_element e b)) → ⊥) (sym q) none
            p.0 p.1)
        | inr n ↦ inr (omega arith, inr p)
      ]

  pub in_place_more : (b : List ℕ) (e x : ℕ) (s t : Chosen) → (IsMember x b → ⊥)
      → IsBasis m (with_element x (without_element e b)) → t.n ≡ s.n → t.elements ≡ with_element x s.elements
      → AreInPlaceBelow b e x s → AreInPlaceBelow b e (x + 1) t
  in_place_more b e x s t off basis tn te h = record {
    n_is = tn ∙ h.n_is;
    each = λ f. (
      λ k. more f ((members_with x f s.elements).0 (subst (IsMember f) te k)),
      λ k. subst (IsMember f) (sym te) ((members_with x f s.elements).1 (less f k)),
    );
  }
    where
      more : (f : ℕ) → (f ≡ x) ⊎ IsMember f s.elements → (f ≡ e) ⊎ ((f < x + 1) × IsInPlace m b e f)
      more f (inl q) =
          inr (
            omega arith,
            inr (
              subst (λ g. IsMember g b → ⊥) (sym q) off,
              subst (λ g. IsBasis m (with_element g (without_element e b))) (sym q) basis,
            ),
          )
      more f (inr k) = go ((h.each f).0 k)
        where
          go : (f ≡ e) ⊎ ((f < x) × IsInPlace m b e f) → (f ≡ e) ⊎ ((f < x + 1) × IsInPlace m b e f)
          go (inl q) = inl q
          go (inr (l, p)) = inr (omega arith, p)

      less : (f : ℕ) → (f ≡ e) ⊎ ((f < x + 1) × IsInPlace m b e f) → (f ≡ x) ⊎ IsMember f s.elements
      less f (inl q) = inr ((h.each f).1 (inl q))
      less f (inr (l, p)) = elim (cases_eq f x) [
        | inl q ↦ inl q
        | inr n ↦ inr ((h.each f).1 (inr (omega arith, p)))
      ]

  pub in_place_end : (b : List ℕ) (e x : ℕ) (s : Chosen) → m.elements + 1 ≤ x → AreInPlaceBelow b e x s → (f : ℕ)
      → IsMember f s.elements ↔ IsInPlace m b e f
  in_place_end b e x s over h f = (λ k. more ((h.each f).0 k), λ p. (h.each f).1 (less p))
    where
      more : (f ≡ e) ⊎ ((f < x) × IsInPlace m b e f) → IsInPlace m b e f
      more (inl q) = inl q
      more (inr (l, p)) = p

      less : IsInPlace m b e f → (f ≡ e) ⊎ ((f < x) × IsInPlace m b e f)
      less (inl q) = inl q
      less (inr p) =
          let high =
          (members_from 1 m.elements f (with_element f (without_element e b)) p.1.list
          ((members_with f f (without_element e b)).1 (inl refl))).1 in
          inr (omega arith, inr p)

  -- ---- one element of a basis

  pub unexchanged_of_apart : (b c s : List ℕ) (e : ℕ) → IsBasis m b → IsBasis m c → IsMember e b
      → ((f : ℕ) → IsMember f s ↔ IsInPlace m b e f) → AreApart c s → IsUnexchanged m b c e
  unexchanged_of_apart b c s e first second inside each apart = record {
    first = first;
    second = second;
    inside = inside;
    outside = λ k. apart e k ((each e).1 (inl refl));
    violated = λ x. apart x.0 x.1 ((each x.0).1 (inr (x.2, x.3)));
  }

  pub apart_of_unexchanged : (b c s : List ℕ) (e : ℕ) → ((f : ℕ) → IsMember f s ↔ IsInPlace m b e f)
      → IsUnexchanged m b c e → AreApart c s
  apart_of_unexchanged b c s e each h f inside k = go ((each f).0 k)
    where
      go : IsInPlace m b e f → ⊥
      go (inl q) = h.outside (subst (λ x. IsMember x c) q inside)
      go (inr x) = h.violated (f, inside, x.0, x.1)
