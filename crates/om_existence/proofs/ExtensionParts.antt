-- The first extensions of a chirotope of rank 3 are listed.
--
-- Main results: extensions_possible.
-- Reference: Björner, Las Vergnas, Sturmfels, White and Ziegler, Oriented Matroids, chapter 7.
use Rattle.std.specs.Prelude.{ℕ, ◌≡◌, ◌+◌, ◌*◌, ◌<◌, ◌≤◌, ◌^◌, ◌⊎◌, ◌↔◌, List, [], ◌∷◌, ◌++◌, length, Bool, true}
use Rattle.std.specs.Prelude.{false, IsTrue, refl}
use Rattle.std.specs.List.{All, AllPairs, Contains}
use Rattle.std.specs.Ordering.{ordering_then}
use Rattle.std.proofs.Common.{Ordering, Less, zero, suc, get_or, sym, ◌∙◌, ap, subst, inl, inr, arith}
use Rattle.std.proofs.lemmas.Bool.{cases_eq, cases_lt}
use Rattle.std.proofs.lemmas.List.{length-append}
use Rattle.std.proofs.lemmas.List.Elements.{All-push, Contains-append_left, Contains-push}
use Rattle.std.proofs.lemmas.List.Quantifiers.{all_pairs_push}
use Rattle.om_signs.specs.declared.limits.TheConstants.{MAX_ELEMENTS}
use Rattle.om_signs.specs.declared.sign.Sign.{Sign}
use Rattle.om_signs.specs.declared.sign.Sign.TheVariants.{Minus, Zero, Plus}
use Rattle.om_signs.specs.Order.{lexicographic, sign_order, sign_rank}
use Rattle.om_subsets.specs.Subsets.{choose}
use Rattle.om_chirotope.specs.Map.{SignMap}
use Rattle.om_chirotope.specs.Chirotope.{IsChirotopeWithinLimits}
use Rattle.om_localize.specs.declared.listing.Listing.{Listing as Extensions}
use Rattle.om_localize.specs.Extensions.{IsSignature}
use Rattle.om_localize.specs.Listings.{IsBefore, IsFullBefore, AreFirst}
use Rattle.om_localize.proofs.Localizations.{signature_size}
use Rattle.om_oriented.proofs.PlaceLaws.{base_three-lt, same_place}
use Rattle.om_oriented.specs.Places.{base_three}
use Rattle.om_printing.specs.declared.line.Line.TheVariants as line
use Rattle.om_reply.specs.declared.answer.Answer.{Answer}
use Rattle.om_reply.specs.Answers.{says, lists_extensions}
use Rattle.om_plane.specs.ExtensionLists.{AreExtensionsOfMap, other_rank, full, listed}
use Rattle.om_existence.specs.Possible.{IsPossible}
use Rattle.om_existence.proofs.Possible.{held, then, mapped, either_way}

-- ---- the order by places

digits_less : (s t : Sign) (a b p : ℕ) (o : Ordering) → a < p → b < p → sign_rank s * p + a < sign_rank t * p + b
    → (a < b → o ≡ Less) → ordering_then (sign_order s t) o ≡ Less
digits_less Minus Minus a b p o la lb l h = h (omega (arith, l))
digits_less Minus Zero a b p o la lb l h = refl
digits_less Minus Plus a b p o la lb l h = refl
digits_less Zero Minus a b p o la lb l h = absurd (omega (arith, la, lb, l))
digits_less Zero Zero a b p o la lb l h = h (omega (arith, l))
digits_less Zero Plus a b p o la lb l h = refl
digits_less Plus Minus a b p o la lb l h = absurd (omega (arith, la, lb, l))
digits_less Plus Zero a b p o la lb l h = absurd (omega (arith, la, lb, l))
digits_less Plus Plus a b p o la lb l h = h (omega (arith, l))

-- of two vectors of one length the one at the lesser place comes before
before_of_place : (xs ys : List Sign) → length xs ≡ length ys → base_three xs < base_three ys → IsBefore xs ys
before_of_place [] [] l less = absurd (omega (arith, less))
before_of_place [] (y ∷ ys) l less = absurd (omega (arith, l))
before_of_place (x ∷ xs) [] l less = absurd (omega (arith, l))
before_of_place (x ∷ xs) (y ∷ ys) l less =
    let n : length xs ≡ length ys = omega (arith, l) in
    let p : 3 ^ length ys ≡ 3 ^ length xs = ap (λ k. 3 ^ k) (sym n) in
    let small = subst (λ q. base_three ys < q) p (base_three-lt ys) in
    digits_less x y (base_three xs) (base_three ys) (3 ^ length xs) (lexicographic xs ys) (base_three-lt xs) small
    (subst (λ q. sign_rank x * 3 ^ length xs + base_three xs < sign_rank y * q + base_three ys) p less)
    (before_of_place xs ys n)

-- ---- the first members of a family, place by place

-- a member at a place below b that isn't listed
abbrev IsLeftOut : (List Sign → Type 0) → ℕ → List (List Sign) → List Sign → Type 0
IsLeftOut P b lines X = P X × ((base_three X < b) × (Contains lines X → ⊥))

-- the first k members at places below b, and whether one at such a place is left out
record AreFirstBelow (P : List Sign → Type 0) (k b : ℕ) (lines : List (List Sign)) (more : Bool) : Type 0 where
  few : length lines ≤ k
  members : All P lines
  places : All (λ Y. base_three Y < b) lines
  ordered : AllPairs IsBefore lines
  complete : (X : List Sign) → P X → base_three X < b → Contains lines X ⊎ IsFullBefore k lines X
  left_out : IsTrue more ↔ ((X : List Sign) × IsLeftOut P b lines X)

module _ (n k : ℕ) (P : List Sign → Type 0) (long : (X : List Sign) → P X → length X ≡ n) where
  abbrev Listed : ℕ → Type 0
  Listed b = (lines : List (List Sign)) × ((more : Bool) × AreFirstBelow P k b lines more)

  nothing : AreFirstBelow P k 0 [] false
  nothing = record {
    few = omega arith;
    members = λ i d l. absurd (omega (arith, l));
    places = λ i d l. absurd (omega (arith, l));
    ordered = λ i j d l m. absurd (omega (arith, l, m));
    complete = λ X p l. absurd (omega (arith, l));
    left_out = (λ t. cc, λ h. let l = h.1.1.0 in absurd (omega (arith, l)));
  }

  -- no member at place b
  none_here : (b : ℕ) (lines : List (List Sign)) (more : Bool) → AreFirstBelow P k b lines more
      → ((X : List Sign) → P X → base_three X ≡ b → ⊥) → AreFirstBelow P k (suc b) lines more
  none_here b lines more h none = record {
    few = h.few;
    members = h.members;
    places = λ i d l. let p = h.places i d l in omega (arith, p);
    ordered = h.ordered;
    complete = λ X p l. h.complete X p (below X p l);
    left_out = (
      λ t. let x = h.left_out.0 t in (x.0, (x.1.0, (let l = x.1.1.0 in omega (arith, l), x.1.1.1))),
      λ x. h.left_out.1 (x.0, (x.1.0, (below x.0 x.1.0 x.1.1.0, x.1.1.1))),
    );
  }
    where
      below : (X : List Sign) → P X → base_three X < suc b → base_three X < b
      below X p l =
          elim (cases_eq (base_three X) b) [ inl same ↦ absurd (none X p same) | inr other ↦ grind (arith, l, other) ]

  -- nothing is left out while there is room
  none_left_out : (b : ℕ) (lines : List (List Sign)) (more : Bool) → AreFirstBelow P k b lines more → length lines < k
      → ((X : List Sign) × IsLeftOut P b lines X) → ⊥
  none_left_out b lines more h room x = elim (h.complete x.0 x.1.0 x.1.1.0) [
    | inl there ↦ x.1.1.1 there
    | inr filled ↦ let e = filled.0 in omega (arith, e, room)
  ]

  -- a member at place b, and room for it
  one_here : (b : ℕ) (lines : List (List Sign)) (more : Bool) (X : List Sign) → AreFirstBelow P k b lines more
      → length lines < k → P X → base_three X ≡ b → AreFirstBelow P k (suc b) (lines ++ X ∷ []) false
  one_here b lines more X h room p at = record {
    few = let l = length-append lines (X ∷ []) in omega (arith, l, room);
    members = All-push P lines X h.members p;
    places = All-push (λ Y. base_three Y < suc b) lines X (λ i d l. let q = h.places i d l in omega (arith, q))
        (omega (arith, at));
    ordered =
        all_pairs_push IsBefore lines X h.ordered
        (λ i d l. let q = h.places i d l in
        before_of_place (get_or lines i d) X (long (get_or lines i d) (h.members i d l) ∙ sym (long X p))
        (omega (arith, q, at)));
    complete = λ Y q l. inl (listed_now Y q l);
    left_out = (λ t. cc, λ x. absurd (x.1.1.1 (listed_now x.0 x.1.0 x.1.1.0)));
  }
    where
      listed_now : (Y : List Sign) → P Y → base_three Y < suc b → Contains (lines ++ X ∷ []) Y
      listed_now Y q l = elim (cases_lt (base_three Y) b) [
        | inl less ↦ elim (h.complete Y q less) [
          | inl there ↦ Contains-append_left lines (X ∷ []) Y there
          | inr filled ↦ let e = filled.0 in absurd (omega (arith, e, room))
        ]
        | inr most ↦
            subst (Contains (lines ++ X ∷ [])) (same_place X Y (long X p ∙ sym (long Y q)) (omega (arith, l, most, at)))
            (Contains-push lines X)
      ]

  -- a member at place b, and no room
  no_room : (b : ℕ) (lines : List (List Sign)) (more : Bool) (X : List Sign) → AreFirstBelow P k b lines more
      → k ≤ length lines → P X → base_three X ≡ b → AreFirstBelow P k (suc b) lines true
  no_room b lines more X h none p at = record {
    few = h.few;
    members = h.members;
    places = λ i d l. let q = h.places i d l in omega (arith, q);
    ordered = h.ordered;
    complete = λ Y q l. elim (cases_lt (base_three Y) b) [
      | inl less ↦ h.complete Y q less
      | inr most ↦
          inr (
            filled,
            λ i d j. let r = h.places i d j in
                before_of_place (get_or lines i d) Y (long (get_or lines i d) (h.members i d j) ∙ sym (long Y q))
                (omega (arith, r, most)),
          )
    ];
    left_out = (λ t. (X, (p, (omega (arith, at), not_there))), λ x. refl);
  }
    where
      filled : length lines ≡ k
      filled = let l = h.few in omega (arith, l, none)

      not_there : Contains lines X → ⊥
      not_there c = let q = h.places c.0 X c.1 in let e = ap base_three c.2 in omega (arith, q, e, at)

  below_possible : (b : ℕ) → IsPossible (Listed b)
  below_possible zero = held ([], (false, nothing))
  below_possible (suc b) = then (below_possible b) (λ h. mapped (λ e. elim e [
    | inr none ↦ (h.0, (h.1.0, none_here b h.0 h.1.0 h.1.1 (λ X p at. none (X, (p, at)))))
    | inl m ↦ elim (cases_lt (length h.0) k) [
      | inl room ↦ (h.0 ++ m.0 ∷ [], (false, one_here b h.0 h.1.0 m.0 h.1.1 room m.1.0 m.1.1))
      | inr filled ↦ (h.0, (true, no_room b h.0 h.1.0 m.0 h.1.1 filled m.1.0 m.1.1))
    ]
  ]) (either_way ((X : List Sign) × (P X × (base_three X ≡ b)))))

  within : (X : List Sign) → P X → base_three X < 3 ^ n
  within X p = subst (λ j. base_three X < 3 ^ j) (long X p) (base_three-lt X)

  first_of_all : (lines : List (List Sign)) (more : Bool) → AreFirstBelow P k (3 ^ n) lines more
      → AreFirst P k lines more
  first_of_all lines more h = record {
    few = h.few;
    members = h.members;
    ordered = h.ordered;
    complete = λ X p. h.complete X p (within X p);
    more = (
      λ t. let x = h.left_out.0 t in (x.0, x.1.0, x.1.1.1),
      λ x. h.left_out.1 (x.0, (x.1, (within x.0 x.1, x.2))),
    );
  }

  firsts_possible : IsPossible ((lines : List (List Sign)) × ((more : Bool) × AreFirst P k lines more))
  firsts_possible = mapped (λ h. (h.0, (h.1.0, first_of_all h.0 h.1.0 h.1.1))) (below_possible (3 ^ n))

-- ---- the answer

pub extensions_possible : (first : ℕ) (m : SignMap) → IsChirotopeWithinLimits m
    → IsPossible ((a : Answer) × AreExtensionsOfMap first m a)
extensions_possible first m s = elim (cases_eq m.rank 3) [
  | inr other ↦ held (says (line.RefusedNotrank3 m.rank), other_rank other)
  | inl three ↦ elim (cases_eq m.elements MAX_ELEMENTS) [
    | inl most ↦ held (says (line.RefusedFull m.elements), full three most)
    | inr fewer ↦
        let less : m.elements < MAX_ELEMENTS = let l = s.limits.high in grind (arith, l, fewer) in
        mapped (λ h. let l : Extensions = record { lines = h.0; more = h.1.0 } in
        (lists_extensions m.elements l, listed l three less h.1.1))
        (firsts_possible (choose m.elements 2) first (IsSignature m) (signature_size m))
  ]
]
