-- The search for vectors finds some, exhausts the words, or comes to a frontier.
--
-- Main results: search_possible.
use Rattle.std.specs.Prelude.{ℕ, ◌≡◌, ◌+◌, ◌-◌, ◌≤◌, ◌⊎◌, List, [], ◌∷◌, length, refl}
use Rattle.std.proofs.Common.{zero, suc, sym, ◌∙◌, subst, inl, inr, arith}
use Rattle.std.proofs.lemmas.Bool.{cases_eq}
use Rattle.om_chirotope.specs.Map.{SignMap}
use Rattle.om_chirotope.specs.Chirotope.{IsChirotope}
use Rattle.om_vectors.specs.declared.unfound.Unfound.{Unfound}
use Rattle.om_vectors.specs.declared.unfound.Unfound.TheVariants.{Exhausted, Frontier}
use Rattle.om_vectors.specs.WholeVectors.{WholeVector}
use Rattle.om_points.specs.Budgets.{candidates_in, words_of}
use Rattle.om_points.specs.Numbers.{IsAmong, HasNumber}
use Rattle.om_points.specs.Searches.{IsFound, IsUnfound}
use Rattle.om_points.specs.Starts.{Start, IsStart, vectors_by}
use Rattle.om_points.specs.Words.{IsWord, IsWordBefore, IsWordUpTo, IsVisited, IsVisitedUpTo, HasSteps, IsFull}
use Rattle.om_existence.specs.Possible.{IsPossible}
use Rattle.om_points.proofs.Counting.{number_same, number_none, number_one, number_either}
use Rattle.om_points.proofs.Budgets.{words_number}
use Rattle.om_points.proofs.WordOrder.{word_transitive, word_cases, word_not_both}
use Rattle.om_points.proofs.Visits.{full_visited}
use Rattle.om_points.proofs.Agreements.{consistent_empty}
use Rattle.om_existence.proofs.Possible.{held, then, mapped, either_way}
use Rattle.om_existence.proofs.StartParts.{start_possible}

-- ---- the first word of a list

after : (u v w : List WholeVector) → IsWordBefore u v → IsWordUpTo v w → IsWordBefore u w
after u v w less (inl same) = subst (IsWordBefore u) same less
after u v w less (inr more) = word_transitive u v w less more

module _ (P : List WholeVector → Type 0) where
  -- u has the property, and comes before the others of a list that have it
  record IsFirstAmong (ws : List (List WholeVector)) (u : List WholeVector) : Type 0 where
    pub has : P u
    pub first : (w : List WholeVector) → IsAmong w ws → P w → IsWordUpTo u w

  -- none of a list has the property, or some word is the first
  abbrev NoneOrFirst : List (List WholeVector) → Type 0
  NoneOrFirst ws = ((w : List WholeVector) → IsAmong w ws → P w → ⊥) ⊎ ((u : List WholeVector) × IsFirstAmong ws u)

  one_more : (x : List WholeVector) (ws : List (List WholeVector)) → NoneOrFirst ws → P x ⊎ (P x → ⊥)
      → NoneOrFirst (x ∷ ws)
  one_more x ws (inl none) (inr not) = inl (λ w a p. elim a [ inl e ↦ not (subst P e p) | inr b ↦ none w b p ])
  one_more x ws (inl none) (inl is) =
      inr (x, record { has = is; first = λ w a p. elim a [ inl e ↦ inl (sym e) | inr b ↦ absurd (none w b p) ] })
  one_more x ws (inr f) (inr not) =
      inr (
        f.0,
        record {
          has = f.1.has;
          first = λ w a p. elim a [ inl e ↦ absurd (not (subst P e p)) | inr b ↦ f.1.first w b p ];
        },
      )
  one_more x ws (inr f) (inl is) = elim (word_cases x f.0) [
    | inl less ↦ inr (
      x,
      record {
        has = is;
        first = λ w a p. elim a [ inl e ↦ inl (sym e) | inr b ↦ inr (after x f.0 w less (f.1.first w b p)) ];
      },
    )
    | inr rest ↦ inr (
      f.0,
      record {
        has = f.1.has;
        first = λ w a p. elim a [
          | inl e ↦ elim rest [
            | inl same ↦ inl (sym same ∙ sym e)
            | inr less ↦ inr (subst (IsWordBefore f.0) (sym e) less)
          ]
          | inr b ↦ f.1.first w b p
        ];
      },
    )
  ]

  none_or_first : (ws : List (List WholeVector)) → IsPossible (NoneOrFirst ws)
  none_or_first [] = held (inl (λ w a p. a))
  none_or_first (x ∷ ws) = then (none_or_first ws) (λ h. mapped (λ e. one_more x ws h e) (either_way (P x)))

-- ---- the turns of a search

module _ (box : ℕ) (m : SignMap) (s : Start) (st : IsStart m s) where
  -- u has the property, and comes before the others that have it
  record IsFirstWord (P : List WholeVector → Type 0) (u : List WholeVector) : Type 0 where
    pub has : P u
    pub first : (w : List WholeVector) → P w → IsWordUpTo u w

  first_visited : (P : List WholeVector → Type 0) → ((w : List WholeVector) → P w → IsVisited box m s w)
      → IsPossible (((w : List WholeVector) → P w → ⊥) ⊎ ((u : List WholeVector) × IsFirstWord P u))
  first_visited P visited = mapped (λ h. elim h [
    | inl none ↦ inl (λ w p. none w (among w p) p)
    | inr f ↦ inr (f.0, record { has = f.1.has; first = λ w p. f.1.first w (among w p) p })
  ]) (none_or_first P all.0)
    where
      all : HasNumber (λ w. IsWord box s w × (1 ≤ length w)) (words_of (candidates_in box) (length s.free))
      all = words_number box s

      among : (w : List WholeVector) → P w → IsAmong w all.0
      among w p = (all.1.exactly w).1 ((visited w p).word, (visited w p).nonempty)

  -- a visited word after w
  abbrev IsLater : List WholeVector → List WholeVector → Type 0
  IsLater w v = IsVisited box m s v × IsWordBefore w v

  -- w is the visited word with k steps, and no full consistent word is before it
  record IsTurn (w : List WholeVector) (k : ℕ) : Type 0 where
    pub visited : IsVisited box m s w
    pub steps : HasSteps box m s w k
    pub none : (v : List WholeVector) → IsFull box m s v → IsWordBefore v w → ⊥

  module _ (some : 1 ≤ length s.free) where
    first_turn : (u : List WholeVector) → IsFirstWord (IsVisited box m s) u → IsTurn u 1
    first_turn u f = record {
      visited = f.has;
      steps = number_same (λ v. v ≡ u) (IsVisitedUpTo box m s u) 1 (number_one u) (λ v. (
        λ e. (subst (IsVisited box m s) (sym e) f.has, inl e),
        λ g. elim g.1 [ inl e ↦ e | inr b ↦ absurd (word_not_both v u (f.first v g.0) b) ],
      ));
      none = λ v full before. word_not_both v u (f.first v (full_visited box m s v st some full)) before;
    }

    none_up_to : (w : List WholeVector) (k : ℕ) → IsTurn w k → (IsFull box m s w → ⊥) → (v : List WholeVector)
        → IsFull box m s v → IsWordUpTo v w → ⊥
    none_up_to w k turn not v full (inl same) = not (subst (IsFull box m s) same full)
    none_up_to w k turn not v full (inr before) = turn.none v full before

    next_steps : (w u : List WholeVector) (k : ℕ) → IsTurn w k → IsFirstWord (IsLater w) u → HasSteps box m s u (k + 1)
    next_steps w u k turn f =
        number_same (λ v. IsVisitedUpTo box m s w v ⊎ (v ≡ u)) (IsVisitedUpTo box m s u) (k + 1)
        (number_either (IsVisitedUpTo box m s w) (λ v. v ≡ u) k 1 turn.steps (number_one u)
        (λ v g e. word_not_both w u (subst (λ t. IsWordUpTo t w) e g.1) f.has.1))
        (λ v. (there v, λ g. back v g.0 g.1 (word_cases v w)))
      where
        up_then : (v : List WholeVector) → IsWordUpTo v w → IsWordBefore v u
        up_then v (inl e) = subst (λ t. IsWordBefore t u) (sym e) f.has.1
        up_then v (inr b) = word_transitive v w u b f.has.1

        there : (v : List WholeVector) → IsVisitedUpTo box m s w v ⊎ (v ≡ u) → IsVisitedUpTo box m s u v
        there v (inl g) = (g.0, inr (up_then v g.1))
        there v (inr e) = (subst (IsVisited box m s) (sym e) f.has.0, inl e)

        at_most : (v : List WholeVector) → IsWordUpTo v u → IsWordUpTo u v → v ≡ u
        at_most v (inl e) g = e
        at_most v (inr b) g = absurd (word_not_both v u g b)

        back : (v : List WholeVector) → IsVisited box m s v → IsWordUpTo v u
            → IsWordBefore v w ⊎ ((v ≡ w) ⊎ IsWordBefore w v) → IsVisitedUpTo box m s w v ⊎ (v ≡ u)
        back v g l (inl b) = inl (g, inr b)
        back v g l (inr (inl e)) = inl (g, inl e)
        back v g l (inr (inr b)) = inr (at_most v l (f.first v (g, b)))

    next_turn : (w u : List WholeVector) (k : ℕ) → IsTurn w k → (IsFull box m s w → ⊥) → IsFirstWord (IsLater w) u
        → IsTurn u (k + 1)
    next_turn w u k turn not f = record {
      visited = f.has.0;
      steps = next_steps w u k turn f;
      none = λ v full before. elim (word_cases v w) [
        | inl less ↦ turn.none v full less
        | inr (inl same) ↦ not (subst (IsFull box m s) same full)
        | inr (inr more) ↦ word_not_both v u (f.first v (full_visited box m s v st some full, more)) before
      ];
    }

    -- ---- the ends

    module _ (budget : ℕ) where
      -- the search finds vectors, or ends without them
      abbrev HasAnswer : Type 0
      HasAnswer = ((vs : List WholeVector) × IsFound box m budget vs) ⊎ ((u : Unfound) × IsUnfound box m budget u)

      found_here : (w : List WholeVector) (k : ℕ) → IsTurn w k → k ≤ budget → IsFull box m s w → HasAnswer
      found_here w k turn few full = inl (
        vectors_by m s w,
        record {
          start = s;
          word = w;
          is_start = st;
          first = record { full = full; first = turn.none };
          budgeted = inr (k, turn.steps, few);
          vectors = refl;
        },
      )

      exhausted_here : (w : List WholeVector) (k : ℕ) → IsTurn w k → k ≤ budget → (IsFull box m s w → ⊥)
          → ((v : List WholeVector) → IsLater w v → ⊥) → HasAnswer
      exhausted_here w k turn few not last = inr (
        Exhausted,
        record {
          start = s;
          all = k;
          is_start = st;
          none = λ v full. none_up_to w k turn not v full (up_to v (full_visited box m s v st some full));
          visited = number_same (IsVisitedUpTo box m s w) (IsVisited box m s) k turn.steps
              (λ v. (λ g. g.0, λ g. (g, up_to v g)));
          few = few;
        },
      )
        where
          up_to : (v : List WholeVector) → IsVisited box m s v → IsWordUpTo v w
          up_to v g = elim (word_cases v w) [
            | inl less ↦ inr less
            | inr (inl same) ↦ inl same
            | inr (inr more) ↦ absurd (last v (g, more))
          ]

      frontier_here : (w u : List WholeVector) (k : ℕ) → IsTurn w k → k ≡ budget → (IsFull box m s w → ⊥)
          → IsFirstWord (IsLater w) u → HasAnswer
      frontier_here w u k turn same not f = inr (
        Frontier w,
        record {
          start = s;
          later = u;
          is_start = st;
          visited = turn.visited;
          steps = subst (HasSteps box m s w) same turn.steps;
          none = none_up_to w k turn not;
          more = f.has.0;
          after = f.has.1;
        },
      )

      turn_here : (w : List WholeVector) (k : ℕ) → IsTurn w k → k ≤ budget
          → ((IsFull box m s w → ⊥) → (u : List WholeVector) → IsFirstWord (IsLater w) u → IsPossible HasAnswer)
          → IsPossible HasAnswer
      turn_here w k turn few go = then (either_way (IsFull box m s w)) (λ e. elim e [
        | inl full ↦ held (found_here w k turn few full)
        | inr not ↦ then (first_visited (IsLater w) (λ v l. l.0)) (λ h. elim h [
          | inl last ↦ held (exhausted_here w k turn few not last)
          | inr f ↦ go not f.0 f.1
        ])
      ])

      -- from a turn with d steps left
      search_from : (d : ℕ) (w : List WholeVector) (k : ℕ) → IsTurn w k → k + d ≡ budget → IsPossible HasAnswer
      search_from zero w k turn e = turn_here w k turn (omega (arith, e))
          (λ not u f. held (frontier_here w u k turn (omega (arith, e)) not f))
      search_from (suc d) w k turn e = turn_here w k turn (omega (arith, e))
          (λ not u f. search_from d u (k + 1) (next_turn w u k turn not f) (omega (arith, e)))

      nothing_visited : ((w : List WholeVector) → IsVisited box m s w → ⊥) → HasAnswer
      nothing_visited none = inr (
        Exhausted,
        record {
          start = s;
          all = 0;
          is_start = st;
          none = λ v full. none v (full_visited box m s v st some full);
          visited = number_none (IsVisited box m s) none;
          few = omega arith;
        },
      )

      search_free : 1 ≤ budget → IsPossible HasAnswer
      search_free low = then (first_visited (IsVisited box m s) (λ w v. v)) (λ h. elim h [
        | inl none ↦ held (nothing_visited none)
        | inr f ↦ search_from (budget - 1) f.0 1 (first_turn f.0 f.1) (omega (arith, low))
      ])

  -- no element is free
  none_free : (budget : ℕ) → length s.free ≡ 0 → IsFound box m budget (vectors_by m s [])
  none_free budget z = record {
    start = s;
    word = [];
    is_start = st;
    first = record {
      full = record {
        word = record { few = omega arith; candidates = tt };
        full = sym z;
        consistent = consistent_empty m s st;
      };
      first = λ w full before. before;
    };
    budgeted = inl refl;
    vectors = refl;
  }

  search_started : (budget : ℕ) → 1 ≤ budget
      → IsPossible (((vs : List WholeVector) × IsFound box m budget vs) ⊎ ((u : Unfound) × IsUnfound box m budget u))
  search_started budget low = elim (cases_eq (length s.free) 0) [
    | inl z ↦ held (inl (vectors_by m s [], none_free budget z))
    | inr some ↦ search_free (omega (arith, some)) budget low
  ]

pub search_possible : (box : ℕ) (m : SignMap) (budget : ℕ) → IsChirotope m → m.rank ≡ 3 → 1 ≤ budget
    → IsPossible (((vs : List WholeVector) × IsFound box m budget vs) ⊎ ((u : Unfound) × IsUnfound box m budget u))
search_possible box m budget axioms three low = then (start_possible m axioms three)
    (λ s. search_started box m s.0 s.1 budget low)
