-- Evidence on a map of rank 3 is valid, or refused for a first reason.
--
-- Main results: evidence_possible.
use Rattle.std.specs.Prelude.{ℕ, ◌≡◌, ◌≢◌, ◌+◌, ◌<◌, ◌≤◌, ◌⊎◌, List, [], ◌∷◌, length, map, take, slice_get}
use Rattle.std.specs.Prelude.{Some, All, refl}
use Rattle.std.proofs.Common.{suc, get_or, sym, ◌∙◌, ap, subst, inl, inr, arith}
use Rattle.std.proofs.lemmas.Bool.{cases_eq, cases_lt}
use Rattle.std.proofs.lemmas.List.Elements.{All-nil, All-cons, All-weaker}
use Rattle.std.proofs.lemmas.Option.{same_Some}
use Rattle.om_signs.proofs.SignLaws.{same_or_different}
use Rattle.om_subsets.specs.Lists as lists
use Rattle.om_subsets.specs.Members.{Chosen}
use Rattle.om_subsets.specs.Subsets.{IsTriple}
use Rattle.om_chirotope.specs.Chirotope.{IsChirotopeWithinLimits}
use Rattle.om_chirotope.specs.Map.{SignMap, chi_of}
use Rattle.om_vectors.specs.WholeVectors.{WholeVector}
use Rattle.om_vectors.specs.Realizations.{triple_sign, Realizes, IsFirstOther}
use Rattle.om_vectors.proofs.Triples.{realizes_from}
use Rattle.om_grassmann.specs.declared.statement.Statement.{Statement}
use Rattle.om_grassmann.specs.Statements.{IsLawful}
use Rattle.om_grassmann.specs.Order.{IsBefore, AreAll}
use Rattle.om_grassmann.proofs.OrderLaws.{before_self, before_then}
use Rattle.om_certificate.specs.declared.cert_refused.CertRefused.{CertRefused}
use Rattle.om_certificate.specs.declared.cert_refused.CertRefused.TheVariants.{Number, WrongSign, Unlawful, Unbalanced}
use Rattle.om_certificate.specs.declared.cert_refused.CertRefused.TheVariants.{NoStrict, Bracket, WeightFails}
use Rattle.om_certificate.specs.declared.entry.Entry.{Entry}
use Rattle.om_certificate.specs.declared.evidence.Evidence.{Evidence}
use Rattle.om_certificate.specs.declared.evidence.Evidence.TheVariants.{Vectors, Balanced, Weights}
use Rattle.om_certificate.specs.declared.weight.Weight.{Weight}
use Rattle.om_certificate.specs.Certificates.{AreLawful, AreBalanced, HasStrict, IsCertificate, small_times, big_times}
use Rattle.om_certificate.specs.Refusals.{IsFirstUnlawful, IsFirstUnbalanced, IsFirstOtherBracket, IsFirstUnmet}
use Rattle.om_certificate.specs.Refusals.{IsVectorRefusal, number_of_vectors, wrong_sign, IsEntryRefusal, unlawful}
use Rattle.om_certificate.specs.Refusals.{unbalanced, no_strict, IsWeightRefusal, number_of_weights, bracket}
use Rattle.om_certificate.specs.Refusals.{weight_fails, IsRefusalOf}
use Rattle.om_certificate.specs.Validity.{IsValid, IsMultiplicity, IsWithinLimits}
use Rattle.om_certificate.specs.Weights.{bracket_of, nonzero_brackets, AreOfBrackets, AreWeights, IsMetBy}
use Rattle.om_decide.specs.Columns.{no_statement}
use Rattle.om_existence.specs.Possible.{IsPossible}
use Rattle.om_existence.proofs.Possible.{held, then, mapped, either_way}
use Rattle.om_existence.proofs.Firsts.{IsFirst, first_subset}
use Rattle.om_existence.proofs.FirstPlaces.{IsFirstFailing, all_or_first, same_within}
use Rattle.om_existence.proofs.StatementLists.{statements_possible, statement_order}

-- evidence is valid, or refused
abbrev pub IsJudged : SignMap → Evidence → Type 0
IsJudged m e = IsValid m e ⊎ ((why : CertRefused) × IsRefusalOf m e why)

-- ---- vectors

module _ (m : SignMap) (vs : List WholeVector) where
  -- a triple whose triple product has another sign
  abbrev IsOther : List ℕ → Type 0
  IsOther t = IsTriple m.elements t × (triple_sign vs t ≢ chi_of m t)

  other_short : (t : List ℕ) → IsOther t → length t ≤ 3
  other_short t h = let s = h.0.size in omega (arith, s)

  sign_else : (t : List ℕ) → IsTriple m.elements t → (IsOther t → ⊥) → triple_sign vs t ≡ chi_of m t
  sign_else t triple none = elim (same_or_different (triple_sign vs t) (chi_of m t)) [
    | inl same ↦ same
    | inr other ↦ absurd (none (triple, other))
  ]

  first_other : (t : List ℕ) → IsFirst lists.IsBefore IsOther t
      → IsFirstOther vs m (record { n = m.elements; elements = t })
  first_other t f = record {
    n = refl;
    triple = f.has.0;
    other = f.has.1;
    earlier = λ s triple before. sign_else s triple (f.before s before);
  }

  vectors_judged : m.rank ≡ 3 → IsPossible (Realizes vs m ⊎ ((why : CertRefused) × IsVectorRefusal m vs why))
  vectors_judged three = elim (cases_eq (length vs) m.elements) [
    | inr wrong ↦ held (inr (Number m.elements (length vs), number_of_vectors wrong))
    | inl size ↦ then (either_way ((t : List ℕ) × IsOther t)) (λ e. elim e [
      | inr none ↦ held (inl (realizes_from vs m three (sym size) (λ t triple. sign_else t triple (λ o. none (t, o)))))
      | inl o ↦ mapped (λ f. let t : Chosen = record { n = m.elements; elements = f.0 } in
          inr (WrongSign t, wrong_sign t size (first_other f.0 f.1))) (first_subset 3 IsOther other_short o.0 o.1)
    ])
  ]

-- ---- entries

lawful_or_first : (m : SignMap) (es : List Entry) → IsPossible (AreLawful m es ⊎ ((k : ℕ) × IsFirstUnlawful m es k))
lawful_or_first m [] = held (inl (All-nil (λ e. IsLawful m e.statement)))
lawful_or_first m (e ∷ es) = then (either_way (IsLawful m e.statement)) (λ h. elim h [
  | inr not ↦ held (inr (
    1,
    record {
      index = 0;
      entry = e;
      counts = refl;
      here = refl;
      unlawful = not;
      earlier = All-nil (λ e. IsLawful m e.statement);
    },
  ))
  | inl is ↦ mapped (λ rest. elim rest [
    | inl all ↦ inl (All-cons (λ e. IsLawful m e.statement) e es is all)
    | inr f ↦ inr (
      suc f.1.index + 1,
      record {
        index = suc f.1.index;
        entry = f.1.entry;
        counts = refl;
        here = f.1.here;
        unlawful = f.1.unlawful;
        earlier = All-cons (λ e. IsLawful m e.statement) e (take f.1.index es) is f.1.earlier;
      },
    )
  ]) (lawful_or_first m es)
])

module _ (m : SignMap) (es : List Entry) where
  -- a triple that doesn't stand equally often on both sides
  abbrev IsUneven : List ℕ → Type 0
  IsUneven b = IsTriple m.elements b × (small_times b es ≢ big_times b es)

  uneven_short : (b : List ℕ) → IsUneven b → length b ≤ 3
  uneven_short b h = let s = h.0.size in omega (arith, s)

  even_else : (b : List ℕ) → IsTriple m.elements b → (IsUneven b → ⊥) → small_times b es ≡ big_times b es
  even_else b triple none = elim (cases_eq (small_times b es) (big_times b es)) [
    | inl same ↦ same
    | inr other ↦ absurd (none (triple, other))
  ]

  first_uneven : (b : List ℕ) → IsFirst lists.IsBefore IsUneven b
      → IsFirstUnbalanced m es (record { n = m.elements; elements = b })
  first_uneven b f = record {
    n = refl;
    triple = f.has.0;
    differ = f.has.1;
    earlier = λ c triple before. even_else c triple (f.before c before);
  }

  balanced_judged : AreLawful m es → All (λ e. 1 ≤ e.times) es
      → IsPossible (IsCertificate m es ⊎ ((why : CertRefused) × IsEntryRefusal m es why))
  balanced_judged lawful counted = then (either_way ((b : List ℕ) × IsUneven b)) (λ e. elim e [
    | inl u ↦ mapped (λ f. let b : Chosen = record { n = m.elements; elements = f.0 } in
        inr (Unbalanced b (small_times f.0 es) (big_times f.0 es), unbalanced b lawful (first_uneven f.0 f.1)))
        (first_subset 3 IsUneven uneven_short u.0 u.1)
    | inr none ↦
        let balanced : AreBalanced m es = λ b triple. even_else b triple (λ u. none (b, u)) in
        mapped (λ h. elim h [
          | inl strict ↦ inl (record { lawful = lawful; counted = counted; balanced = balanced; strict = strict })
          | inr weak ↦ inr (NoStrict, no_strict lawful balanced weak)
        ]) (either_way (HasStrict es))
  ])

  entries_judged : All (λ e. 1 ≤ e.times) es
      → IsPossible (IsCertificate m es ⊎ ((why : CertRefused) × IsEntryRefusal m es why))
  entries_judged counted = then (lawful_or_first m es) (λ h. elim h [
    | inl lawful ↦ balanced_judged lawful counted
    | inr f ↦ held (inr (Unlawful f.0, unlawful f.0 f.1))
  ])

-- ---- weights

-- the first weight that isn't of the bracket of its place
record IsOtherAt (ws : List Weight) (bs : List (List ℕ)) (k : ℕ) (w : Weight) : Type 0 where
  pub here : slice_get ws k ≡ Some w
  pub other : slice_get bs k ≢ Some (bracket_of w)
  pub earlier : map bracket_of (take k ws) ≡ take k bs

brackets_or_first : (ws : List Weight) (bs : List (List ℕ)) → length ws ≡ length bs
    → IsPossible ((map bracket_of ws ≡ bs) ⊎ ((k : ℕ) × ((w : Weight) × IsOtherAt ws bs k w)))
brackets_or_first [] [] l = held (inl refl)
brackets_or_first [] (b ∷ bs) l = absurd (omega (arith, l))
brackets_or_first (w ∷ ws) [] l = absurd (omega (arith, l))
brackets_or_first (w ∷ ws) (b ∷ bs) l = then (either_way (bracket_of w ≡ b)) (λ h. elim h [
  | inr not ↦ held (inr (
    0,
    (w, record { here = refl; other = λ e. not (sym (same_Some b (bracket_of w) e)); earlier = refl }),
  ))
  | inl is ↦ mapped (λ rest. elim rest [
    | inl all ↦ inl (ap (λ c. c ∷ map bracket_of ws) is ∙ ap (λ cs. b ∷ cs) all)
    | inr f ↦ inr (
      suc f.0,
      (
        f.1.0,
        record {
          here = f.1.1.here;
          other = f.1.1.other;
          earlier = ap (λ c. c ∷ map bracket_of (take f.0 ws)) is ∙ ap (λ cs. b ∷ cs) f.1.1.earlier;
        },
      ),
    )
  ]) (brackets_or_first ws bs (omega (arith, l)))
])

module _ (m : SignMap) (ws : List Weight) (ss : List Statement) (all : AreAll m ss) where
  -- the statement at a place of the list is met
  abbrev IsMetAt : ℕ → Type 0
  IsMetAt k = IsMetBy ws (get_or ss k no_statement)

  met_at : (st : Statement) (k : ℕ) → k < length ss → get_or ss k st ≡ st → IsMetAt k → IsMetBy ws st
  met_at st k l e is = subst (IsMetBy ws) (same_within ss k no_statement st l ∙ e) is

  all_met : ((k : ℕ) → k < length ss → IsMetAt k) → (st : Statement) → IsLawful m st → IsMetBy ws st
  all_met h st lawful = let c = (all.members st).1 lawful in met_at st c.0 c.1 c.2 (h c.0 c.1)

  first_unmet : (k : ℕ) → IsFirstFailing IsMetAt (length ss) k → IsFirstUnmet m ws (get_or ss k no_statement)
  first_unmet k f = record {
    lawful = lawful;
    unmet = f.fails;
    earlier = λ s is before.
        let c = (all.members s).1 is in
        elim (cases_lt c.0 k) [
          | inl less ↦ met_at s c.0 c.1 c.2 (f.earlier c.0 less)
          | inr most ↦ absurd (not_before s c.0 c.1 (same_within ss c.0 no_statement s c.1 ∙ c.2) before
              (cases_eq c.0 k) most)
        ];
  }
    where
      lawful : IsLawful m (get_or ss k no_statement)
      lawful = (all.members (get_or ss k no_statement)).0
          (k, f.below, same_within ss k (get_or ss k no_statement) no_statement f.below)

      not_before : (s : Statement) (i : ℕ) → i < length ss → get_or ss i no_statement ≡ s
          → IsBefore s (get_or ss k no_statement) → (i ≡ k) ⊎ (i ≢ k) → k ≤ i → ⊥
      not_before s i l e before (inl same) most =
          before_self s (subst (IsBefore s) (ap (λ j. get_or ss j no_statement) (sym same) ∙ e) before)
      not_before s i l e before (inr other) most =
          let order = statement_order ss k i no_statement all.increasing (omega (arith, other, most)) l in
          let after = subst (IsBefore (get_or ss k no_statement)) e order in
          before_self s (before_then s (get_or ss k no_statement) s before after)

  met_or_first : m.rank ≡ 3 → AreOfBrackets m ws
      → IsPossible (AreWeights m ws ⊎ ((why : CertRefused) × IsWeightRefusal m ws why))
  met_or_first three brackets = mapped (λ h. elim h [
    | inl met ↦ inl (record { rank = three; brackets = brackets; met = all_met met })
    | inr f ↦ inr (
      WeightFails (get_or ss f.0 no_statement),
      weight_fails (get_or ss f.0 no_statement) brackets (first_unmet f.0 f.1),
    )
  ]) (all_or_first IsMetAt (length ss))

other_bracket : (m : SignMap) (ws : List Weight) (k : ℕ) (w : Weight) → IsOtherAt ws (nonzero_brackets m) k w
    → IsFirstOtherBracket m ws (k + 1)
other_bracket m ws k w h = record {
  index = k;
  weight = w;
  counts = refl;
  here = h.here;
  other = h.other;
  earlier = h.earlier;
}

weights_judged : (m : SignMap) (ws : List Weight) → m.elements < 256 → m.rank ≡ 3
    → IsPossible (AreWeights m ws ⊎ ((why : CertRefused) × IsWeightRefusal m ws why))
weights_judged m ws small three = elim (cases_eq (length ws) (length (nonzero_brackets m))) [
  | inr wrong ↦ held (inr (Number (length (nonzero_brackets m)) (length ws), number_of_weights wrong))
  | inl size ↦ then (brackets_or_first ws (nonzero_brackets m) size) (λ h. elim h [
    | inr f ↦ held (inr (Bracket (f.0 + 1), bracket (f.0 + 1) size (other_bracket m ws f.0 f.1.0 f.1.1)))
    | inl brackets ↦ then (statements_possible m small) (λ ss. met_or_first m ws ss.0 ss.1 three brackets)
  ])
]

-- ---- each kind

pub evidence_possible : (m : SignMap) (e : Evidence) → IsChirotopeWithinLimits m → m.rank ≡ 3 → IsWithinLimits e
    → IsPossible (IsJudged m e)
evidence_possible m (Vectors vs) sound three within = vectors_judged m vs three
evidence_possible m (Balanced es) sound three within =
    entries_judged m es
    (All-weaker (λ (e : Entry). IsMultiplicity e.times) (λ (e : Entry). 1 ≤ e.times) (λ e c. c.low) es within.counted)
evidence_possible m (Weights ws) sound three within =
    weights_judged m ws (let l = sound.limits.high in omega (arith, l)) three
