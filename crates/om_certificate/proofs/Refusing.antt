-- Evidence is refused for one reason at most, and for none where it is valid.
--
-- Main results: one_reason and no_reason; valid_shows, what valid evidence shows of a map; settled_accepted and
-- settled_refused, that an answer whose reasons hold is exact.
use Rattle.std.specs.Prelude.{ℕ, ◌≡◌, ◌≢◌, ◌+◌, ◌<◌, ◌↔◌, List, [], ◌∷◌, length, take, Result, Ok, Err, IsOk, IfErr}
use Rattle.std.specs.Prelude.{OnOk, slice_get}
use Rattle.std.proofs.Common.{refl, sym, ◌∙◌, ap, subst, zero, suc, arith, inl, inr}
use Rattle.std.proofs.lemmas.Bool.{cases_order, false≢true}
use Rattle.std.proofs.lemmas.List.{length-map, get_or-take, length-take}
use Rattle.std.specs.Option.{option_map}
use Rattle.std.proofs.lemmas.Option.{slice_get_within, get_or_from_slice_get, slice_get-map}
use Rattle.om_subsets.specs.Members.{Chosen}
use Rattle.om_subsets.specs.Subsets.{rank_of, IsTriple}
use Rattle.om_subsets.specs.Lists as lists
use Rattle.om_subsets.proofs.Firsts.{same_chosen}
use Rattle.om_subsets.proofs.Order.{lexicographic, same_triple}
use Rattle.om_chirotope.specs.Map.{SignMap, chi_of}
use Rattle.om_vectors.specs.WholeVectors.{WholeVector}
use Rattle.om_vectors.specs.Realizations.{Realizes, triple_sign}
use Rattle.om_vectors.proofs.Triples.{realized_triple}
use Rattle.om_grassmann.specs.Statements.{IsLawful}
use Rattle.om_grassmann.proofs.OrderLaws.{before_total}
use Rattle.om_certificate.specs.declared.entry.Entry.{Entry}
use Rattle.om_certificate.specs.declared.weight.Weight.{Weight}
use Rattle.om_certificate.specs.declared.evidence.Evidence.{Evidence}
use Rattle.om_certificate.specs.declared.evidence.Evidence.TheVariants.{Vectors, Balanced, Weights}
use Rattle.om_certificate.specs.declared.cert_refused.CertRefused.{CertRefused}
use Rattle.om_certificate.specs.declared.cert_refused.CertRefused.TheVariants.{NotRank3, WrongSign, Unlawful}
use Rattle.om_certificate.specs.declared.cert_refused.CertRefused.TheVariants.{Unbalanced, Bracket, WeightFails}
use Rattle.om_certificate.specs.Certificates.{small_times, big_times, AreLawful, HasStrict, IsCertificate}
use Rattle.om_certificate.specs.Weights.{bracket_of, nonzero_brackets, AreOfBrackets, AreWeights}
use Rattle.om_certificate.specs.Validity.{IsValid, Shows}
use Rattle.om_certificate.specs.Refusals.{IsFirstUnlawful, IsFirstOtherBracket, IsVectorRefusal, number_of_vectors}
use Rattle.om_certificate.specs.Refusals.{wrong_sign, IsEntryRefusal, unlawful, unbalanced, no_strict, IsWeightRefusal}
use Rattle.om_certificate.specs.Refusals.{number_of_weights, bracket, weight_fails, IsRefusalOf, IsRefusal, not_rank_3}
use Rattle.om_certificate.specs.Refusals.{of_rank_3}
use Rattle.om_certificate.proofs.Exclusion.{certificate_excludes, weights_exclude}

-- ---- the first of its kind

first_triple :
    (n : ℕ) (P : List ℕ → Type 0) (s t : Chosen)
    → s.n ≡ n
    → t.n ≡ n
    → IsTriple n s.elements
    → IsTriple n t.elements
    → (P s.elements → ⊥)
    → (P t.elements → ⊥)
    → ((b : List ℕ) → IsTriple n b → lists.IsBefore b s.elements → P b)
    → ((b : List ℕ) → IsTriple n b → lists.IsBefore b t.elements → P b)
    → s ≡ t
first_triple n P s t e f hs ht ns nt fs ft = elim (cases_order (rank_of n s.elements) (rank_of n t.elements)) [
  | inl q ↦ same_chosen s t (e ∙ sym f) (same_triple n s.elements t.elements hs ht q)
  | inr (inl l) ↦
      absurd (ns
      (ft s.elements hs ((lexicographic 1 n s.elements t.elements hs.list ht.list (hs.size ∙ sym ht.size)).1 l)))
  | inr (inr l) ↦
      absurd (nt
      (fs t.elements ht ((lexicographic 1 n t.elements s.elements ht.list hs.list (ht.size ∙ sym hs.size)).1 l)))
]

-- an entry before the first unlawful one is lawful
lawful_before : (m : SignMap) (es : List Entry) (j k : ℕ) → (f : IsFirstUnlawful m es j) → (g : IsFirstUnlawful m es k)
    → f.index < g.index → ⊥
lawful_before m es j k f g l =
    let w = slice_get_within es f.index f.entry f.here in
    let t = length-take g.index es in
    f.unlawful
    (subst (λ (e : Entry). IsLawful m e.statement)
    (get_or-take g.index es f.index f.entry l ∙ get_or_from_slice_get es f.index f.entry f.entry f.here)
    (g.earlier f.index f.entry (omega (arith, t))))

slice_take : {X : Type 0} (i j : ℕ) (xs : List X) → i < j → slice_get (take j xs) i ≡ slice_get xs i
slice_take i zero xs l = absurd (omega arith)
slice_take i (suc j) [] l = refl
slice_take zero (suc j) (x ∷ xs) l = refl
slice_take (suc i) (suc j) (x ∷ xs) l = slice_take i j xs (omega arith)

bracket_before : (m : SignMap) (ws : List Weight) (j k : ℕ) → (f : IsFirstOtherBracket m ws j)
    → (g : IsFirstOtherBracket m ws k) → f.index < g.index → ⊥
bracket_before m ws j k f g l =
    f.other
    (sym (slice_take f.index g.index (nonzero_brackets m) l)
    ∙ ap (λ xs. slice_get xs f.index) (sym g.earlier)
    ∙ slice_get-map bracket_of (take g.index ws) f.index
    ∙ ap (option_map bracket_of) (slice_take f.index g.index ws l ∙ f.here))

-- ---- no reason beside what is valid

no_unlawful : (m : SignMap) (es : List Entry) (k : ℕ) → IsFirstUnlawful m es k → AreLawful m es → ⊥
no_unlawful m es k f a =
    f.unlawful
    (subst (λ (e : Entry). IsLawful m e.statement) (get_or_from_slice_get es f.index f.entry f.entry f.here)
    (a f.index f.entry (slice_get_within es f.index f.entry f.here)))

no_other : (m : SignMap) (ws : List Weight) (k : ℕ) → IsFirstOtherBracket m ws k → AreOfBrackets m ws → ⊥
no_other m ws k f a =
    f.other (ap (λ xs. slice_get xs f.index) (sym a) ∙ slice_get-map bracket_of ws f.index
    ∙ ap (option_map bracket_of) f.here)

-- ---- one reason

one_of_vectors : (m : SignMap) (vs : List WholeVector) {why other : CertRefused} → IsVectorRefusal m vs why
    → IsVectorRefusal m vs other → why ≡ other
one_of_vectors m vs (number_of_vectors n) (number_of_vectors k) = refl
one_of_vectors m vs (number_of_vectors n) (wrong_sign t e f) = absurd (n e)
one_of_vectors m vs (wrong_sign t e f) (number_of_vectors n) = absurd (n e)
one_of_vectors m vs (wrong_sign t e f) (wrong_sign u d g) =
    ap WrongSign
    (first_triple m.elements (λ b. triple_sign vs b ≡ chi_of m b) t u f.n g.n f.triple g.triple f.other g.other
    f.earlier g.earlier)

one_of_entries : (m : SignMap) (es : List Entry) {why other : CertRefused} → IsEntryRefusal m es why
    → IsEntryRefusal m es other → why ≡ other
one_of_entries m es (unlawful j f) (unlawful k g) = elim (cases_order f.index g.index) [
  | inl q ↦ ap Unlawful (f.counts ∙ ap (λ i. i + 1) q ∙ sym g.counts)
  | inr (inl l) ↦ absurd (lawful_before m es j k f g l)
  | inr (inr l) ↦ absurd (lawful_before m es k j g f l)
]
one_of_entries m es (unlawful j f) (unbalanced b a u) = absurd (no_unlawful m es j f a)
one_of_entries m es (unlawful j f) (no_strict a b n) = absurd (no_unlawful m es j f a)
one_of_entries m es (unbalanced b a u) (unlawful j f) = absurd (no_unlawful m es j f a)
one_of_entries m es (unbalanced b a u) (unbalanced c d v) =
    ap (λ (x : Chosen). Unbalanced x (small_times x.elements es) (big_times x.elements es))
    (first_triple m.elements (λ x. small_times x es ≡ big_times x es) b c u.n v.n u.triple v.triple u.differ v.differ
    u.earlier v.earlier)
one_of_entries m es (unbalanced b a u) (no_strict c d n) = absurd (u.differ (d b.elements u.triple))
one_of_entries m es (no_strict a b n) (unlawful j f) = absurd (no_unlawful m es j f a)
one_of_entries m es (no_strict c d n) (unbalanced b a u) = absurd (u.differ (d b.elements u.triple))
one_of_entries m es (no_strict a b n) (no_strict c d k) = refl

one_of_weights : (m : SignMap) (ws : List Weight) {why other : CertRefused} → IsWeightRefusal m ws why
    → IsWeightRefusal m ws other → why ≡ other
one_of_weights m ws (number_of_weights n) (number_of_weights k) = refl
one_of_weights m ws (number_of_weights n) (bracket j e f) = absurd (n e)
one_of_weights m ws (number_of_weights n) (weight_fails s a f) =
    absurd (n (sym (length-map ws bracket_of) ∙ ap length a))
one_of_weights m ws (bracket j e f) (number_of_weights n) = absurd (n e)
one_of_weights m ws (bracket j e f) (bracket k d g) = elim (cases_order f.index g.index) [
  | inl q ↦ ap Bracket (f.counts ∙ ap (λ i. i + 1) q ∙ sym g.counts)
  | inr (inl l) ↦ absurd (bracket_before m ws j k f g l)
  | inr (inr l) ↦ absurd (bracket_before m ws k j g f l)
]
one_of_weights m ws (bracket j e f) (weight_fails s a g) = absurd (no_other m ws j f a)
one_of_weights m ws (weight_fails s a g) (number_of_weights n) =
    absurd (n (sym (length-map ws bracket_of) ∙ ap length a))
one_of_weights m ws (weight_fails s a g) (bracket j e f) = absurd (no_other m ws j f a)
one_of_weights m ws (weight_fails s a f) (weight_fails t b g) = elim (before_total m s t f.lawful g.lawful) [
  | inl l ↦ absurd (f.unmet (g.earlier s f.lawful l))
  | inr (inl q) ↦ ap WeightFails q
  | inr (inr l) ↦ absurd (g.unmet (f.earlier t g.lawful l))
]

-- evidence is refused for one reason at most
pub one_reason : (m : SignMap) (evidence : Evidence) (why other : CertRefused) → IsRefusal m evidence why
    → IsRefusal m evidence other → why ≡ other
one_reason m evidence why other (not_rank_3 n) (not_rank_3 k) = refl
one_reason m evidence why other (not_rank_3 n) (of_rank_3 w r h) = absurd (n r)
one_reason m evidence why other (of_rank_3 w r h) (not_rank_3 n) = absurd (n r)
one_reason m (Vectors vs) why other (of_rank_3 w r h) (of_rank_3 x s k) = one_of_vectors m vs h k
one_reason m (Balanced es) why other (of_rank_3 w r h) (of_rank_3 x s k) = one_of_entries m es h k
one_reason m (Weights ws) why other (of_rank_3 w r h) (of_rank_3 x s k) = one_of_weights m ws h k

rank_of_valid : (m : SignMap) (evidence : Evidence) → IsValid m evidence → m.rank ≡ 3
rank_of_valid m (Vectors vs) v = v.rank
rank_of_valid m (Balanced es) v = go v.strict
  where
    go : HasStrict es → m.rank ≡ 3
    go (k, e, l, q, t) = (v.lawful k e l).rank
rank_of_valid m (Weights ws) v = v.rank

none_of_vectors : (m : SignMap) (vs : List WholeVector) (why : CertRefused) → IsVectorRefusal m vs why → Realizes vs m
    → ⊥
none_of_vectors m vs why (number_of_vectors n) v = n (sym v.elements)
none_of_vectors m vs why (wrong_sign t e f) v = f.other (realized_triple vs m v t.elements f.triple)

none_of_entries : (m : SignMap) (es : List Entry) (why : CertRefused) → IsEntryRefusal m es why → IsCertificate m es → ⊥
none_of_entries m es why (unlawful k f) v = no_unlawful m es k f v.lawful
none_of_entries m es why (unbalanced b a u) v = u.differ (v.balanced b.elements u.triple)
none_of_entries m es why (no_strict a b n) v = n v.strict

none_of_weights : (m : SignMap) (ws : List Weight) (why : CertRefused) → IsWeightRefusal m ws why → AreWeights m ws → ⊥
none_of_weights m ws why (number_of_weights n) v = n (sym (length-map ws bracket_of) ∙ ap length v.brackets)
none_of_weights m ws why (bracket k e f) v = no_other m ws k f v.brackets
none_of_weights m ws why (weight_fails s a f) v = f.unmet (v.met s f.lawful)

-- valid evidence is refused for no reason
pub no_reason : (m : SignMap) (evidence : Evidence) (why : CertRefused) → IsRefusal m evidence why → IsValid m evidence
    → ⊥
no_reason m evidence why (not_rank_3 n) v = n (rank_of_valid m evidence v)
no_reason m (Vectors vs) why (of_rank_3 w r h) v = none_of_vectors m vs why h v
no_reason m (Balanced es) why (of_rank_3 w r h) v = none_of_entries m es why h v
no_reason m (Weights ws) why (of_rank_3 w r h) v = none_of_weights m ws why h v

-- ---- an answer whose reasons hold is exact

pub settled_accepted : (m : SignMap) (evidence : Evidence) (r : Result (Unit {0}) CertRefused)
    → OnOk r (IsValid m evidence) → IfErr r (IsRefusal m evidence) → IsOk r ↔ IsValid m evidence
settled_accepted m evidence (Ok u) a e = (λ h. a, λ v. refl)
settled_accepted m evidence (Err why) a e = (λ h. absurd (false≢true h), λ v. absurd (no_reason m evidence why e v))

pub settled_refused : (m : SignMap) (evidence : Evidence) (r : Result (Unit {0}) CertRefused)
    → OnOk r (IsValid m evidence) → IfErr r (IsRefusal m evidence) → (why : CertRefused) → (r ≡ Err why)
    ↔ IsRefusal m evidence why
settled_refused m evidence (Ok u) a e why = (λ q. cc, λ h. absurd (no_reason m evidence why h a))
settled_refused m evidence (Err w) a e why =
    (λ q. subst (IsRefusal m evidence) (same w why q) e, λ h. ap Err (one_reason m evidence w why e h))
  where
    same : (x y : CertRefused) → (let r : Result (Unit {0}) CertRefused = Err x in r ≡ Err y) → x ≡ y
    same x y q = cc

-- ---- the answers on a map of rank 3, on evidence that was matched

lifted : (m : SignMap) (evidence : Evidence) (r : Result (Unit {0}) CertRefused) → m.rank ≡ 3
    → IfErr r (IsRefusalOf m evidence) → IfErr r (IsRefusal m evidence)
lifted m evidence (Ok u) q f = f
lifted m evidence (Err why) q f = of_rank_3 why q f

-- valid evidence shows what evidence of its kind should
pub valid_shows : (m : SignMap) (evidence : Evidence) → IsValid m evidence → Shows m evidence
valid_shows m (Vectors vs) v = v
valid_shows m (Balanced es) v = certificate_excludes m es v
valid_shows m (Weights ws) v = weights_exclude m ws v

module _ (m : SignMap) (evidence matched : Evidence) (e : evidence ≡ matched) (r : Result (Unit {0}) CertRefused)
    (q : m.rank ≡ 3) (a : OnOk r (IsValid m matched)) (f : IfErr r (IsRefusalOf m matched)) where
  valid : OnOk r (IsValid m evidence)
  valid = subst (λ x. OnOk r (IsValid m x)) (sym e) a

  refusal : IfErr r (IsRefusal m evidence)
  refusal = subst (λ x. IfErr r (IsRefusal m x)) (sym e) (lifted m matched r q f)

  pub matched_accepted : IsOk r ↔ IsValid m evidence
  matched_accepted = settled_accepted m evidence r valid refusal

  pub matched_refused : (why : CertRefused) → (r ≡ Err why) ↔ IsRefusal m evidence why
  matched_refused = settled_refused m evidence r valid refusal

  pub matched_shown : OnOk r (Shows m evidence)
  matched_shown = go r valid
    where
      go : (r : Result (Unit {0}) CertRefused) → OnOk r (IsValid m evidence) → OnOk r (Shows m evidence)
      go (Ok u) v = valid_shows m evidence v
      go (Err why) v = v

pub rank_refused : (m : SignMap) (evidence : Evidence) (rank : ℕ) → rank ≡ m.rank → m.rank ≢ 3
    → IsRefusal m evidence (NotRank3 rank)
rank_refused m evidence rank e n = rw e (not_rank_3 n)
