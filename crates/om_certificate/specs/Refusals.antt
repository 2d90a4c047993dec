-- Why evidence is refused: each reason holds only if none before it does, and gives the first instance.
use Rattle.std.specs.Prelude.{ℕ, ◌≡◌, ◌≢◌, ◌+◌, List, length, take, map, slice_get, Some}
use Rattle.om_subsets.specs.Members.{Chosen}
use Rattle.om_subsets.specs.Lists as lists
use Rattle.om_chirotope.specs.Map.{SignMap}
use Rattle.om_vectors.specs.WholeVectors.{WholeVector}
use Rattle.om_vectors.specs.Realizations.{IsFirstOther}
use Rattle.om_subsets.specs.Subsets.{IsTriple}
use Rattle.om_grassmann.specs.declared.statement.Statement.{Statement}
use Rattle.om_grassmann.specs.Statements.{IsLawful}
use Rattle.om_grassmann.specs.Order.{IsBefore}
use Rattle.om_certificate.specs.declared.entry.Entry.{Entry}
use Rattle.om_certificate.specs.declared.weight.Weight.{Weight}
use Rattle.om_certificate.specs.declared.evidence.Evidence.{Evidence}
use Rattle.om_certificate.specs.declared.evidence.Evidence.TheVariants.{Vectors, Balanced, Weights}
use Rattle.om_certificate.specs.declared.cert_refused.CertRefused.{CertRefused}
use Rattle.om_certificate.specs.declared.cert_refused.CertRefused.TheVariants.{NotRank3, Number, WrongSign, Unlawful}
use Rattle.om_certificate.specs.declared.cert_refused.CertRefused.TheVariants.{Unbalanced, NoStrict, Bracket}
use Rattle.om_certificate.specs.declared.cert_refused.CertRefused.TheVariants.{WeightFails}
use Rattle.om_certificate.specs.Certificates.{AreLawful, AreBalanced, HasStrict, small_times, big_times}
use Rattle.om_certificate.specs.Weights.{bracket_of, nonzero_brackets, AreOfBrackets, IsMetBy}

-- the entry with this number, counted from 1, isn't lawful, and those before it are
pub record IsFirstUnlawful (m : SignMap) (es : List Entry) (number : ℕ) : Type 0 where
  pub index : ℕ
  pub entry : Entry
  pub counts : number ≡ index + 1
  pub here : slice_get es index ≡ Some entry
  pub unlawful : IsLawful m entry.statement → ⊥
  pub earlier : AreLawful m (take index es)

-- the increasing triple b doesn't occur equally often on both sides, and those before it in lexicographic order do
pub record IsFirstUnbalanced (m : SignMap) (es : List Entry) (b : Chosen) : Type 0 where
  pub n : b.n ≡ m.elements
  pub triple : IsTriple m.elements b.elements
  pub differ : small_times b.elements es ≢ big_times b.elements es
  pub earlier : (c : List ℕ) → IsTriple m.elements c → lists.IsBefore c b.elements → small_times c es ≡ big_times c es

-- the weight with this number, counted from 1, isn't given to the nonzero bracket at its place, and those before it
-- are
pub record IsFirstOtherBracket (m : SignMap) (ws : List Weight) (number : ℕ) : Type 0 where
  pub index : ℕ
  pub weight : Weight
  pub counts : number ≡ index + 1
  pub here : slice_get ws index ≡ Some weight
  pub other : slice_get (nonzero_brackets m) index ≢ Some (bracket_of weight)
  pub earlier : map bracket_of (take index ws) ≡ take index (nonzero_brackets m)

-- the weights don't satisfy the lawful statement, and satisfy those before it
pub record IsFirstUnmet (m : SignMap) (ws : List Weight) (st : Statement) : Type 0 where
  pub lawful : IsLawful m st
  pub unmet : IsMetBy ws st → ⊥
  pub earlier : (s : Statement) → IsLawful m s → IsBefore s st → IsMetBy ws s

-- why vectors are refused, on a map of rank 3
pub data IsVectorRefusal (m : SignMap) (vs : List WholeVector) : CertRefused → Type 0 where
  number_of_vectors : length vs ≢ m.elements → IsVectorRefusal m vs (Number m.elements (length vs))
  wrong_sign : (t : Chosen) → length vs ≡ m.elements → IsFirstOther vs m t → IsVectorRefusal m vs (WrongSign t)

-- why entries are refused, on a map of rank 3
pub data IsEntryRefusal (m : SignMap) (es : List Entry) : CertRefused → Type 0 where
  unlawful : (k : ℕ) → IsFirstUnlawful m es k → IsEntryRefusal m es (Unlawful k)
  unbalanced : (b : Chosen) → AreLawful m es → IsFirstUnbalanced m es b
      → IsEntryRefusal m es (Unbalanced b (small_times b.elements es) (big_times b.elements es))
  no_strict : AreLawful m es → AreBalanced m es → (HasStrict es → ⊥) → IsEntryRefusal m es NoStrict

-- why weights are refused, on a map of rank 3
pub data IsWeightRefusal (m : SignMap) (ws : List Weight) : CertRefused → Type 0 where
  number_of_weights : length ws ≢ length (nonzero_brackets m)
      → IsWeightRefusal m ws (Number (length (nonzero_brackets m)) (length ws))
  bracket : (k : ℕ) → length ws ≡ length (nonzero_brackets m) → IsFirstOtherBracket m ws k
      → IsWeightRefusal m ws (Bracket k)
  weight_fails : (st : Statement) → AreOfBrackets m ws → IsFirstUnmet m ws st → IsWeightRefusal m ws (WeightFails st)

-- why evidence is refused, on a map of rank 3
abbrev pub IsRefusalOf : SignMap → Evidence → CertRefused → Type 0
IsRefusalOf m (Vectors vs) why = IsVectorRefusal m vs why
IsRefusalOf m (Balanced es) why = IsEntryRefusal m es why
IsRefusalOf m (Weights ws) why = IsWeightRefusal m ws why

-- why evidence is refused
pub data IsRefusal (m : SignMap) (evidence : Evidence) : CertRefused → Type 0 where
  not_rank_3 : m.rank ≢ 3 → IsRefusal m evidence (NotRank3 m.rank)
  of_rank_3 : (why : CertRefused) → m.rank ≡ 3 → IsRefusalOf m evidence why → IsRefusal m evidence why
