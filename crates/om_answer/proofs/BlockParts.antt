-- What a state in a verdict block stands for, and what a step says where it goes on.
--
-- Main definitions: AreFewLinesOf, IsFront, IsExhausted, IsFrontier, IsPivots, front_name, verdict_name, IsRest,
-- IsBegun, IsPart
-- Main results: closed_ok, searched_ok, next_ok
use Rattle.std.proofs.Common.{◌≡◌, ℕ, ◌≤◌, ◌<◌, ◌⊎◌, List, [], ◌∷◌, ◌++◌, cond, length, refl, inl, inr}
use Rattle.std.specs.Prelude.{Option, Some, None, Result, Ok, Err, codes, nat_lt}
use Rattle.std.proofs.lemmas.Bool.{ltb-true, cases_Bool}
use Rattle.om_signs.proofs.Results.{ok-injective}
use Rattle.om_document.specs.declared.code.Code.{Code}
use Rattle.om_document.specs.declared.code.Code.TheVariants as code
use Rattle.om_lines.specs.Lines.{is_line, end_line}
use Rattle.om_lines.proofs.WordLines.{is_line-Decides}
use Rattle.om_vectors.specs.WholeVectors.{WholeVector}
use Rattle.om_certificate.specs.declared.verdict.Verdict.{Verdict}
use Rattle.om_answer.specs.declared.block.Block.{Block}
use Rattle.om_answer.specs.declared.block.Block.TheVariants.{Empty, Vectors, Entries, Weights, Tableau, Pivots, Tested}
use Rattle.om_answer.specs.declared.block.Block.TheVariants.{Exhausted, Frontier, Closed}
use Rattle.om_answer.specs.declared.block.Front.{Front}
use Rattle.om_answer.specs.declared.block.Front.TheVariants as front
use Rattle.om_answer.specs.BlockLines.{vector_of, entry_of, weight_of, pivots_of}
use Rattle.om_reply.specs.VerdictText.{word_line}
use Rattle.om_answer.specs.Block.{AreLinesOf, IsTableauEnd, IsBlock, MOST_VECTORS, MOST_WEIGHTS}
use Rattle.om_answer.specs.BlockReading.{with_next, searched, closed}

-- the lines of the items, and how many there may be
pub record AreFewLinesOf {A : Type 0} (f : List (List ℕ) → Option A) (most : ℕ) (ls : List (List (List ℕ)))
    (xs : List A) : Type 0 where
  pub items : AreLinesOf f ls xs
  pub few : length xs ≤ most

-- the lines between the verdict word and the end of the search
abbrev pub IsFront : Front → List (List (List ℕ)) → Type 0
IsFront (front.Weights ws) ls = AreFewLinesOf weight_of MOST_WEIGHTS ls ws
IsFront (front.Tableau e) ls = IsTableauEnd ls e

-- the lines after the verdict word: those of a front and then `exhausted`
pub record IsExhausted (f : Front) (ls : List (List (List ℕ))) : Type 0 where
  pub before : List (List (List ℕ))
  pub lines : ls ≡ before ++ word_line (codes "exhausted") ∷ []
  pub front : IsFront f before

-- those of a front and then `frontier` and vectors
pub record IsFrontier (f : Front) (vs : List WholeVector) (ls : List (List (List ℕ))) : Type 0 where
  pub before : List (List (List ℕ))
  pub after : List (List (List ℕ))
  pub lines : ls ≡ before ++ word_line (codes "frontier") ∷ after
  pub front : IsFront f before
  pub vectors : AreFewLinesOf vector_of MOST_VECTORS after vs

-- one line with a budget of pivots
pub record IsPivots (p : ℕ) (ls : List (List (List ℕ))) : Type 0 where
  pub line : List (List ℕ)
  pub lines : ls ≡ line ∷ []
  pub count : pivots_of line ≡ Some p

-- the verdict word that a state goes back to
abbrev pub front_name : Front → List ℕ
front_name (front.Weights ws) = codes "undecided"
front_name (front.Tableau e) = codes "limit"

abbrev pub verdict_name : Block → List ℕ
verdict_name (Vectors vs) = codes "realizable"
verdict_name (Entries es) = codes "nonrealizable"
verdict_name (Weights ws) = codes "undecided"
verdict_name (Exhausted f) = front_name f
verdict_name (Frontier f vs) = front_name f
verdict_name _ = codes "limit"

-- the lines after the verdict word so far
abbrev pub IsRest : Block → List (List (List ℕ)) → Type 0
IsRest (Vectors vs) ls = AreFewLinesOf vector_of MOST_VECTORS ls vs
IsRest (Entries es) ls = AreLinesOf entry_of ls es
IsRest (Weights ws) ls = AreFewLinesOf weight_of MOST_WEIGHTS ls ws
IsRest Tableau ls = ls ≡ []
IsRest (Pivots p) ls = IsPivots p ls
IsRest (Tested e) ls = IsTableauEnd ls e
IsRest (Exhausted f) ls = IsExhausted f ls
IsRest (Frontier f vs) ls = IsFrontier f vs ls
IsRest Empty ls = ⊥
IsRest (Closed v) ls = ⊥

pub record IsBegun (b : Block) (ls : List (List (List ℕ))) : Type 0 where
  pub rest : List (List (List ℕ))
  pub lines : ls ≡ word_line (verdict_name b) ∷ rest
  pub is : IsRest b rest

-- the state stands for the lines with words of a block so far
abbrev pub IsPart : Block → List (List (List ℕ)) → Type 0
IsPart Empty ls = ls ≡ []
IsPart (Closed v) ls = IsBlock ls v
IsPart b ls = IsBegun b ls

-- what a step says where it goes on
pub closed_ok : (v : Verdict) (w : List (List ℕ)) (other : Result Block Code) (t : Block) → closed v w other ≡ Ok t
    → ((w ≡ end_line) × (Closed v ≡ t)) ⊎ (other ≡ Ok t)
closed_ok v w other t h = elim (cases_Bool (is_line w end_line)) [
  | inl e ↦ let g : ◌≡◌ {A = Result Block Code} (Ok (Closed v)) (Ok t) = rw e at h in
      inl ((is_line-Decides w end_line).0 e, ok-injective (Closed v) t g)
  | inr n ↦ let g : other ≡ Ok t = rw n at h in inr g
]

pub searched_ok : (f : Front) (w : List (List ℕ)) (other : Result Block Code) (t : Block) → searched f w other ≡ Ok t
    → ((w ≡ word_line (codes "exhausted")) × (Exhausted f ≡ t))
    ⊎ (((w ≡ word_line (codes "frontier")) × (Frontier f [] ≡ t)) ⊎ (other ≡ Ok t))
searched_ok f w other t h = elim (cases_Bool (is_line w (word_line (codes "exhausted")))) [
  | inl e ↦ let g : ◌≡◌ {A = Result Block Code} (Ok (Exhausted f)) (Ok t) = rw e at h in
      inl ((is_line-Decides w (word_line (codes "exhausted"))).0 e, ok-injective (Exhausted f) t g)
  | inr n ↦ let g : cond (is_line w (word_line (codes "frontier"))) (Ok (Frontier f [])) other ≡ Ok t = rw n at h in
      inr (second g)
]
  where
    second : cond (is_line w (word_line (codes "frontier"))) (Ok (Frontier f [])) other ≡ Ok t
        → ((w ≡ word_line (codes "frontier")) × (Frontier f [] ≡ t)) ⊎ (other ≡ Ok t)
    second h = elim (cases_Bool (is_line w (word_line (codes "frontier")))) [
      | inl e ↦ let g : ◌≡◌ {A = Result Block Code} (Ok (Frontier f [])) (Ok t) = rw e at h in
          inl ((is_line-Decides w (word_line (codes "frontier"))).0 e, ok-injective (Frontier f []) t g)
      | inr n ↦ let g : other ≡ Ok t = rw n at h in inr g
    ]

-- the next item, and the state with it
pub next_ok : {A : Type 0} (f : List A → Block) (most : ℕ) (xs : List A) (o : Option A) (t : Block)
    → with_next f most xs o ≡ Ok t → (x : A) × (o ≡ Some x) × (length xs < most) × (f (xs ++ x ∷ []) ≡ t)
next_ok f most xs None t h = cc
next_ok f most xs (Some x) t h = elim (cases_Bool (nat_lt (length xs) most)) [
  | inl e ↦ let g : ◌≡◌ {A = Result Block Code} (Ok (f (xs ++ x ∷ []))) (Ok t) = rw e at h in
      (x, refl, ltb-true (length xs) most e, ok-injective _ t g)
  | inr n ↦ let g : ◌≡◌ {A = Result Block Code} (Err code.Many) (Ok t) = rw n at h in cc
]
