-- A whole listing has every member of its family.
--
-- Main results: whole_listing.
use Rattle.std.proofs.Common.{ℕ, List, false, refl, arith, ⊎_elim}
use Rattle.std.specs.List.{Contains}
use Rattle.std.proofs.lemmas.Bool.{false≢true}
use Rattle.std.proofs.lemmas.List.Elements.{All-contains}
use Rattle.om_signs.specs.declared.sign.Sign.{Sign}
use Rattle.om_localize.specs.Listings.{IsBefore, AreFirst}
use Rattle.om_localize.proofs.FirstMembers.{number_of_before}

not_before_itself : (xs : List Sign) → IsBefore xs xs → ⊥
not_before_itself xs b = let l = number_of_before xs xs refl b in omega arith

-- the first members of a family are all its members, if no further one follows
pub whole_listing : (P : List Sign → Type 0) (k : ℕ) (lines : List (List Sign)) → AreFirst P k lines false
    → (xs : List Sign) → P xs → Contains lines xs
whole_listing P k lines h xs p = ⊎_elim
    (λ c. c)
    (λ full. absurd (false≢true
    (h.more.1 (xs, p, λ c. not_before_itself xs (All-contains (λ ys. IsBefore ys xs) lines xs full.1 c)))))
    (h.complete xs p)
