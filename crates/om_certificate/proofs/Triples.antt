-- Triples as they stand in tables and certificates.
--
-- Main results: same-place, triples_room, place_in_room, place_within, increasing_triple
use Rattle.std.specs.Prelude.{ℕ, ◌≡◌, ◌<◌, ◌≤◌, List, [], ◌∷◌, nat_eq}
use Rattle.std.proofs.Common.{refl, ◌∙◌, ap, subst, arith}
use Rattle.std.proofs.lemmas.Slice.Eq.{bytes_eq-Decides}
use Rattle.std.proofs.lemmas.Bool.{ne_eqb, lt-ltb}
use Rattle.std.proofs.lemmas.Bool.Decides.{Decides-eqb, same_from_decides, Decides-like}
use Rattle.om_signs.specs.declared.limits.TheConstants.{MAX_ELEMENTS}
use Rattle.om_subsets.specs.Subsets.{choose, rank_of, with_element, IsTriple}
use Rattle.om_subsets.proofs.Counts.{choose_grows}
use Rattle.om_subsets.proofs.Order.{same_triple}
use Rattle.om_certificate.specs.declared.room.TheConstants.{ROOM}
use Rattle.om_certificate.specs.Certificates.{is_same}

-- two triples are the same exactly where their places are
pub same-place : (n : ℕ) (b c : List ℕ) → IsTriple n b → IsTriple n c → is_same b c ≡ nat_eq (rank_of n b) (rank_of n c)
same-place n b c hb hc =
    same_from_decides (is_same b c) (nat_eq (rank_of n b) (rank_of n c)) (bytes_eq-Decides b c)
    (Decides-like (nat_eq (rank_of n b) (rank_of n c)) (same_triple n b c hb hc) (ap (rank_of n))
    (Decides-eqb (rank_of n b) (rank_of n c)))

-- a table for all elements has room for the triples of fewer
pub triples_room : (n : ℕ) → n ≤ MAX_ELEMENTS → choose n 3 ≤ ROOM
triples_room n h = let g = choose_grows n MAX_ELEMENTS 3 h in omega arith

-- the places up to the number of triples are places of such a table
pub place_in_room : (n place end : ℕ) → n ≤ MAX_ELEMENTS → end ≡ choose n 3 → place < end → place < ROOM
place_in_room n place end h e l = let r = triples_room n h in omega (arith, r, e, l)

-- a table with room for the triples of n elements has the place of a triple of as many elements
pub place_within : (n m r place most : ℕ) → m ≡ n → r ≡ 3 → place < choose m r → choose n 3 ≤ most → place < most
place_within n m r place most e t l room =
    let s : place < choose n 3 = subst (λ k. place < choose k 3) e (subst (λ k. place < choose m k) t l) in
    omega (arith, s, room)

-- three increasing elements are the elements of their set
pub increasing_triple : (a b c : ℕ) → a < b → b < c → with_element a (with_element b (c ∷ [])) ≡ a ∷ b ∷ c ∷ []
increasing_triple a b c l h = ap (with_element a) (in_front b c [] h) ∙ in_front a b (c ∷ []) l
  where
    in_front : (x y : ℕ) (ys : List ℕ) → x < y → with_element x (y ∷ ys) ≡ x ∷ y ∷ ys
    in_front x y ys k = rw (ne_eqb x y (omega arith), lt-ltb x y k) refl
