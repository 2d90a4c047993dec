-- What the cutter makes of one byte, of the bytes from a place on, and of the end of the input; and pieces of which the
-- first bytes are in two parts.
--
-- Main definitions: IsParted
-- Main results: made_byte, bytes_at, made_end, parted
use Rattle.std.specs.Prelude.{ℕ, suc, ◌≡◌, ◌+◌, ◌<◌, List, [], ◌∷◌, ◌++◌, Option, map, take, drop, length, get_or}
use Rattle.std.proofs.Common.{refl, sym, ap, ◌∙◌, arith, drop-cons}
use Rattle.om_pieces.specs.Making.{Making, most, fed, last_ended, rest_of, option_list, made}

-- what is made with one more byte is the piece that the byte completes, and what is made afterwards
pub made_byte : (m now : Making) (piece : Option (List ℕ)) (b : ℕ) (rest : List ℕ)
    → ◌≡◌ {A = Making × Option (List ℕ)} (now, piece) (fed m b) → made m (b ∷ rest) ≡ option_list piece ++ made now rest
made_byte m now piece b rest e = sym (ap (λ (k : Making × Option (List ℕ)). option_list (k.1) ++ made (k.0) rest) e)

-- the byte at a place in front of the bytes behind it
pub bytes_at : (bytes rest : List ℕ) (i : ℕ) → i < length bytes → drop i bytes ++ rest ≡ get_or bytes i 0 ∷
    (drop (i + 1) bytes ++ rest)
bytes_at bytes rest i h =
    ap (λ l. l ++ rest) (drop-cons bytes i 0 h ∙ ap (λ k. get_or bytes i 0 ∷ drop k bytes)
    (let e : suc i ≡ i + 1 = omega arith in e))

-- what is made at the end is the piece that the end completes, and what is left
pub made_end : (m now : Making) (piece left : Option (List ℕ)) → ◌≡◌ {A = Making × Option (List ℕ)} (now, piece)
    (last_ended m) → left ≡ rest_of now → made m [] ≡ option_list piece ++ option_list left
made_end m now piece left e f =
    sym (ap (λ (k : Making × Option (List ℕ)). option_list (k.1) ++ option_list (rest_of (k.0))) e)
    ∙ ap (λ l. option_list piece ++ option_list l) (sym f)

-- what is in front of the first bytes of pieces are the first bytes of the first ones
pub record IsParted (pieces qs left : List (List ℕ)) : Type 0 where
  pub first : List (List ℕ)
  pub last : List (List ℕ)
  pub whole : pieces ≡ first ++ last
  pub front : qs ≡ map (take most) first
  pub behind : left ≡ map (take most) last

-- if the first bytes of pieces are in two parts, the pieces are
pub parted : (pieces qs left : List (List ℕ)) → map (take most) pieces ≡ qs ++ left → IsParted pieces qs left
parted pieces [] left e = record { first = []; last = pieces; whole = refl; front = refl; behind = sym e }
parted [] (q ∷ qs) left e = absurd (no _ _ e)
  where
    no : (x : List ℕ) (xs : List (List ℕ)) → ◌≡◌ {A = List (List ℕ)} [] (x ∷ xs) → ⊥
    no x xs e = cc
parted (p ∷ ps) (q ∷ qs) left e =
    let i = parted ps qs left (tails _ _ _ _ e) in
    record {
      first = p ∷ i.first;
      last = i.last;
      whole = ap (λ l. p ∷ l) i.whole;
      front = both _ _ _ _ (sym (heads _ _ _ _ e)) i.front;
      behind = i.behind;
    }
  where
    heads : (a b : List ℕ) (xs ys : List (List ℕ)) → ◌≡◌ {A = List (List ℕ)} (a ∷ xs) (b ∷ ys) → a ≡ b
    heads a b xs ys e = cc

    tails : (a b : List ℕ) (xs ys : List (List ℕ)) → ◌≡◌ {A = List (List ℕ)} (a ∷ xs) (b ∷ ys) → xs ≡ ys
    tails a b xs ys e = cc

    both : (a b : List ℕ) (xs ys : List (List ℕ)) → a ≡ b → xs ≡ ys → ◌≡◌ {A = List (List ℕ)} (a ∷ xs) (b ∷ ys)
    both a b xs ys e f = cc
