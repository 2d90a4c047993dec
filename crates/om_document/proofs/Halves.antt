-- Half of the members of a list that is closed under negation, and the members that it stands for.
--
-- Main definitions: has, pairs
-- Main results: doubled_permutes, members_permute, half_long, half_read
use Rattle.std.proofs.Math.Bool.{and-false}
use Rattle.std.proofs.Common.{◌≡◌, ◌≢◌, ℕ, List, [], ◌∷◌, ◌++◌, Bool, true, false, not, ◌&&◌, ◌||◌, inl, inr, length}
use Rattle.std.proofs.Common.{map, refl, sym, ap, subst, ◌∙◌, append-nil}
use Rattle.std.specs.Prelude.{All, AllPairs, Contains, filter}
use Rattle.std.specs.List.{list_any, flat_map}
use Rattle.std.specs.List.Sorted.{IsPermutation}
use Rattle.std.proofs.lemmas.List.Elements.{All-filter}
use Rattle.std.proofs.lemmas.List.Folds.{list_any_at}
use Rattle.std.proofs.lemmas.List.Sorted.{list_any-IsPermutation, IsPermutation-refl}
use Rattle.std.proofs.lemmas.Map.Views.{Contains-from_any}
use Rattle.std.proofs.lemmas.Bool.{cases_Bool}
use Rattle.om_signs.specs.declared.sign.Sign.{Sign}
use Rattle.om_signs.specs.declared.sign.Sign.TheVariants.{Minus, Zero, Plus}
use Rattle.om_signs.specs.Sign.{opposite}
use Rattle.om_signs.proofs.ListPlaces.{map-opposite-opposite}
use Rattle.om_document.specs.declared.body.Body.{Body}
use Rattle.om_document.specs.declared.body.Body.TheVariants.{Chirotope, Wiring, Points}
use Rattle.om_document.specs.declared.setting.Setting.TheVariants.{Half}
use Rattle.om_lines.specs.Words.{sign_of_byte, byte_of}
use Rattle.om_document.specs.Rows.{same_row, distinct, sorted}
use Rattle.om_document.specs.Document.{members_of_line}
use Rattle.om_document.specs.Members.{members_of}
use Rattle.om_document.specs.Form.{IsBodyOn}
use Rattle.om_document.specs.Print.{member_lines}
use Rattle.om_document.specs.PrintTwo.{begins_with_plus, half_of, doubled, doubled_body, IsClosedUnderNegation}
use Rattle.om_document.proofs.SameRow.{same_row-Decides}
use Rattle.om_document.proofs.Sorting.{All-sorted, distinct_differ, sorted_permutes, same_members}
use Rattle.om_document.proofs.Texts.{single, signs_of_bytes_of}

-- whether z is a member
abbrev pub has : List Sign → List (List Sign) → Bool
has z xs = list_any (same_row z) xs

-- members, each followed by its negative
abbrev pub pairs : List (List Sign) → List (List Sign)
pairs xs = flat_map (λ x. x ∷ map opposite x ∷ []) xs

-- the negative of each member is a member
abbrev pub IsClosed : List (List Sign) → Type 0
IsClosed ms = (x : List Sign) → Contains ms x → Contains ms (map opposite x)

has-from_contains : (z : List Sign) (xs : List (List Sign)) → Contains xs z → has z xs ≡ true
has-from_contains z xs c = list_any_at (same_row z) xs c.0 z c.1 ((same_row-Decides z _).1 (sym c.2))

contains-from_has : (z : List Sign) (xs : List (List Sign)) → has z xs ≡ true → Contains xs z
contains-from_has z xs h = Contains-from_any (λ x y e. (same_row-Decides x y).0 e) z xs h

-- ---- negatives

-- of a vector and its negative, one begins with plus
other_begins : (xs : List Sign) → begins_with_plus xs ≡ false → begins_with_plus (map opposite xs) ≡ true
other_begins [] h = refl
other_begins (Minus ∷ xs) h = refl
other_begins (Zero ∷ xs) h = other_begins xs h
other_begins (Plus ∷ xs) h = absurd (let e : true ≡ false = h in cc)

same_negative : (z x : List Sign) → same_row z (map opposite x) ≡ same_row (map opposite z) x
same_negative z x = elim (cases_Bool (same_row z (map opposite x))) [
  | inl e ↦
      let q : map opposite z ≡ x = ap (map opposite) ((same_row-Decides z (map opposite x)).0 e)
      ∙ map-opposite-opposite x in
      e ∙ sym ((same_row-Decides (map opposite z) x).1 q)
  | inr n ↦ elim (cases_Bool (same_row (map opposite z) x)) [
    | inl e ↦
        let q : z ≡ map opposite x = sym (map-opposite-opposite z)
        ∙ ap (map opposite) ((same_row-Decides (map opposite z) x).0 e) in
        (same_row-Decides z (map opposite x)).1 q ∙ sym e
    | inr m ↦ n ∙ sym m
  ]
]

-- ---- members of the lists on the way

has-others : (z x : List Sign) (ys : List (List Sign)) → same_row z x ≡ false
    → has z (filter (λ y. not (same_row x y)) ys) ≡ has z ys
has-others z x [] n = refl
has-others z x (y ∷ ys) n = elim (cases_Bool (same_row x y)) [
  | inl e ↦
      let q : x ≡ y = (same_row-Decides x y).0 e in
      let m : same_row z y ≡ false = subst (λ v. same_row z v ≡ false) q n in
      rw (e, m) (has-others z x ys n)
  | inr e ↦ rw e (ap (λ b. same_row z y || b) (has-others z x ys n))
]

has-distinct : (z : List Sign) (xs : List (List Sign)) → has z (distinct xs) ≡ has z xs
has-distinct z [] = refl
has-distinct z (x ∷ xs) = elim (cases_Bool (same_row z x)) [
  | inl e ↦ rw e refl
  | inr n ↦ rw n (has-others z x (distinct xs) n ∙ has-distinct z xs)
]

exchanged : (a b c d : Bool) → (a || (b || (c || d))) ≡ ((a || c) || (b || d))
exchanged true b c d = refl
exchanged false true true d = refl
exchanged false true false d = refl
exchanged false false c d = refl

has-pairs : (z : List Sign) (xs : List (List Sign)) → has z (pairs xs) ≡ (has z xs || has (map opposite z) xs)
has-pairs z [] = refl
has-pairs z (x ∷ xs) =
    ap (λ b. same_row z x || (b || has z (pairs xs))) (same_negative z x)
    ∙ ap (λ b. same_row z x || (same_row (map opposite z) x || b)) (has-pairs z xs)
    ∙ exchanged (same_row z x) (same_row (map opposite z) x) (has z xs) (has (map opposite z) xs)

has-begun : (z : List Sign) (xs : List (List Sign)) → has z (filter begins_with_plus xs)
    ≡ (begins_with_plus z && has z xs)
has-begun z [] = sym (and-false (begins_with_plus z))
has-begun z (x ∷ xs) = elim (cases_Bool (same_row z x)) [
  | inl e ↦
      let q : z ≡ x = (same_row-Decides z x).0 e in
      elim (cases_Bool (begins_with_plus x)) [
        | inl b ↦ let c : begins_with_plus z ≡ true = ap begins_with_plus q ∙ b in rw (b, c, e) refl
        | inr b ↦ let c : begins_with_plus z ≡ false = ap begins_with_plus q ∙ b in
            rw (b, c) (has-begun z xs ∙ rw c refl)
      ]
  | inr n ↦ elim (cases_Bool (begins_with_plus x)) [
    | inl b ↦ rw (b, n) (has-begun z xs)
    | inr b ↦ rw (b, n) (has-begun z xs)
  ]
]

has-half : (z : List Sign) (ms : List (List Sign)) → has z (half_of ms) ≡ (begins_with_plus z && has z ms)
has-half z ms = has-begun z (sorted ms)
    ∙ ap (λ b. begins_with_plus z && b) (sym (list_any-IsPermutation (same_row z) ms (sorted ms) (sorted_permutes ms)))

has-negative : (z : List Sign) (ms : List (List Sign)) → IsClosed ms → has (map opposite z) ms ≡ has z ms
has-negative z ms c = elim (cases_Bool (has z ms)) [
  | inl e ↦ has-from_contains (map opposite z) ms (c z (contains-from_has z ms e)) ∙ sym e
  | inr n ↦ elim (cases_Bool (has (map opposite z) ms)) [
    | inl e ↦
        let back : Contains ms z =
        subst (Contains ms) (map-opposite-opposite z) (c (map opposite z) (contains-from_has (map opposite z) ms e)) in
        e ∙ sym (has-from_contains z ms back)
    | inr m ↦ m ∙ sym n
  ]
]

-- one of two choices is open
either_way : (a b c : Bool) → (a ≡ false → b ≡ true) → ((a && c) || (b && c)) ≡ c
either_way true b true h = refl
either_way true b false h = and-false b
either_way false b c h = rw (h refl) refl

has-doubled : (z : List Sign) (ms : List (List Sign)) → IsClosed ms → has z (doubled (half_of ms)) ≡ has z ms
has-doubled z ms c =
    has-distinct z (pairs (half_of ms)) ∙ has-pairs z (half_of ms)
    ∙ ap (λ b. b || has (map opposite z) (half_of ms)) (has-half z ms)
    ∙ ap (λ b. (begins_with_plus z && has z ms) || b)
    (has-half (map opposite z) ms ∙ ap (λ b. begins_with_plus (map opposite z) && b) (has-negative z ms c))
    ∙ either_way (begins_with_plus z) (begins_with_plus (map opposite z)) (has z ms) (other_begins z)

-- ---- a test of closure

-- ---- what is printed and read

-- the members that half of them stand for are the same members
pub doubled_permutes : (ms : List (List Sign)) → AllPairs (λ x y. x ≢ y) ms → IsClosed ms
    → IsPermutation ms (doubled (half_of ms))
doubled_permutes ms p c = same_members ms (doubled (half_of ms)) p (distinct_differ (pairs (half_of ms)))
    (λ z. sym (has-doubled z ms c))

pub half_long : (n : ℕ) (ms : List (List Sign)) → All (λ x. length x ≡ n) ms → All (λ x. length x ≡ n) (half_of ms)
half_long n ms a = All-filter begins_with_plus (λ x. length x ≡ n) (sorted ms) (All-sorted (λ x. length x ≡ n) ms a)

-- the members that lines of one member each stand for after `half`
pub half_read : (ms : List (List Sign)) → flat_map (members_of_line Half) (single (member_lines ms)) ≡ pairs ms
half_read [] = refl
half_read (x ∷ xs) =
    let e : map sign_of_byte (map byte_of x ++ []) ≡ x = ap (map sign_of_byte) (append-nil (map byte_of x))
    ∙ signs_of_bytes_of x in
    ap (λ y. y ∷ map opposite y ∷ flat_map (members_of_line Half) (single (member_lines xs))) e
    ∙ ap (λ r. x ∷ map opposite x ∷ r) (half_read xs)

-- the same of the members of a body
pub members_permute : (n : ℕ) (b : Body) → IsBodyOn n b → IsClosedUnderNegation b
    → IsPermutation (members_of b) (members_of (doubled_body b))
members_permute n (Chirotope m) h c = IsPermutation-refl []
members_permute n (Wiring bs) h c = IsPermutation-refl []
members_permute n (Points ps) h c = IsPermutation-refl []
members_permute n b h c = doubled_permutes (members_of b) h.distinct c
