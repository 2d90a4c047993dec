-- Rows of bytes, one for each member of a list.
--
-- Main results: rows_more, one member more; row_place, a place of a row is one of the bytes; member_of_row.
use Rattle.std.proofs.Common.{ℕ, List, ◌≡◌, ◌+◌, ◌-◌, ◌*◌, ◌<◌, ◌≤◌, ◌∷◌, [], ◌++◌, ◌∙◌, refl, sym, ap, subst}
use Rattle.std.proofs.Common.{length, get_or, take, drop, All, arith}
use Rattle.std.proofs.lemmas.List.{get_or_append_left, get_or-append_right, length-append, get_or-take, get_or-drop}
use Rattle.std.proofs.lemmas.List.FromFn.{map-range_with_len_more, get_or-map-range_with_len, length-map-range_with_len}
use Rattle.std.proofs.lemmas.List.Elements.{All-push}
use Rattle.std.proofs.lemmas.Nat.{mul-add-lt, mul-le}
use Rattle.om_subsets.specs.Subsets.{choose}
use Rattle.om_chirotope.specs.Map.{SignMap}
use Rattle.om_chirotope.specs.Chirotope.{IsChirotope}
use Rattle.om_levels.specs.Packing.{bytes_for, packed_byte, packed, unpacked}
use Rattle.om_signs.specs.declared.sign.Sign.{Sign}
use Rattle.om_subsets.proofs.Counts.{choose_grows}
use Rattle.om_levels.specs.Levels.{row_size, row_map, row_maps, IsMemberAt, IsChirotopeOfRank3, AreRows}
use Rattle.om_levels.proofs.PackedSigns.{unpacked_row, same_bytes, same_values}

mul-comm : (a b : ℕ) → a * b ≡ b * a
mul-comm a b = omega arith

-- a place of a row is one of the bytes
pub row_place : (size count row j total : ℕ) → total ≡ count * size → row < count → j < size → row * size + j < total
row_place size count row j total e l m =
    let k = mul-add-lt row size j count l m in
    let c = mul-comm size count in
    omega arith

-- a row whose bytes are those of a map of rank 3
pub row_is : (n row : ℕ) (bytes : List ℕ) (m : SignMap) → m.rank ≡ 3 → m.elements ≡ n → length m.signs ≡ choose n 3
    → ((j : ℕ) → j < row_size n → get_or bytes (row * row_size n + j) 0 ≡ packed_byte m.signs j)
    → row_map n bytes row ≡ m
row_is n row bytes m r e len same = λ i. record {
  rank = sym r i;
  elements = sym e i;
  signs = unpacked_row m.signs (choose n 3) (row * row_size n) bytes len same i;
}

-- the rows are as before where bytes are added behind them
old_rows : (n count : ℕ) (bytes more : List ℕ) → length bytes ≡ count * row_size n
    → row_maps n count (bytes ++ more) ≡ row_maps n count bytes
old_rows n count bytes more whole = same_values (row_map n (bytes ++ more)) (row_map n bytes) 0 count
    (λ row l m. ap (λ s. record { rank = 3; elements = n; signs = s })
    (same_bytes (choose n 3) (row * row_size n) (bytes ++ more) bytes
    (λ j k. get_or_append_left bytes more 0 (row * row_size n + j)
    (row_place (row_size n) count row j (length bytes) whole (omega arith) k))))

-- the row of bytes that are added
new_row : (n count : ℕ) (bytes : List ℕ) (m : SignMap) → length bytes ≡ count * row_size n → m.rank ≡ 3
    → m.elements ≡ n → length m.signs ≡ choose n 3 → row_map n (bytes ++ packed m.signs) count ≡ m
new_row n count bytes m whole r e len = row_is n count (bytes ++ packed m.signs) m r e len (λ j l.
    get_or-append_right bytes (packed m.signs) (count * row_size n) (count * row_size n + j) 0 whole (omega arith)
    ∙ ap (λ k. get_or (packed m.signs) k 0) (omega arith)
    ∙ get_or-map-range_with_len (packed_byte m.signs) 0 (bytes_for (length m.signs)) j j 0
    (subst (λ k. j < bytes_for k) (sym len) l) (omega arith))

-- one member more
pub rows_more : (n count : ℕ) (bytes : List ℕ) (m : SignMap) → length bytes ≡ count * row_size n → m.rank ≡ 3
    → m.elements ≡ n → length m.signs ≡ choose n 3
    → row_maps n (count + 1) (bytes ++ packed m.signs) ≡ row_maps n count bytes ++ m ∷ []
rows_more n count bytes m whole r e len =
    map-range_with_len_more (row_map n (bytes ++ packed m.signs)) 0 count count (omega arith)
    ∙ ap (λ xs. xs ++ row_map n (bytes ++ packed m.signs) count ∷ []) (old_rows n count bytes (packed m.signs) whole)
    ∙ ap (λ d. row_maps n count bytes ++ d ∷ []) (new_row n count bytes m whole r e len)

length-packed : (n : ℕ) (m : SignMap) → length m.signs ≡ choose n 3 → length (packed m.signs) ≡ row_size n
length-packed n m len =
    length-map-range_with_len (packed_byte m.signs) 0 (bytes_for (length m.signs)) ∙ ap bytes_for len

mul-more : (count size : ℕ) → (count + 1) * size ≡ count * size + size
mul-more count size = omega arith

-- the same of the rows
pub are_rows_more : (n count : ℕ) (bytes : List ℕ) (m : SignMap) → AreRows n count bytes → IsChirotope m → m.rank ≡ 3
    → m.elements ≡ n → length m.signs ≡ choose n 3 → AreRows n (count + 1) (bytes ++ packed m.signs)
are_rows_more n count bytes m rows axioms r e len = record {
  low = rows.low;
  high = rows.high;
  whole = length-append bytes (packed m.signs) ∙ ap (λ k. k + length (packed m.signs)) rows.whole
      ∙ ap (λ k. count * row_size n + k) (length-packed n m len) ∙ sym (mul-more count (row_size n));
  each = subst (All IsChirotope) (sym (rows_more n count bytes m rows.whole r e len))
      (All-push IsChirotope (row_maps n count bytes) m rows.each axioms);
}

-- the map of a row is the member with its number
pub member_of_row : (n count row : ℕ) (bytes : List ℕ) → row < count
    → IsMemberAt (row_maps n count bytes) row (row_map n bytes row)
member_of_row n count row bytes l = record {
  below = subst (λ k. row < k) (sym (length-map-range_with_len (row_map n bytes) 0 count)) l;
  same = get_or-map-range_with_len (row_map n bytes) 0 count row row (row_map n bytes row) l (omega arith);
}

length-rows : (n count : ℕ) (bytes : List ℕ) → length (row_maps n count bytes) ≡ count
length-rows n count bytes = length-map-range_with_len (row_map n bytes) 0 count

pub count_is : (n count : ℕ) (bytes : List ℕ) → count ≡ length (row_maps n count bytes)
count_is n count bytes = sym (length-rows n count bytes)

-- a row has a byte, so there are no more rows than bytes
pub few_rows : (n count : ℕ) (bytes : List ℕ) → AreRows n count bytes → count ≤ length bytes
few_rows n count bytes rows =
    let low = rows.low in
    let some = choose_grows 3 n 3 low in
    let size : 1 ≤ row_size n = omega arith in
    let m = mul-le count 1 count (row_size n) (omega arith) size in
    let w = rows.whole in
    omega arith

-- a row begins within the bytes
pub row_begins : (n count row size : ℕ) (bytes : List ℕ) → AreRows n count bytes → row < count → size ≡ row_size n
    → row * size + size ≤ length bytes
row_begins n count row size bytes rows l e =
    let m = mul-le (row + 1) size count size (omega arith) (omega arith) in
    let d = mul-more row size in
    let w = rows.whole ∙ ap (λ k. count * k) (sym e) in
    omega arith

row_at : (n count row : ℕ) (bytes : List ℕ) (d : SignMap) → row < count
    → get_or (row_maps n count bytes) row d ≡ row_map n bytes row
row_at n count row bytes d l = get_or-map-range_with_len (row_map n bytes) 0 count row row d l (omega arith)

-- the map of each row is a chirotope
pub row_axioms : (n count row : ℕ) (bytes : List ℕ) → AreRows n count bytes → row < count
    → IsChirotope (row_map n bytes row)
row_axioms n count row bytes rows l = subst IsChirotope (row_at n count row bytes (row_map n bytes row) l)
    (rows.each row (row_map n bytes row) (subst (λ k. row < k) (sym (length-rows n count bytes)) l))

-- each member is a chirotope of rank 3 on n elements
pub members_of_rank_3 : (n count : ℕ) (bytes : List ℕ) → AreRows n count bytes
    → All (IsChirotopeOfRank3 n) (row_maps n count bytes)
members_of_rank_3 n count bytes rows = λ k d l.
    let below : k < count = subst (λ j. k < j) (length-rows n count bytes) l in
    subst (IsChirotopeOfRank3 n) (sym (row_at n count k bytes d below)) (record {
      axioms = row_axioms n count k bytes rows below;
      rank = refl;
      elements = refl;
    })

-- a member whose bytes are those of a map is the map
pub member_of_slice : (n count row size : ℕ) (bytes : List ℕ) (m : SignMap) → size ≡ row_size n → row < count
    → m.rank ≡ 3 → m.elements ≡ n → length m.signs ≡ choose n 3
    → take (row * size + size - row * size) (drop (row * size) bytes) ≡ packed m.signs
    → IsMemberAt (row_maps n count bytes) row m
member_of_slice n count row size bytes m es l r e len same =
    subst (IsMemberAt (row_maps n count bytes) row) (row_is n row bytes m r e len here)
    (member_of_row n count row bytes l)
  where
    width : row * size + size - row * size ≡ size
    width = omega arith

    here : (j : ℕ) → j < row_size n → get_or bytes (row * row_size n + j) 0 ≡ packed_byte m.signs j
    here j k =
        ap (λ s. get_or bytes (row * s + j) 0) (sym es)
        ∙ sym (get_or-drop (row * size) bytes j 0)
        ∙ sym (get_or-take (row * size + size - row * size) (drop (row * size) bytes) j 0 (omega arith))
        ∙ ap (λ xs. get_or xs j 0) same
        ∙ get_or-map-range_with_len (packed_byte m.signs) 0 (bytes_for (length m.signs)) j j 0
        (subst (λ c. j < bytes_for c) (sym len) k) (omega arith)

-- the map that is made of signs that were unpacked
pub map_made : (n row size count : ℕ) (bytes slice : List ℕ) (signs : List Sign) → count ≡ choose n 3
    → size ≡ row_size n → slice ≡ bytes → signs ≡ unpacked count slice (row * size)
    → ◌≡◌ {A = SignMap} (record { rank = 3; elements = n; signs = signs }) (row_map n bytes row)
map_made n row size count bytes slice signs c s b e = ap (λ ss. record { rank = 3; elements = n; signs = ss }) (e
    ∙ ap (λ k. unpacked k slice (row * size)) c
    ∙ ap (λ xs. unpacked (choose n 3) xs (row * size)) b
    ∙ ap (λ k. unpacked (choose n 3) bytes (row * k)) s)
