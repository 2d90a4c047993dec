-- Known bytes, over several reads or writes.
--
-- Main results: Consumes-then, Appends-then, taken_kept, taken_none, another_read, taken_exactly, taken_at_most,
-- taken_at_least, write_step, read_step
use Rattle.std.proofs.Common.{ℕ, ◌≡◌, ◌+◌, ◌-◌, ◌<◌, ◌≤◌, List, [], ◌++◌, length, take, drop, refl, sym, ◌∙◌, ap, arith}
use Rattle.std.proofs.Common.{append_assoc}
use Rattle.std.specs.Prelude.{None, Some, Option}
use Rattle.std.specs.Io.KnownBytes.{Consumes, Appends, Keeps}
use Rattle.std.proofs.lemmas.List.{drop_all, length-take, take-append-drop, length-drop, length-append, take_rest}
use Rattle.std.proofs.lemmas.List.{take_at, take-append-le, drop-drop}
use Rattle.std.proofs.Math.Seq.{take-add}
use Rattle.om_port.specs.Causes.{TakesExactly, TakesAtMost, TakesAtLeast}

-- two reads, one after the other, take the bytes of both from the known ones
pub Consumes-then : (a b c : Option (List ℕ)) (xs ys : List ℕ) → Consumes a b xs → Consumes b c ys
    → Consumes a c (xs ++ ys)
Consumes-then None b c xs ys h k = h
Consumes-then (Some a) None c xs ys h k = absurd h
Consumes-then (Some a) (Some b) None xs ys h k = absurd k
Consumes-then (Some a) (Some b) (Some c) xs ys h k = h ∙ rw (k, append_assoc) refl

-- two writes, one after the other, add the bytes of both to the known ones
pub Appends-then : (a b c : Option (List ℕ)) (xs ys : List ℕ) → Appends a b xs → Appends b c ys → Appends a c (xs ++ ys)
Appends-then None b c xs ys h k = h
Appends-then (Some a) None c xs ys h k = absurd h
Appends-then (Some a) (Some b) None xs ys h k = absurd k
Appends-then (Some a) (Some b) (Some c) xs ys h k = k ∙ rw (h, append_assoc) refl

-- after a read that failed
pub taken_kept : (a b c : Option (List ℕ)) (xs : List ℕ) → Consumes a b xs → Keeps b c → Consumes a c xs
taken_kept None b c xs h k = h
taken_kept (Some a) None c xs h k = absurd h
taken_kept (Some a) (Some b) None xs h k = absurd k
taken_kept (Some a) (Some b) (Some c) xs h k = rw k h

-- after a read that gave no byte
pub taken_none : (a b c : Option (List ℕ)) (xs buf : List ℕ) (k : ℕ) → Consumes a b xs → Consumes b c (take k buf)
    → k ≡ 0 → Consumes a c xs
taken_none a b c xs buf k h h2 none = taken_kept a b c xs h (kept b c (rw none at h2))
  where
    kept : (b c : Option (List ℕ)) → Consumes b c [] → Keeps b c
    kept None c h = h
    kept (Some b) None h = h
    kept (Some b) (Some c) h = sym h

-- the bytes of another read are kept behind those that were taken
pub another_read : (a b c : Option (List ℕ)) (xs kept buf rest : List ℕ) (k : ℕ) → Consumes a b xs
    → Consumes b c (take k buf) → k ≤ length buf → kept ≡ xs ++ take k (buf ++ rest)
    → record { taken : Consumes a c kept; size : length kept ≡ length xs + k }
another_read a b c xs kept buf rest k h h2 fits e =
    let f : kept ≡ xs ++ take k buf = e ∙ ap (λ bs. xs ++ bs) (take-append-le k buf rest fits) in
    let l = length-append xs (take k buf) in
    let t = length-take k buf in
    record {
      taken = rw f (Consumes-then a b c xs (take k buf) h h2);
      size = ap length f ∙ l ∙ ap (λ n. length xs + n) (let m : length (take k buf) ≡ k = omega arith in m);
    }

-- the bytes of another read
pub taken_exactly : (a b c : Option (List ℕ)) (xs buf : List ℕ) (k n : ℕ) → Consumes a b xs → Consumes b c (take k buf)
    → k ≤ length buf → length xs + k ≡ n → TakesExactly n a c
taken_exactly a b c xs buf k n h h2 fits e =
    let l = length-append xs (take k buf) in
    let t = length-take k buf in
    (xs ++ take k buf, Consumes-then a b c xs (take k buf) h h2, omega arith)

pub taken_at_most : (a b c : Option (List ℕ)) (xs buf : List ℕ) (k n : ℕ) → Consumes a b xs → Consumes b c (take k buf)
    → k ≤ length buf → length xs + k ≤ n → TakesAtMost n a c
taken_at_most a b c xs buf k n h h2 fits e =
    let l = length-append xs (take k buf) in
    let t = length-take k buf in
    (xs ++ take k buf, Consumes-then a b c xs (take k buf) h h2, omega arith)

-- if with the bytes of another read there are n or more, at least n bytes were taken
pub taken_at_least : (a b c : Option (List ℕ)) (xs buf : List ℕ) (k n : ℕ) → Consumes a b xs → Consumes b c (take k buf)
    → k ≤ length buf → n ≤ length xs + k → TakesAtLeast n a c
taken_at_least a b c xs buf k n h h2 fits e =
    let l = length-append xs (take k buf) in
    let t = length-take k buf in
    (xs ++ take k buf, Consumes-then a b c xs (take k buf) h h2, omega arith)

-- one write of what is left
pub write_step : (a b c : Option (List ℕ)) (xs : List ℕ) (w k : ℕ) → Appends a b (take w xs)
    → Appends b c (take k (take (length xs - w) (drop w xs))) → Appends a c (take (w + k) xs)
write_step a b c xs w k h h2 =
    let h3 : Appends b c (take k (drop w xs)) = rw (take_rest xs w) at h2 in
    rw (take-add w k xs) (Appends-then a b c (take w xs) (take k (drop w xs)) h h3)

pub length_rest : (xs : List ℕ) (w : ℕ) → length (take (length xs - w) (drop w xs)) ≡ length xs - w
length_rest xs w = rw (take_rest xs w) (length-drop w xs)

-- one read of bytes in memory
pub read_step : (items rest buf copied self : List ℕ) (at count : ℕ) → drop at items ≡ self → rest ≡ drop at items
    → count ≤ length rest → count ≤ length buf → (count ≡ 0 → 0 < length buf → length rest ≤ 0)
    → copied ≡ take count rest → (self ≡ take count (copied ++ drop count buf) ++ drop (at + count) items)
    × (count ≡ 0 → 0 < length (copied ++ drop count buf) → drop (at + count) items ≡ [])
read_step items rest buf copied self at count v r fits room some e =
    let l : length copied ≡ count = rw (e, length-take count rest) (omega arith) in
    let d : drop (at + count) items ≡ drop count rest = rw (r, ← drop-drop count at items) refl in (
      sym v ∙ sym r ∙ rw (d, take_at copied (drop count buf) count l, e) (sym (take-append-drop count rest)),
      λ z more. rw d (drop_all count rest (short z more)),
    )
  where
    short : count ≡ 0 → 0 < length (copied ++ drop count buf) → length rest ≤ count
    short z more =
        let l2 = length-append copied (drop count buf) in
        let l3 = length-drop count buf in
        let l4 = ap length e ∙ length-take count rest in
        let none = some z (omega arith) in
        omega arith
