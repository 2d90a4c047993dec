-- The items of a part of a verdict block after one more line.
--
-- Main results: item_refused, item_added, item_over
use Rattle.std.proofs.Common.{◌≡◌, ℕ, ◌≤◌, ◌<◌, List, [], ◌∷◌, ◌++◌, length, refl}
use Rattle.std.specs.Prelude.{Option, Some, None, Ok, Err}
use Rattle.std.proofs.lemmas.Bool.{lt-ltb, le-ltb}
use Rattle.om_document.specs.declared.code.Code.TheVariants as code
use Rattle.om_answer.specs.BlockReading.{next_item}

-- the line is of another form
pub item_refused : {A : Type 0} (most : ℕ) (xs : List A) (o : Option A) → o ≡ None
    → next_item most xs o ≡ Err code.Entry
item_refused most xs o e = rw e refl

-- there is room for its item, whose numbers are n and k
pub item_added : {A : Type 0} (most n k : ℕ) (xs ys : List A) (x : A) (o : Option A) → o ≡ Some x → n ≡ length xs
    → k ≡ most → n < k → ys ≡ xs ++ x ∷ [] → next_item most xs o ≡ Ok ys
item_added most n k xs ys x o e h m l y = rw (e, y, lt-ltb (length xs) most (rw (← h, ← m) l)) refl

-- there is none
pub item_over : {A : Type 0} (most n k : ℕ) (xs : List A) (x : A) (o : Option A) → o ≡ Some x → n ≡ length xs
    → k ≡ most → k ≤ n → next_item most xs o ≡ Err code.Many
item_over most n k xs x o e h m l = rw (e, le-ltb (length xs) most (rw (← h, ← m) l)) refl
