-- What a source still has and what a sink got, over several calls.
--
-- Main results: taken_to_end, all_taken, taken_more, taken_still, none_taken, takes_none, appended_none, rose_before
use Rattle.std.specs.Prelude.{ℕ, ◌≡◌, ◌≤◌, ◌++◌, List, [], Option, Some, None, take}
use Rattle.std.proofs.Common.{refl, sym, ap, ◌∙◌, subst, append-nil, arith}
use Rattle.std.specs.Io.KnownBytes.{Appends, Consumes, IsAtEnd, Keeps}
use Rattle.om_port.specs.Causes.{Rose, TakesAll, TakesSome}
use Rattle.om_port.proofs.Known.{Consumes-then}

-- ---- bytes that are taken

-- bytes up to the end are all
pub taken_to_end : (old new : Option (List ℕ)) (bytes : List ℕ) → Consumes old new bytes → IsAtEnd new
    → TakesAll old new
taken_to_end None new bytes c e = tt
taken_to_end (Some old) None bytes c e = absurd c
taken_to_end (Some old) (Some new) bytes c e = rw e (sym (append-nil old))

-- bytes were taken, and a read that found no more of them: all were taken
pub all_taken : (old now new : Option (List ℕ)) → TakesSome old now → Consumes now new [] → IsAtEnd new
    → TakesAll old new
all_taken old now new (bs, t) c e = taken_to_end old new (bs ++ []) (Consumes-then old now new bs [] t c) e

-- bytes were taken, and those of one more read
pub taken_more : (old now new : Option (List ℕ)) (bytes : List ℕ) → TakesSome old now → Consumes now new bytes
    → TakesSome old new
taken_more old now new bytes (bs, t) c = (bs ++ bytes, Consumes-then old now new bs bytes t c)

-- bytes were taken, and a read that failed took none
pub taken_still : (old now new : Option (List ℕ)) → TakesSome old now → Keeps now new → TakesSome old new
taken_still None now new (bs, t) k = ([], tt)
taken_still (Some old) None new (bs, t) k = absurd t
taken_still (Some old) (Some now) None (bs, t) k = absurd k
taken_still (Some old) (Some now) (Some new) (bs, t) k = (bs, t ∙ ap (λ l. bs ++ l) (sym k))

-- a read that gave no byte
pub none_taken : (k : ℕ) (buf : List ℕ) (old new : Option (List ℕ)) → k ≡ 0 → Consumes old new (take k buf)
    → Consumes old new []
none_taken k buf old new e c = subst (λ j. Consumes old new (take j buf)) e c

-- a source that wasn't read
pub takes_none : (left : Option (List ℕ)) → TakesSome left left
takes_none None = ([], tt)
takes_none (Some bytes) = ([], refl)

-- ---- bytes that are written, and faults

-- a sink to which nothing was written
pub appended_none : (o : Option (List ℕ)) → Appends o o []
appended_none None = tt
appended_none (Some o) = sym (append-nil o)

-- a count that rose later rose from an earlier value
pub rose_before : (first now later : ℕ) → first ≤ now → Rose now later → Rose first later
rose_before first now later l r = omega (arith, l, r)
