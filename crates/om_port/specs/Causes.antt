use Rattle.std.specs.Prelude.{ℕ, ◌≡◌, ◌+◌, ◌-◌, ◌^◌, ◌≤◌, min, cond, List, length, IfSome, OnErr, is_err}
use Rattle.std.specs.declared.result.Result.{Result}
use Rattle.std.specs.declared.option.Option.{Option}
use Rattle.std.specs.Io.KnownBytes.{Consumes}

-- one more, up to the last value of a counter
abbrev pub raised : ℕ → ℕ
raised n = min (n + 1) (2 ^ 64 - 1)

-- the count rose, or is at its last value
abbrev pub Rose : ℕ → ℕ → Type 0
Rose before now = min (before + 1) (2 ^ 64 - 1) ≤ now

-- the count didn't fall, and a failure comes only if it rose
pub record HasCause {T E : Type 0} (before now : ℕ) (result : Result T E) : Type 0 where
  pub later : before ≤ now
  pub failed : OnErr result (Rose before now)

-- a failure is counted once, and nothing else is
abbrev pub CountsFault : {T E : Type 0} → ℕ → ℕ → Result T E → Type 0
CountsFault before now result = now ≡ cond (is_err result) (raised before) before

-- exactly this many bytes were taken, the first ones
abbrev pub TakesExactly : ℕ → Option (List ℕ) → Option (List ℕ) → Type 0
TakesExactly n old new = (bs : List ℕ) × Consumes old new bs × (length bs ≡ n)

-- some first bytes were taken, at most this many
abbrev pub TakesAtMost : ℕ → Option (List ℕ) → Option (List ℕ) → Type 0
TakesAtMost n old new = (bs : List ℕ) × Consumes old new bs × (length bs ≤ n)

-- some first bytes were taken, at least this many
abbrev pub TakesAtLeast : ℕ → Option (List ℕ) → Option (List ℕ) → Type 0
TakesAtLeast n old new = (bs : List ℕ) × Consumes old new bs × (n ≤ length bs)

-- some first bytes were taken
abbrev pub TakesSome : Option (List ℕ) → Option (List ℕ) → Type 0
TakesSome old new = (bs : List ℕ) × Consumes old new bs

-- all bytes that were left were taken
abbrev pub TakesAll : Option (List ℕ) → Option (List ℕ) → Type 0
TakesAll old new = IfSome old (λ bytes. Consumes old new bytes)
