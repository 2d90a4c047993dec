use Rattle.std.specs.Prelude.{ℕ, List}

-- A source in memory. It has the bytes that are left, the most that it gives in a call, the numbers of the calls
-- that fail, and its counts of calls and of faults.
pub record Feed : Type 0 where
  pub bytes : List ℕ
  pub piece : ℕ
  pub failing : List ℕ
  pub calls : ℕ
  pub faults : ℕ
