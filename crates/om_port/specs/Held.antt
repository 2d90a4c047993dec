use Rattle.std.specs.Prelude.{ℕ, List}

-- A sink in memory. It has the bytes that it has taken, the most that it holds, and the most that it takes in a
-- call. It also has the numbers of the calls that fail, and its counts of calls and of faults.
pub record Held : Type 0 where
  pub bytes : List ℕ
  pub room : ℕ
  pub piece : ℕ
  pub failing : List ℕ
  pub calls : ℕ
  pub faults : ℕ
