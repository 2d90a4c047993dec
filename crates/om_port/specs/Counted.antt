use Rattle.std.specs.Prelude.{ℕ}

-- a reader or writer of std, and its count of faults
pub record Counted (R : Type 0) : Type 0 where
  pub inner : R
  pub faults : ℕ
