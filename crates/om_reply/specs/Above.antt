-- The first element above the number of elements, which the line `refused place` names.
use Rattle.std.specs.Prelude.{ℕ, List, Option, nat_lt}
use Rattle.std.specs.List.{find}

-- the first of the elements that is above n
abbrev pub first_above : ℕ → List ℕ → Option ℕ
first_above n elements = find (λ e. nat_lt n e) elements
