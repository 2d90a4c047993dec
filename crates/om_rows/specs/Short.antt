-- Short numbers.
use Rattle.std.specs.Prelude.{ℤ}
use Rattle.std.specs.Int.{w64}
use Rattle.std.specs.Int.RustNames.{FitsSigned}

-- an integer that fits 64 bits as a signed number
abbrev pub IsShort : ℤ → Type 0
IsShort z = FitsSigned w64 z
