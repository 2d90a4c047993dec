-- A result is a value or an error, and not both.
use Rattle.std.specs.Prelude.{◌≡◌, Result, Ok, Err}

-- equal results that are values have the same value
pub ok-injective : {A E : Type 0} (a b : A) → ◌≡◌ {A = Result A E} (Ok a) (Ok b) → a ≡ b
ok-injective a b same = cc

-- a result that is an error doesn't equal one that is a value
pub err-ne-ok : {A E : Type 0} (e : E) (a : A) → ◌≡◌ {A = Result A E} (Err e) (Ok a) → ⊥
err-ne-ok e a same = cc
