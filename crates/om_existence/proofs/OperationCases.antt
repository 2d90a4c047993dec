-- Elements that operations take away.
--
-- Main results: ready: an operation that names no element above the number of elements, and doesn't take the only one
-- away, takes away one of several or none; left_low, left_high: it leaves elements, and no more than there are.
use Rattle.std.specs.Prelude.{ℕ, ◌≡◌, ◌≤◌, [], ◌∷◌, Some, None, refl}
use Rattle.std.proofs.Common.{sym, ◌∙◌, inl, inr, arith}
use Rattle.std.proofs.lemmas.Bool.{cases_lt, lt-ltb}
use Rattle.om_commands.specs.declared.operation.Operation.{Operation}
use Rattle.om_commands.specs.declared.operation.Operation.TheVariants.{Dual, Delete, Contract, Reorient}
use Rattle.om_reply.specs.Above.{first_above}
use Rattle.om_commands.specs.Operations.{IsLawful, named_elements, TakesOnly, elements_left}

-- e is one of n elements, and not the only one
pub record IsOneOfSeveral (n e : ℕ) : Type 0 where
  pub several : 2 ≤ n
  pub low : 1 ≤ e
  pub high : e ≤ n

-- the element that an operation takes away, if any, is one of several
abbrev pub IsReady : Operation → ℕ → Type 0
IsReady (Delete e) n = IsOneOfSeveral n e
IsReady (Contract e) n = IsOneOfSeveral n e
IsReady _ n = Unit {0}

not_above : (n e : ℕ) → first_above n (e ∷ []) ≡ None → e ≤ n
not_above n e none = elim (cases_lt n e) [
  | inl lt ↦
      let some : first_above n (e ∷ []) ≡ Some e = rw (lt-ltb n e lt) refl in
      absurd (found (sym some ∙ none))
  | inr ge ↦ ge
]
  where
    found : Some e ≡ None → ⊥
    found same = cc

one_of_several : (n e : ℕ) → 1 ≤ n → 1 ≤ e → first_above n (e ∷ []) ≡ None → (n ≡ 1 → ⊥) → IsOneOfSeveral n e
one_of_several n e some low none left = record {
  several = omega (arith, some, left);
  low = low;
  high = not_above n e none;
}

pub ready : (o : Operation) (n : ℕ) → 1 ≤ n → IsLawful o
    → first_above n (named_elements o) ≡ None → (TakesOnly o n → ⊥) → IsReady o n
ready Dual n some lawful none left = tt
ready (Delete e) n some lawful none left = one_of_several n e some lawful.0 none left
ready (Contract e) n some lawful none left = one_of_several n e some lawful.0 none left
ready (Reorient mask) n some lawful none left = tt

pub left_low : (o : Operation) (n : ℕ) → 1 ≤ n → IsReady o n → 1 ≤ elements_left o n
left_low Dual n some is = some
left_low (Delete e) n some is = let more = is.several in omega (arith, more)
left_low (Contract e) n some is = let more = is.several in omega (arith, more)
left_low (Reorient mask) n some is = some

pub left_high : (o : Operation) (n most : ℕ) → n ≤ most → elements_left o n ≤ most
left_high Dual n most high = high
left_high (Delete e) n most high = omega (arith, high)
left_high (Contract e) n most high = omega (arith, high)
left_high (Reorient mask) n most high = high
