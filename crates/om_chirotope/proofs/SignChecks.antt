-- Four elements of a picture, and a fifth with the relations of all: the four have their relation too. By all signs.
--
-- Main results: relation_of_four.
use Rattle.std.specs.Prelude.{◌≡◌, ◌≢◌, ◌⊎◌, Bool, true, false, cond, refl}
use Rattle.std.proofs.Common.{◌∙◌, inl, inr}
use Rattle.std.proofs.lemmas.Bool.{false≢true}
use Rattle.om_signs.specs.declared.sign.Sign.{Sign}
use Rattle.om_signs.specs.declared.sign.Sign.TheVariants.{Minus, Zero, Plus}
use Rattle.om_signs.specs.Sign.{opposite, product}
use Rattle.om_laws.specs.ThreeTerm.{AreBalanced}

-- AreBalanced as a test
abbrev balanced : Sign → Sign → Sign → Bool
balanced Minus Minus Minus = false
balanced Minus Minus Zero = false
balanced Minus Minus Plus = true
balanced Minus Zero Minus = false
balanced Minus Zero Zero = false
balanced Minus Zero Plus = true
balanced Minus Plus Minus = true
balanced Minus Plus Zero = true
balanced Minus Plus Plus = true
balanced Zero Minus Minus = false
balanced Zero Minus Zero = false
balanced Zero Minus Plus = true
balanced Zero Zero Minus = false
balanced Zero Zero Zero = true
balanced Zero Zero Plus = false
balanced Zero Plus Minus = true
balanced Zero Plus Zero = false
balanced Zero Plus Plus = false
balanced Plus Minus Minus = true
balanced Plus Minus Zero = true
balanced Plus Minus Plus = true
balanced Plus Zero Minus = true
balanced Plus Zero Zero = false
balanced Plus Zero Plus = false
balanced Plus Plus Minus = true
balanced Plus Plus Zero = false
balanced Plus Plus Plus = false

tested : (x y z : Sign) → AreBalanced x y z → balanced x y z ≡ true
tested Minus Minus Minus h = absurd h
tested Minus Minus Zero h = absurd h
tested Minus Minus Plus h = refl
tested Minus Zero Minus h = absurd h
tested Minus Zero Zero h = absurd h
tested Minus Zero Plus h = refl
tested Minus Plus Minus h = refl
tested Minus Plus Zero h = refl
tested Minus Plus Plus h = refl
tested Zero Minus Minus h = absurd h
tested Zero Minus Zero h = absurd h
tested Zero Minus Plus h = refl
tested Zero Zero Minus h = absurd h
tested Zero Zero Zero h = refl
tested Zero Zero Plus h = absurd h
tested Zero Plus Minus h = refl
tested Zero Plus Zero h = absurd h
tested Zero Plus Plus h = absurd h
tested Plus Minus Minus h = refl
tested Plus Minus Zero h = refl
tested Plus Minus Plus h = refl
tested Plus Zero Minus h = refl
tested Plus Zero Zero h = absurd h
tested Plus Zero Plus h = absurd h
tested Plus Plus Minus h = refl
tested Plus Plus Zero h = absurd h
tested Plus Plus Plus h = absurd h

from_test : (x y z : Sign) → balanced x y z ≡ true → AreBalanced x y z
from_test Minus Minus Minus h = absurd (false≢true h)
from_test Minus Minus Zero h = absurd (false≢true h)
from_test Minus Minus Plus h = tt
from_test Minus Zero Minus h = absurd (false≢true h)
from_test Minus Zero Zero h = absurd (false≢true h)
from_test Minus Zero Plus h = tt
from_test Minus Plus Minus h = tt
from_test Minus Plus Zero h = tt
from_test Minus Plus Plus h = tt
from_test Zero Minus Minus h = absurd (false≢true h)
from_test Zero Minus Zero h = absurd (false≢true h)
from_test Zero Minus Plus h = tt
from_test Zero Zero Minus h = absurd (false≢true h)
from_test Zero Zero Zero h = tt
from_test Zero Zero Plus h = absurd (false≢true h)
from_test Zero Plus Minus h = tt
from_test Zero Plus Zero h = absurd (false≢true h)
from_test Zero Plus Plus h = absurd (false≢true h)
from_test Plus Minus Minus h = tt
from_test Plus Minus Zero h = tt
from_test Plus Minus Plus h = tt
from_test Plus Zero Minus h = tt
from_test Plus Zero Zero h = absurd (false≢true h)
from_test Plus Zero Plus h = absurd (false≢true h)
from_test Plus Plus Minus h = tt
from_test Plus Plus Zero h = absurd (false≢true h)
from_test Plus Plus Plus h = absurd (false≢true h)

-- ---- all signs

all_signs : (Sign → Bool) → Bool
all_signs f = cond (f Minus) (cond (f Zero) (f Plus) false) false

implies : Bool → Bool → Bool
implies a b = cond a b true

of_all : (f : Sign → Bool) → all_signs f ≡ true → (s : Sign) → f s ≡ true
unfolding all_signs
of_all f h s = go (f Minus) (f Zero) (f Plus) refl refl refl h s
  where
    go : (a b c : Bool) → f Minus ≡ a → f Zero ≡ b → f Plus ≡ c → cond a (cond b c false) false ≡ true → (s : Sign)
        → f s ≡ true
    go true true c p q r h Minus = p
    go true true c p q r h Zero = q
    go true true c p q r h Plus = r ∙ h
    go true false c p q r h s = absurd (false≢true h)
    go false b c p q r h s = absurd (false≢true h)

then : (a b : Bool) → implies a b ≡ true → a ≡ true → b ≡ true
unfolding implies
then true b h e = h
then false b h e = absurd (false≢true e)

abbrev is_nonzero : Sign → Bool
is_nonzero Minus = true
is_nonzero Zero = false
is_nonzero Plus = true

-- the relation of four elements, from the signs of their pairs
abbrev relation : Sign → Sign → Sign → Sign → Sign → Sign → Bool
relation ab ac ad bc bd cd = balanced (product ab cd) (opposite (product ac bd)) (product ad bc)

abbrev some : Sign → Sign → Sign → Sign → Bool
some a b c d = cond (is_nonzero a) true (cond (is_nonzero b) true (cond (is_nonzero c) true (is_nonzero d)))

abbrev last : Sign → Sign → Sign → Sign → Sign → Sign → Sign → Sign → Sign → Sign → Bool
last xa xb xc xd ab ac bc ad bd cd =
    implies (relation xa xc xd ac ad cd) (implies (relation xb xc xd bc bd cd) (relation ab ac ad bc bd cd))

abbrev each : Bool
each = all_signs (λ xa. all_signs (λ xb. all_signs (λ xc. all_signs (λ xd. implies (some xa xb xc xd)
    (all_signs (λ ab. all_signs (λ ac. all_signs (λ bc. implies (relation xa xb xc ab ac bc)
    (all_signs (λ ad. all_signs (λ bd. implies (relation xa xb xd ab ad bd)
    (all_signs (λ cd. last xa xb xc xd ab ac bc ad bd cd)))))))))))))

each_is : each ≡ true
unfolding all_signs implies
each_is = refl

-- the relation of a, b, c and d, from those of x with three of them, where x isn't zero with each
pub relation_of_four : (xa xb xc xd ab ac ad bc bd cd : Sign) → (xa ≢ Zero)
    ⊎ ((xb ≢ Zero) ⊎ ((xc ≢ Zero) ⊎ (xd ≢ Zero)))
    → AreBalanced (product xa bc) (opposite (product xb ac)) (product xc ab)
    → AreBalanced (product xa bd) (opposite (product xb ad)) (product xd ab)
    → AreBalanced (product xa cd) (opposite (product xc ad)) (product xd ac)
    → AreBalanced (product xb cd) (opposite (product xc bd)) (product xd bc)
    → AreBalanced (product ab cd) (opposite (product ac bd)) (product ad bc)
relation_of_four xa xb xc xd ab ac ad bc bd cd n h1 h2 h3 h4 =
    let c0 = of_all _ (of_all _ (of_all _ (of_all _ each_is xa) xb) xc) xd in
    let c1 = of_all _ (of_all _ (of_all _ (then _ _ c0 (some_is n)) ab) ac) bc in
    let c2 = of_all _ (of_all _ (then _ _ c1 (tested _ _ _ h1)) ad) bd in
    let c3 = of_all _ (then _ _ c2 (tested _ _ _ h2)) cd in
    from_test _ _ _ (then _ _ (then _ _ c3 (tested _ _ _ h3)) (tested _ _ _ h4))
  where
    nonzero_is : (s : Sign) → s ≢ Zero → is_nonzero s ≡ true
    nonzero_is Minus k = refl
    nonzero_is Zero k = absurd (k refl)
    nonzero_is Plus k = refl

    later : (a b : Bool) → b ≡ true → cond a true b ≡ true
    later true b h = refl
    later false b h = h

    here : (a b : Bool) → a ≡ true → cond a true b ≡ true
    here true b h = refl
    here false b h = absurd (false≢true h)

    some_is : (xa ≢ Zero) ⊎ ((xb ≢ Zero) ⊎ ((xc ≢ Zero) ⊎ (xd ≢ Zero))) → some xa xb xc xd ≡ true
    some_is (inl k) = here (is_nonzero xa) _ (nonzero_is xa k)
    some_is (inr (inl k)) = later (is_nonzero xa) _ (here (is_nonzero xb) _ (nonzero_is xb k))
    some_is (inr (inr (inl k))) =
        later (is_nonzero xa) _ (later (is_nonzero xb) _ (here (is_nonzero xc) _ (nonzero_is xc k)))
    some_is (inr (inr (inr k))) =
        later (is_nonzero xa) _ (later (is_nonzero xb) _ (later (is_nonzero xc) _ (nonzero_is xd k)))
