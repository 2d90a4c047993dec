-- Lists of signs in lexicographic order.
--
-- Main results: lists that go on behind others of one length (append_order), and lists that differ at a place
-- (decided).
use Rattle.std.proofs.Common.{ℕ, zero, suc, ◌≡◌, ◌<◌, List, [], ◌∷◌, ◌++◌, length, take, refl, sym, ap, ◌∙◌, arith}
use Rattle.std.specs.declared.cmp.Ordering.{Ordering}
use Rattle.std.specs.declared.cmp.Ordering.TheVariants.{Less, Equal, Greater}
use Rattle.std.specs.Ordering.{ordering_then}
use Rattle.std.specs.Cmp.{tied_itself}
use Rattle.om_signs.specs.declared.sign.Sign.{Sign}
use Rattle.om_signs.specs.SignVec.{at}
use Rattle.om_signs.specs.Order.{sign_order, lexicographic}
use Rattle.om_signs.specs.OrderLaws.{sign_order-total}

then_then : (o p q : Ordering) → ordering_then (ordering_then o p) q ≡ ordering_then o (ordering_then p q)
then_then Less p q = refl
then_then Equal p q = refl
then_then Greater p q = refl

pub append_order : (xs ys us vs : List Sign) → length xs ≡ length ys
    → lexicographic (xs ++ us) (ys ++ vs) ≡ ordering_then (lexicographic xs ys) (lexicographic us vs)
append_order [] [] us vs l = refl
append_order [] (y ∷ ys) us vs l = absurd (omega arith)
append_order (x ∷ xs) [] us vs l = absurd (omega arith)
append_order (x ∷ xs) (y ∷ ys) us vs l =
    ap (ordering_then (sign_order x y)) (append_order xs ys us vs (omega arith))
    ∙ sym (then_then (sign_order x y) (lexicographic xs ys) (lexicographic us vs))

then_decided : (o p : Ordering) → (o ≡ Equal → ⊥) → ordering_then o p ≡ o
then_decided Less p n = refl
then_decided Equal p n = absurd (n refl)
then_decided Greater p n = refl

-- the first place at which two lists differ decides
pub decided : (xs ys : List Sign) (k : ℕ) (o : Ordering) → length xs ≡ length ys → k < length xs → take k xs ≡ take k ys
    → sign_order (at xs k) (at ys k) ≡ o → (o ≡ Equal → ⊥) → lexicographic xs ys ≡ o
decided [] ys k o l lt q e n = absurd (omega arith)
decided (x ∷ xs) [] k o l lt q e n = absurd (omega arith)
decided (x ∷ xs) (y ∷ ys) zero o l lt q e n =
    ap (λ p. ordering_then p (lexicographic xs ys)) e ∙ then_decided o (lexicographic xs ys) n
decided (x ∷ xs) (y ∷ ys) (suc k) o l lt q e n =
    let head : x ≡ y = cc q in
    let rest : take k xs ≡ take k ys = cc q in
    let tie : sign_order x y ≡ Equal = ap (sign_order x) (sym head) ∙ tied_itself sign_order-total x in
    ap (λ p. ordering_then p (lexicographic xs ys)) tie
    ∙ decided xs ys k o (omega arith) (omega arith) rest e n
