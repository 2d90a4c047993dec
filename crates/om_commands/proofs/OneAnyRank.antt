-- Commands of any rank on a map have one answer each, and so has the question whether a sign vector is a covector.
--
-- Main results: memberships_determined; paintings_determined_of_map, hulls_determined,
-- lexical_extensions_determined_of_map.
-- Reference: Björner, Las Vergnas, Sturmfels, White and Ziegler, Oriented Matroids, chapters 3 and 7.
use Rattle.std.specs.Prelude.{ℕ, ◌≡◌, ◌+◌, List, [], ◌∷◌, length, refl}
use Rattle.std.proofs.Common.{sym, ◌∙◌, ap, subst, arith}
use Rattle.om_signs.specs.declared.sign.Sign.{Sign}
use Rattle.om_chirotope.specs.Map.{SignMap, IsMap}
use Rattle.om_oriented.specs.declared.painted.Painted.{Painted}
use Rattle.om_paint.specs.Hulls.{green_alone, EachItem}
use Rattle.om_paint.specs.Paintings.{colouring, IsPaintingOf}
use Rattle.om_paint.proofs.OnePainting.{one_first, one_painting}
use Rattle.om_lexext.specs.declared.signed.Signed.{Signed}
use Rattle.om_lexext.proofs.Extensions.{same_extensions}
use Rattle.om_document.specs.declared.document.Document.{Document}
use Rattle.om_document.specs.Form.{IsInForm}
use Rattle.om_printing.specs.declared.line.Line.TheVariants as line
use Rattle.om_reply.specs.Answers.{shows, tells}
use Rattle.om_reply.specs.Determined.{IsDetermined}
use Rattle.om_commands.specs.Hulls.{IsHullOfMap, cyclic, acyclic}
use Rattle.om_commands.specs.LexicalExtensions.{IsExtensionOfMap, limited, extended}
use Rattle.om_commands.specs.Memberships.{IsMembership, wrong_length, covector, not_covector}
use Rattle.om_commands.specs.Paintings.{IsPaintingOfMap, painted, painted_line, given_colours}
use Rattle.om_words.specs.declared.colouring.Colouring.{Colouring}
use Rattle.om_representation.specs.Documents.{map_document}
use Rattle.om_reply.proofs.Alike.{alike, both_say}

-- ---- memberships

-- all answers of `member` to a sign vector look alike, given the covectors
pub memberships_determined : (n : ℕ) (IsCovector : List Sign → Type 0) (x : List Sign)
    → IsDetermined (IsMembership n IsCovector x)
memberships_determined n P x a b (wrong_length other) (wrong_length another) = (refl, refl)
memberships_determined n P x a b (wrong_length other) (covector same is) = absurd (other same)
memberships_determined n P x a b (wrong_length other) (not_covector same none) = absurd (other same)
memberships_determined n P x a b (covector same is) (wrong_length other) = absurd (other same)
memberships_determined n P x a b (covector same is) (covector again also) = (refl, refl)
memberships_determined n P x a b (covector same is) (not_covector again none) = absurd (none is)
memberships_determined n P x a b (not_covector same none) (wrong_length other) = absurd (other same)
memberships_determined n P x a b (not_covector same none) (covector again is) = absurd (none is)
memberships_determined n P x a b (not_covector same none) (not_covector again also) = (refl, refl)

-- ---- paintings

-- all answers of `paint` to a map look alike, for the same colouring
pub paintings_determined_of_map : (c : Colouring) (m : SignMap) → IsDetermined (IsPaintingOfMap c m)
paintings_determined_of_map c m a b (painted x h) (painted y k) =
    both_say (painted_line x) (painted_line y)
    (ap painted_line (one_painting m (colouring (given_colours c)) c.e x y h k))

-- ---- hulls

same_items : (m : SignMap) (e : ℕ) (xs ys : List Painted) → length xs ≡ length ys
    → EachItem (λ f. IsPaintingOf m (green_alone f) f) e xs → EachItem (λ f. IsPaintingOf m (green_alone f) f) e ys
    → xs ≡ ys
same_items m e [] [] same h k = refl
same_items m e [] (y ∷ ys) same h k = absurd (omega arith)
same_items m e (x ∷ xs) [] same h k = absurd (omega arith)
same_items m e (x ∷ xs) (y ∷ ys) same h k =
    let first = one_painting m (green_alone e) e x y h.0 k.0 in
    let rest = same_items m (e + 1) xs ys (omega arith) h.1 k.1 in
    λ i. first i ∷ rest i

-- all answers of `hull` to a map look alike
pub hulls_determined : (m : SignMap) → IsDetermined (IsHullOfMap m)
hulls_determined m a b (cyclic X none h) (cyclic Y nor k) =
    both_say (line.Cyclic X) (line.Cyclic Y) (ap (λ Z. line.Cyclic Z) (one_first _ X Y h k))
hulls_determined m a b (cyclic X none h) (acyclic ys plus size each extreme) = absurd (none plus)
hulls_determined m a b (acyclic xs plus size each extreme) (cyclic Y none k) = absurd (none plus)
hulls_determined m a b (acyclic xs plus size each extreme) (acyclic ys also count every outer) =
    alike (tells xs) (tells ys) (ap tells (same_items m 1 xs ys (size ∙ sym count) each every))

-- ---- lexicographic extensions

map_in_form : (x : SignMap) (e : Document) → e ≡ map_document x → IsInForm e → IsMap x
map_in_form x e made form = let f : IsInForm (map_document x) = subst IsInForm made form in
    record { part = f.body.rank; whole = f.body.signs }

-- all answers of `lexext` to a map look alike, for the same elements with signs
pub lexical_extensions_determined_of_map : (list : List Signed) (m : SignMap) → IsDetermined (IsExtensionOfMap list m)
lexical_extensions_determined_of_map list m a b (limited many) (limited also) = (refl, refl)
lexical_extensions_determined_of_map list m a b (limited many) (extended y e few is made form axioms) =
    absurd (omega arith)
lexical_extensions_determined_of_map list m a b (extended x d few is made form axioms) (limited many) =
    absurd (omega arith)
lexical_extensions_determined_of_map list m a b (extended x d few is made form axioms)
    (extended y e fewer also by whole meets) =
    alike (shows d) (shows e)
    (ap shows
    (made ∙ ap map_document
    (same_extensions m x y list (map_in_form x d made form) (map_in_form y e by whole) is also) ∙ sym by))
