-- The numbers of a kind line, word by word.
--
-- Main definitions: after_numbers
-- Main results: many_numbers, no_number, next_number, all_numbers
use Rattle.std.proofs.Common.{◌≡◌, ℕ, ◌≤◌, List, [], ◌∷◌, ◌++◌, length, refl, sym, ap, ◌∙◌, arith, length-append}
use Rattle.std.proofs.Common.{append_assoc, append-nil}
use Rattle.std.specs.Prelude.{Option, Some, None, option_and_then}
use Rattle.om_document.specs.declared.document_kind.DocumentKind.{DocumentKind}
use Rattle.om_document.specs.declared.document_kind.DocumentKind.TheVariants as kinds
use Rattle.om_lines.specs.Words.{plain}
use Rattle.om_document.specs.Heading.{sizes, numbers, with_item, plain_numbers}

-- numbers in front of others, where there are these
abbrev pub after_numbers : List ℕ → Option (List ℕ) → Option (List ℕ)
after_numbers ns None = None
after_numbers ns (Some ks) = Some (ns ++ ks)

sizes_long : (k : DocumentKind) (ns : List ℕ) → 3 ≤ length ns → sizes k ns ≡ None
sizes_long k [] h = absurd (omega arith)
sizes_long k (x ∷ []) h = absurd (omega arith)
sizes_long k (x ∷ y ∷ []) h = absurd (omega arith)
sizes_long kinds.Chirotope (x ∷ y ∷ z ∷ ns) h = refl
sizes_long _ (x ∷ y ∷ z ∷ ns) h = refl

-- more words than any kind line has
pub many_numbers : (k : DocumentKind) (ns : List ℕ) (a o : Option (List ℕ)) → 3 ≤ length ns → after_numbers ns a ≡ o
    → option_and_then (sizes k) o ≡ None
many_numbers k ns None o l h = ap (option_and_then (sizes k)) (sym h)
many_numbers k ns (Some ks) o l h = ap (option_and_then (sizes k)) (sym h)
    ∙ sizes_long k (ns ++ ks) (omega (arith, length-append ns ks))

-- a word that is no number
pub no_number : (k : DocumentKind) (ns : List ℕ) (w ws vs : List (List ℕ)) (v : List ℕ) → w ≡ v ∷ vs → None ≡ plain v
    → after_numbers ns (plain_numbers w) ≡ plain_numbers ws → numbers k ws ≡ None
no_number k ns w ws vs v e h i =
    let n : None ≡ plain_numbers w = rw (e, ← h) refl in
    ap (option_and_then (sizes k)) (sym i ∙ ap (after_numbers ns) (sym n))

-- one more number
pub next_number : (ns ms : List ℕ) (w ws vs : List (List ℕ)) (v : List ℕ) (x : ℕ) → w ≡ v ∷ vs → Some x ≡ plain v
    → ms ≡ ns ++ x ∷ [] → after_numbers ns (plain_numbers w) ≡ plain_numbers ws
    → after_numbers ms (plain_numbers vs) ≡ plain_numbers ws
next_number ns ms w ws vs v x e h m i = rw m (at (plain_numbers vs)
    ∙ ap (after_numbers ns) (sym (rw (e, ← h) refl)) ∙ i)
  where
    at : (o : Option (List ℕ)) → after_numbers (ns ++ x ∷ []) o ≡ after_numbers ns (with_item (Some x) o)
    at None = refl
    at (Some ks) = ap (λ l. Some l) (append_assoc ns (x ∷ []) ks)

-- no words are left
pub all_numbers : (ns : List ℕ) (w ws : List (List ℕ)) → w ≡ [] → after_numbers ns (plain_numbers w) ≡ plain_numbers ws
    → plain_numbers ws ≡ Some ns
all_numbers ns w ws e i = sym i ∙ ap (λ w. after_numbers ns (plain_numbers w)) e ∙ ap (λ l. Some l) (append-nil ns)
