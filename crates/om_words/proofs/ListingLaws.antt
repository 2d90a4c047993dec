-- Lists that words fill: what colours and an element are read as, and elements with signs.
--
-- Main definitions: unlisted, AreSigned
-- Main results: colouring_missing, colouring_letters, colouring_element, colouring_long, colouring_read, signed_none,
-- signed_more, leading_fault, leading_missing, leading_read
use Rattle.std.specs.Prelude.{ℕ, ◌≡◌, ◌<◌, ◌≤◌, ◌+◌, ◌↔◌, true, false, List, [], ◌∷◌, length, map, replicate, Some}
use Rattle.std.specs.Prelude.{None, Result, Ok, Err, IfErr, IsErrAnd, codes, refl}
use Rattle.std.specs.List.{filter_map}
use Rattle.std.specs.Fmt.{decimal}
use Rattle.std.proofs.Common.{get_or, take, set, zero, suc, arith, ap, subst, sym, ◌∙◌, append-nil, lit≤, below_more}
use Rattle.std.proofs.lemmas.Option.{same_Some}
use Rattle.om_signs.specs.declared.limits.TheConstants.{MAX_ELEMENTS}
use Rattle.om_signs.specs.declared.sign.Sign.TheVariants.{Plus}
use Rattle.om_lines.specs.Lines.{Begins}
use Rattle.om_oriented.specs.declared.colour.Colour.{Colour}
use Rattle.om_oriented.specs.declared.colour.Colour.TheVariants.{White}
use Rattle.om_lexext.specs.declared.signed.Signed.{Signed}
use Rattle.om_words.specs.declared.limits.TheConstants.{MAX_LISTED}
use Rattle.om_printing.specs.declared.usage.Usage.{Usage}
use Rattle.om_words.specs.declared.colouring.Colouring.{Colouring}
use Rattle.om_words.specs.declared.leading.Leading.{Leading}
use Rattle.om_words.specs.Words.{IsElement, IsFault, at_word, at_end, HasValue, IsRead}
use Rattle.om_words.specs.Readings.{EachFits}
use Rattle.om_words.specs.Triples.{IsElementAt}
use Rattle.om_words.specs.Listings.{padded}
use Rattle.om_words.specs.ListingSteps.{colour_of, colours_of, signed_of, is_leading}
use Rattle.om_words.proofs.ReadListings.{IsReadColouring, IsReadLeading}
use Rattle.om_words.proofs.WordLaws.{first_of, tail_of}
use Rattle.om_words.proofs.ArgumentLaws.{no_value, none_some}
use Rattle.om_words.proofs.ElementNumbers.{one_element}
use Rattle.om_words.proofs.FitLaws.{FitBelow, fits_all, none_fits, first_unfit}
use Rattle.om_words.proofs.ThreeWords.{same_there}
use Rattle.om_words.proofs.TripleLaws.{none_at, word_of}
use Rattle.om_words.proofs.FilledLists.{AreFilled, filled_none, filled_more, filled_all}

-- ---- colours and an element

one_element_word : IsElement (decimal 1) 1
one_element_word = record { low = lit≤ tt; high = lit≤ tt; digits = refl }

colouring_of : (u v : List ℕ) (colours : List Colour) (e : ℕ) → colours_of u ≡ Some colours → IsElement v e
    → IsReadColouring (u ∷ v ∷ []) (record { colours = colours; count = length u; e = e })
colouring_of u v colours e is element =
    record { letters = u; digits = v; two = refl; colours = is; count = refl; element = element }

begin_colouring : Begins (HasValue IsReadColouring) []
begin_colouring = (
  codes "R" ∷ decimal 1 ∷ [],
  (
    record { colours = padded White (filter_map colour_of (codes "R")); count = 1; e = 1 },
    colouring_of (codes "R") (decimal 1) (padded White (filter_map colour_of (codes "R"))) 1 refl one_element_word,
  ),
)

begin_letters : (u : List ℕ) (colours : List Colour) → colours_of u ≡ Some colours
    → Begins (HasValue IsReadColouring) (u ∷ [])
begin_letters u colours is = (
  decimal 1 ∷ [],
  (record { colours = colours; count = length u; e = 1 }, colouring_of u (decimal 1) colours 1 is one_element_word),
)

colouring_fault : (words : List (List ℕ)) (k : ℕ) (u : Usage) → u.word ≡ k + 1
    → ((a : Colouring) → IsReadColouring words a → ⊥) → IsFault (HasValue IsReadColouring) words k
    → IsRead IsReadColouring words (Err u)
colouring_fault words k u is none fault =
    record { value = λ a. (λ made. absurd (no_value _ a made), λ h. absurd (none a h)); fault = (k, (is, fault)) }

colouring_passed : (words : List (List ℕ)) (u : Usage) (passed : Result Colouring Usage) → IsErrAnd passed (λ e. e ≡ u)
    → IsRead IsReadColouring words (Err u) → IsRead IsReadColouring words passed
colouring_passed words u (Ok a) err read = absurd err
colouring_passed words u (Err e) err read = rw err read

first_letters : (u : List ℕ) (words : List (List ℕ)) (a : Colouring) → IsReadColouring (u ∷ words) a
    → colours_of u ≡ Some a.colours
first_letters u words a h = subst (λ w. colours_of w ≡ Some a.colours) (sym (ap first_of h.two)) h.colours

second_element : (u v : List ℕ) (words : List (List ℕ)) (a : Colouring) → IsReadColouring (u ∷ v ∷ words) a
    → IsElement v a.e
second_element u v words a h = subst (λ w. IsElement w a.e) (sym (ap (λ ws. first_of (tail_of ws)) h.two)) h.element

pub colouring_missing : {X : Type 0} (f : X → List ℕ) (xs : List X) → length xs < 1
    → IsRead IsReadColouring (map f xs) (Err (record { word = 2 }))
colouring_missing f [] few =
    colouring_fault [] 1 (record { word = 2 }) refl none (at_end [] begin_colouring (λ h. none h.0 h.1))
  where
    none : (a : Colouring) → IsReadColouring [] a → ⊥
    none a h = let same = h.two in cc
colouring_missing f (x ∷ xs) few = absurd (omega arith)

pub colouring_letters : {X : Type 0} (f : X → List ℕ) (xs : List X) (x : X) → 0 < length xs → x ≡ get_or xs 0 x
    → colours_of (f x) ≡ None → IsRead IsReadColouring (map f xs) (Err (record { word = 2 }))
colouring_letters f [] x some is bad = absurd (omega arith)
colouring_letters f (y ∷ ys) x some is bad =
    rw (sym is)
    (colouring_fault (f x ∷ map f ys) 1 (record { word = 2 }) refl
    (λ a h. none_some a.colours bad (first_letters (f x) (map f ys) a h))
    (at_word [] (f x) (map f ys) begin_colouring
    (λ b. none_some b.1.0.colours bad (first_letters (f x) b.0 b.1.0 b.1.1))))

pub colouring_element : {X : Type 0} (f : X → List ℕ) (xs : List X) (x : X) (colours : List Colour)
    (result : Result ℕ Usage) (u : Usage) (passed : Result Colouring Usage) → 0 < length xs → x ≡ get_or xs 0 x
    → colours_of (f x) ≡ Some colours → ((e : ℕ) → (result ≡ Ok e) ↔ IsElementAt (map f xs) 1 1 MAX_ELEMENTS e)
    → IfErr result (λ usage. usage.word ≡ 3) → result ≡ Err u → IsErrAnd passed (λ e. e ≡ u)
    → IsRead IsReadColouring (map f xs) passed
colouring_element f [] x colours result u passed some first letters value fault is err = absurd (omega arith)
colouring_element f (y ∷ []) x colours result u passed some first letters value fault is err =
    colouring_passed (f y ∷ []) u passed err
    (rw (sym first)
    (colouring_fault (f x ∷ []) 2 u (word_of result u 3 fault is) none
    (at_end (f x ∷ []) (begin_letters (f x) colours letters) (λ h. none h.0 h.1))))
  where
    none : (a : Colouring) → IsReadColouring (f x ∷ []) a → ⊥
    none a h = let same = ap tail_of h.two in cc
colouring_element f (y ∷ z ∷ zs) x colours result u passed some first letters value fault is err =
    let none = none_at (IsElementAt (map f (y ∷ z ∷ zs)) 1 1 MAX_ELEMENTS) value is in
    colouring_passed (map f (y ∷ z ∷ zs)) u passed err
    (colouring_fault (map f (y ∷ z ∷ zs)) 2 u (word_of result u 3 fault is) (λ a h. refused (map f zs) a none h)
    (at_word (f y ∷ []) (f z) (map f zs) (begin_letters (f y) colours (rw (sym first) letters))
    (λ h. refused h.0 h.1.0 none h.1.1)))
  where
    refused : (more : List (List ℕ)) (a : Colouring)
        → ((e : ℕ) → IsElementAt (map f (y ∷ z ∷ zs)) 1 1 MAX_ELEMENTS e → ⊥) → IsReadColouring (f y ∷ f z ∷ more) a → ⊥
    refused more a none h =
        let element = second_element (f y) (f z) more a h in
        none a.e (record {
          word = f z;
          there = refl;
          within =
              record { element = element; above = element.low; below = element.high };
        })

pub colouring_long : {X : Type 0} (f : X → List ℕ) (xs : List X) (x : X) (colours : List Colour) (e : ℕ)
    → x ≡ get_or xs 0 x → colours_of (f x) ≡ Some colours → IsElementAt (map f xs) 1 1 MAX_ELEMENTS e → 2 < length xs
    → IsRead IsReadColouring (map f xs) (Err (record { word = 4 }))
colouring_long f [] x colours e first letters at l = absurd (omega arith)
colouring_long f (y ∷ []) x colours e first letters at l = absurd (omega arith)
colouring_long f (y ∷ z ∷ []) x colours e first letters at l = absurd (omega arith)
colouring_long f (y ∷ z ∷ w ∷ ws) x colours e first letters at l =
    let element = (same_there (map f (y ∷ z ∷ w ∷ ws)) 1 1 MAX_ELEMENTS e (f z) refl at).element in
    colouring_fault (map f (y ∷ z ∷ w ∷ ws)) 3 (record { word = 4 }) refl (λ a h. too_long (map f ws) a h)
    (at_word (f y ∷ f z ∷ []) (f w) (map f ws) (
      [],
      (
        record { colours = colours; count = length (f y); e = e },
        colouring_of (f y) (f z) colours e (rw (sym first) letters) element,
      ),
    ) (λ h. too_long h.0 h.1.0 h.1.1))
  where
    too_long : (more : List (List ℕ)) (a : Colouring) → IsReadColouring (f y ∷ f z ∷ f w ∷ more) a → ⊥
    too_long more a h = let same : f w ∷ more ≡ [] = ap (λ ws. tail_of (tail_of ws)) h.two in cc

pub colouring_read : {X : Type 0} (f : X → List ℕ) (xs : List X) (x : X) (colours : List Colour) (n e : ℕ)
    → x ≡ get_or xs 0 x → colours_of (f x) ≡ Some colours → n ≡ length (f x) → IsElementAt (map f xs) 1 1 MAX_ELEMENTS e
    → length xs ≤ 2 → IsRead IsReadColouring (map f xs) (Ok (record { colours = colours; count = n; e = e }))
colouring_read f [] x colours n e first letters count at l = absurd (none_some at.word refl at.there)
colouring_read f (y ∷ []) x colours n e first letters count at l = absurd (none_some at.word refl at.there)
colouring_read f (y ∷ z ∷ w ∷ ws) x colours n e first letters count at l = absurd (omega arith)
colouring_read f (y ∷ z ∷ []) x colours n e first letters count at l =
    let element : IsElement (f z) e = (same_there (map f (y ∷ z ∷ [])) 1 1 MAX_ELEMENTS e (f z) refl at).element in
    let here : colours_of (f y) ≡ Some colours = rw (sym first) letters in
    let size : n ≡ length (f y) = count ∙ ap (λ w. length (f w)) first in
    record {
      value = λ a. (
        λ made.
            let same : record { colours = colours; count = n; e = e } ≡ a = cc in
            subst (IsReadColouring (f y ∷ f z ∷ [])) same (rw size (colouring_of (f y) (f z) colours e here element)),
        λ h.
            let p : colours ≡ a.colours = same_Some _ _ (sym here ∙ first_letters (f y) (f z ∷ []) a h) in
            let q : n ≡ a.count = size ∙ ap (λ ws. length (first_of ws)) h.two ∙ sym h.count in
            let r : e ≡ a.e = one_element (f z) e a.e element (second_element (f y) (f z) [] a h) in
            ap Ok (same_colouring colours n e a p q r),
      );
      fault = tt;
    }
  where
    same_colouring : (colours : List Colour) (n e : ℕ) (a : Colouring) → colours ≡ a.colours → n ≡ a.count → e ≡ a.e
        → record { colours = colours; count = n; e = e } ≡ a
    same_colouring colours n e a p q r = rw (p, q, r) refl

-- ---- elements with signs

abbrev pub unlisted : Signed
unlisted = record { element = 1; sign = Plus }

-- what holds where a loop has passed the first k words
pub record AreSigned (words : List (List ℕ)) (k : ℕ) (list : List Signed) : Type 0 where
  pub filled : AreFilled signed_of unlisted words k list
  pub fit : FitBelow is_leading words k

pub signed_none : (words : List (List ℕ)) → AreSigned words 0 (replicate MAX_LISTED unlisted)
signed_none words = record { filled = filled_none signed_of unlisted words; fit = λ i l. absurd (omega (arith, l)) }

pub signed_more : (words : List (List ℕ)) (k : ℕ) (word : List ℕ) (list : List Signed) (x : Signed)
    → AreSigned words k list → k < length words → k < MAX_LISTED → get_or words k [] ≡ word → signed_of word ≡ Some x
    → is_leading (take k words) word ≡ true → AreSigned words (k + 1) (set list k x)
signed_more words k word list x passed l room is value leads = record {
  filled = filled_more signed_of unlisted words k list word [] x passed.filled l room is value;
  fit = below_more (λ i. is_leading (take i words) (get_or words i []) ≡ true) k passed.fit (rw is leads);
}

leading_of : List (List ℕ) → Leading
leading_of words = record { list = padded unlisted (filter_map signed_of words); count = length words }

leading_value : (words : List (List ℕ)) → 1 ≤ length words → EachFits is_leading words
    → IsReadLeading words (leading_of words)
unfolding leading_of
leading_value words some each = record { some = some; each = each; list = refl; count = refl }

sample_fits : EachFits is_leading (codes "+1" ∷ [])
sample_fits zero l = refl
sample_fits (suc i) l = absurd (omega arith)

leading_begins : (words : List (List ℕ)) → EachFits is_leading words → Begins (HasValue IsReadLeading) words
leading_begins [] each =
    (codes "+1" ∷ [], (leading_of (codes "+1" ∷ []), leading_value (codes "+1" ∷ []) (omega arith) sample_fits))
leading_begins (w ∷ ws) each =
    ([], rw (append-nil (w ∷ ws)) (leading_of (w ∷ ws), leading_value (w ∷ ws) (omega arith) each))

pub leading_fault : (words : List (List ℕ)) (k : ℕ) (word : List ℕ) (list : List Signed) → AreSigned words k list
    → k < length words → get_or words k [] ≡ word → is_leading (take k words) word ≡ false
    → IsRead IsReadLeading words (Err (record { word = k + 2 }))
leading_fault words k word list passed l is unfit =
    let here : is_leading (take k words) (get_or words k []) ≡ false = rw is unfit in
    record {
      value = λ a. (λ made. absurd (no_value _ a made), λ h. absurd (none_fits is_leading words k l here h.each));
      fault = (
        k + 1,
        (
          omega arith,
          first_unfit (HasValue IsReadLeading) is_leading (λ ws h. h.1.each) leading_begins words k l
              passed.fit here,
        ),
      );
    }

pub leading_missing : {X : Type 0} (f : X → List ℕ) (xs : List X) → length xs < 1
    → IsRead IsReadLeading (map f xs) (Err (record { word = 2 }))
leading_missing f [] few = record {
  value = λ a. (λ made. absurd (no_value _ a made), λ h. absurd (none (a, h)));
  fault = (1, (refl, at_end [] (leading_begins [] (λ i l. absurd (omega (arith, l)))) none));
}
  where
    none : HasValue IsReadLeading [] → ⊥
    none h = let some = h.1.some in omega (arith, some)
leading_missing f (x ∷ xs) few = absurd (omega arith)

pub leading_read : (words : List (List ℕ)) (k n : ℕ) (list : List Signed) → AreSigned words k list → length words ≤ k
    → 1 ≤ length words → n ≡ length words → IsRead IsReadLeading words (Ok (record { list = list; count = n }))
leading_read words k n list passed l some size =
    let filled : list ≡ padded unlisted (filter_map signed_of words) =
    filled_all signed_of unlisted words k list passed.filled l in
    let reads : IsReadLeading words (record { list = list; count = n }) =
    record { some = some; each = fits_all is_leading words k l passed.fit; list = filled; count = size } in
    record {
      value = λ a. (
        λ made. let same : record { list = list; count = n } ≡ a = cc in subst (IsReadLeading words) same reads,
        λ h. ap Ok (same_leading list n a (filled ∙ sym h.list) (size ∙ sym h.count)),
      );
      fault = tt;
    }
  where
    same_leading : (list : List Signed) (n : ℕ) (a : Leading) → list ≡ a.list → n ≡ a.count
        → record { list = list; count = n } ≡ a
    same_leading list n a p q = rw (p, q) refl
