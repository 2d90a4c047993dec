-- How the bytes of a name are kept, and the words of a `names` line, one after the other.
--
-- Main definitions: AreKept
-- Main results: kept_new, read_again, kept_more, one_too_many, name_again
use Rattle.std.proofs.Math.Bool.{and-false, or-true, or-false}
use Rattle.std.proofs.Common.{◌≡◌, ℕ, ◌-◌, ◌≤◌, List, [], ◌∷◌, ◌++◌, true, false, cond, not, ◌&&◌, inl, inr}
use Rattle.std.proofs.Common.{length, take, drop, replicate, refl, sym, ap, subst, ◌∙◌, arith, append_assoc}
use Rattle.std.proofs.Common.{length-append, nat_eq}
use Rattle.std.specs.Prelude.{Option, Some, None, bytes_eq}
use Rattle.std.specs.List.{list_all, list_any}
use Rattle.std.proofs.lemmas.Bool.{le-leb, eqb-true, cases_Bool, and_parts}
use Rattle.std.proofs.lemmas.List.{drop-replicate}
use Rattle.std.proofs.lemmas.List.Folds.{list_all-append, list_any-append}
use Rattle.std.proofs.Math.Seq.{take-append_seam}
use Rattle.om_signs.specs.declared.limits.TheConstants.{MAX_NAME}
use Rattle.om_document.specs.Names.{is_name_byte, is_name, are_different, are_names}
use Rattle.om_document.specs.NameBytes.{IsPaddedName}

is_name_by : (w : List ℕ) → 1 ≤ length w → length w ≤ MAX_NAME → list_all is_name_byte w ≡ true → is_name w ≡ true
is_name_by w l h a = rw (le-leb 1 (length w) l, le-leb (length w) MAX_NAME h, a) refl

-- a name with zeros behind it
pub kept_new : (w xs : List ℕ) → xs ≡ w → 1 ≤ length w → length w ≤ MAX_NAME → list_all is_name_byte w ≡ true
    → IsPaddedName (xs ++ drop (length w) (replicate MAX_NAME 0)) (length w)
kept_new w xs e l h a = subst (λ xs. IsPaddedName (xs ++ drop (length w) (replicate MAX_NAME 0)) (length w)) (sym e) (
    let t : take (length w) (w ++ drop (length w) (replicate MAX_NAME 0)) ≡ w =
    take-append_seam w (drop (length w) (replicate MAX_NAME 0)) in
    record {
      within = h;
      count = ap length t;
      zeros = ap (λ x. x ++ replicate (MAX_NAME - length w) 0) t
          ∙ ap (λ x. w ++ x) (sym (drop-replicate (length w) MAX_NAME 0));
      name = ap is_name t ∙ is_name_by w l h a;
    })

-- the bytes of a name, read again from before the zeros
pub read_again : (w xs zeros : List ℕ) → xs ≡ w → 1 ≤ length w → length w ≤ MAX_NAME
    → list_all is_name_byte w ≡ true → Some (take (length w) (xs ++ zeros)) ≡ cond (is_name w) (Some w) None
read_again w xs zeros e l h a = rw (e, take-append_seam w zeros, is_name_by w l h a) refl

-- ---- the words of a `names` line, one after the other

-- the names that words are, where they are a name for each of n elements
abbrev pub names_in : ℕ → List (List ℕ) → Option (List (List ℕ))
names_in n ws = cond (are_names n ws) (Some ws) None

-- what is known of the words before a place: they are names, and no two of them are equal
pub record AreKept (ws ns rest : List (List ℕ)) : Type 0 where
  pub same : ws ≡ ns ++ rest
  pub names : list_all is_name ns ≡ true
  pub different : are_different ns ≡ true

-- one more than there are elements
pub one_too_many : (n : ℕ) (ws ns : List (List ℕ)) (w : List ℕ) (more rest : List (List ℕ)) → AreKept ws ns rest
    → rest ≡ w ∷ more → length ns ≡ n → names_in n ws ≡ None
one_too_many n ws ns w more rest k r e = elim (cases_Bool (nat_eq (length ws) n)) [
  | inl y ↦
      absurd (let a = eqb-true (length ws) n y in let b = ap length (k.same ∙ ap (λ x. ns ++ x) r) in let c =
      length-append ns (w ∷ more) in omega arith)
  | inr f ↦ rw f refl
]

equal_names : (ns : List (List ℕ)) (w : List ℕ) (more : List (List ℕ)) → list_any (λ v. bytes_eq v w) ns ≡ true
    → are_different (ns ++ w ∷ more) ≡ false
equal_names [] w more h = cc
equal_names (v ∷ ns) w more h = elim (cases_Bool (bytes_eq v w)) [
  | inl y ↦ let e : list_any (λ u. bytes_eq v u) (ns ++ w ∷ more) ≡ true =
      list_any-append (λ u. bytes_eq v u) ns (w ∷ more) ∙ rw y (or-true (list_any (λ u. bytes_eq v u) ns)) in
      rw e refl
  | inr f ↦ let g : list_any (λ u. bytes_eq u w) ns ≡ true = rw f at h in
      rw (equal_names ns w more g) (and-false (not (list_any (λ u. bytes_eq v u) (ns ++ w ∷ more))))
]

-- a name that is there already
pub name_again : (n : ℕ) (ws ns : List (List ℕ)) (w : List ℕ) (more rest : List (List ℕ)) → AreKept ws ns rest
    → rest ≡ w ∷ more → list_any (λ v. bytes_eq v w) ns ≡ true → names_in n ws ≡ None
name_again n ws ns w more rest k r f =
    let e : are_different ws ≡ false = ap are_different (k.same ∙ ap (λ x. ns ++ x) r) ∙ equal_names ns w more f in
    let a : are_names n ws ≡ false = ap (λ b. nat_eq (length ws) n && list_all is_name ws && b) e
    ∙ and-false (nat_eq (length ws) n && list_all is_name ws) in
    rw a refl

other_names : (ns : List (List ℕ)) (w : List ℕ) → are_different ns ≡ true → list_any (λ v. bytes_eq v w) ns ≡ false
    → are_different (ns ++ w ∷ []) ≡ true
other_names [] w d h = refl
other_names (v ∷ ns) w d h =
    let a = and_parts (not (list_any (λ u. bytes_eq v u) ns)) (are_different ns) d in
    elim (cases_Bool (bytes_eq v w)) [
      | inl y ↦ let z = rw y at h in cc
      | inr f ↦ let g : list_any (λ u. bytes_eq u w) ns ≡ false = rw f at h in
          let e : list_any (λ u. bytes_eq v u) (ns ++ w ∷ []) ≡ list_any (λ u. bytes_eq v u) ns =
          list_any-append (λ u. bytes_eq v u) ns (w ∷ []) ∙ rw f (or-false (list_any (λ u. bytes_eq v u) ns)) in
          rw (e, a.0, other_names ns w a.1 g) refl
    ]

-- the word that is a name
pub name_is : (w x : List ℕ) → cond (is_name w) (Some w) None ≡ Some x → (is_name w ≡ true) × (x ≡ w)
name_is w x h = elim (cases_Bool (is_name w)) [
  | inl y ↦ let g : ◌≡◌ {A = Option (List ℕ)} (Some w) (Some x) = rw y at h in (y, cc)
  | inr f ↦ let g : ◌≡◌ {A = Option (List ℕ)} None (Some x) = rw f at h in cc
]

-- a name more
pub kept_more : (ws ns : List (List ℕ)) (w x : List ℕ) (more rest : List (List ℕ)) → AreKept ws ns rest
    → rest ≡ w ∷ more → cond (is_name w) (Some w) None ≡ Some x → list_any (λ v. bytes_eq v w) ns ≡ false
    → AreKept ws (ns ++ x ∷ []) more
kept_more ws ns w x more rest k r i f =
    let e = name_is w x i in
    subst (λ x. AreKept ws (ns ++ x ∷ []) more) (sym e.1) (record {
      same = k.same ∙ ap (λ x. ns ++ x) r ∙ sym (append_assoc ns (w ∷ []) more);
      names = list_all-append is_name ns (w ∷ []) ∙ rw (k.names, e.0) refl;
      different = other_names ns w k.different f;
    })
