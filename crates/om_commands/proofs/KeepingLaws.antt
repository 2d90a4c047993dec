-- A document that is kept whole.
--
-- Main results: a map or a list comes back out of its oriented matroid (given_kept), and a wiring out of its value
-- (wiring_kept); why it isn't kept (never_flat, not_flat, given_unkept, points_unkept).
use Rattle.std.specs.Prelude.{ℕ, ℤ, ◌≡◌, ◌≢◌, List, [], Ok, Err, refl}
use Rattle.std.proofs.Common.{ap, subst, ◌∙◌}
use Rattle.om_signs.specs.declared.block.Block.{Block}
use Rattle.om_document.specs.declared.body.Body.{Body}
use Rattle.om_document.specs.declared.body.Body.TheVariants as body
use Rattle.om_document.specs.declared.document.Document.{Document}
use Rattle.om_representation.specs.Axioms.{MeetsAxiomsOn, IsFlatOn, IsRefusal}
use Rattle.om_representation.specs.Documents.{with_map}
use Rattle.om_representation.specs.declared.unrepresented.Unrepresented.{Unrepresented}
use Rattle.om_representation.specs.declared.unrepresented.Unrepresented.TheVariants.{Refused, Flat, Memory}
use Rattle.om_commands.specs.Given.{IsGiven}
use Rattle.om_commands.specs.Keeping.{IsKept, unkept}

-- the document with these parts
abbrev pub with_names : ℕ → Body → List (List ℕ) → Document
with_names n b names = record { elements = n; body = b; names = names }

same_given : (n : ℕ) (b : Body) → IsGiven b → with_map n b ≡ with_names n b []
same_given n (body.Chirotope m) given = refl
same_given n (body.Circuits members) given = refl
same_given n (body.Cocircuits members) given = refl
same_given n (body.Covectors members) given = refl
same_given n (body.Wiring blocks) given = absurd given
same_given n (body.Points points) given = absurd given

pub never_flat : (n : ℕ) (b : Body) → IsGiven b → IsFlatOn n b → ⊥
never_flat n (body.Chirotope m) given flat = flat
never_flat n (body.Circuits members) given flat = flat
never_flat n (body.Cocircuits members) given flat = flat
never_flat n (body.Covectors members) given flat = flat
never_flat n (body.Wiring blocks) given flat = given
never_flat n (body.Points points) given flat = given

pub given_kept : (n : ℕ) (b : Body) (names : List (List ℕ)) (d : Document) → IsGiven b → d ≡ with_map n b
    → MeetsAxiomsOn n b → IsKept (with_names n b names) (Ok (with_names d.elements d.body names))
given_kept n b names d given same axioms =
    (ap (λ e. with_names e.elements e.body names) (same ∙ same_given n b given), axioms)

-- what isn't a flat wiring isn't refused as one
pub not_flat : (n : ℕ) (b : Body) (why : Unrepresented) → (IsFlatOn n b → ⊥) → IsRefusal n b why → why ≢ Flat
not_flat n b why never is flat = never (subst (IsRefusal n b) flat is).1

pub given_unkept : (n : ℕ) (b : Body) (names : List (List ℕ)) (why : Unrepresented) → IsGiven b → IsRefusal n b why
    → IsKept (with_names n b names) (Err (unkept why))
given_unkept n b names (Refused why) given is = is
given_unkept n b names Flat given is = tt
given_unkept n b names Memory given is = tt

pub wiring_kept : (n : ℕ) (blocks back : List Block) (names : List (List ℕ)) → back ≡ blocks
    → MeetsAxiomsOn n (body.Wiring blocks)
    → IsKept (with_names n (body.Wiring blocks) names) (Ok (with_names n (body.Wiring back) names))
wiring_kept n blocks back names same axioms = (ap (λ bs. with_names n (body.Wiring bs) names) same, axioms)

-- the number of elements plays no part in why points aren't kept
pub points_unkept : (n k : ℕ) (points : List (List ℤ)) (names : List (List ℕ)) (why : Unrepresented)
    → IsRefusal k (body.Points points) why → IsKept (with_names n (body.Points points) names) (Err (unkept why))
points_unkept n k points names (Refused why) is = is
points_unkept n k points names Flat is = tt
points_unkept n k points names Memory is = tt
