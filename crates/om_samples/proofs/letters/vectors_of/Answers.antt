use Rattle.std.proofs.Common.{ℕ, ◌≡◌, ◌≢◌, ◌<◌, ◌≤◌, ◌++◌, List, [], ◌∷◌, Bool, true, false, IsTrue, length, sym, ◌∙◌}
use Rattle.std.proofs.Common.{subst, arith}
use Rattle.std.specs.List.{Contains}
use Rattle.std.proofs.lemmas.List.{get_or_default, length_push}
use Rattle.std.proofs.lemmas.List.Elements.{All-push}
use Rattle.std.proofs.lemmas.List.Quantifiers.{all_pairs_push}
use Rattle.om_signs.specs.declared.sign.Sign.{Sign}
use Rattle.om_signs.specs.declared.limits.TheConstants.{MAX_MEMBERS}
use Rattle.om_members.specs.Listings.{HaveLength, AreDistinct}
use Rattle.om_samples.proofs.letters.vectors_of.Goals as goal
use Rattle.om_samples.proofs.letters.vectors_of.Goals.{then-not-is_member+else-len-ge-MAX_MEMBERS+in_ok-push}
use Rattle.om_samples.proofs.letters.vectors_of.Goals.{else-not-is_member}

abbrev IsList : ℕ → List (List Sign) → Type 0
IsList n xs = HaveLength n xs × AreDistinct xs × (length xs ≤ MAX_MEMBERS)

pushed : (n : ℕ) (xs ys : List (List Sign)) (y : List Sign) → ys ≡ xs ++ y ∷ [] → length y ≡ n → length xs < MAX_MEMBERS
    → (Contains xs y → ⊥) → IsList n xs → IsList n ys
pushed n xs ys y e l few new h = subst (IsList n) (sym e) (
  All-push (λ X. length X ≡ n) xs y h.0 l,
  all_pairs_push (λ X Y. X ≢ Y) xs y h.1 (λ k d lt q. new (k, lt, get_or_default xs k y d lt ∙ q)),
  let p = length_push xs y in omega arith,
)

not_found : (r : Bool) (xs ys : List (List Sign)) (y : List Sign) → xs ≡ ys → (Contains xs y → IsTrue r) → r ≡ false
    → Contains ys y → ⊥
not_found r xs ys y e h f p = let t : false ≡ true = sym f ∙ h (subst (λ l. Contains l y) (sym e) p) in cc

pub loop-text-preserved : goal.loop-text-preserved
loop-text-preserved c = elim c.if-not-is_member.branch [
  | then-not-is_member+else-len-ge-MAX_MEMBERS+in_ok-push w ↦
      let few : length c.loop-text.list < MAX_MEMBERS = let e = w.len.ensures in let l =
      w.if-len-ge-MAX_MEMBERS.false in omega arith in
      pushed c.args.elements c.loop-text.list c.if-not-is_member.list c.vector_of-vector.result
      (w.list-is ∙ w.in_ok-push.ensures.ok) c.vector_of-vector.ensures few
      (not_found c.is_member.result c.as_slice.result.now c.loop-text.list c.vector_of-vector.result c.as_slice.ensures
      c.is_member.ensures.1 w.if-not-is_member.true) c.loop-text.invariant
  | else-not-is_member w ↦ subst (IsList c.args.elements) (sym w.list-is) c.loop-text.invariant
]
