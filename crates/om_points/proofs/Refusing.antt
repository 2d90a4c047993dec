-- Forms that refuse only vectors that haven't the wanted signs.
--
-- Main results: sound_taken, sound_sum, useful_more, all_useful, useful_at; rightly, a form that refuses only vectors
-- without the wanted sign with two others
use Rattle.std.proofs.Common.{ℕ, ◌≡◌, ◌<◌, ◌⊎◌, List, [], ◌∷◌, ◌++◌, length, inl, inr, sym, subst, Some}
use Rattle.std.specs.Prelude.{slice_get, Option, None, IfSome, ◌-◌, ◌≢◌}
use Rattle.std.proofs.Common.{ap, ◌∙◌, get_or}
use Rattle.std.specs.List.{All}
use Rattle.std.proofs.lemmas.List.Elements.{All-push, All-get_or}
use Rattle.std.proofs.lemmas.Option.{get_or_from_slice_get}
use Rattle.om_signs.specs.declared.sign.Sign.{Sign}
use Rattle.om_signs.specs.declared.sign.Sign.TheVariants.{Zero}
use Rattle.om_vectors.specs.WholeVectors.{WholeVector, zero_vector, triple_product, sign_of}
use Rattle.om_points.specs.Forms.{LinearForm, Refuses, AreMinors}
use Rattle.om_points.specs.ShortVectors.{sign_place}
use Rattle.om_points.specs.Passes.{RefusesRightly, IsUseful}
use Rattle.om_points.specs.Refusers.{AreSound, AreUseful}
use Rattle.om_points.specs.declared.slopes.Slopes.{Slopes}
use Rattle.om_points.specs.declared.refusers.Refusers.{Refusers}

-- a form that is one of two sound ones is sound
sound_either : (vs : List WholeVector) (signs : List Sign) (f a b : LinearForm) → RefusesRightly vs signs a
    → RefusesRightly vs signs b → (f ≡ a) ⊎ (f ≡ b) → RefusesRightly vs signs f
sound_either vs signs f a b ha hb (inl e) = subst (RefusesRightly vs signs) (sym e) ha
sound_either vs signs f a b ha hb (inr e) = subst (RefusesRightly vs signs) (sym e) hb

-- a form that refuses only what one of two sound ones refuses is sound
pub sound_sum : (vs : List WholeVector) (signs : List Sign) (f a b : LinearForm) → RefusesRightly vs signs a
    → RefusesRightly vs signs b → ((v : WholeVector) → Refuses f v → (Refuses a v → ⊥) → (Refuses b v → ⊥) → ⊥)
    → RefusesRightly vs signs f
sound_sum vs signs f a b ha hb h v r agrees = h v r (λ t. ha v t agrees) (λ t. hb v t agrees)

-- forms with one more, or not
pub useful_more : (vs : List WholeVector) (signs : List Sign) (old new : List LinearForm) (f : LinearForm)
    → All (IsUseful vs signs) old → IsUseful vs signs f → (new ≡ old ++ f ∷ []) ⊎ (new ≡ old)
    → All (IsUseful vs signs) new
useful_more vs signs old new f ho hf (inl e) =
    subst (All (IsUseful vs signs)) (sym e) (All-push (IsUseful vs signs) old f ho hf)
useful_more vs signs old new f ho hf (inr e) = subst (All (IsUseful vs signs)) (sym e) ho

-- forms by their slopes, with one more or not
pub all_useful : (vs : List WholeVector) (signs : List Sign) (old new : Slopes) (f : LinearForm)
    → AreUseful vs signs old → IsUseful vs signs f → (new.rising ≡ old.rising ++ f ∷ []) ⊎ (new.rising ≡ old.rising)
    → (new.level ≡ old.level ++ f ∷ []) ⊎ (new.level ≡ old.level) → (new.falling ≡ old.falling ++ f ∷ [])
    ⊎ (new.falling ≡ old.falling) → AreUseful vs signs new
all_useful vs signs old new f h u r l d = record {
  rising = useful_more vs signs old.rising new.rising f h.rising u r;
  level = useful_more vs signs old.level new.level f h.level u l;
  falling = useful_more vs signs old.falling new.falling f h.falling u d;
}

-- one of useful forms
pub useful_at : (vs : List WholeVector) (signs : List Sign) (forms items : List LinearForm) (i : ℕ) (f : LinearForm)
    → items ≡ forms → All (IsUseful vs signs) forms → i < length items → f ≡ get_or items i f → IsUseful vs signs f
useful_at vs signs forms items i f q h l e =
    subst (IsUseful vs signs) (sym e)
    (All-get_or (IsUseful vs signs) items i f l (subst (All (IsUseful vs signs)) (sym q) h))

-- the refusers after a sound form is taken
pub sound_taken : (vs : List WholeVector) (signs : List Sign) (old new : Refusers) (f : LinearForm)
    → AreSound vs signs old → RefusesRightly vs signs f → (new.right ≡ old.right) ⊎ (new.right ≡ f)
    → (new.left ≡ old.left)
    ⊎ (new.left ≡ f) → (new.against ≡ old.against) ⊎ (new.against ≡ f) → new.held ≡ old.held → AreSound vs signs new
sound_taken vs signs old new f h u r l a d = record {
  right = sound_either vs signs new.right old.right f h.right u r;
  left = sound_either vs signs new.left old.left f h.left u l;
  against = sound_either vs signs new.against old.against f h.against u a;
  held = subst (RefusesRightly vs signs) (sym d) h.held;
}

-- a form that refuses only vectors whose triple product with the vectors at places p < q hasn't the wanted sign
pub rightly : (vs : List WholeVector) (signs : List Sign) (p q last : ℕ) (a b : WholeVector) (s : Sign) (f : LinearForm)
    → p < q → q < last → last ≡ length vs - 1 → slice_get vs p ≡ Some a → slice_get vs q ≡ Some b
    → get_or signs (sign_place p q last) Zero ≡ s
    → ((v : WholeVector) → Refuses f v → sign_of (triple_product a b v) ≢ s) → RefusesRightly vs signs f
rightly vs signs p q last a b s f pq ql l ha hb w h v r agrees =
    let x = get_or_from_slice_get vs p a zero_vector ha in
    let y = get_or_from_slice_get vs q b zero_vector hb in
    let e : sign_of (triple_product (get_or vs p zero_vector) (get_or vs q zero_vector) v)
    ≡ get_or signs (sign_place p q (length vs - 1)) Zero = agrees p q pq (subst (λ k. q < k) l ql) in
    h v r (ap (λ u. sign_of (triple_product u b v)) (sym x)
    ∙ ap (λ u. sign_of (triple_product (get_or vs p zero_vector) u v)) (sym y) ∙ e
    ∙ ap (λ k. get_or signs (sign_place p q k) Zero) (sym l) ∙ w)

pub useful_option : (vs : List WholeVector) (signs : List Sign) (p q last : ℕ) (a b : WholeVector) (s : Sign)
    (o : Option LinearForm) → p < q → q < last → last ≡ length vs - 1 → slice_get vs p ≡ Some a
    → slice_get vs q ≡ Some b → get_or signs (sign_place p q last) Zero ≡ s
    → IfSome o (λ f. (v : WholeVector) → Refuses f v → sign_of (triple_product a b v) ≢ s) → IfSome o AreMinors
    → IfSome o (IsUseful vs signs)
useful_option vs signs p q last a b s None pq ql l ha hb w h m = tt
useful_option vs signs p q last a b s (Some f) pq ql l ha hb w h m =
    record { minors = m; sound = rightly vs signs p q last a b s f pq ql l ha hb w h }

pub rightly_option : (vs : List WholeVector) (signs : List Sign) (p q last : ℕ) (a b : WholeVector) (s : Sign)
    (o : Option LinearForm) → p < q → q < last → last ≡ length vs - 1 → slice_get vs p ≡ Some a
    → slice_get vs q ≡ Some b → get_or signs (sign_place p q last) Zero ≡ s
    → IfSome o (λ f. (v : WholeVector) → Refuses f v → sign_of (triple_product a b v) ≢ s)
    → IfSome o (RefusesRightly vs signs)
rightly_option vs signs p q last a b s None pq ql l ha hb w h = tt
rightly_option vs signs p q last a b s (Some f) pq ql l ha hb w h =
    rightly vs signs p q last a b s f pq ql l ha hb w h
