-- Verbs are told apart by their words.
--
-- Main results: verbs with one word are one (same_verb); place_below, the places of verbs; and for the loop over all
-- verbs: verb_found, the verb of a word, and none_more, a word of none so far.
use Rattle.std.specs.Prelude.{ℕ, ◌≡◌, ◌↔◌, ◌+◌, ◌<◌, List, [], ◌∷◌, Some, cond, refl}
use Rattle.std.specs.Str.{bytes_eq}
use Rattle.std.proofs.Common.{ap, sym, ◌∙◌, inl, inr, arith, get_or, lit<}
use Rattle.std.proofs.lemmas.Bool.{cases_eq}
use Rattle.std.proofs.lemmas.Option.{same_Some}
use Rattle.om_words.specs.declared.verb.TheConstants.{VERBS}
use Rattle.om_words.specs.declared.verb.Verb.{Verb}
use Rattle.om_words.specs.declared.verb.Verb.TheVariants as verb
use Rattle.om_words.specs.Words.{verb_word}

-- the place of the first of some verbs that has the word
abbrev place_in : List Verb → List ℕ → ℕ
place_in [] word = 0
place_in (v ∷ vs) word = cond (bytes_eq word (verb_word v)) 0 (place_in vs word + 1)

-- the place of a verb in the list of all
pub place_of : Verb → ℕ
place_of v = place_in VERBS (verb_word v)

-- each verb has a place in the list, and stands there
placed : (v : Verb) → (place_of v < 19) × (get_or VERBS (place_of v) verb.Accept ≡ v)
unfolding place_of
placed verb.Accept = (lit< tt, refl)
placed verb.Member = (lit< tt, refl)
placed verb.Convert = (lit< tt, refl)
placed verb.Dual = (lit< tt, refl)
placed verb.Delete = (lit< tt, refl)
placed verb.Contract = (lit< tt, refl)
placed verb.Reorient = (lit< tt, refl)
placed verb.Wiring = (lit< tt, refl)
placed verb.Mutations = (lit< tt, refl)
placed verb.Flip = (lit< tt, refl)
placed verb.Extend = (lit< tt, refl)
placed verb.Paint = (lit< tt, refl)
placed verb.Hull = (lit< tt, refl)
placed verb.Lexext = (lit< tt, refl)
placed verb.Threeterm = (lit< tt, refl)
placed verb.Upgrade = (lit< tt, refl)
placed verb.Decide = (lit< tt, refl)
placed verb.Check = (lit< tt, refl)
placed verb.Make = (lit< tt, refl)

pub place_below : (v : Verb) → place_of v < 19
place_below v = (placed v).0

verb_at : (v : Verb) → get_or VERBS (place_of v) verb.Accept ≡ v
verb_at v = (placed v).1

pub same_verb : (u v : Verb) → verb_word u ≡ verb_word v → u ≡ v
unfolding place_of
same_verb u v same = sym (verb_at u) ∙ ap (λ word. get_or VERBS (place_in VERBS word) verb.Accept) same ∙ verb_at v

-- ---- the loop over the list of all verbs

-- the word of a verb names this verb, and no other
pub verb_found : (word text : List ℕ) (u : Verb) → word ≡ text → text ≡ verb_word u → (v : Verb)
    → (Some u ≡ Some v) ↔ (word ≡ verb_word v)
verb_found word text u w t v =
    (λ h. w ∙ t ∙ ap verb_word (same_Some u v h), λ h. ap Some (same_verb u v (sym t ∙ sym w ∙ h)))

-- a word that isn't that of a verb at a place below i, nor that of the verb at the place i
pub none_more : (word text : List ℕ) (i : ℕ) → ((v : Verb) → place_of v < i → word ≡ verb_word v → ⊥)
    → text ≡ verb_word (get_or VERBS i verb.Accept) → (word ≡ text → ⊥)
    → (v : Verb) → place_of v < i + 1 → word ≡ verb_word v → ⊥
none_more word text i below t other v l h = elim (cases_eq (place_of v) i) [
  | inl e ↦ other (h ∙ ap verb_word (sym (verb_at v) ∙ ap (λ k. get_or VERBS k verb.Accept) e) ∙ sym t)
  | inr ne ↦ below v (omega (arith, l, ne)) h
]
