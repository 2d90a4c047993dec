-- What is remembered of a line while its bytes come one by one. It is just enough to say at the end of the line whether
-- the line has a word, is `end` alone or begins with `om`; that it says so of every line is proved in `proofs/Looks`.
use Rattle.std.specs.Prelude.{ℕ, Bool, true, false, cond, nat_eq}
use Rattle.om_lines.specs.Lines.{is_blank}
use Rattle.om_pieces.specs.declared.seen.Seen.{Seen}
use Rattle.om_pieces.specs.declared.seen.Seen.TheVariants.{Blank, BlankComment, E, En, End, EndBlank, EndComment, O, Om}
use Rattle.om_pieces.specs.declared.seen.Seen.TheVariants.{OmMore, Other}

-- the bytes of `#` and of the letters of `end` and `om`
abbrev pub hash : ℕ
hash = 35

abbrev pub letter_e : ℕ
letter_e = 101

abbrev pub letter_n : ℕ
letter_n = 110

abbrev pub letter_d : ℕ
letter_d = 100

abbrev pub letter_o : ℕ
letter_o = 111

abbrev pub letter_m : ℕ
letter_m = 109

-- what is seen of a line with a `#` more, with a blank more, and with any other byte more
abbrev pub with_comment : Seen → Seen
with_comment Blank = BlankComment
with_comment BlankComment = BlankComment
with_comment End = EndComment
with_comment EndBlank = EndComment
with_comment EndComment = EndComment
with_comment Om = OmMore
with_comment OmMore = OmMore
with_comment _ = Other

abbrev pub with_blank : Seen → Seen
with_blank Blank = Blank
with_blank BlankComment = BlankComment
with_blank End = EndBlank
with_blank EndBlank = EndBlank
with_blank EndComment = EndComment
with_blank Om = OmMore
with_blank OmMore = OmMore
with_blank _ = Other

abbrev pub with_letter : Seen → ℕ → Seen
with_letter Blank b = cond (nat_eq b letter_e) E (cond (nat_eq b letter_o) O Other)
with_letter BlankComment b = BlankComment
with_letter E b = cond (nat_eq b letter_n) En Other
with_letter En b = cond (nat_eq b letter_d) End Other
with_letter EndComment b = EndComment
with_letter O b = cond (nat_eq b letter_m) Om Other
with_letter OmMore b = OmMore
with_letter _ b = Other

-- what is seen of a line with one more byte
abbrev pub seen_with : Seen → ℕ → Seen
seen_with s b = cond (nat_eq b hash) (with_comment s) (cond (is_blank b) (with_blank s) (with_letter s b))

-- whether a line has a word, is `end` alone, begins with `om`
abbrev pub some_seen : Seen → Bool
some_seen Blank = false
some_seen BlankComment = false
some_seen _ = true

abbrev pub end_seen : Seen → Bool
end_seen End = true
end_seen EndBlank = true
end_seen EndComment = true
end_seen _ = false

abbrev pub om_seen : Seen → Bool
om_seen Om = true
om_seen OmMore = true
om_seen _ = false
