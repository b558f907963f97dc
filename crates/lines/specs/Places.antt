-- Where each byte of a line stands, which bytes may stand there, and the parts of a line. Assumes nothing.
use Rattle.std.specs.Prelude.{ℕ, Bool, true, false, cond, ◌&&◌, ◌||◌, List, [], ◌∷◌, ◌==◌, nat_le}
use Rattle.pieces.specs.Pieces.{white, pieces}
use Rattle.lines.specs.declared.Place.{Place}
use Rattle.lines.specs.declared.Place.TheVariants.{Outside, Text, Escape, Comment}

-- the place behind a byte: a quote opens a string, which the next quote ends that no backslash takes; # starts a comment
abbrev pub after : Place → ℕ → Place
after Outside c = cond (c == 34) Text (cond (c == 35) Comment Outside)
after Text c = cond (c == 34) Outside (cond (c == 92) Escape Text)
after Escape c = Text
after Comment c = Comment

-- the bytes that may stand at a place: 0x21 to 0x7E and white space outside, 0x20 to 0x7E in a string, any in a comment
abbrev pub allows : Place → ℕ → Bool
allows Outside c = white c || (nat_le 33 c && nat_le c 126)
allows Text c = nat_le 32 c && nat_le c 126
allows Escape c = nat_le 32 c && nat_le c 126
allows Comment c = true

-- each byte of a line may stand where it stands
abbrev pub allowed_from : Place → List ℕ → Bool
allowed_from p [] = true
allowed_from p (c ∷ cs) = allows p c && allowed_from (after p c) cs

abbrev pub allowed : List ℕ → Bool
allowed line = allowed_from Outside line

-- the bytes that belong to no part: white space outside strings, and a comment from its # on
abbrev pub gap : Place → ℕ → Bool
gap Outside c = white c || c == 35
gap Text c = false
gap Escape c = false
gap Comment c = true

-- the parts of a line
abbrev pub parts : List ℕ → List (List ℕ)
parts line = pieces after gap Outside line
