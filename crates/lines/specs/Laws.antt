-- What lines and parts are, told without the scan that finds them. Assumes nothing.
use Rattle.std.specs.Prelude.{◌≡◌, ℕ, true, false, cond, ◌⊎◌, List, [], ◌∷◌, ◌++◌, ◌==◌}
use Rattle.std.specs.List.{concat}
use Rattle.pieces.specs.Pieces.{white, behind}
use Rattle.pieces.specs.Laws.{PieceLaws}
use Rattle.lines.specs.Lines.{lines, ended}
use Rattle.lines.specs.Places.{after, allowed, gap, parts}
use Rattle.lines.specs.declared.Place.{Place}
use Rattle.lines.specs.declared.Place.TheVariants.{Outside}

-- bytes without a line end
abbrev pub OneLine : List ℕ → Type 0
OneLine [] = Unit {0}
OneLine (c ∷ cs) = ((c == 10) ≡ false) × OneLine cs

abbrev pub EachOneLine : List (List ℕ) → Type 0
EachOneLine [] = Unit {0}
EachOneLine (l ∷ ls) = OneLine l × EachOneLine ls

pub record LineLaws : Type 0 where
  -- the lines, each followed by a line end that the last may lack, are the source
  pub whole : (source : List ℕ) → (ended (lines source) ≡ source) ⊎ (ended (lines source) ≡ source ++ (10 ∷ []))
  -- no line holds a line end
  pub single : (source : List ℕ) → EachOneLine (lines source)
  -- lines put end to end are found again, also where the last lacks its end
  pub found : (ls : List (List ℕ)) → EachOneLine ls → lines (ended ls) ≡ ls
  pub found_last : (ls : List (List ℕ)) (c : ℕ) (cs : List ℕ) → EachOneLine ls → OneLine (c ∷ cs) → lines (ended ls ++ (c ∷ cs)) ≡ ls ++ ((c ∷ cs) ∷ [])

-- the bytes of a line that belong to parts
abbrev pub kept_from : Place → List ℕ → List ℕ
kept_from p [] = []
kept_from p (c ∷ cs) = cond (gap p c) (kept_from (after p c) cs) (c ∷ kept_from (after p c) cs)

pub record PartLaws : Type 0 where
  -- the parts of a line are its bytes before the comment less the white space outside strings
  pub kept : (line : List ℕ) → concat (parts line) ≡ kept_from Outside line
  -- they are cut just where such white space stands
  pub cut : PieceLaws after gap

-- white space alone
abbrev pub White : List ℕ → Type 0
White [] = Unit {0}
White (c ∷ cs) = (white c ≡ true) × White cs

-- where a line stands outside strings and comments behind its front
abbrev pub EndsOutside : List ℕ → Type 0
EndsOutside front = behind after Outside front ≡ Outside

-- two lines, one with more or less white space outside strings than the other, or with another comment
pub data Respaced (one other : List ℕ) : Type 0 where
  -- between parts, where some is left
  between : (front rest : List ℕ) (v w : ℕ) (vs ws : List ℕ) → EndsOutside front → White (v ∷ vs) → White (w ∷ ws)
      → one ≡ front ++ ((v ∷ vs) ++ rest) → other ≡ front ++ ((w ∷ ws) ++ rest) → Respaced one other
  -- at the line's start and at its end
  at_start : (ws : List ℕ) → White ws → one ≡ ws ++ other → Respaced one other
  at_end : (ws : List ℕ) → EndsOutside other → White ws → one ≡ other ++ ws → Respaced one other
  -- a comment, which may hold any bytes
  comment : (any : List ℕ) → EndsOutside other → one ≡ other ++ (35 ∷ any) → Respaced one other

-- two lines with the same parts and the same answer of the byte check
pub record Alike (one other : List ℕ) : Type 0 where
  pub same_check : allowed one ≡ allowed other
  pub same_parts : parts one ≡ parts other

-- such white space and comments change neither
abbrev pub SpaceLaw : Type 0
SpaceLaw = (one other : List ℕ) → Respaced one other → Alike one other
