-- The lines that programs print. Assumes nothing.
use Rattle.std.specs.Prelude.{ℕ, cond, List, [], ◌∷◌, ◌++◌, length, Ok, Err, codes, decimal, Result, nat_lt}
use Rattle.buffers.specs.Buffers.{blank, padded}
use Rattle.machine.specs.Refusals as of_machine
use Rattle.image_file.specs.Refusals as of_file
use Rattle.text_port.specs.Checking as of_text
use Rattle.text_port.specs.declared.Refusal.{Refusal as Unread}
use Rattle.text_port.specs.declared.Refusal.TheVariants.{Length, Token}
use Rattle.report.specs.declared.Refusal.{Refusal}
use Rattle.report.specs.declared.Refusal.TheVariants.{Machine, File, Text}
use Rattle.buffers.specs.declared.Short.{Short}

-- a refusal's number, from the one definition of its kind
abbrev pub number_of : Refusal → ℕ
number_of (Machine r) = of_machine.refusal_number r
number_of (File r) = of_file.refusal_number r
number_of (Text r) = of_text.number_of r

-- the number of a bad token
abbrev pub token_of : Unread → List ℕ
token_of Length = []
token_of (Token k) = codes " token " ++ decimal k

-- what stands behind the number
abbrev pub place_of : Refusal → List ℕ
place_of (Machine r) = []
place_of (File r) = []
place_of (Text r) = token_of r

-- the line of a refusal
abbrev pub refusal_line : Refusal → List ℕ
refusal_line r = codes "refused " ++ (decimal (number_of r) ++ (place_of r ++ 10 ∷ []))

-- what printing to a buffer answers, and the buffer after it
pub record Printed : Type 0 where
  pub answer : Result ℕ Short
  pub after : List ℕ

-- a text in a buffer of n bytes: its length, with the text at the front and zeros behind it; or all zero where it is too long
abbrev pub printing : List ℕ → ℕ → Printed
printing text n =
    cond (nat_lt n (length text)) (record { answer = Err (record {}); after = blank n })
    (record { answer = Ok (length text); after = padded text n })
