-- The laws of lines and sources that are read.
use Rattle.std.proofs.Common.{◌≡◌, ℕ, suc, ◌+◌, Bool, true, false, cond, leb, List, [], ◌∷◌, ◌++◌, length, Some, None, Ok, Err, Option, Result, sym, refl, ap, ◌∙◌, ⊎_elim, arith, MatchOption}
use Rattle.std.specs.Option.{option_map}
use Rattle.std.proofs.lemmas.Bool.{le-leb, lt-leb, cases_lt, cond-true, cond-false}
use Rattle.faults.specs.declared.StatementFault.{StatementFault}
use Rattle.faults.specs.declared.StatementFault.TheVariants.{Malformed}
use Rattle.faults.specs.declared.AssemblyFault.{AssemblyFault}
use Rattle.faults.specs.declared.AssemblyFault.TheVariants.{ForbiddenByte, InStatement}
use Rattle.faults.specs.Faults.{on_line}
use Rattle.faults.specs.Chains.{and_then, under, gathered}
use Rattle.faults.proofs.Inverse.{same_value, held_ok, held_under, held_cond, all_good, first_fault, either}
use Rattle.lines.specs.Lines.{lines}
use Rattle.lines.specs.Places.{allowed, parts}
use Rattle.lines.specs.Laws.{Respaced}
use Rattle.lines.proofs.Spaces.{space_law}
use Rattle.lines.proofs.Checked.{AllAllowed, parts_allowed}
use Rattle.operands.specs.Names.{is_name}
use Rattle.operations.specs.declared.Mnemonic.{Mnemonic}
use Rattle.operations.specs.Mnemonics.{mnemonic}
use Rattle.operations.specs.Reading.{operation}
use Rattle.operations.proofs.Within.{within}
use Rattle.source.specs.Statements.{ReadStatement, label_of, stated, told, lacks_label, operated, begun, statement}
use Rattle.source.specs.Reading.{line_answer, answers, stated_in, statements}
use Rattle.source.specs.Laws.{statement_on, renumbered, InRange, LineReading, Outcome, long, accepted, refused, SourceReading}

spacing : (n : ℕ) (one other : List ℕ) → Respaced one other → line_answer n one ≡ line_answer n other
spacing n one other h =
    let a = space_law one other h in
    (λ i. cond (a.same_check i) (and_then (on_line n (statement n (a.same_parts i))) InStatement (λ s. Ok s)) (Err (ForbiddenByte n)))

under_under : {X Y Z E : Type 0} (f : Y → Z) (g : X → Y) (r : Result X E) → under f (under g r) ≡ under (λ x. f (g x)) r
under_under f g (Ok x) = refl
under_under f g (Err e) = refl

-- a statement's number is only carried along
told_number : (n m : ℕ) (label : Option (List ℕ)) (fields : List (List ℕ)) (o : Option Mnemonic) → under (statement_on m) (told n label fields o) ≡ told m label fields o
told_number n m label fields None = refl
told_number n m label fields (Some k) = under_under (statement_on m) (stated n label) (operation k fields)

cond_under : {X : Type 0} (f : X → X) (b : Bool) (e : StatementFault) (one two : Result X StatementFault) → under f one ≡ two → under f (cond b (Err e) one) ≡ cond b (Err e) two
cond_under f true e one two h = refl
cond_under f false e one two h = h

operated_number : (n m : ℕ) (label : Option (List ℕ)) (ps : List (List ℕ)) → under (statement_on m) (operated n label ps) ≡ operated m label ps
operated_number n m label [] = refl
operated_number n m label (o ∷ fields) = cond_under (statement_on m) (lacks_label o label) Malformed _ _ (told_number n m label fields (mnemonic o))

named_number : (n m : ℕ) (b : Bool) (label : List ℕ) (rest : List (List ℕ)) → under (statement_on m) (cond b (operated n (Some label) rest) (Err Malformed)) ≡ cond b (operated m (Some label) rest) (Err Malformed)
named_number n m true label rest = operated_number n m (Some label) rest
named_number n m false label rest = refl

begun_number : (n m : ℕ) (first : List ℕ) (rest : List (List ℕ)) (label : Option (List ℕ)) → under (statement_on m) (begun n first rest label) ≡ begun m first rest label
begun_number n m first rest None = operated_number n m None (first ∷ rest)
begun_number n m first rest (Some label) = named_number n m (is_name label) label rest

statement_number : (n m : ℕ) (ps : List (List ℕ)) → under (option_map (statement_on m)) (statement n ps) ≡ statement m ps
statement_number n m [] = refl
statement_number n m (p ∷ ps) =
    let r = begun n p ps (label_of p) in
    under_under (option_map (statement_on m)) Some r ∙ sym (under_under Some (statement_on m) r) ∙ ap (under Some) (begun_number n m p ps (label_of p))

placed_number : (n m : ℕ) (r : Result (Option ReadStatement) StatementFault)
    → renumbered m (and_then (on_line n r) InStatement (λ s. Ok s)) ≡ and_then (on_line m (under (option_map (statement_on m)) r)) InStatement (λ s. Ok s)
placed_number n m (Ok s) = refl
placed_number n m (Err e) = refl

numbering : (n m : ℕ) (line : List ℕ) → renumbered m (line_answer n line) ≡ line_answer m line
numbering n m line = by (allowed line)
  where
    by : (b : Bool) → renumbered m (cond b (and_then (on_line n (statement n (parts line))) InStatement (λ s. Ok s)) (Err (ForbiddenByte n))) ≡ cond b (and_then (on_line m (statement m (parts line))) InStatement (λ s. Ok s)) (Err (ForbiddenByte m))
    by true = placed_number n m (statement n (parts line)) ∙ ap (λ r. and_then (on_line m r) InStatement (λ s. Ok s)) (statement_number n m (parts line))
    by false = refl

-- ranges, from a line's answer inwards
abbrev Ranged : ℕ → Option ReadStatement → Type 0
Ranged n None = Unit {0}
Ranged n (Some s) = InRange n s

abbrev Named : Option (List ℕ) → Type 0
Named label = MatchOption label Unit (λ name. is_name name ≡ true)

told_range : (n : ℕ) (label : Option (List ℕ)) (fields : List (List ℕ)) (o : Option Mnemonic) (s : ReadStatement) → Named label → AllAllowed fields → told n label fields o ≡ Ok s → InRange n s
told_range n label fields None s k a h = cc
told_range n label fields (Some m) s k a h =
    held_under (InRange n) (stated n label) (operation m fields) s h
    (λ o is. record { line = refl; label = k; fields = within m fields o a is; width = refl })

operated_range : (n : ℕ) (label : Option (List ℕ)) (ps : List (List ℕ)) (s : ReadStatement) → Named label → AllAllowed ps → operated n label ps ≡ Ok s → InRange n s
operated_range n label [] s k a h = cc
operated_range n label (o ∷ fields) s k a h =
    held_cond (InRange n) (lacks_label o label) (Err Malformed) _ s h (λ t e. cc) (λ t e. told_range n label fields (mnemonic o) s k a.1 e)

begun_range : (n : ℕ) (first : List ℕ) (rest : List (List ℕ)) (label : Option (List ℕ)) (s : ReadStatement) → AllAllowed (first ∷ rest) → begun n first rest label ≡ Ok s → InRange n s
begun_range n first rest None s a h = operated_range n None (first ∷ rest) s tt a h
begun_range n first rest (Some label) s a h =
    held_cond (InRange n) (is_name label) _ (Err Malformed) s h (λ named e. operated_range n (Some label) rest s named a.1 e) (λ t e. cc)

statement_range : (n : ℕ) (ps : List (List ℕ)) (s : Option ReadStatement) → AllAllowed ps → statement n ps ≡ Ok s → Ranged n s
statement_range n [] s a h = held_ok (Ranged n) h tt
statement_range n (p ∷ ps) s a h = held_under (Ranged n) Some (begun n p ps (label_of p)) s h (λ x is. begun_range n p ps (label_of p) x a is)

from_line : (n : ℕ) (r : Result (Option ReadStatement) StatementFault) (s : Option ReadStatement) → and_then (on_line n r) InStatement (λ x. Ok x) ≡ Ok s → r ≡ Ok s
from_line n (Ok x) s h = ap Ok (same_value {E = AssemblyFault} x s h)
from_line n (Err e) s h = cc

line_range : (n : ℕ) (line : List ℕ) (s : Option ReadStatement) → line_answer n line ≡ Ok s → Ranged n s
line_range n line s h =
    held_cond (Ranged n) (allowed line) _ (Err (ForbiddenByte n)) s h
    (λ a e. statement_range n (parts line) s (parts_allowed line a) (from_line n (statement n (parts line)) s e))
    (λ f e. cc)

pub line_reading : LineReading
line_reading = record { spacing = spacing; numbering = numbering; ranges = λ n line s h. line_range n line (Some s) h }

answers_append : (n : ℕ) (before behind : List (List ℕ)) (line : List ℕ)
    → answers n (before ++ (line ∷ behind)) ≡ answers n before ++ (line_answer (length before + n) line ∷ answers (length before + n + 1) behind)
answers_append n [] behind line = let e : n ≡ 0 + n = omega arith in (λ i. line_answer (e i) line ∷ answers (e i + 1) behind)
answers_append n (l ∷ ls) behind line =
    let e : length ls + (n + 1) ≡ suc (length ls) + n = omega arith in
    ap (λ rest. line_answer n l ∷ rest)
    (answers_append (n + 1) ls behind line ∙ ap (λ k. answers (n + 1) ls ++ (line_answer k line ∷ answers (k + 1) behind)) e)

alone : (before behind : List (List ℕ)) (line : List ℕ)
    → answers 1 (before ++ (line ∷ behind)) ≡ answers 1 before ++ (line_answer (length before + 1) line ∷ answers (length before + 2) behind)
alone before behind line =
    let e : length before + 1 + 1 ≡ length before + 2 = omega arith in
    answers_append 1 before behind line ∙ ap (λ k. answers 1 before ++ (line_answer (length before + 1) line ∷ answers k behind)) e

outcomes : (source : List ℕ) → Outcome source
outcomes source =
    ⊎_elim
    (λ over. long over (cond-false (leb (length source) 65536) _ _ (lt-leb (length source) 65536 over)))
    (λ fits. (let within : statements source ≡ under stated_in (gathered (answers 1 (lines source))) = cond-true (leb (length source) 65536) _ _ (le-leb (length source) 65536 fits) in
    ⊎_elim
    (λ a. accepted a.0 fits a.1 (within ∙ ap (λ rs. under stated_in (gathered rs)) a.1 ∙ ap (under stated_in) (all_good a.0)))
    (λ b. refused b.0 b.1.0 b.1.1.0 fits b.1.1.1 (within ∙ ap (λ rs. under stated_in (gathered rs)) b.1.1.1 ∙ ap (under stated_in) (first_fault b.0 b.1.0 b.1.1.0)))
    (either (answers 1 (lines source)))))
    (cases_lt 65536 (length source))

pub source_reading : SourceReading
source_reading = record { alone = alone; outcomes = outcomes }
