-- The rows, by computing them.
use Rattle.std.proofs.Common.{◌≡◌, ℕ, sym, refl, ap, ◌∙◌}
use Rattle.words.specs.declared.Instruction.{Instruction}
use Rattle.words.specs.Coding.{encoded, decoded}
use Rattle.words.proofs.Codes.{undone}
use Rattle.cpu.specs.States.{State}
use Rattle.cpu.specs.Steps.{did, step_of}
use Rattle.machine.specs.Runs.{goes}
use Rattle.laws.specs.Rows.{sample, Row, Rows, CountDown}

row : {w : ℕ} {i : Instruction} {after : State} → encoded i ≡ w → step_of (sample w) ≡ did 1 after → Row w i after
row {w} {i} e f = record { written_as = e; read_as = ap decoded (sym e) ∙ undone i; done = f }

pub rows : Rows
rows = record {
  add = row refl refl;
  sub = row refl refl;
  and = row refl refl;
  or = row refl refl;
  not = row refl refl;
  jalr = row refl refl;
  «in» = row refl refl;
  out = row refl refl;
  out_r0 = row refl refl;
  addi = row refl refl;
  shf_left = row refl refl;
  shf_right = row refl refl;
  lw = row refl refl;
  sw = row refl refl;
  lli = row refl refl;
  lui = row refl refl;
  beq = row refl refl;
  bne = row refl refl;
  bgt = row refl refl;
  bge = row refl refl;
  blt = row refl refl;
  ble = row refl refl;
  lw_outside = refl;
  function_5 = (refl, refl);
  function_1 = (refl, refl);
}

pub counts : CountDown
unfolding goes
counts = record { stop = refl; cycles = refl; sent = refl }
