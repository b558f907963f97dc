-- An immediate is known by its bits.
use Rattle.std.proofs.Common.{◌≡◌, ℕ, ◌≤◌, ap, subst}
use Rattle.std.proofs.Math.Bridge.{le_prop}
use Rattle.words.specs.declared.immediates.Imm.{Imm}

pub same_imm : {MAX : ℕ} (i j : Imm MAX) → i.bits ≡ j.bits → i ≡ j
same_imm {MAX} i j e =
    let made : (n : ℕ) → n ≤ MAX → Imm MAX = λ n h. record { bits = n; fits = h } in
    subst (λ (n : ℕ). (h : n ≤ MAX) → i ≡ made n h) e (λ h. ap (made i.bits) (le_prop i.fits h)) j.fits
