-- THE LINE INTERRUPTS, on any device and whoever steps: demand 3's law over any calls that meet its condition, and the first pass of a fresh device.
-- Assumes nothing.
use Rattle.std.specs.Prelude.{◌≡◌, ℕ, suc, ◌+◌, ◌≤◌, ◌<◌}
use Rattle.std.specs.Int.{◌∣◌}
use Rattle.raster.specs.declared.LineTable.{LineTable}
use Rattle.raster.specs.Raster.{pass_length}
use Rattle.passes.specs.Machine.{Told, Machine, register, line_of}
use Rattle.passes.specs.Pass.{NoStepOn, LineInterruptsEvery, InterruptsWhen, ForLine}

-- R13.6: line interrupts on, frame interrupts off and register 10 at N, all so from device `start` on: d is the device n accepted steps later,
-- with any other calls between, and all was so just before each of these steps.
pub data AllSo (M : Machine) (N : ℕ) (start : M.Device) : ℕ → M.Device → Type 0 where
  here : AllSo M N start 0 start
  call : {n : ℕ} {d : M.Device} → AllSo M N start n d → (c : M.Call) → NoStepOn M d c → AllSo M N start n (M.after c d)
  step :
      {n : ℕ} {d : M.Device} → AllSo M N start n d → LineInterruptsEvery N (register M d) → (c : M.Call) (s : Told M.Device) → M.Steps c d s →
      AllSo M N start (suc n) s.device

-- Step n after `start`, 0 the first: where all is so until it has ended, what it answers has Q.
abbrev pub StepHas : (M : Machine) (N : ℕ) (start : M.Device) (n : ℕ) → (Told M.Device → Type 0) → Type 0
StepHas M N start n Q =
    (d : M.Device) (c : M.Call) (s : Told M.Device) → AllSo M N start n d → LineInterruptsEvery N (register M d) → M.Steps c d s → Q s

-- From any device whose counter reads FF, so that its next step sets line 0.
pub record FromLine0 (M : Machine) (N : ℕ) (start : M.Device) (reads : line_of M start ≡ 0xFF) : Type 0 where
  -- R13.6: line k, 0 to 193, interrupts exactly where N + 1 divides k + 2
  pub to_193 : (k : ℕ) → k ≤ 193 → StepHas M N start k (ForLine M N k)
  -- from there to the end of the pass, with the count at register 10 again after each, a step reports one exactly when N is 0
  pub past_193 : (k : ℕ) → 193 < k → k < pass_length (M.raster start).table → StepHas M N start k (λ s. InterruptsWhen s (N ≡ 0))

-- The first pass: from a device that has not stepped since it was made with table t, so that its counter and line count are 0. Line 1 reports, and
-- each N + 1 lines on.
pub record FirstPass (M : Machine) (N : ℕ) (t : LineTable) (start : M.Device) (unstepped : M.raster start ≡ M.raster (M.made t)) : Type 0 where
  pub to_193 : (i : ℕ) → i < 193 → StepHas M N start i (λ s. (line_of M s.device ≡ suc i) × InterruptsWhen s (N + 1 ∣ i))
  pub past_193 : (i : ℕ) → 193 ≤ i → suc i < pass_length t → StepHas M N start i (λ s. InterruptsWhen s (N ≡ 0))
