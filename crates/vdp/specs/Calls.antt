-- Runs of port calls: what they answer, and what they leave.
-- Assumes nothing.
use Rattle.std.specs.Prelude.{ℕ, List, [], ◌∷◌, replicate}
use Rattle.laws.specs.Sizes.{vram_size}
use Rattle.vdp.specs.declared.VdpState.{VdpState}
use Rattle.vdp.specs.Device.{fresh}
use Rattle.refusal.specs.Refusals.{refusal_number, outcome_of, byte_given}
use Rattle.vdp.specs.Ports.{port_write, port_read}

-- A call of a port: a write of a byte, or a read.
pub data Call : Type 0 where
  write : ℕ → ℕ → Call
  read : ℕ → Call

-- What a call answers: the number of its refusal, and of a read the byte.
pub data Answer : Type 0 where
  w : ℕ → Answer
  r : ℕ → ℕ → Answer

-- A device and its video memory, as they are between calls.
pub record World : Type 0 where
  pub device : VdpState
  pub vram : List ℕ

unfoldable pub after : World → Call → World
after k (write p v) =
    let a = port_write k.device k.vram p v in
    record { device = a.answer.device; vram = a.vram }
after k (read p) = record { device = (port_read k.device k.vram p).device; vram = k.vram }

unfoldable pub answer : World → Call → Answer
answer k (write p v) = w (refusal_number (port_write k.device k.vram p v).answer.outcome)
answer k (read p) =
    let b = port_read k.device k.vram p in
    r (refusal_number (outcome_of b.byte)) (byte_given b.byte)

unfoldable pub after_all : World → List Call → World
after_all k [] = k
after_all k (c ∷ cs) = after_all (after k c) cs

unfoldable pub answers : World → List Call → List Answer
answers k [] = []
answers k (c ∷ cs) = answer k c ∷ answers (after k c) cs

-- A fresh device with zeroed memory.
unfoldable pub start : World
start = record { device = fresh; vram = replicate vram_size 0 }
