-- What a port call in place promises: the answer of the record's call on the device of the block, and the block of what that leaves.
-- Assumes nothing.
use Rattle.refusal.specs.declared.Refusal.{Refusal}
use Rattle.refusal.specs.Refusals.{Outcome}
use Rattle.std.specs.Prelude.{ℕ, ◌≡◌, List, Result}
use Rattle.home.specs.Ports.{port_write, port_read}
use Rattle.home_block.specs.HomeBlock.{state_of, block_of}

pub record OutInPlace (b m : List ℕ) (p v : ℕ) (r : Outcome) (b' m' : List ℕ) : Type 0 where
  pub outcome : r ≡ (port_write (state_of b) m p v).answer.outcome
  pub block : b' ≡ block_of (port_write (state_of b) m p v).answer.device
  pub memory : m' ≡ (port_write (state_of b) m p v).vram

pub record InputInPlace (b m : List ℕ) (p : ℕ) (r : Result ℕ Refusal) (b' : List ℕ) : Type 0 where
  pub byte : r ≡ (port_read (state_of b) m p).byte
  pub block : b' ≡ block_of (port_read (state_of b) m p).device
