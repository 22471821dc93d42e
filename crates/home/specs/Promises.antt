-- R20.3: refusal 7 comes only where the address lies outside its memory. (That 6 never comes, of no call: `NeverSix`, crates/demands/specs/Home.antt.)
-- Assumes nothing.
use Rattle.std.specs.Prelude.{ℕ, ◌<◌, ◌≢◌, List}
use Rattle.refusal.specs.Refusals.{refusal_number, outcome_of}
use Rattle.front.specs.Lines.{size_of}
use Rattle.home.specs.declared.HomeState.{HomeState}
use Rattle.home.specs.Home.{palette_size}
use Rattle.home.specs.Ports.{port_write, port_read}

-- the address lies in the memory that is chosen
abbrev pub Aimed : HomeState → Type 0
Aimed h = h.front.addr < size_of palette_size h.front.dest

pub record OutsideOnly : Type 0 where
  pub write : (h : HomeState) (vram : List ℕ) (port value : ℕ) → Aimed h → refusal_number (port_write h vram port value).answer.outcome ≢ 7
  pub read : (h : HomeState) (vram : List ℕ) (port : ℕ) → Aimed h → refusal_number (outcome_of (port_read h vram port).byte) ≢ 7
