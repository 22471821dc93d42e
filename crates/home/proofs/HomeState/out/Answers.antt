-- `home::HomeState::out` meets its contract: a port write: the palette is the device's own, and all else is its front's.
-- the front's answer, on the device: for the palette, and not
use Prim.Native.Nat.{ℕ}
use mathlib.Core.Path.{◌≡◌, ap}
use mathlib.Core.Bool.{true, false}
use mathlib.Core.List.{List}
use Rattle.front.specs.declared.FrontWritten.{FrontWritten}
use Rattle.front.specs.Ports.{front_write}
use Rattle.front.proofs.Kept.{inside}
use Rattle.home.specs.declared.HomeState.{HomeState}
use Rattle.home.specs.Home.{with_front}
use Rattle.home.specs.Ports.{answered, palette_write, written_by, port_write}
use Rattle.home.proofs.HomeState.out.Goals as goal

module _ (h : HomeState) (m : List ℕ) (p v : ℕ) {r : FrontWritten} (w : r ≡ (front_write 32 h.front m p v).answer) where
  told : written_by h v r ≡ (port_write h m p v).answer
  unfolding port_write
  told = ap (written_by h v) w

  memory : {m' : List ℕ} → m' ≡ (front_write 32 h.front m p v).vram → m' ≡ (port_write h m p v).vram
  unfolding port_write
  memory q = q

  to_palette : r.palette ≡ true → palette_write (with_front h r.front) v ≡ (port_write h m p v).answer
  to_palette t = rw t at told

  to_front : r.palette ≡ false → answered r.outcome (with_front h r.front) ≡ (port_write h m p v).answer
  to_front t = rw t at told

pub write_palette-requires : goal.write_palette-requires
write_palette-requires c =
    inside 32 _ _ _ _ _ c.write-sent.ensures.answer c.if-sent.true

pub returns-then-sent : goal.returns-then-sent
returns-then-sent c =
    let w = c.write-sent.ensures in
    record {
      answer = rw c.write_palette.ensures (to_palette c.args.self _ _ _ w.answer c.if-sent.true);
      memory = memory c.args.self _ _ _ w.answer w.memory;
    }

pub returns : goal.returns
returns c =
    let w = c.write-sent.ensures in
    record {
      answer = to_front c.args.self _ _ _ w.answer c.if-sent.false;
      memory = memory c.args.self _ _ _ w.answer w.memory;
    }
