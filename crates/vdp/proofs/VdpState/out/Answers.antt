-- `vdp::VdpState::out` meets its contract: a port write: the palette is the device's own, and all else is its front's.
-- the front's answer, on the device: for the palette, and not
use Prim.Native.Nat.{ℕ}
use mathlib.Core.Path.{◌≡◌, ap, ◌∙◌}
use mathlib.Core.Bool.{true, false}
use mathlib.Core.List.{List}
use Rattle.vdp.specs.declared.VdpState.{VdpState}
use Rattle.front.specs.declared.Front.{Front}
use Rattle.front.specs.declared.FrontWritten.{FrontWritten}
use Rattle.vdp.specs.Device.{front_of, with_front}
use Rattle.front.specs.Ports.{front_write}
use Rattle.vdp.specs.Ports.{answered, palette_write, written_by, port_write}
use Rattle.front.proofs.Kept.{inside}
use Rattle.vdp.proofs.VdpState.out.Goals as goal

module _ (s : VdpState) (m : List ℕ) (p v : ℕ) {f : Front} {r : FrontWritten} (e : f ≡ front_of s) (w : r ≡ (front_write 64 f m p v).answer) where
  told : written_by s v r ≡ (port_write s m p v).answer
  unfolding port_write
  told = ap (written_by s v) (w ∙ ap (λ (g : Front). (front_write 64 g m p v).answer) e)

  memory : {m' : List ℕ} → m' ≡ (front_write 64 f m p v).vram → m' ≡ (port_write s m p v).vram
  unfolding port_write
  memory h = h ∙ ap (λ (g : Front). (front_write 64 g m p v).vram) e

  to_palette : r.palette ≡ true → palette_write (with_front s r.front) v ≡ (port_write s m p v).answer
  to_palette t = rw t at told

  to_front : r.palette ≡ false → answered r.outcome (with_front s r.front) ≡ (port_write s m p v).answer
  to_front t = rw t at told

pub write_palette-requires : goal.write_palette-requires
write_palette-requires c =
    rw c.with_front-device.ensures (inside 64 _ _ _ _ _ c.write-sent.ensures.answer c.if-sent.true)

pub returns-then-sent : goal.returns-then-sent
returns-then-sent c =
    let w = c.write-sent.ensures in
    record {
      answer = rw (c.write_palette.ensures, c.with_front-device.ensures)
          (to_palette c.args.self _ _ _ c.front.ensures w.answer c.if-sent.true);
      memory = memory c.args.self _ _ _ c.front.ensures w.answer w.memory;
    }

pub returns : goal.returns
returns c =
    let w = c.write-sent.ensures in
    record {
      answer = rw c.with_front-device.ensures (to_front c.args.self _ _ _ c.front.ensures w.answer c.if-sent.false);
      memory = memory c.args.self _ _ _ c.front.ensures w.answer w.memory;
    }
