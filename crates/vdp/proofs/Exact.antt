-- A port call is refused by the first line of its table that holds.
-- Assumes nothing.
use Rattle.std.specs.Prelude.{None, Option, Some, ℕ, Err, Ok}
use Prim.Native.Nat.{ℕ, ◌%◌}
use mathlib.Core.Path.{◌≡◌, refl, sym, ◌∙◌}
use mathlib.Core.List.{List, [], ◌∷◌}
use mathlib.Core.Bool.{cond, not, ◌&&◌}
use lib.Dec.{eqb}
use Rattle.laws.proofs.Tests.{split, cond-in}
use Rattle.vdp.specs.declared.VdpState.{VdpState}
use Rattle.front.specs.declared.Written.{Written}
use Rattle.refusal.specs.declared.Refusal.TheVariants.{NoPaletteByte}
use Rattle.vdp.specs.Device.{front_of, with_front, unlatched}
use Rattle.refusal.specs.Refusals.{first, line, outcome_of}
use Rattle.front.specs.Lines.{is_empty, is_palette, is_port}
use Rattle.vdp.specs.Refusals.{write_lines, read_lines}
use Rattle.front.specs.Ports.{front_write}
use Rattle.vdp.specs.Ports.{odd_palette, palette_write, port_write, port_read}
use Rattle.front.proofs.Exact.{front_write_exact, front_read_exact}

-- ---- the device's own: an odd byte wants an even one before it
odd_exact : (l : Option ℕ) (s : VdpState) (v : ℕ) → (odd_palette l s v).outcome ≡ cond (is_empty l) (Err NoPaletteByte) (Ok tt)
odd_exact None s v = refl
odd_exact (Some d) s v = refl

palette_exact : (s : VdpState) (v : ℕ) → (palette_write s v).outcome ≡ cond (not (eqb (s.addr % 2) 0) && is_empty s.cram_byte1) (Err NoPaletteByte)
    (Ok tt)
palette_exact s v = split (eqb (s.addr % 2) 0) (λ e. simp e) (λ e. simp e (odd_exact s.cram_byte1 s v))

pub write_exact : (s : VdpState) (m : List ℕ) (p v : ℕ) → (port_write s m p v).answer.outcome ≡ first (write_lines s m p v)
unfolding port_write
write_exact s m p v =
    let f = front_of s in
    sym (cond-in (λ (w : Written VdpState). w.outcome) (front_write 64 f m p v).answer.palette _ _)
    ∙ front_write_exact 64 f m v (λ g. (palette_write (with_front s g) v).outcome) p
    (line (is_port 0xBE p && is_palette s.dest && not (eqb (s.addr % 2) 0) && is_empty s.cram_byte1) (Err NoPaletteByte) ∷ [])
    (λ t. rw t (palette_exact (unlatched s) v)) (λ t. rw t)

pub read_exact : (s : VdpState) (m : List ℕ) (p : ℕ) → outcome_of (port_read s m p).byte ≡ first (read_lines s m p)
unfolding port_read
read_exact s m p = front_read_exact 64 (front_of s) m p s.raster.v_counter
