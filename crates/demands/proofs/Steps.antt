-- Of a step of the handheld: clean colours stay the palette's, and what an acceptance and a refusal tell.
-- Assumes nothing.
use Rattle.std.specs.Prelude.{None, Option, Some, ℕ, Ok}
use mathlib.Core.Path.{◌≡◌, refl, sym, ◌∙◌}
use mathlib.Core.Logic.{◌≢◌}
use mathlib.Core.Bool.{false}
use mathlib.Core.List.{List}
use Prim.Native.Nat.{ℕ}
use Rattle.laws.proofs.Tests.{either}
use Rattle.colour.specs.Colour.{colours_of}
use Rattle.picture.specs.declared.RenderArea.{RenderArea}
use Rattle.picture.specs.Area.{screen_of}
use Rattle.vdp.specs.declared.VdpState.{VdpState}
use Rattle.refusal.specs.Refusals.{Line}
use Rattle.refusal.proofs.Tables.{Passed, Refusing, passed}
use Rattle.step.specs.Step.{line_of, counter_up, row_on, colours_now, stepped, frame_lines, step_with, frame_step_of}
use Rattle.step.proofs.Laws.{stepped_refusal, dirty_after, cache_after, stepped_dirty, stepped_cache, stepped_cram, step_exact, step_accepted, step_left}
use Rattle.points.proofs.Laws.{frame_refusing}
use Rattle.step.proofs.Kept.{Clean}

-- ---- colours
-- those that a row is drawn with are the palette's
pub colours_now_lem : (d : VdpState) → Clean d → colours_now d ≡ colours_of d.cram
colours_now_lem d k = either (λ (c : List ℕ). c ≡ colours_of d.cram) d.cram_dirty (λ _. refl) k

drawn_clean : (o : Option ℕ) (d : VdpState) → Clean d → dirty_after o d ≡ false → cache_after o d ≡ colours_of d.cram
drawn_clean None d k = k
drawn_clean (Some y) d k = λ _. colours_now_lem d k

pub stepped_clean : (a : RenderArea) (vram : List ℕ) (d : VdpState) → Clean d → Clean (stepped a vram d).device
stepped_clean a vram d k =
    rw (stepped_dirty a vram d refl, stepped_cache a vram d refl, stepped_cram a vram d) (drawn_clean (row_on a (line_of (counter_up d))) d k)

-- ---- accepted or refused
module _ (ls : List Line) (a : RenderArea) (vram : List ℕ) (d : VdpState) where
  -- no line of an accepted step's table holds
  pub taken : Refusing ls → (step_with ls a vram d).outcome ≡ (Ok tt) → Passed ls
  taken q e = passed ls q (sym (step_exact ls a vram d) ∙ e)

  pub is_stepped : Refusing ls → (step_with ls a vram d).outcome ≡ (Ok tt) → step_with ls a vram d ≡ stepped a vram d
  is_stepped q e = step_accepted ls a vram d (taken q e)

  pub refused_raster : (step_with ls a vram d).outcome ≢ (Ok tt) → (step_with ls a vram d).device.raster ≡ d.raster
  refused_raster n = rw (step_left ls a vram d n)

  pub accepts : Passed ls → (step_with ls a vram d).outcome ≡ (Ok tt)
  accepts p = rw (step_accepted ls a vram d p) (stepped_refusal a vram d)

pub frame_taken : (a : RenderArea) (vram : List ℕ) (size : ℕ) (d : VdpState) → (frame_step_of a vram size d).outcome ≡ (Ok tt) → Passed
    (frame_lines a vram size)
frame_taken a vram size d e = taken (frame_lines a vram size) a vram d (frame_refusing (screen_of a) vram size) e
