-- WHAT A LAYER TELLS of the colour beside it, and that a step which tells layers is otherwise the step without.
-- R15.1, R15.2: said of any view, so of every screen. R15.3, R15.4: of every device of the handheld, memory and buffer; of the home machine's
-- calls, which alone tell its layers, R15.4 stands in crates/face/proofs/HomeLaws.antt (`row_aside`, `frame_aside`).
-- Assumes nothing.
use Rattle.std.specs.Prelude.{◌≡◌, ◌↔◌, ◌≢◌, ◌⊎◌, Bool, true, false, ◌&&◌, ◌||◌, List, [], ◌∷◌, ℕ, ◌+◌, ◌-◌, ◌*◌, ◌%◌, ◌<◌, ◌≤◌, leb, length, take, drop, Err}
use Rattle.std.specs.Prelude.{Ok}
use Rattle.laws.specs.Lists.{at}
use Rattle.picture.specs.declared.Stand.{Stand}
use Rattle.picture.specs.declared.Screen.{Screen}
use Rattle.picture.specs.declared.RenderArea.{RenderArea}
use Rattle.picture.specs.View.{View}
use Rattle.picture.specs.Picture.{Canvas, back, front, bare, table_at, listed, solid, drawn, sprite_code, with_sprite}
use Rattle.picture.specs.Area.{screen_of, columns}
use Rattle.picture.specs.Screen.{view_of, covered, picture_of}
use Rattle.picture.specs.Layers.{stopped, layers_of}
use Rattle.vdp.specs.declared.VdpState.{VdpState}
use Rattle.refusal.specs.declared.Refusal.TheVariants.{LayerLength}
use Rattle.refusal.specs.Refusals.{Line, first, under}
use Rattle.step.specs.Step.{row_lines, frame_lines, reading_of, step_with, row_step_of, frame_step_of}
use Rattle.points.specs.Bytes.{row_filled, frame_filled, also_layers}
use Rattle.step.specs.Frame.{row_after, frame_after}
use Rattle.step.specs.Layers.{layers_after}
use Rattle.passes.specs.Machine.{Machine}

-- ---- one column
module _ (m g : ℕ → ℕ) (v : View) where
  -- where sprite n stands; the sprites that are laid on the line; the column of sprite n that falls on column x, and its code
  abbrev pub stands_at : ℕ → Stand
  stands_at n = v.stand (m (table_at g + 128 + 2 * n))

  abbrev pub laid_on : List ℕ
  laid_on = take 8 (listed m g v.line 64 0)

  abbrev pub column_at : ℕ → ℕ → ℕ
  column_at n x = x - (stands_at n).x

  abbrev pub code_in : ℕ → ℕ → ℕ
  code_in n x = sprite_code m g v.line n ((stands_at n).start + column_at n x)

  -- priority holds a pixel of sprite n back that would have shown at column x
  abbrev pub held_at : ℕ → ℕ → Bool
  held_at x n = leb (stands_at n).x x && stopped (stands_at n) (sprite_code m g v.line n) (front m g v) (bare (back m g v)) (column_at n x)

  -- the canvas with sprite n laid on it, and whether sprite n is drawn at column x on what was laid before it (R5.11)
  abbrev pub laid_by : ℕ → Canvas → Canvas
  laid_by n c = with_sprite m g v.stand v.line (front m g v) n c

  abbrev pub drawn_at : ℕ → Canvas → ℕ → Bool
  drawn_at x c n = leb (stands_at n).x x && drawn (stands_at n) (sprite_code m g v.line n) (front m g v) c (column_at n x)

  -- of the sprites ns, laid in turn on canvas c, none is drawn at column x; sprite n is the last one that is
  abbrev pub NoneDrawn : ℕ → List ℕ → Canvas → Type 0
  NoneDrawn x [] c = Unit {0}
  NoneDrawn x (k ∷ ns) c = (drawn_at x c k ≡ false) × NoneDrawn x ns (laid_by k c)

  abbrev pub LastDrawn : (x n : ℕ) → List ℕ → Canvas → Type 0
  LastDrawn x n [] c = ⊥
  LastDrawn x n (k ∷ ns) c = LastDrawn x n ns (laid_by k c) ⊎ ((k ≡ n) × (drawn_at x c k ≡ true) × NoneDrawn x ns (laid_by k c))

-- one of a list has p; n is one of a list
abbrev pub some : List ℕ → (ℕ → Bool) → Bool
some [] p = false
some (n ∷ ns) p = p n || some ns p

abbrev pub OneOf : List ℕ → ℕ → Type 0
OneOf [] n = ⊥
OneOf (k ∷ ns) n = (n ≡ k) ⊎ OneOf ns n

-- R15.1: what the layer of column x, where no fill covers it, tells of it and of its colour
pub record Tells (m g : ℕ → ℕ) (v : View) (x layer colour : ℕ) : Type 0 where
  -- it is 0, 1, or 64 + n of a sprite that is laid on the line
  pub kind : (layer < 2) ⊎ ((64 ≤ layer) × OneOf (laid_on m g v) (layer - 64))
  -- 0 and 1: the colour is the background's
  pub behind : layer < 2 → colour ≡ back m g v x
  -- 64 + n: the colour is that of sprite n's pixel there, and its code is not 0
  pub sprite : (n : ℕ) → layer ≡ 64 + n
      → (colour ≡ 16 + code_in m g v n x)
      × (solid (stands_at m g v n).start (stands_at m g v n).end (sprite_code m g v.line n) (column_at m g v n x) ≡ true)
  -- it is 64 + n exactly where sprite n is the last one drawn there: so of two sprites with the same code at one column there is one answer
  pub last : (n : ℕ) → (layer ≡ 64 + n) ↔ LastDrawn m g v x n (laid_on m g v) (bare (back m g v))
  -- 1: priority held back a sprite's pixel there; 0: it held back none
  pub held : layer ≡ 1 → some (laid_on m g v) (held_at m g v x) ≡ true
  pub none : layer ≡ 0 → some (laid_on m g v) (held_at m g v x) ≡ false

-- R15.1, R20.6: of every column of every row of a screen, by the registers, the latched scroll and video memory
pub record Owned (s : Screen) (reg : List ℕ) (scroll : ℕ) (vram : List ℕ) (y x : ℕ) : Type 0 where
  -- where a fill covers it the layer is 2, and the colour the fill's, whatever stands under it
  pub filled : covered s (at reg) x ≡ true
      → (layers_of s reg scroll vram y x ≡ 2) × ((picture_of s reg scroll vram y).colour x ≡ 16 + at reg 7 % 16)
  -- elsewhere the layer tells what stands there, and is not 2
  pub shown : covered s (at reg) x ≡ false
      → Tells (at vram) (at reg) (view_of s (at reg) scroll y) x (layers_of s reg scroll vram y x) ((picture_of s reg scroll vram y).colour x)

-- so of every row that a machine's device has now, and of the handheld's and of the home machine's
abbrev pub OwnedOf : Machine → Type 0
OwnedOf M = (a : M.Area) (vram : List ℕ) (d : M.Device) (y x : ℕ) → Owned (M.screen a) (M.registers d) (M.raster d).vertical_scroll vram y x

-- ---- a step
-- With room for the layers, the answer (refusal, interrupt, report, row, and the device with its status) and the pixels are those of the step without.
pub record Aside (a : RenderArea) (vram : List ℕ) (d : VdpState) (pixels layers : List ℕ) : Type 0 where
  pub row_answer : columns a ≤ length layers
      → step_with (also_layers (columns a) (length layers) (row_lines a vram (length pixels))) a vram d ≡ row_step_of a vram (length pixels) d
  pub row_pixels : columns a ≤ length layers
      → under (also_layers (columns a) (length layers) (row_lines a vram (length pixels))) (λ r. pixels) (row_filled (screen_of a) vram (reading_of d) pixels)
      ≡ row_after a vram d pixels
  pub frame_answer : columns a ≤ length layers
      → step_with (also_layers (columns a) (length layers) (frame_lines a vram (length pixels))) a vram d ≡ frame_step_of a vram (length pixels) d
  pub frame_pixels : columns a ≤ length layers
      → under (also_layers (columns a) (length layers) (frame_lines a vram (length pixels))) (λ r. pixels)
      (frame_filled (screen_of a) vram (reading_of d) pixels)
      ≡ frame_after a vram d pixels
  -- without room it is refused: by 16 exactly where the step without layers is accepted, else as that one is
  pub row_short : length layers < columns a → first (row_lines a vram (length pixels)) ≡ (Ok tt)
      → first (also_layers (columns a) (length layers) (row_lines a vram (length pixels))) ≡ (Err LayerLength)
  pub frame_short : length layers < columns a → first (frame_lines a vram (length pixels)) ≡ (Ok tt)
      → first (also_layers (columns a) (length layers) (frame_lines a vram (length pixels))) ≡ (Err LayerLength)
  pub refused : (lines : List Line) → first lines ≢ (Ok tt) → first (also_layers (columns a) (length layers) lines) ≡ first lines
  -- whatever its lines, a step keeps the layer buffer's length and every byte past the columns
  pub size : (lines : List Line) → length (layers_after lines a vram d layers) ≡ length layers
  pub past : (lines : List Line) → drop (columns a) (layers_after lines a vram d layers) ≡ drop (columns a) layers
