-- R13.7, the author's program itself: from a fresh device of either table, on any frame and with any video memory at each step, it waits until the
-- counter reads 90 and then gives colour 3 other palette bytes.
-- Assumes nothing.
use Rattle.std.specs.Prelude.{◌≡◌, ◌↔◌, ◌≢◌, cond, List, [], ◌∷◌, ℕ, suc, ◌+◌, ◌*◌, ◌%◌, ◌≤◌, ◌<◌, eqb, length, set, Ok}
use Rattle.laws.specs.Lists.{at}
use Rattle.laws.specs.Paint.{byte_of_colour}
use Rattle.colour.specs.Colour.{colour, colours_of}
use Rattle.picture.specs.declared.RenderArea.TheVariants.{VisibleOnly}
use Rattle.picture.specs.Area.{picture_of}
use Rattle.raster.specs.declared.LineTable.{LineTable}
use Rattle.vdp.specs.declared.VdpState.{VdpState}
use Rattle.vdp.specs.Device.{made}
use Rattle.step.specs.Step.{frame_step_of}
use Rattle.demands.specs.Handheld.{out, after, handheld}
use Rattle.passes.specs.Pass.{Between, Run, Watched, pass}
use Rattle.passes.specs.Split.{New, Split, Changed}

-- ---- what is watched of it
-- the device after BF 06, BF C0, and the two bytes of colour 3
abbrev pub recoloured : (low high : ℕ) (vram : List ℕ) → VdpState → VdpState
recoloured low high vram d = after (out 0xBE high vram) (after (out 0xBE low vram) (after (out 0xBF 0xC0 vram) (after (out 0xBF 0x06 vram) d)))

-- Step 0 sets line 1, so that step 89 sets line 90, and the writes come before step 90; nothing else is called.
pub record Asks (low high : ℕ) (w : Watched handheld VisibleOnly) : Type 0 where
  pub fresh : w.ready 0 ≡ made w.table
  pub on : (i : ℕ) → suc i ≢ 90 → w.ready (suc i) ≡ (w.answer i).device
  pub writes : w.ready 90 ≡ recoloured low high (w.vram 90) (w.answer 89).device

-- the same without the writes, with the same table and video memory
pub record AsksNot (w w₀ : Watched handheld VisibleOnly) : Type 0 where
  pub table : w₀.table ≡ w.table
  pub memory : (i : ℕ) → w₀.vram i ≡ w.vram i
  pub fresh : w₀.ready 0 ≡ made w₀.table
  pub on : (i : ℕ) → w₀.ready (suc i) ≡ (w₀.answer i).device

-- ---- the answer
abbrev pub new_palette : (low high : ℕ) → LineTable → List ℕ
new_palette low high t = set (set (made t).cram 6 low) 7 (high % 16)

-- The pixels of number 3 in the new rows, which are those from 67 on, change to the colour of the two bytes, and no others.
pub record Answered (low high : ℕ) (w w₀ : Watched handheld VisibleOnly) : Type 0 where
  pub split : Split w 90 (made w.table).cram (new_palette low high w.table)
  pub changed : Changed split w₀ 3
  pub new_rows_lem : (y : ℕ) → y < 144 → New split.moment y ↔ (67 ≤ y)
  pub new_colour : at (colours_of (new_palette low high w.table)) 3 ≡ colour low (high % 16)

-- The same in the bytes of the caller's frame. Byte j of pixel x of row y stands at 640 y + 4 x + j. Row y is drawn by step y + 23, with the registers of a
-- fresh device, no scroll, and the video memory at that step: so the picture gives the number of the pixel's colour.
abbrev pub number_at : LineTable → (vram : ℕ → List ℕ) (x y : ℕ) → ℕ
number_at t vram x y = (picture_of VisibleOnly (made t).reg 0 (vram (y + 23)) y).colour x

pub record WhichBytes (low high : ℕ) (w w₀ : Watched handheld VisibleOnly) : Type 0 where
  -- those of the pixels of number 3 from row 67 on: the new colour's, and without the writes black
  pub these :
      (x y j : ℕ) → x < 160 → 67 ≤ y → y < 144 → j < 4 → number_at w.table w.vram x y ≡ 3 →
      (at (w.frame (pass w)) (640 * y + 4 * x + j) ≡ byte_of_colour (colour low (high % 16)) j)
      × (at (w₀.frame (pass w)) (640 * y + 4 * x + j) ≡ byte_of_colour (colour 0 0) j)
  -- all others are the same with the writes and without
  pub no_others :
      (x y j : ℕ) → x < 160 → y < 144 → j < 4 → (67 ≤ y → number_at w.table w.vram x y ≢ 3) →
      at (w.frame (pass w)) (640 * y + 4 * x + j) ≡ at (w₀.frame (pass w)) (640 * y + 4 * x + j)

-- ---- as a run on records
-- a port write between two steps
abbrev pub write : ℕ → ℕ → List ℕ → Between handheld
write port value vram = record { call = out port value vram; no_step = λ d s e. e }

abbrev pub recolour : ℕ → ℕ → List ℕ → List (Between handheld)
recolour low high vram = write 0xBF 0x06 vram ∷ write 0xBF 0xC0 vram ∷ write 0xBE low vram ∷ write 0xBE high vram ∷ []

module _
    (t : LineTable) (vram : ℕ → List ℕ) (frame : List ℕ)
    (accepted : (i : ℕ) (d : VdpState) → (frame_step_of VisibleOnly (vram i) (length frame) d).outcome ≡ (Ok tt)) (low high : ℕ)
  where
    abbrev pub asked : Run handheld VisibleOnly
    asked =
        record {
          table = t;
          before = [];
          between = λ i. cond (eqb i 90) (recolour low high (vram i)) [];
          vram = vram;
          frame = frame;
          accepted = accepted;
        }

    abbrev pub unasked : Run handheld VisibleOnly
    unasked = record { table = t; before = []; between = λ i. []; vram = vram; frame = frame; accepted = accepted }
