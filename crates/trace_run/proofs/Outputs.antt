-- What a whole recording prints and draws, as the code puts it together.
-- Assumes nothing.
use mathlib.Core.Path.{◌≡◌, sym, ap, ◌∙◌}
use mathlib.Core.Bool.{Bool, true, false, ◌&&◌}
use mathlib.Core.List.{List, [], ◌++◌}
use Prim.Native.Nat.{ℕ, ◌+◌, ◌*◌, ◌<◌, ◌≤◌}
use native.Mathlib.Omega.{arith}
use borrow.Author.Tests.{leb-true, eqb-true, lt-ltb, le-ltb, le-leb, lt-leb}
use lib.Dec.{leb, eqb}
use lib.ListN.{length, take}
use lib.Seq.{length-take-le}
use Rattle.laws.specs.Lists.{written}
use Rattle.laws.proofs.Tests.{both}
use Rattle.picture.specs.declared.RenderArea.{RenderArea}
use Rattle.picture.specs.declared.Screen.{Screen}
use Rattle.picture.specs.Screen.{frame_size}
use Rattle.trace_run.specs.declared.Device.{Device}
use Rattle.trace_text.specs.Text.{long_line}
use Rattle.trace_run.specs.Run.{World, Turn, start, row_turn, after, lines, ran}
use Rattle.trace_text.specs.End.{last_line, pixel_count, picture_room, drawn}
use Rattle.trace_text.proofs.Endings.{frame_bytes, many_pixels}
use Rattle.trace_run.specs.Output.{text, printed, screen_for, pictured, Left, left, leaves, traced, snapped, TraceLeaves, RunLeaves, PictureLeaves}
use Rattle.trace_text.proofs.Lines.{grow}

-- ---- the whole text
module _ (s : List ℕ) (w : World) {x : World} (e : x ≡ after row_turn (length s) s w) where
  pub text_whole :
      (o : List ℕ) {n n' : ℕ} {o' o'' : List ℕ} → length (lines row_turn (length s) s w) ≤ length o → n ≡ length (lines row_turn (length s) s w)
      → o' ≡ written o 0 (lines row_turn (length s) s w)
      → (n' ≡ n + length (last_line s x.run.at x.run.count)) × (o'' ≡ written o' n (last_line s x.run.at x.run.count))
      → (n' ≡ length (text s w)) × (o'' ≡ written o 0 (text s w))
  unfolding text ran
  text_whole o room en eo p =
      let g = grow o (lines row_turn (length s) s w) (last_line s x.run.at x.run.count) room en eo p in
      let q = ap (λ (y : World). lines row_turn (length s) s w ++ last_line s y.run.at y.run.count) e in
      (g.0 ∙ ap length q, g.1 ∙ ap (written o 0) q)

-- ---- what a call leaves, of either program
module _ (room : Bool) (step : RenderArea → World → Turn) (bytes s : List ℕ) (w : World) (o : List ℕ) where
  no_room : room ≡ false → left w 0 o ≡ leaves room step bytes s w o
  unfolding leaves
  no_room h = rw h

  too_long_lem : room ≡ true → 65535 < length s → {n : ℕ} {o' : List ℕ} → n ≡ length bytes → o' ≡ written o 0 bytes → left w n o' ≡ leaves room step
      bytes s w o
  unfolding leaves
  too_long_lem h k en eo = rw (h, lt-ltb 65535 (length s) k, en, eo)

  whole :
      room ≡ true → length s ≤ 65535 → {x : World} {n : ℕ} {o' : List ℕ} → x ≡ after step (length s) s w → n ≡ length bytes → o' ≡ written o 0 bytes
      → left x n o' ≡ leaves room step bytes s w o
  unfolding leaves ran
  whole h k ex en eo = rw (h, le-ltb 65535 (length s) k, ex, en, eo)

module _ (s : List ℕ) (w : World) (o : List ℕ) where
  pub trace_no_room : length o < 327700 → left w 0 o ≡ traced s w o
  unfolding traced
  trace_no_room h = no_room (leb 327700 (length o)) row_turn (printed s w) s w o (lt-leb 327700 (length o) h)

  module _ (h : 327700 ≤ length o) where
    pub trace_long : 65535 < length s → {n : ℕ} {o' : List ℕ} → n ≡ length long_line → o' ≡ written o 0 long_line → left w n o' ≡ traced s w o
    unfolding traced printed
    trace_long k en eo =
        let b : long_line ≡ printed s w = rw (lt-ltb 65535 (length s) k) in
        too_long_lem (leb 327700 (length o)) row_turn (printed s w) s w o (le-leb 327700 (length o) h) k (en ∙ ap length b) (eo ∙ ap (written o 0) b)

    pub trace_whole :
        length s ≤ 65535 → {x : World} {n : ℕ} {o' : List ℕ} → x ≡ after row_turn (length s) s w → (n ≡ length (text s w)) ×
        (o' ≡ written o 0 (text s w))
        → left x n o' ≡ traced s w o
    unfolding traced printed
    trace_whole k ex p =
        let b : text s w ≡ printed s w = rw (le-ltb 65535 (length s) k) in
        whole (leb 327700 (length o)) row_turn (printed s w) s w o (le-leb 327700 (length o) h) k ex (p.0 ∙ ap length b) (p.1 ∙ ap (written o 0) b)

-- with steps made as `step` makes them
module _ (step : RenderArea → World → Turn) (s : List ℕ) (w : World) (o : List ℕ) where
  abbrev screen : Screen
  screen = screen_for w.run.device.machine

  abbrev room : Bool
  room = leb (picture_room screen) (length o) && eqb (length w.frame) (frame_size screen)

  pub snapshot_no_room : room ≡ false → left w 0 o ≡ snapped step s w o
  unfolding snapped
  snapshot_no_room h = no_room room step (pictured step s w) s w o h

  module _ (h : room ≡ true) where
    pub snapshot_long : 65535 < length s → {n : ℕ} {o' : List ℕ} → n ≡ length long_line → o' ≡ written o 0 long_line → left w n o' ≡ snapped step s w o
    unfolding snapped pictured
    snapshot_long k en eo =
        let b : long_line ≡ pictured step s w = rw (lt-ltb 65535 (length s) k) in
        too_long_lem room step (pictured step s w) s w o h k (en ∙ ap length b) (eo ∙ ap (written o 0) b)

    pub snapshot_whole :
        length s ≤ 65535 → {x : World} {n : ℕ} {o' : List ℕ} → x ≡ after step (length s) s w
        → (n ≡ length (drawn screen s x.run.at x.frame)) × (o' ≡ written o 0 (drawn screen s x.run.at x.frame)) → left x n o' ≡ snapped
        step s w o
    unfolding snapped pictured ran
    snapshot_whole k {x} ex p =
        let b : drawn screen s x.run.at x.frame ≡ pictured step s w =
        ap (λ (y : World). drawn screen s y.run.at y.frame) ex ∙ sym (rw (le-ltb 65535 (length s) k)) in
        whole room step (pictured step s w) s w o h k ex (p.0 ∙ ap length b) (p.1 ∙ ap (written o 0) b)

-- the test of the room, as the code makes it, where n is the count of the screen's pixels
module _ (screen : Screen) (frame out : ℕ) {n : ℕ} (e : n ≡ pixel_count screen) where
  pub no_picture : out < 15 + 3 * n → false ≡ (leb (picture_room screen) out && eqb frame (frame_size screen))
  no_picture h = sym (rw (lt-leb (picture_room screen) out (omega arith)))

  pub a_picture : 15 + 3 * n ≤ out → eqb frame (4 * n) ≡ (leb (picture_room screen) out && eqb frame (frame_size screen))
  a_picture h =
      let q : 4 * n ≡ frame_size screen = omega (arith, frame_bytes screen) in
      ap (eqb frame) q ∙ sym (rw (le-leb (picture_room screen) out (omega arith)))

-- what it tells: the room, the frame, and that this is enough for the line of a long recording, for a run and for the picture
pub record Roomy (screen : Screen) (frame out : ℕ) : Type 0 where
  pub room : picture_room screen ≤ out
  pub whole : 4 * pixel_count screen ≤ frame
  pub long : 5 ≤ out
  pub visible : 92160 ≤ frame

pub roomy : (screen : Screen) (frame out : ℕ) → (leb (picture_room screen) out && eqb frame (frame_size screen)) ≡ true → Roomy screen frame out
roomy screen frame out h =
    let t = both (leb (picture_room screen) out) (eqb frame (frame_size screen)) h in
    let a = leb-true (picture_room screen) out t.0 in
    let b = eqb-true frame (frame_size screen) t.1 in
    let m = many_pixels screen in
    let k = frame_bytes screen in
    record { room = a; whole = omega arith; long = omega arith; visible = omega arith }

pub trace_leaves :
    {d : Device} {s vram row o : List ℕ} (x : World) {n : ℕ} {o' : List ℕ} → left x n o' ≡ traced s (start d vram row []) o
    → TraceLeaves d s vram row o n x.vram x.row o'
trace_leaves x e =
    record {
      count = ap (λ (l : Left). l.len) e;
      bytes = ap (λ (l : Left). l.out) e;
      memory = ap (λ (l : Left). l.vram) e;
      pixels = ap (λ (l : Left). l.row) e;
    }

pub snapshot_leaves :
    {d : Device} {s vram row frame o : List ℕ} (step : RenderArea → World → Turn) (x : World) {n : ℕ} {o' : List ℕ} → left x n o' ≡ snapped step s
    (start d vram row frame) o
    → PictureLeaves step d s vram row frame o n x.vram x.row x.frame o'
snapshot_leaves step x e =
    record {
      count = ap (λ (l : Left). l.len) e;
      bytes = ap (λ (l : Left). l.out) e;
      memory = ap (λ (l : Left). l.vram) e;
      pixels = ap (λ (l : Left). l.row) e;
      picture = ap (λ (l : Left). l.frame) e;
    }

-- the buffers of a whole recording, in the place of its world
pub ran_leaves : {w : World} {x : World} → x ≡ w → RunLeaves w x.run.at x.vram x.row x.frame
ran_leaves e =
    record {
      place = ap (λ (y : World). y.run.at) e;
      memory = ap (λ (y : World). y.vram) e;
      pixels = ap (λ (y : World). y.row) e;
      picture = ap (λ (y : World). y.frame) e;
    }

pub same_leaves :
    {step : RenderArea → World → Turn} {d : Device} {s vram row frame o o' : List ℕ} {w : World} {n k : ℕ} {vram' row' frame' : List ℕ}
    → RunLeaves w k vram' row' frame' → PictureLeaves step d s vram row frame o n w.vram w.row w.frame o'
    → PictureLeaves step d s vram row frame o n vram' row' frame' o'
same_leaves l p =
    record {
      count = p.count;
      bytes = p.bytes;
      memory = l.memory ∙ p.memory;
      pixels = l.pixels ∙ p.pixels;
      picture = l.picture ∙ p.picture;
    }

-- what lending the first n bytes of a buffer asks
pub lent : (n : ℕ) (xs : List ℕ) → n ≤ length xs → (n ≤ length xs) × (n ≡ length (take n xs))
lent n xs h = (h, sym (length-take-le n xs h))

-- the bytes that were put: at most r of m
pub lent_in : (n : ℕ) (xs : List ℕ) {k r m : ℕ} → n ≡ k → k ≤ r → r ≤ m → length xs ≡ m → (n ≤ length xs) × (n ≡ length (take n xs))
lent_in n xs e f g h = lent n xs (omega arith)

-- those of a text of k and of its last line, of at most ten
pub lent_behind : (n : ℕ) (xs : List ℕ) (k : ℕ) {j m : ℕ} → n ≡ k + j → j ≤ 10 → k + 10 ≤ m → length xs ≡ m → (n ≤ length xs) × (n ≡ length (take n xs))
lent_behind n xs k e f g h = lent n xs (omega arith)
