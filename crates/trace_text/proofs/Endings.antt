-- The last line of a trace and its picture, as the code puts them together.
-- Assumes nothing.
use mathlib.Core.Path.{◌≡◌, refl, sym, ap, ◌∙◌}
use mathlib.Core.List.{List, [], ◌∷◌}
use Prim.Native.Nat.{ℕ, zero, suc, ◌+◌, ◌-◌, ◌*◌, ◌<◌, ◌≤◌}
use native.Mathlib.Numerals.{add-one}
use native.Mathlib.Omega.{arith}
use borrow.Author.Tests.{le-leb, lt-leb}
use lib.Dec.{leb}
use lib.ListN.{length, take, drop, length-append}
use Rattle.laws.specs.Lists.{at, written}
use Rattle.picture.specs.declared.Screen.{Screen}
use Rattle.picture.specs.declared.Screen.TheVariants.{VisibleOnly, EffectiveArea, TrueEdges, Home}
use Rattle.picture.specs.Screen.{frame_size}
use Rattle.trace_text.specs.Text.{decimal, numbered, end_line, bad_line}
use Rattle.trace_text.specs.End.{last_line, pixels, pixel_count, header, ppm, picture_room, drawn}
use Rattle.laws.proofs.Lists.{written_nil, written_on}
use Rattle.laws.proofs.Tests.{either}
use Rattle.trace_record.proofs.Promises.{cut_3}
use Rattle.trace_text.proofs.Lines.{decimal_short}

-- ---- the last line
pub last_end : (s : List ℕ) (k n : ℕ) → length s ≤ k → numbered (0x65 ∷ 0x6E ∷ 0x64 ∷ 0x20 ∷ []) n ≡ last_line s k n
unfolding last_line end_line
last_end s k n h = rw (le-leb (length s) k h)

pub last_bad : (s : List ℕ) (k n : ℕ) → k < length s → numbered (0x62 ∷ 0x61 ∷ 0x64 ∷ 0x20 ∷ []) k ≡ last_line s k n
unfolding last_line bad_line
last_bad s k n h = rw (lt-leb (length s) k h)

numbered_short : (h : List ℕ) (n : ℕ) → length (numbered h n) ≤ length h + 6
numbered_short h n = simp length-append (omega (arith, decimal_short n))

pub last_short : (s : List ℕ) (k n : ℕ) → length (last_line s k n) ≤ 10
unfolding last_line end_line bad_line
last_short s k n =
    either (λ (l : List ℕ). length l ≤ 10) (leb (length s) k)
    (λ _. numbered_short (0x65 ∷ 0x6E ∷ 0x64 ∷ 0x20 ∷ []) n)
    (λ _. numbered_short (0x62 ∷ 0x61 ∷ 0x64 ∷ 0x20 ∷ []) k)

-- ---- the picture
pub drawn_end : (d : Screen) (s : List ℕ) (k : ℕ) (frame : List ℕ) → length s ≤ k → ppm d frame ≡ drawn d s k frame
unfolding drawn
drawn_end d s k frame h = rw (le-leb (length s) k h)

pub drawn_bad : (d : Screen) (s : List ℕ) (k : ℕ) (frame : List ℕ) → k < length s → numbered (0x62 ∷ 0x61 ∷ 0x64 ∷ 0x20 ∷ []) k ≡ drawn d s k frame
unfolding drawn bad_line
drawn_bad d s k frame h = rw (lt-leb (length s) k h)

pub length-pixels : (n : ℕ) (frame : List ℕ) → length (pixels n frame) ≡ 3 * n
unfolding pixels
length-pixels zero frame = refl
length-pixels (suc n) frame = simp length-append (omega (arith, length-pixels n frame))

pub length-header : (d : Screen) → length (header d) ≡ 15
unfolding header decimal
length-header VisibleOnly = refl
length-header EffectiveArea = refl
length-header TrueEdges = refl
length-header Home = refl

pub frame_bytes : (d : Screen) → frame_size d ≡ 4 * pixel_count d
unfolding pixel_count
frame_bytes VisibleOnly = refl
frame_bytes EffectiveArea = refl
frame_bytes TrueEdges = refl
frame_bytes Home = refl

pub many_pixels : (d : Screen) → 23040 ≤ pixel_count d
unfolding pixel_count
many_pixels VisibleOnly = omega arith
many_pixels EffectiveArea = omega arith
many_pixels TrueEdges = omega arith
many_pixels Home = omega arith

pub length-ppm : (d : Screen) (frame : List ℕ) → length (ppm d frame) ≡ picture_room d
unfolding ppm
length-ppm d frame = simp length-append (omega (arith, length-header d, length-pixels (pixel_count d) frame))

pub drawn_short : (d : Screen) (s : List ℕ) (k : ℕ) (frame : List ℕ) → length (drawn d s k frame) ≤ picture_room d
unfolding drawn bad_line
drawn_short d s k frame =
    either (λ (l : List ℕ). length l ≤ picture_room d) (leb (length s) k)
    (λ _. omega (arith, length-ppm d frame))
    (λ _. omega (arith, numbered_short (0x62 ∷ 0x61 ∷ 0x64 ∷ 0x20 ∷ []) k, many_pixels d))

-- behind the 15 bytes of the header: n pixels, one pixel more, and all
pub no_pixel : (o frame : List ℕ) → o ≡ written o 15 (pixels 0 frame)
unfolding pixels
no_pixel o frame = sym (written_nil o 15)

three : (f : List ℕ) (k : ℕ) → k + 3 ≤ length f → take (k + 3 - k) (drop k f) ≡ at f k ∷ at f (k + 1) ∷ at f (k + 2) ∷ []
three f k h =
    let e : k + 3 - k ≡ 3 = omega arith in
    rw (e, cut_3 f k (omega arith))

pub pixel_more :
    (o frame : List ℕ) (n : ℕ) {a : ℕ} {o' o'' : List ℕ} → 3 * n + 15 ≤ length o → 4 * n + 3 ≤ length frame → a ≡ 15 + 3 * n
    → o' ≡ written o 15 (pixels n frame) → o'' ≡ written o' a (take (4 * n + 3 - 4 * n) (drop (4 * n) frame)) → o'' ≡ written o 15 (pixels (n + 1) frame)
unfolding pixels
pixel_more o frame n {a} {o'} h f ea eo p =
    let px : List ℕ = at frame (4 * n) ∷ at frame (4 * n + 1) ∷ at frame (4 * n + 2) ∷ [] in
    let b : a ≡ 15 + length (pixels n frame) = omega (arith, length-pixels n frame) in
    p
    ∙ ap (written o' a) (three frame (4 * n) f)
    ∙ ap (λ (y : List ℕ). written y a px) eo
    ∙ written_on o 15 (pixels n frame) px b (omega arith)
    ∙ ap (λ (k : ℕ). written o 15 (pixels k frame)) (sym (add-one n))

pub all_pixels :
    (d : Screen) (o frame : List ℕ) {o' o'' : List ℕ} → 15 ≤ length o → o' ≡ written o 0 (header d) → o'' ≡ written o' 15 (pixels (pixel_count d) frame)
    → o'' ≡ written o 0 (ppm d frame)
unfolding ppm
all_pixels d o frame h e p =
    let n = length-header d in
    p
    ∙ ap (λ (y : List ℕ). written y 15 (pixels (pixel_count d) frame)) e
    ∙ written_on o 0 (header d) (pixels (pixel_count d) frame) (omega arith) (omega arith)
