-- Laws of the picture: every colour number is below 32, and each pixel's bytes are those of the colour of its own number.
-- Assumes nothing.
use mathlib.Core.Path.{◌≡◌, refl, ap, ◌∙◌}
use mathlib.Core.Bool.{Bool, true, false, ◌&&◌}
use mathlib.Core.List.{List, [], ◌∷◌}
use Prim.Native.Nat.{ℕ, ◌+◌, ◌-◌, ◌*◌, ◌/◌, ◌%◌, ◌<◌, ◌≤◌}
use native.Mathlib.Omega.{arith}
use lib.Dec.{ltb, leb}
use lib.ListN.{length, take}
use Rattle.laws.specs.Bits.{bit, digit}
use Rattle.laws.specs.Lists.{at}
use Rattle.laws.specs.Paint.{byte_of_colour}
use Rattle.laws.proofs.Tables.{length-table, get_d_table, table_ext}
use Rattle.laws.proofs.Tests.{either}
use Rattle.picture.specs.declared.Stand.{Stand}
use Rattle.picture.specs.declared.Screen.{Screen}
use Rattle.picture.specs.declared.Screen.TheVariants.{VisibleOnly, EffectiveArea, TrueEdges, Home}
use Rattle.picture.specs.Tile.{code_of, code_at, turned, entry_at, tile_line, entry_code, entry_colour, map_colour}
use Rattle.picture.specs.View.{View}
use Rattle.picture.specs.Picture.{Canvas, Row, back, front, drawn, laid, sprite_code, with_sprite, with_sprites, bare, listed, picture, filled}
use Rattle.picture.specs.Screen.{columns, row_size, view_of, shown_on, picture_of, row_bytes}

-- ---- codes and colour numbers
digit_le : (b : Bool) → digit b ≤ 1
digit_le true = omega arith
digit_le false = omega arith

pub code_lt : (b0 b1 b2 b3 k : ℕ) → code_of b0 b1 b2 b3 k < 16
unfolding code_of
code_lt b0 b1 b2 b3 k = omega (arith, digit_le (bit b0 k), digit_le (bit b1 k), digit_le (bit b2 k), digit_le (bit b3 k))

pub code_at_lt : (m : ℕ → ℕ) (a p : ℕ) → code_at m a p < 16
unfolding code_at
code_at_lt m a p = code_lt (m a) (m (a + 1)) (m (a + 2)) (m (a + 3)) (7 - p)

entry_colour_lt : (m : ℕ → ℕ) (lo hi x y : ℕ) → entry_colour m lo hi x y < 32
unfolding entry_colour entry_code
entry_colour_lt m lo hi x y = omega (arith, digit_le (bit hi 3), code_at_lt m (tile_line lo hi y) (turned (bit hi 1) (x % 8)))

pub map_colour_lt : (m : ℕ → ℕ) (names x y : ℕ) → map_colour m names x y < 32
unfolding map_colour
map_colour_lt m names x y = entry_colour_lt m (m (entry_at names x y)) (m (entry_at names x y + 1)) x y

-- the numbers of a canvas, with one sprite more and with each of a list
module _ (s : Stand) (code : ℕ → ℕ) (prio : ℕ → Bool) (c : Canvas) (small : (p : ℕ) → code p < 16) where
  laid_lt : ((x : ℕ) → c.colour x < 32) → (x : ℕ) → (laid s code prio c).colour x < 32
  unfolding laid
  laid_lt h x =
      either (λ (k : ℕ). k < 32) (leb s.x x && drawn s code prio c (x - s.x)) (λ e. omega (arith, small (s.start + (x - s.x)))) (λ e. h x)

module _ (m g : ℕ → ℕ) (stand : ℕ → Stand) (l : ℕ) (prio : ℕ → Bool) where
  sprites_lt : (ns : List ℕ) (c : Canvas) → ((x : ℕ) → c.colour x < 32) → (x : ℕ) → (with_sprites m g stand l prio ns c).colour x < 32
  unfolding with_sprites with_sprite sprite_code
  sprites_lt [] c h x = h x
  sprites_lt (n ∷ ns) c h x =
      sprites_lt ns (with_sprite m g stand l prio n c) (laid_lt _ _ prio c (λ p. code_at_lt m _ p) h) x

-- every colour number of a picture is below 32, so that its colour is one of the 32 cached ones
pub colour_lt : (m g : ℕ → ℕ) (v : View) (x : ℕ) → (picture m g v).colour x < 32
unfolding picture bare back
colour_lt m g v x =
    sprites_lt m g v.stand v.line (front m g v) (take 8 (listed m g v.line 64 0)) (bare (back m g v)) (λ x. map_colour_lt m _ _ _) x

filled_lt : (g : ℕ → ℕ) (p : Row) → ((x : ℕ) → p.colour x < 32) → (x : ℕ) → (filled g p).colour x < 32
unfolding filled
filled_lt g p h x = either (λ (k : ℕ). k < 32) (bit (g 0) 5 && ltb x 8) (λ e. omega arith) (λ e. h x)

shown_lt : (s : Screen) (g : ℕ → ℕ) (p : Row) → ((x : ℕ) → p.colour x < 32) → (x : ℕ) → (shown_on s g p).colour x < 32
shown_lt VisibleOnly g p h x = h x
shown_lt EffectiveArea g p h x = h x
shown_lt TrueEdges g p h x = h x
shown_lt Home g p h x = filled_lt g p h x

pub colour_of_lt : (s : Screen) (reg : List ℕ) (scroll : ℕ) (vram : List ℕ) (y x : ℕ) → (picture_of s reg scroll vram y).colour x < 32
unfolding picture_of
colour_of_lt s reg scroll vram y x = shown_lt s (at reg) _ (λ x. colour_lt (at vram) (at reg) (view_of s (at reg) scroll y) x) x

-- ---- the bytes of a row
pub length-row_bytes : (colours : List ℕ) (width : ℕ) (p : Row) → length (row_bytes colours width p) ≡ width * 4
unfolding row_bytes
length-row_bytes colours width p = length-table (width * 4) (λ k. byte_of_colour (at colours (p.colour (k / 4))) (k % 4))

pub row_size_lem : (s : Screen) → columns s * 4 ≡ row_size s
row_size_lem VisibleOnly = refl
row_size_lem EffectiveArea = refl
row_size_lem TrueEdges = refl
row_size_lem Home = refl

-- byte b of pixel x is that of the colour of its number
pub pixel_byte_lem : (colours : List ℕ) (width : ℕ) (p : Row) (x b : ℕ) → x < width → b < 4 → at (row_bytes colours width p) (4 * x + b) ≡ byte_of_colour
    (at colours (p.colour x)) b
unfolding row_bytes
pixel_byte_lem colours width p x b h l =
    let i : (4 * x + b) / 4 ≡ x = omega arith in
    let j : (4 * x + b) % 4 ≡ b = omega arith in
    get_d_table (width * 4) (λ k. byte_of_colour (at colours (p.colour (k / 4))) (k % 4)) (4 * x + b) (omega arith) ∙ rw (i, j)

-- the row's bytes go by the colours of the numbers that it shows, and by nothing else: two pictures, each with its colours, that show the same
-- colour at each column have the same bytes
pub row_bytes_cong : (colours colours' : List ℕ) (width : ℕ) (p p' : Row) →
    ((x : ℕ) → x < width → at colours (p.colour x) ≡ at colours' (p'.colour x))
    → row_bytes colours width p ≡ row_bytes colours' width p'
unfolding row_bytes
row_bytes_cong colours colours' width p p' e =
    table_ext (width * 4) (λ k. byte_of_colour (at colours (p.colour (k / 4))) (k % 4)) (λ k. byte_of_colour (at colours' (p'.colour (k / 4))) (k % 4))
    (λ k h. let l : k / 4 < width = omega arith in ap (λ (v : ℕ). byte_of_colour v (k % 4)) (e (k / 4) l))
