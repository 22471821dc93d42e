-- The sprites of a line, as the code goes through them, and what they leave in a row's bytes and in the marks.
-- Assumes nothing.
use Rattle.std.specs.Prelude.{◌≡◌, ℕ, ◌+◌, ◌-◌, ◌*◌, ◌/◌, ◌%◌, ◌^◌, ◌<◌, ◌≤◌, Bool, cond, not, ◌||◌, List, [], ◌∷◌, length, take, ◌==◌, bit_and, bit_or, nat_le}
use Rattle.std.specs.Prelude.{nat_lt}
use Rattle.laws.specs.Bits.{byte_of}
use Rattle.laws.specs.Lists.{at}
use Rattle.laws.specs.Paint.{painted, overlaid}
use Rattle.laws.specs.Sizes.{vram_size}
use Rattle.bitmap.specs.Mask.{bytes_of}
use Rattle.picture.specs.declared.Stand.{Stand}
use Rattle.picture.specs.Tile.{code_at}
use Rattle.picture.specs.View.{early}
use Rattle.picture.specs.Picture.{table_at, tall, listed, top_of, solid, sprite_line, with_sprites, bare}
use Rattle.picture.specs.Layers.{layers_with, layers_in}
use Rattle.tile.specs.Layer.{stamped}
use Rattle.tile.specs.Line.{line_marked, line_drawn, line_held, sprite_colour}
use Rattle.sprites.specs.declared.Marks.{Marks}
use Rattle.sprites.specs.declared.Next.{Next}
use Rattle.sprites.specs.declared.Table.{Table}
use Rattle.sprites.specs.declared.Turn.{Turn}

-- what registers g say of the sprites
pub record Tabled (g : ℕ → ℕ) (r : Table) : Type 0 where
  pub start : r.start ≡ table_at g
  pub low : r.start ≤ 16128
  pub lines : r.lines ≡ cond (tall g) 16 8
  pub few : r.lines ≤ 16
  pub clock : r.early ≡ early g
  pub near : r.early ≤ 8

-- The sprites on line l from sprite `from` on begin with sprite n, of which line d is shown there; where n is 64 there are none.
pub record Follows (m g : ℕ → ℕ) (l from n d : ℕ) : Type 0 where
  pub none : 64 ≤ n → listed m g l (64 - from) from ≡ []
  pub next : n < 64 → listed m g l (64 - from) from ≡ n ∷ listed m g l (64 - (n + 1)) (n + 1)
  pub below : n < 64 → d ≡ l - top_of m g n

pub record Room (vram row : List ℕ) (width : ℕ) : Type 0 where
  pub memory : length vram ≡ vram_size
  pub bytes : width * 4 ≤ length row

-- R15.3: the layers of a row with the columns of sprite n, where they are asked for
abbrev pub stamped_if : List ℕ → ℕ → ℕ → ℕ → ℕ → ℕ → List ℕ
stamped_if layers width x n drawn held = cond (nat_le width (length layers)) (stamped layers width x n drawn held 8) layers

-- ---- one sprite, which stands at s and whose tile line is at addr, where `held` is what priority holds back and `taken` what others have marked
-- R5.11: the pixels that it marks
abbrev pub bits_of : List ℕ → ℕ → Stand → ℕ → ℕ
bits_of vram addr s held =
    cond s.seen (byte_of (line_marked vram addr s.start s.end held)) (byte_of (solid s.start s.end (code_at (at vram) addr)))

-- R5.12: the row with it
abbrev pub row_with : List ℕ → List ℕ → List ℕ → ℕ → Stand → ℕ → ℕ → ℕ → List ℕ
row_with row colours vram addr s held taken width =
    cond s.seen
    (overlaid row s.x 8 (line_drawn vram addr s.start s.end held taken width s.x) (sprite_colour colours vram addr s.start))
    row

-- R15.3: the layers with it, as sprite n
abbrev pub owners_with : List ℕ → List ℕ → ℕ → Stand → ℕ → ℕ → ℕ → ℕ → List ℕ
owners_with layers vram addr s held taken width n =
    cond s.seen
    (stamped_if layers width s.x n (byte_of (line_drawn vram addr s.start s.end held taken width s.x))
    (byte_of (line_held vram addr s.start s.end held)))
    layers

-- where the line of the next sprite stands, by its tile's byte in the table
abbrev pub line_of : List ℕ → (ℕ → ℕ) → ℕ → Next → ℕ
line_of vram g table next = sprite_line g (at vram (table + 128 + 2 * next.n + 1)) next.d

-- the eight bits of a mask from bit `place` up, by the two bytes that they are in
abbrev pub eight_of : ℕ → ℕ → ℕ → ℕ
eight_of low high place = bit_or (low / 2 ^ (place % 8)) (high * 2 % 256 * 2 ^ (8 - place % 8 - 1) % 256)

-- sprite n has had its turn: the row, its layers, and what the turn tells, where `low` and `high` are the bytes of the mask that it marks
pub record Turned (row layers vram colours : List ℕ) (addr held taken width n : ℕ) (s : Stand) (low high : ℕ) (hit : Bool) (count : ℕ) (r : Turn)
    (row' layers' : List ℕ) : Type 0 where
  pub bytes : row' ≡ row_with row colours vram addr s held taken width
  pub owners : layers' ≡ owners_with layers vram addr s held taken width n
  pub lower : r.low ≡ bit_or low (bits_of vram addr s held * 2 ^ (s.mark % 8) % 256)
  pub upper : r.high ≡ bit_or high (bits_of vram addr s held / 2 / 2 ^ (8 - s.mark % 8 - 1))
  pub met : r.hit ≡ (hit || not (bit_and taken (bits_of vram addr s held) == 0))
  pub counted : r.count ≡ count + 1

-- a whole line of sprites, laid on a row of the colours `colour` that is all background's: the row's bytes, whether two pixels met, whether there was a ninth,
-- and the row's layers
pub record Finished (m g : ℕ → ℕ) (stand : ℕ → Stand) (l : ℕ) (f : ℕ → Bool) (row₀ colours : List ℕ) (width : ℕ) (colour : ℕ → ℕ) (row : List ℕ)
    (hit ninth : Bool) (layers₀ layers : List ℕ) : Type 0 where
  pub bytes : row ≡ painted row₀ 0 width (λ x. at colours ((with_sprites m g stand l f (take 8 (listed m g l 64 0)) (bare colour)).colour x))
  pub struck : hit ≡ (with_sprites m g stand l f (take 8 (listed m g l 64 0)) (bare colour)).hit
  pub many : ninth ≡ nat_lt 8 (length (listed m g l 64 0))
  pub owners : layers ≡ layers_in layers₀ width (layers_with m g stand l f (take 8 (listed m g l 64 0)) (bare colour) (λ x. 0))

-- the same, with the mask that the sprites leave
pub record Laid (m g : ℕ → ℕ) (stand : ℕ → Stand) (l : ℕ) (f : ℕ → Bool) (row₀ colours : List ℕ) (width : ℕ) (colour : ℕ → ℕ) (row : List ℕ)
    (r : Marks) (layers₀ layers : List ℕ) : Type 0 where
  pub line : Finished m g stand l f row₀ colours width colour row r.hit r.ninth layers₀ layers
  pub marks : r.mask.bits ≡ bytes_of (with_sprites m g stand l f (take 8 (listed m g l 64 0)) (bare colour)).mask
